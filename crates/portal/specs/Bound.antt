-- What calls of the portal can tell of what the house owns, in what C sees. Assumes nothing.
use Rattle.std.specs.Prelude.{◌≡◌, List, ℕ}
use Rattle.rules.specs.Level.{Level}
use Rattle.rules.specs.Check.{accepted, check_bytes}
use Rattle.rules.specs.Public.{Alike}
use Rattle.rules.specs.Board.{Bounded}
use Rattle.portal.specs.Portal.{Handed, portal}
use Rattle.portal.specs.Secrecy.{ending_in, lines_in, seen_in}

-- calls that keep the contract, with accepted jobs that are alike for the reader o, each with its own budget and area
pub record Calls {ℓ} (o : Level) (I : Type ℓ) : Type ℓ where
  pub job : I → List ℕ
  pub budget : I → ℕ
  pub area : I → List ℕ
  pub back : I → Handed
  pub kept : (i : I) → back i ≡ portal (job i) (budget i) (area i)
  pub taken : (i : I) → check_bytes (job i) ≡ accepted
  pub alike : (i j : I) → Alike o (job i) (job j)

-- what o sees of the lines that such calls hand back is bounded: "ending 0" is finished
unfoldable pub PortalBound {ℓ} : Level → Type (ℓ + 1)
PortalBound o = (I : Type ℓ) (C : Calls o I) → Bounded (λ i. lines_in o (C.back i)) (λ i. seen_in o (C.back i)) (λ i. ending_in (C.back i) ≡ 0)
