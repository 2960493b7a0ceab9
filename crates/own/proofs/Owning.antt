-- The run with records of its own: they are two rows, the part that is lent and the rest. Assumes nothing.
use mathlib.Core.Path.{◌≡◌, refl, sym, ◌∙◌, ap, subst}
use mathlib.Core.Bool.{Bool, true, false, not}
use mathlib.Core.List.{List, ◌++◌}
use Prim.Native.Nat.{ℕ, ◌+◌, ◌*◌, ◌^◌, ◌<◌, ◌≤◌, min}
use native.Mathlib.Omega.{arith}
use lib.Dec.{T}
use lib.IntN.{ℤ}
use lib.ListN.{length, replicate, take, drop, length-replicate, length-append, take-append-drop}
use lib.Seq.{length-take-le}
use Rattle.lent.specs.declared.node.Node.{Node}
use Rattle.table.specs.Cells.{cell_size}
use Rattle.lent.specs.Lent.{blank, loaded}
use Rattle.lent.proofs.Copies.{length_stored}
use Rattle.monitor.specs.declared.entry.Outcome.{Outcome}
use Rattle.monitor.specs.Follow.{Follows}
use Rattle.monitor.specs.Promises.{Lent, lent, Promises}
use Rattle.entry.specs.Promises.{Tree}
use Rattle.own.specs.Own.{own_places, copied_of, own_records, Kept, Owned}
use Rattle.entry.specs.Records.{StandsIn}
use Rattle.entry.proofs.Numbers.{record_bytes}

-- what `store` and `load` ask for
copied_few : (follows : Bool) → copied_of follows ≤ own_places
copied_few true = omega arith
copied_few false = omega arith

pub first_asks : (follows : Bool) (k : ℕ) → k ≡ copied_of follows → (w : List ℕ) → cell_size * own_places ≤ length w
    → (k ≤ length (replicate own_places blank)) × (cell_size * k ≤ length w)
first_asks follows k e w long = let a = copied_few follows in (omega (arith, a, e, length-replicate own_places blank), omega (arith, a, e, long))

pub load_asks : (ns : List Node) (ws : List ℕ) → length ns ≡ own_places → cell_size * own_places ≤ length ws → (own_places ≤ length ns) × (cell_size * own_places ≤ length ws)
load_asks ns ws e long = (omega (arith, e), long)

-- which of the two calls was made
pub as_follow : (follows : Bool) → T follows → {b : List ℕ} {budget : ℕ} {ns ts : List Node} {l : List ℕ} {v v' : List ℤ} {k k' : List ℕ} {r : Outcome}
    → Follows length Tree StandsIn b budget (lent ns l v k) (lent ts l v' k') r → Kept follows b budget (lent ns l v k) (lent ts l v' k') r
as_follow true h p = (p, refl)
as_follow false h p = absurd h

pub as_run : (follows : Bool) → T (not follows) → {b : List ℕ} {budget : ℕ} {x x' : Lent (List Node)} {r : Outcome}
    → Promises length Tree b budget x x' r → Kept follows b budget x x' r
as_run true h p = absurd h
as_run false h p = p

module _ (places m : ℕ) (em : m ≡ min places own_places) (follows : Bool) (x : Lent (List ℕ)) where
  few : m ≤ own_places
  few = omega (arith, em)

  abbrev pub own : List Node
  own = own_records follows x.table

  own_length : length own ≡ own_places
  own_length = length_stored x.table (copied_of follows) (replicate own_places blank) ∙ length-replicate own_places blank

  -- the records that are lent, and the rest
  pub two_parts : own ≡ take m own ++ drop m own
  two_parts = sym (take-append-drop m own)

  pub lent_length : length (take m own) ≡ m
  lent_length = length-take-le m own (omega (arith, few, own_length))

  pub lent_fits : (m < 2 ^ 64) × (m * record_bytes < 2 ^ 63)
  lent_fits = (omega (arith, few), omega (arith, few))

  -- all records, after the run
  module _ (ns : List Node) (kept : length ns ≡ length (take m own)) where
    pub all_length : length (ns ++ drop m own) ≡ own_places
    all_length =
        length-append ns (drop m own) ∙ ap (λ k. k + length (drop m own)) kept ∙ sym (length-append (take m own) (drop m own))
        ∙ ap length (take-append-drop m own) ∙ own_length

    module _ (b : List ℕ) (budget : ℕ) (x' : Lent (List ℕ)) (r : Outcome)
        (p : Kept follows b budget (lent (take m own) x.levels x.values x.board) (lent ns x'.levels x'.values x'.board) r)
        (out : x'.table ≡ loaded (ns ++ drop m own) own_places x.table) where
      pub owned : Owned follows b budget (min places own_places) x x' r
      owned =
          subst (λ k. Owned follows b budget k x x' r) em
          (record { records = ns; many = kept ∙ lent_length; promised = p; words = out })

-- the same, where the records before the run are t, and all records after it are o
module _ (places m : ℕ) (em : m ≡ min places own_places) (follows : Bool) (x : Lent (List ℕ)) (t o ns : List Node) (is : t ≡ own_records follows x.table)
    (parts : o ≡ ns ++ drop m t) (kept : length ns ≡ length (take m t)) (b : List ℕ) (budget : ℕ) (x' : Lent (List ℕ)) (r : Outcome) where
  pub owned_of : Kept follows b budget (lent (take m t) x.levels x.values x.board) (lent ns x'.levels x'.values x'.board) r
      → x'.table ≡ loaded o own_places x.table → Owned follows b budget (min places own_places) x x' r
  owned_of p out =
      owned places m em follows x ns (kept ∙ ap (λ u. length (take m u)) is) b budget x' r
      (subst (λ u. Kept follows b budget (lent (take m u) x.levels x.values x.board) (lent ns x'.levels x'.values x'.board) r) is p)
      (out ∙ ap (λ u. loaded u own_places x.table) (parts ∙ ap (λ u. ns ++ drop m u) is))
