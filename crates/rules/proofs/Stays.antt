-- Node records that stand in the order of check 13 stay where they are: what is moved below the way up from the record before i, layer by layer, is what stands
-- from i on, and a record off that way has nothing below it any more. Assumes nothing.
use mathlib.Core.Path.{◌≡◌, refl, sym, ap, ap₂, subst, ◌∙◌}
use Prim.Native.Nat.{ℕ, zero, suc, ◌+◌, ◌-◌, ◌≤◌, ◌<◌}
use native.Mathlib.Omega.{arith}
use mathlib.Core.Bool.{true, not}
use mathlib.Core.List.{List, [], ◌∷◌, ◌++◌, append-nil, append_assoc}
use lib.ListN.{length, length-append}
use lib.Dec.{eqb}
use borrow.Author.Tests.{eqb-true, eqb-false, eq-eqb, ne_eqb, not-true}
use Rattle.rules.specs.Check.{parent, parent_rule, on_path, order_rule}
use Rattle.rules.specs.Job.{listed}
use Rattle.rules.specs.Arrange.{Moved, moved, moves}
use Rattle.rules.proofs.Tests.{Test, holds, fails, test, both}
use Rattle.rules.proofs.Accepted.{parent_before}
use Rattle.rules.proofs.Moved.{moved_mine, moved_other}

-- a way up: a record and its ancestors
data Trail (par : ℕ → ℕ) : ℕ → List ℕ → Type 0 where
  top : Trail par 0 (0 ∷ [])
  next : {j : ℕ} {st : List ℕ} → (j ≡ 0 → ⊥) → par j < j → Trail par (par j) st → Trail par j (j ∷ st)

-- no record of a way is q
Out : ℕ → List ℕ → Type 0
Out q [] = Unit {0}
Out q (a ∷ st) = (q ≡ a → ⊥) × Out q st

-- a way up below m goes on from a record p on it; those that are passed come after p
data Pops (p m : ℕ) : List ℕ → List ℕ → Type 0 where
  done : {st : List ℕ} → Pops p m st st
  pop : {a : ℕ} {st to : List ℕ} → p < a → a < m → Pops p m st to → Pops p m (a ∷ st) to

-- what stands above a way is not on it
trail_out : {par : ℕ → ℕ} {j : ℕ} {st : List ℕ} → Trail par j st → (q : ℕ) → j < q → Out q st
unfolding Out
trail_out top q h = ((λ e. omega arith), tt)
trail_out (next n d t) q h = ((λ e. omega arith), trail_out t q (omega arith))

out_pops : {p m : ℕ} {st to : List ℕ} → Pops p m st to → (q : ℕ) → Out q st → Out q to
unfolding Out
out_pops done q h = h
out_pops (pop a c t) q h = out_pops t q h.1

-- the first of a way
record Headed (j : ℕ) (st : List ℕ) : Type 0 where
  rest : List ℕ
  whole : st ≡ j ∷ rest
  out : Out j rest

headed : {par : ℕ → ℕ} {j : ℕ} {st : List ℕ} → Trail par j st → Headed j st
unfolding Out
headed top = record { rest = []; whole = refl; out = tt }
headed (next {j = j} {st = st} n d t) = record { rest = st; whole = refl; out = trail_out t j d }

-- where the way below m goes on from p
record On (par : ℕ → ℕ) (m p j : ℕ) (st : List ℕ) : Type 0 where
  rest : List ℕ
  trail : Trail par p rest
  pops : Pops p m st rest
  below : p ≤ j

go_up : {par : ℕ → ℕ} {j : ℕ} {st : List ℕ} (m p : ℕ) → j < m → Trail par j st → (j ≡ 0 → ⊥)
    → (par j < m → (to : List ℕ) → Trail par (par j) to → On par m p (par j) to) → On par m p j st
go_up m p c top z r = absurd (z refl)
go_up m p c (next {j = j} {st = st} n d t) z r =
    let w = r (omega arith) st t in
    let l = w.below in
    record { rest = w.rest; trail = w.trail; pops = pop {a = j} (omega arith) c w.pops; below = omega arith }

module _ (b : List ℕ) (base : ℕ) where
  on_path_law : (m p n j : ℕ) (st : List ℕ) → j < m → Trail (parent b base) j st → on_path b base p n j ≡ true → On (parent b base) m p j st
  unfolding on_path
  on_path_law m p zero j st c t h = let e = eqb-true p j h in record { rest = st; trail = rw e t; pops = done; below = omega arith }
  on_path_law m p (suc n) j st c t h = by (test (eqb p j)) (λ d to u k. on_path_law m p n (parent b base j) to d u k)
    where
      by : Test (eqb p j)
          → (parent b base j < m → (to : List ℕ) → Trail (parent b base) (parent b base j) to → on_path b base p n (parent b base j) ≡ true
          → On (parent b base) m p (parent b base j) to)
          → On (parent b base) m p j st
      by (holds e) r = let z = eqb-true p j e in record { rest = st; trail = rw z t; pops = done; below = omega arith }
      by (fails e) r =
          let x = both (not (eqb j 0)) (on_path b base p n (parent b base j)) (rw e at h) in
          go_up m p c t (eqb-false j 0 (not-true (eqb j 0) x.0)) (λ d to u. r d to u x.1)

  -- a record as it stands
  unfoldable pub self : ℕ → Moved
  self k = record { from = k; parent = parent b base k }

  -- of the n records from i on, those below each record of a way, from index at on
  layers : ℕ → ℕ → ℕ → List ℕ → List Moved
  layers n i at [] = []
  layers n i at (a ∷ st) = moved b base a a n i at ++ layers n i (at + length (moved b base a a n i at)) st

  -- records with other parents do not count
  layers_pass : (n i at : ℕ) (st : List ℕ) → Out (parent b base i) st → layers (suc n) i at st ≡ layers n (suc i) at st
  unfolding layers Out
  layers_pass n i at [] h = refl
  layers_pass n i at (a ∷ st) h =
      let z = moved_other b base a n i a at (ne_eqb _ a h.0) in
      rw z (ap (λ (ms : List Moved). moved b base a a n (suc i) at ++ ms) (layers_pass n i (at + length (moved b base a a n (suc i) at)) st h.1))

  layers_pops : (n i at p m : ℕ) {st to : List ℕ} → Pops p m st to → ((a : ℕ) → p < a → a < m → moved b base a a n i at ≡ [])
      → layers n i at st ≡ layers n i at to
  unfolding layers
  layers_pops n i at p m done h = refl
  layers_pops n i at p m (pop {a = a} l c t) h =
      let y : at + 0 ≡ at = omega arith in
      rw (h a l c, y) (layers_pops n i at p m t h)

  -- what holds of the n records from i on, behind the way st
  record Stay (n i : ℕ) (st : List ℕ) : Type 0 where
    same : listed self n i ≡ layers n i i st
    gone : (q : ℕ) → q < i → Out q st → (r j : ℕ) → moved b base q r n i j ≡ []

  layers_none : (i at : ℕ) (st : List ℕ) → layers 0 i at st ≡ []
  unfolding layers moved
  layers_none i at [] = refl
  layers_none i at (a ∷ st) = layers_none i (at + 0) st

  -- record i, whose parent is the first of a way
  layers_here : (n i : ℕ) (rest : List ℕ) → Out (parent b base i) rest
      → layers (suc n) i i (parent b base i ∷ rest) ≡ self i ∷ layers n (suc i) (suc i) (i ∷ parent b base i ∷ rest)
  unfolding layers self
  layers_here n i rest o =
      let p = parent b base i in
      let below = moved b base i i n (suc i) (suc i) in
      let right = moved b base p p n (suc i) (suc i + length below) in
      let z : i + suc (length (below ++ right)) ≡ suc i + length below + length right = omega (arith, length-append below right) in
      rw (moved_mine b base p n i p i (eq-eqb p p refl))
      (ap (λ (ms : List Moved). self i ∷ ms)
      (ap (λ (k : ℕ). below ++ right ++ layers (suc n) i k rest) z
      ∙ ap (λ (ms : List Moved). below ++ right ++ ms) (layers_pass n i (suc i + length below + length right) rest o)
      ∙ append_assoc below right _))

  stay_next : (n i : ℕ) (st to : List ℕ) → Pops (parent b base i) i st to → Headed (parent b base i) to → Stay n (suc i) (i ∷ to) → (at : Trail (parent b base) (parent b base i) to)
      → parent b base i < i → Stay (suc n) i st
  unfolding listed Out
  stay_next n i st to w v s t below =
      record {
        same =
            ap (λ (ms : List Moved). self i ∷ ms) (s.same ∙ ap (λ (x : List ℕ). layers n (suc i) (suc i) (i ∷ x)) v.whole)
            ∙ sym (layers_here n i v.rest v.out)
            ∙ ap (layers (suc n) i i) (sym v.whole)
            ∙ sym (layers_pops (suc n) i i (parent b base i) i w
            (λ a l c. moved_other b base a n i a i (ne_eqb _ a (λ e. omega arith)) ∙ s.gone a (omega arith) ((λ e. omega arith), trail_out t a l) a i));
        gone =
            λ q l o r j.
            let u = out_pops w q o in
            let d : Out q (parent b base i ∷ v.rest) = subst (Out q) v.whole u in
            moved_other b base q n i r j (ne_eqb _ q (λ (e : parent b base i ≡ q). d.0 (sym e))) ∙ s.gone q (omega arith) ((λ e. omega arith), u) r j;
      }

  module _
      (m : ℕ) (parents : (i : ℕ) → i < m → parent_rule b base i ≡ true) (orders : (i : ℕ) → i < m → order_rule b base i ≡ true)
    where
      stay : (n i : ℕ) (st : List ℕ) → i + n ≡ m → 1 ≤ i → Trail (parent b base) (i - 1) st → Stay n i st
      unfolding listed moved order_rule
      stay zero i st e o t = record { same = sym (layers_none i i st); gone = λ q l w r j. refl }
      stay (suc n) i st e o t =
          let z : (i ≡ 0 → ⊥) = λ w. omega arith in
          let below = parent_before b base i z (parents i (omega arith)) in
          let u : on_path b base (parent b base i) i (i - 1) ≡ true = rw (ne_eqb i 0 z) at (orders i (omega arith)) in
          let w = on_path_law i (parent b base i) i (i - 1) st (omega arith) t u in
          let y : suc i - 1 ≡ i = omega arith in
          stay_next n i st w.rest w.pops (headed w.trail)
          (stay n (suc i) (i ∷ w.rest) (omega arith) (omega arith) (rw y (next z below w.trail))) w.trail below

      -- records in the new order stay where they are
      pub moves_same : 1 ≤ m → moves b base m ≡ listed self m 0
      unfolding moves listed self layers parent_rule
      moves_same h =
          let z : suc (m - 1) ≡ m = omega arith in
          let r : parent b base 0 ≡ 65535 = eqb-true _ _ (parents 0 (omega arith)) in
          let s = (stay (m - 1) 1 (0 ∷ []) (omega arith) (omega arith) top).same in
          ap₂ {C = List Moved} (λ (p : ℕ) (ms : List Moved). record { from = 0; parent = p } ∷ ms) (sym r) (sym (s ∙ append-nil _))
          ∙ ap (λ (k : ℕ). listed self k 0) z
