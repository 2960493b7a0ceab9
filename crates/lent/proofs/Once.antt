-- No place stands twice in a stored forest, whatever else the table holds: a node's parent word says in which list it stands, and a list that came back
-- to a node would not end. So of a tree that stands in a table it need not be asked. Assumes nothing.
use mathlib.Core.Logic.{◌⊎◌, inl, inr}
use mathlib.Core.Path.{◌≡◌, sym, ap, ◌∙◌}
use Prim.Native.Nat.{ℕ, ◌+◌, ◌<◌, ◌≤◌}
use native.Mathlib.Omega.{arith}
use native.Mathlib.Decide.{ℕ_discrete, dec_lt}
use Rattle.rules.specs.Tree.{Label, size}
use Rattle.table.specs.Cells.{Table, gone}
use Rattle.table.specs.Holds.{Placed, empty, node, erase, head, Stored, hit, times}
use Rattle.table.proofs.Counting.{hit_same, hit_other, none_beyond}
use Rattle.table.proofs.Unique.{same}

module _ (m : Table) (b : ℕ) (le : b ≤ gone) where
  -- the parent of a node is the forest's, or in it
  parent_in : (u v : ℕ) (f : Placed) → Stored m b u v f → (y : ℕ) → 0 < times y f → ((m y).parent ≡ u) ⊎ (0 < times (m y).parent f)
  parent_in u v empty h y q = absurd (omega arith)
  parent_in u v (node x l c r) h y q = go (ℕ_discrete y x) (dec_lt 0 (times y c)) (parent_in x gone c h.2 y) (parent_in u x r h.3 y)
    where
      go : Dec (y ≡ x) → Dec (0 < times y c) → (0 < times y c → ((m y).parent ≡ x) ⊎ (0 < times (m y).parent c))
          → (0 < times y r → ((m y).parent ≡ u) ⊎ (0 < times (m y).parent r)) → ((m y).parent ≡ u) ⊎ (0 < times (m y).parent (node x l c r))
      go (yes e) d hc hr = inl (ap (λ v. (m v).parent) e ∙ ap (λ a. a.parent) h.1)
      go (no e) (yes z) hc hr = down (hc z)
        where
          down : ((m y).parent ≡ x) ⊎ (0 < times (m y).parent c) → ((m y).parent ≡ u) ⊎ (0 < times (m y).parent (node x l c r))
          down (inl i) = inr (omega (arith, ap (λ v. hit v x) i, hit_same x))
          down (inr i) = inr (omega arith)
      go (no e) (no z) hc hr = on (hr (omega (arith, hit_other y x e)))
        where
          on : ((m y).parent ≡ u) ⊎ (0 < times (m y).parent r) → ((m y).parent ≡ u) ⊎ (0 < times (m y).parent (node x l c r))
          on (inl i) = inl i
          on (inr i) = inr (omega arith)

  -- what stands at a place of a forest is no larger
  record Within (y : ℕ) (f : Placed) : Type 0 where
    g : Placed
    u : ℕ
    v : ℕ
    is : head g ≡ y
    stored : Stored m b u v g
    small : size (erase g) ≤ size (erase f)

  within : (u v : ℕ) (f : Placed) → Stored m b u v f → (y : ℕ) → 0 < times y f → Within y f
  unfolding size
  within u v empty h y q = absurd (omega arith)
  within u v (node x l c r) h y q = go (ℕ_discrete y x) (dec_lt 0 (times y c)) (within x gone c h.2 y) (within u x r h.3 y)
    where
      go : Dec (y ≡ x) → Dec (0 < times y c) → (0 < times y c → Within y c) → (0 < times y r → Within y r) → Within y (node x l c r)
      go (yes e) d hc hr = record { g = node x l c r; u = u; v = v; is = sym e; stored = h; small = omega arith }
      go (no e) (yes z) hc hr =
          let w = hc z in record { g = w.g; u = w.u; v = w.v; is = w.is; stored = w.stored; small = omega (arith, w.small) }
      go (no e) (no z) hc hr =
          let w = hr (omega (arith, hit_other y x e)) in
          record { g = w.g; u = w.u; v = w.v; is = w.is; stored = w.stored; small = omega (arith, w.small) }

  -- a list does not come back to its first node
  not_on : (u v x : ℕ) (l : Label) (c r : Placed) → Stored m b u v (node x l c r) → times x r ≡ 0
  unfolding size
  not_on u v x l c r h = go (dec_lt 0 (times x r))
    where
      go : Dec (0 < times x r) → times x r ≡ 0
      go (no q) = omega arith
      go (yes q) =
          let w = within u x r h.3 x q in
          let e = same m b b w.u u w.v v w.g (node x l c r) le le w.stored h w.is in
          absurd (omega (arith, w.small, ap (λ f. size (erase f)) e))

  -- a forest whose nodes have parents that are not in r, and are not the parent of r, has no place of r
  apart : (u i : ℕ) (r : Placed) → Stored m b u i r → (v j : ℕ) (f : Placed) → Stored m b v j f → times v r ≡ 0 → (v ≡ u → ⊥) → times u f ≡ 0
      → (z : ℕ) → 0 < times z f → times z r ≡ 0
  apart u i r hr v j empty h out ne none z q = absurd (omega arith)
  apart u i r hr v j (node x l c s) h out ne none z q =
      let free = first (dec_lt 0 (times x r)) in
      let xu : x ≡ u → ⊥ = λ e. omega (arith, ap (λ i. hit i x) e, hit_same x) in
      go (ℕ_discrete z x) (dec_lt 0 (times z c)) free (apart u i r hr x gone c h.2 free xu (omega arith) z)
      (apart u i r hr v x s h.3 out ne (omega arith) z)
    where
      first : Dec (0 < times x r) → times x r ≡ 0
      first (no z) = omega arith
      first (yes z) = absurd (clash (parent_in u i r hr x z))
        where
          e : (m x).parent ≡ v
          e = ap (λ a. a.parent) h.1

          clash : ((m x).parent ≡ u) ⊎ (0 < times (m x).parent r) → ⊥
          clash (inl j) = ne (sym e ∙ j)
          clash (inr j) = omega (arith, ap (λ i. times i r) e)

      go : Dec (z ≡ x) → Dec (0 < times z c) → times x r ≡ 0 → (0 < times z c → times z r ≡ 0) → (0 < times z s → times z r ≡ 0) → times z r ≡ 0
      go (yes e) d k hc hs = ap (λ i. times i r) e ∙ k
      go (no e) (yes i) k hc hs = hc i
      go (no e) (no i) k hc hs = hs (omega (arith, hit_other z x e))

  -- no place stands twice, where the parent of the forest is not in it
  pub once : (u v : ℕ) (f : Placed) → Stored m b u v f → times u f ≡ 0 → (z : ℕ) → times z f ≤ 1
  once u v empty h out z = omega arith
  once u v (node x l c r) h out z = go (ℕ_discrete z x) (dec_lt 0 (times z c)) (once x gone c h.2 not_down z) (once u x r h.3 (omega arith) z)
    where
      xu : x ≡ u → ⊥
      xu e = omega (arith, ap (λ i. hit i x) e, hit_same x)

      inside : Dec (0 < times x c) → times x c ≡ 0
      inside (no i) = omega arith
      inside (yes i) = absurd (clash (parent_in x gone c h.2 x i))
        where
          e : (m x).parent ≡ u
          e = ap (λ a. a.parent) h.1

          clash : ((m x).parent ≡ x) ⊎ (0 < times (m x).parent c) → ⊥
          clash (inl j) = xu (sym j ∙ e)
          clash (inr j) = omega (arith, ap (λ i. times i c) e)

      not_down : times x c ≡ 0
      not_down = inside (dec_lt 0 (times x c))

      go : Dec (z ≡ x) → Dec (0 < times z c) → times z c ≤ 1 → times z r ≤ 1 → hit z x + times z c + times z r ≤ 1
      go (yes e) d hc hr = rw e (omega (arith, hit_same x, not_down, not_on u v x l c r h))
      go (no e) (no i) hc hr = omega (arith, hit_other z x e)
      go (no e) (yes i) hc hr =
          omega (arith, hit_other z x e, apart u x r h.3 x gone c h.2 (not_on u v x l c r h) xu (omega arith) z i)

  -- so none does in a tree
  pub tree_once : (f : Placed) → Stored m b gone gone f → (z : ℕ) → times z f ≤ 1
  tree_once f h = once gone gone f h (none_beyond m b gone gone f h gone le)
