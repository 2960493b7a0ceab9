-- The node records in their new order list the decoded tree, and all of them are there. Assumes nothing.
use mathlib.Core.Path.{◌≡◌, refl, sym, ap, ap₂, ◌∙◌}
use Prim.Native.Nat.{ℕ, zero, suc, ◌+◌, ◌-◌, ◌≤◌, ◌<◌}
use native.Mathlib.Omega.{arith}
use native.Mathlib.Decide.{ℕ_discrete}
use mathlib.Core.Bool.{true, false}
use mathlib.Core.List.{List, [], ◌∷◌, ◌++◌, map, map-append, append-nil}
use lib.ListN.{length, get_or, length-map}
use lib.Dec.{eqb}
use borrow.Author.Tests.{eq-eqb, ne_eqb}
use Rattle.rules.specs.Limits.{no_parent}
use Rattle.rules.specs.Tree.{tree, size}
use Rattle.rules.specs.Check.{parent, parent_rule}
use Rattle.rules.specs.Job.{label_of, children_of, tree_of}
use Rattle.rules.specs.Arrange.{Moved, moved, moves}
use Rattle.rules.proofs.Tests.{Test, holds, fails, test}
use Rattle.rules.specs.Write.{Entry, listing}
use Rattle.rules.proofs.Listing.{listing_length}
use Rattle.rules.proofs.Accepted.{parent_before}

-- a sum over the numbers below n
unfoldable pub total : (ℕ → ℕ) → ℕ → ℕ
total f zero = 0
total f (suc n) = total f n + f n

pub total_same : (f g : ℕ → ℕ) (n : ℕ) → ((q : ℕ) → q < n → f q ≡ g q) → total f n ≡ total g n
unfolding total
total_same f g zero h = refl
total_same f g (suc n) h = ap₂ ◌+◌ (total_same f g n (λ q l. h q (omega arith))) (h n (omega arith))

-- one of them has x more
pub total_more : (f g : ℕ → ℕ) (p x n : ℕ) → p < n → f p ≡ x + g p → ((q : ℕ) → q < n → (q ≡ p → ⊥) → f q ≡ g q) → total f n ≡ x + total g n
unfolding total
total_more f g p x zero l e h = absurd (omega arith)
total_more f g p x (suc n) l e h = by (ℕ_discrete n p) (λ a. total_more f g p x n a e (λ q b. h q (omega arith)))
  where
    by : Dec (n ≡ p) → (p < n → total f n ≡ x + total g n) → total f (suc n) ≡ x + total g (suc n)
    by (yes q) r =
        let s = total_same f g n (λ k b. h k (omega arith) (λ w. omega arith)) in
        let t : f n ≡ x + g n = rw q e in omega arith
    by (no q) r = let s = r (omega arith) in let t = h n (omega arith) q in omega arith

-- the old index of each moved record is below m
abbrev pub Below : ℕ → List Moved → Type 0
Below m [] = Unit {0}
Below m (x ∷ xs) = (x.from < m) × Below m xs

below_append : (m : ℕ) (xs ys : List Moved) → Below m xs → Below m ys → Below m (xs ++ ys)
below_append m [] ys h g = g
below_append m (x ∷ xs) ys h g = (h.0, below_append m xs ys h.1 g)

pub below_at : (m : ℕ) (xs : List Moved) (d : Moved) → Below m xs → (k : ℕ) → k < length xs → (get_or xs k d).from < m
below_at m [] d h k l = absurd (omega arith)
below_at m (x ∷ xs) d h zero l = h.0
below_at m (x ∷ xs) d h (suc k) l = below_at m xs d h.1 k (omega arith)

module _ (b : List ℕ) (base : ℕ) where
  module _ (p n i : ℕ) where
    pub children_mine : eqb (parent b base i) p ≡ true
        → children_of b base p (suc n) i ≡ tree (label_of b base i) (children_of b base i n (suc i)) (children_of b base p n (suc i))
    unfolding children_of
    children_mine e = rw (e, children_of)

    pub children_other : eqb (parent b base i) p ≡ false → children_of b base p (suc n) i ≡ children_of b base p n (suc i)
    unfolding children_of
    children_other e = rw (e, children_of)

    pub moved_mine : (q j : ℕ) → eqb (parent b base i) p ≡ true
        → moved b base p q (suc n) i j
        ≡ record { from = i; parent = q }
        ∷ (moved b base i j n (suc i) (suc j) ++ moved b base p q n (suc i) (suc j + length (moved b base i j n (suc i) (suc j))))
    unfolding moved
    moved_mine q j e = rw (e, moved)

    pub moved_other : (q j : ℕ) → eqb (parent b base i) p ≡ false → moved b base p q (suc n) i j ≡ moved b base p q n (suc i) j
    unfolding moved
    moved_other q j e = rw (e, moved)

  -- a moved record as an entry
  unfoldable pub entry_from : Moved → Entry
  entry_from m = record { parent = m.parent; label = label_of b base m.from }

  pub moved_listing : (p q n i j : ℕ) → map entry_from (moved b base p q n i j) ≡ listing q j (children_of b base p n i)
  unfolding moved children_of listing
  moved_listing p q zero i j = refl
  moved_listing p q (suc n) i j =
      pick (test (eqb (parent b base i) p)) (moved_listing i j n (suc i) (suc j)) (λ m. moved_listing p q n (suc i) m)
    where
      pick : Test (eqb (parent b base i) p) → map entry_from (moved b base i j n (suc i) (suc j)) ≡ listing j (suc j) (children_of b base i n (suc i))
          → ((m : ℕ) → map entry_from (moved b base p q n (suc i) m) ≡ listing q m (children_of b base p n (suc i)))
          → map entry_from (moved b base p q (suc n) i j) ≡ listing q j (children_of b base p (suc n) i)
      pick (holds e) c r =
          ap (map entry_from) (moved_mine p n i q j e)
          ∙ ap (λ (es : List Entry). entry_from (record { from = i; parent = q }) ∷ es)
          (map-append entry_from (moved b base i j n (suc i) (suc j)) _
          ∙ ap₂ ◌++◌ c
          (r (suc j + length (moved b base i j n (suc i) (suc j)))
          ∙ ap (λ (m : ℕ). listing q (suc j + m) (children_of b base p n (suc i)))
          (sym (length-map (moved b base i j n (suc i) (suc j)) entry_from) ∙ ap length c ∙ listing_length j (suc j) (children_of b base i n (suc i)))))
          ∙ (unfold entry_from in ap (listing q j) (sym (children_mine p n i e)))
      pick (fails e) c r = ap (map entry_from) (moved_other p n i q j e) ∙ r j ∙ ap (listing q j) (sym (children_other p n i e))

  pub moved_length : (p q n i j : ℕ) → length (moved b base p q n i j) ≡ size (children_of b base p n i)
  moved_length p q n i j =
      sym (length-map (moved b base p q n i j) entry_from) ∙ ap length (moved_listing p q n i j) ∙ listing_length q j (children_of b base p n i)

  pub moved_below : (m p q n i j : ℕ) → i + n ≤ m → Below m (moved b base p q n i j)
  unfolding moved
  moved_below m p q zero i j h = tt
  moved_below m p q (suc n) i j h =
      pick (test (eqb (parent b base i) p)) (moved_below m i j n (suc i) (suc j) (omega arith)) (λ k. moved_below m p q n (suc i) k (omega arith))
    where
      pick : Test (eqb (parent b base i) p) → Below m (moved b base i j n (suc i) (suc j)) → ((k : ℕ) → Below m (moved b base p q n (suc i) k))
          → Below m (moved b base p q (suc n) i j)
      pick (holds e) c r = rw (e, moved) (omega arith, below_append m (moved b base i j n (suc i) (suc j)) (moved b base p q n (suc i) (suc j + length (moved b base i j n (suc i) (suc j)))) c (r (suc j + length (moved b base i j n (suc i) (suc j)))))
      pick (fails e) c r = rw (e, moved) (r j)

  -- each record is one of the n
  pub moves_below : (n : ℕ) → 1 ≤ n → Below n (moves b base n)
  unfolding moves
  moves_below n h = (omega arith, moved_below n 0 0 (n - 1) 1 1 (omega arith))

  pub moves_listing : (n : ℕ) → map entry_from (moves b base n) ≡ listing no_parent 0 (tree_of b base n)
  unfolding moves tree_of listing entry_from
  moves_listing n = ap (λ (es : List Entry). record { parent = no_parent; label = label_of b base 0 } ∷ es) (moved_listing 0 0 (n - 1) 1 1 ∙ sym (append-nil _))

  -- where each parent stands before its child, every record has its place in the tree
  module _ (n : ℕ) (parents : (i : ℕ) → i < n → parent_rule b base i ≡ true) where
    sizes : (k i : ℕ) → 1 ≤ i → i + k ≤ n → total (λ (q : ℕ). size (children_of b base q k i)) i ≡ k
    unfolding size children_of total
    sizes zero i o h = total_zero i
      where
        total_zero : (m : ℕ) → total (λ (q : ℕ). 0) m ≡ 0
        total_zero zero = refl
        total_zero (suc m) = let z = total_zero m in omega arith
    sizes (suc k) i o h =
        let r = sizes k (suc i) (omega arith) (omega arith) in
        total_more (λ (q : ℕ). size (children_of b base q (suc k) i)) (λ (q : ℕ). size (children_of b base q k (suc i))) (parent b base i)
        (suc (size (children_of b base i k (suc i)))) i (parent_before b base i (λ (e : i ≡ 0). omega arith) (parents i (omega arith)))
        (ap size (children_mine (parent b base i) k i (eq-eqb (parent b base i) (parent b base i) refl)) ∙ (omega arith))
        (λ q l w. ap size (children_other q k i (ne_eqb (parent b base i) q (λ (e : parent b base i ≡ q). w (sym e)))))
        ∙ (omega arith)

    pub moves_length : 1 ≤ n → length (moves b base n) ≡ n
    unfolding moves total
    moves_length h = let z = sizes (n - 1) 1 (omega arith) (omega arith) in let y = moved_length 0 0 (n - 1) 1 1 in omega arith

    pub tree_size : 1 ≤ n → size (tree_of b base n) ≡ n
    unfolding tree_of size total
    tree_size h = let z = sizes (n - 1) 1 (omega arith) (omega arith) in omega arith
