-- Where the records come to stand: a segment of the new order is due below each record that was passed, and the next record opens the segment of its parent. No two segments
-- need be known apart, since every index is met or due. Assumes nothing.
use mathlib.Core.Path.{◌≡◌, refl, sym, ap, subst, ◌∙◌}
use mathlib.Core.Logic.{◌⊎◌, inl, inr}
use mathlib.Core.Bool.{true}
use mathlib.Core.List.{List, ◌∷◌, ◌++◌}
use Prim.Native.Nat.{ℕ, zero, suc, ◌+◌, ◌-◌, ◌≤◌, ◌<◌}
use native.Mathlib.Omega.{arith}
use native.Mathlib.Decide.{ℕ_discrete, dec_lt}
use lib.ListN.{length, get_or, set, length-set, length-append, replicate, get_or-replicate, get_or-append}
use lib.Seq.{get_or-append-add, get_or-set_same, get_or-set_other}
use borrow.Author.Tests.{eq-eqb, ne_eqb}
use Rattle.rules.specs.Limits.{max_nodes}
use Rattle.rules.specs.Check.{parent, parent_rule}
use Rattle.rules.specs.Arrange.{Moved, moved, moves}
use Rattle.rules.proofs.Accepted.{parent_before}
use Rattle.rules.proofs.Moved.{moved_mine, moved_other, moves_length}
use Rattle.arranger.specs.Arranger.{no_move, weight, At, rest, Moves, Met, Due, Placing, Placed}
use Rattle.arranger.proofs.Weighing.{weight_moved}

module _ (b : List ℕ) (base n : ℕ) where
  at_left : (j : ℕ) (xs ys : List Moved) → At b base n j (xs ++ ys) → At b base n j xs
  at_left j xs ys h =
      let z = length-append xs ys in
      let w = h.within in
      record { within = omega arith; stands = λ k l. h.stands k (omega arith) ∙ get_or-append xs ys no_move k l }

  at_right : (j : ℕ) (xs ys : List Moved) → At b base n j (xs ++ ys) → At b base n (j + length xs) ys
  at_right j xs ys h =
      let z = length-append xs ys in
      let w = h.within in
      record {
        within = omega arith;
        stands =
            λ k l. ap (λ (i : ℕ). get_or (moves b base n) i no_move) {x = j + length xs + k} {y = j + (length xs + k)} (omega arith)
            ∙ h.stands (length xs + k) (omega arith) ∙ get_or-append-add xs ys k no_move;
      }

  at_tail : (j : ℕ) (x : Moved) (xs : List Moved) → At b base n j (x ∷ xs) → At b base n (suc j) xs
  at_tail j x xs h =
      let w = h.within in
      record {
        within = omega arith;
        stands = λ k l. ap (λ (i : ℕ). get_or (moves b base n) i no_move) {x = suc j + k} {y = j + suc k} (omega arith) ∙ h.stands (suc k) (omega arith);
      }

  at_head : (j : ℕ) (x : Moved) (xs : List Moved) → At b base n j (x ∷ xs) → get_or (moves b base n) j no_move ≡ x
  at_head j x xs h = ap (λ (i : ℕ). get_or (moves b base n) i no_move) {x = j} {y = j + 0} (omega arith) ∙ h.stands 0 (omega arith)

  module _ (few : n ≤ max_nodes) (parents : (i : ℕ) → i < n → parent_rule b base i ≡ true) where
    -- the root stays, and all others are due below it
    behind_root : 1 ≤ n → At b base n 1 (moved b base 0 0 (n - 1) 1 1) × (1 + length (moved b base 0 0 (n - 1) 1 1) ≡ n)
    unfolding moves
    behind_root o =
        let z = moves_length b base n parents o in (
          record { within = omega arith; stands = λ k l. ap (λ (i : ℕ). get_or (moves b base n) i no_move) {x = 1 + k} {y = suc k} (omega arith) },
          omega arith,
        )

    pub placing_start : 1 ≤ n → Placing b base n 1 (replicate 512 0) (replicate 512 1)
    placing_start o =
        record {
          size = refl;
          size_next = refl;
          root = own 0 (omega arith);
          each = λ q l h. absurd (omega arith);
          ahead = λ q h. let z : q ≡ 0 = omega arith in rw (z, own 0 (omega arith), next 0 (omega arith)) (behind_root o).0;
          every = every;
        }
      where
        own : (q : ℕ) → q < 512 → ◌≡◌ {A = ℕ} (get_or (replicate 512 0) q 0) 0
        own q l = get_or-replicate 512 q 0 0 l

        next : (q : ℕ) → q < 512 → ◌≡◌ {A = ℕ} (get_or (replicate 512 1) q 0) 1
        next q l = get_or-replicate 512 q 1 0 l

        every : (k : ℕ) → k < n → Met b base n (replicate 512 0) 1 k ⊎ Due b base n (replicate 512 0) (replicate 512 1) 1 k
        every zero h = inl (record { node = 0; before = omega arith; here = own 0 (omega arith) })
        every (suc k) h =
            inr
            (record {
              node = 0;
              before = omega arith;
              from = rw (next 0 (omega arith)) (omega arith);
              to = rw (own 0 (omega arith), next 0 (omega arith)) (let z = (behind_root o).1 in omega arith);
            })

    module _ (i : ℕ) (o : 1 ≤ i) (h : i < n) (own next : List ℕ) (at w : ℕ) (s : Placing b base n i own next) (here : at ≡ get_or next (parent b base i) 0)
        (weighs : w ≡ weight b base i (n - suc i) (suc i)) where
      abbrev p : ℕ
      p = parent b base i

      abbrev left : ℕ
      left = n - suc i

      abbrev own' : List ℕ
      own' = set own i at

      abbrev next' : List ℕ
      next' = set (set next i (at + 1)) p (at + w)

      before : p < i
      before = parent_before b base i (λ e. omega arith) (parents i h)

      -- what stands below record i, and what else stands below its parent
      abbrev below : List Moved
      below = moved b base i at left (suc i) (suc at)

      abbrev others : List Moved
      others = moved b base p (get_or own p 0) left (suc i) (suc at + length below)

      wide : w ≡ suc (length below)
      wide = weighs ∙ weight_moved b base i at left (suc i) (suc at)

      more : n - i ≡ suc left
      more = omega arith

      mine : (x : ℕ) → moved b base p (get_or own p 0) (n - i) i at ≡ record { from = i; parent = get_or own p 0 } ∷ (below ++ others)
      mine x =
          ap (λ (k : ℕ). moved b base p (get_or own p 0) k i at) more ∙ moved_mine b base p left i (get_or own p 0) at (eq-eqb p p refl)

      segment : At b base n at (record { from = i; parent = get_or own p 0 } ∷ (below ++ others))
      segment = subst (At b base n at) (mine 0) (subst (λ x. At b base n x (rest b base n i p (get_or own p 0) x)) (sym here) (s.ahead p before))

      passed : (q o' x : ℕ) → (q ≡ p → ⊥) → rest b base n i q o' x ≡ rest b base n (suc i) q o' x
      passed q o' x d =
          ap (λ (k : ℕ). moved b base q o' k i x) more ∙ moved_other b base q left i o' x (ne_eqb p q (λ (e : p ≡ q). d (sym e)))

      -- the lists
      own_new : get_or own' i 0 ≡ at
      own_new = let z = s.size in get_or-set_same own i at 0 (omega arith)

      own_old : (q : ℕ) → q < i → get_or own' q 0 ≡ get_or own q 0
      own_old q l = get_or-set_other own i q at 0 (λ e. omega arith)

      next_new : get_or next' i 0 ≡ suc at
      next_new =
          let z = s.size_next in
          let l = before in
          get_or-set_other (set next i (at + 1)) p i (at + w) 0 (λ e. omega arith) ∙ get_or-set_same next i (at + 1) 0 (omega arith) ∙ (omega arith)

      next_parent : get_or next' p 0 ≡ suc at + length below
      next_parent =
          let z = s.size_next in
          let y = length-set next i (at + 1) in
          let l = before in
          let e = wide in
          get_or-set_same (set next i (at + 1)) p (at + w) 0 (omega arith) ∙ (omega arith)

      next_old : (q : ℕ) → q < i → (q ≡ p → ⊥) → get_or next' q 0 ≡ get_or next q 0
      next_old q l d = get_or-set_other (set next i (at + 1)) p q (at + w) 0 d ∙ get_or-set_other next i q (at + 1) 0 (λ e. omega arith)

      ahead_at : (q o' x : ℕ) → get_or own' q 0 ≡ o' → get_or next' q 0 ≡ x → At b base n x (rest b base n (suc i) q o' x)
          → At b base n (get_or next' q 0) (rest b base n (suc i) q (get_or own' q 0) (get_or next' q 0))
      ahead_at q o' x e f a = rw (e, f) a

      due_at : (k q o' x : ℕ) → q < suc i → get_or own' q 0 ≡ o' → get_or next' q 0 ≡ x → x ≤ k → k < x + length (rest b base n (suc i) q o' x)
          → Due b base n own' next' (suc i) k
      due_at k q o' x l e f c d = record { node = q; before = l; from = rw f c; to = rw (e, f) d }

      ahead : (q : ℕ) → q < suc i → Dec (q ≡ i) → Dec (q ≡ p) → At b base n (get_or next' q 0) (rest b base n (suc i) q (get_or own' q 0) (get_or next' q 0))
      ahead q l (yes e) d =
          rw e (ahead_at i at (suc at) own_new next_new (at_left (suc at) below others (at_tail at _ _ segment)))
      ahead q l (no e) (yes d) =
          rw d (ahead_at p (get_or own p 0) (suc at + length below) (own_old p before) next_parent (at_right (suc at) below others (at_tail at _ _ segment)))
      ahead q l (no e) (no d) =
          ahead_at q (get_or own q 0) (get_or next q 0) (own_old q (omega arith)) (next_old q (omega arith) d)
          (subst (At b base n (get_or next q 0)) (passed q (get_or own q 0) (get_or next q 0) d) (s.ahead q (omega arith)))

      each : (q : ℕ) → 1 ≤ q → q < suc i → Dec (q ≡ i) → Moves b base n own' q
      each q c l (yes e) =
          rw e
          (record {
            below = let z = own_new in let y = segment.within in omega arith;
            is = rw (own_new, own_old p before) (at_head at _ _ segment);
          })
      each q c l (no e) =
          let m = s.each q c (omega arith) in
          let z = parent_before b base q (λ (e : q ≡ 0). omega arith) (parents q (omega arith)) in
          record {
            below = let y = own_old q (omega arith) in let x = m.below in omega arith;
            is = rw (own_old q (omega arith), own_old (parent b base q) (omega arith)) m.is;
          }

      every : (k : ℕ) → k < n → Met b base n own i k ⊎ Due b base n own next i k → Met b base n own' (suc i) k ⊎ Due b base n own' next' (suc i) k
      every k l (inl m) = let z = m.before in inl (record { node = m.node; before = omega arith; here = own_old m.node z ∙ m.here })
      every k l (inr d) = by (ℕ_discrete d.node p)
        where
          in_segment : (x : ℕ) → x ≡ at → get_or next d.node 0 ≡ x → k < at + suc (length (below ++ others)) → at ≤ k
              → Met b base n own' (suc i) k ⊎ Due b base n own' next' (suc i) k
          in_segment x e f m c = pick (ℕ_discrete k at) (dec_lt k (suc at + length below))
            where
              pick : Dec (k ≡ at) → Dec (k < suc at + length below) → Met b base n own' (suc i) k ⊎ Due b base n own' next' (suc i) k
              pick (yes q) r = inl (record { node = i; before = omega arith; here = own_new ∙ sym q })
              pick (no q) (yes r) = inr (due_at k i at (suc at) (omega arith) own_new next_new (omega arith) r)
              pick (no q) (no r) =
                  let z = length-append below others in
                  let y = before in
                  inr (due_at k p (get_or own p 0) (suc at + length below) (omega arith) (own_old p before) next_parent (omega arith) (omega arith))

          by : Dec (d.node ≡ p) → Met b base n own' (suc i) k ⊎ Due b base n own' next' (suc i) k
          by (yes e) =
              let f : get_or next d.node 0 ≡ at = rw e (sym here) in
              let g : length (rest b base n i d.node (get_or own d.node 0) (get_or next d.node 0)) ≡ suc (length (below ++ others)) =
              rw (f, e) (ap length (mine 0))
              in
              let u = d.from in
              let v = d.to in
              in_segment at refl f (omega arith) (omega arith)
          by (no e) =
              let z = d.before in
              let g = ap length (passed d.node (get_or own d.node 0) (get_or next d.node 0) e) in
              let v = d.to in
              inr (due_at k d.node _ _ (omega arith) (own_old d.node z) (next_old d.node z e) d.from (omega arith))

      pub placing_room : at + w ≤ n
      placing_room = let z = segment.within in let y = length-append below others in let e = wide in omega arith

      pub placing_next : Placing b base n (suc i) own' next'
      placing_next =
          record {
            size = length-set own i at ∙ s.size;
            size_next = length-set (set next i (at + 1)) p (at + w) ∙ length-set next i (at + 1) ∙ s.size_next;
            root = own_old 0 (omega arith) ∙ s.root;
            each = λ q c l. each q c l (ℕ_discrete q i);
            ahead = λ q l. ahead q l (ℕ_discrete q i) (ℕ_discrete q p);
            every = λ k l. every k l (s.every k l);
          }

  -- behind the last record nothing is due
  pub placing_end : (own next : List ℕ) → Placing b base n n own next → Placed b base n own
  unfolding moved
  placing_end own next s = record { size = s.size; root = s.root; each = s.each; every = λ k l. by k (s.every k l) }
    where
      none : (q o x : ℕ) → length (rest b base n n q o x) ≡ 0
      none q o x = let z : n - n ≡ 0 = omega arith in rw z

      by : (k : ℕ) → Met b base n own n k ⊎ Due b base n own next n k → Met b base n own n k
      by k (inl m) = m
      by k (inr d) =
          let z = none d.node (get_or own d.node 0) (get_or next d.node 0) in
          let u = d.from in
          let v = d.to in absurd (omega arith)
