-- The order of places after a turn, position by position: where each entry comes from. No two positions have the same, so that each place still stands
-- in the order once. Assumes nothing.
use mathlib.Core.Path.{◌≡◌, refl, sym, ◌∙◌, ap, subst}
use Prim.Native.Nat.{ℕ, zero, suc, ◌+◌, ◌-◌, ◌<◌, ◌≤◌}
use native.Mathlib.Omega.{arith}
use mathlib.Core.List.{List, [], ◌∷◌, ◌++◌}
use lib.ListN.{length, get_or, take, drop, length-append, length-drop, get_or-append}
use lib.Dec.{eqb, ltb}
use lib.Seq.{get_or-take, get_or-drop, get_or-append-add, get_or-append_seam, ext_get_or, length-take-le, take-suc}
use borrow.Author.Tests.{ltb-true, ltb-false, eqb-true, eqb-false}
use Rattle.std.specs.List.{RotatedLeft}
use Rattle.rules.specs.Limits.{max_runs}
use Rattle.rules.proofs.Tests.{Test, holds, fails, test}
use Rattle.places.specs.declared.queue.Queue.{Queue}
use Rattle.places.specs.Queue.{Whole, ordered, front, first_free, at_back, taken_off, moved_back, source, rotated}

-- where the entry at position k comes from
data Comes (n k : ℕ) : Type 0 where
  next : k + 1 < n → source n k ≡ k + 1 → Comes n k
  last : k + 1 ≡ n → source n k ≡ 0 → Comes n k
  stays : n < k + 1 → source n k ≡ k → Comes n k

comes : (n k : ℕ) → Comes n k
unfolding source
comes n k = pick (test (ltb (k + 1) n)) (test (eqb (k + 1) n))
  where
    pick : Test (ltb (k + 1) n) → Test (eqb (k + 1) n) → Comes n k
    pick (holds l) t = next (ltb-true (k + 1) n l) (rw l)
    pick (fails l) (holds e) = last (eqb-true (k + 1) n e) (rw (l, e))
    pick (fails l) (fails e) = let a = ltb-false (k + 1) n l in let b = eqb-false (k + 1) n e in stays (omega (arith, a, b)) (rw (l, e))

pub source_within : (n k : ℕ) → n ≤ max_runs → k < max_runs → source n k < max_runs
source_within n k h l = pick (comes n k)
  where
    pick : Comes n k → source n k < max_runs
    pick (next a e) = omega (arith, a, e, h)
    pick (last a e) = omega (arith, e)
    pick (stays a e) = omega (arith, e, l)

source_apart : (n j k : ℕ) → source n j ≡ source n k → j ≡ k
source_apart n j k h = pick (comes n j) (comes n k)
  where
    pick : Comes n j → Comes n k → j ≡ k
    pick (next a e) (next b f) = omega (arith, e, f, h)
    pick (next a e) (last b f) = absurd (omega (arith, e, f, h))
    pick (next a e) (stays b f) = absurd (omega (arith, a, b, e, f, h))
    pick (last a e) (next b f) = absurd (omega (arith, e, f, h))
    pick (last a e) (last b f) = omega (arith, a, b)
    pick (last a e) (stays b f) = omega (arith, a, b, e, f, h)
    pick (stays a e) (next b f) = absurd (omega (arith, a, b, e, f, h))
    pick (stays a e) (last b f) = omega (arith, a, b, e, f, h)
    pick (stays a e) (stays b f) = omega (arith, e, f, h)

source_inside : (n k : ℕ) → k < n → source n k < n
source_inside n k b = pick (comes n k)
  where
    pick : Comes n k → source n k < n
    pick (next a e) = omega (arith, a, e)
    pick (last a e) = omega (arith, a, e)
    pick (stays a e) = absurd (omega (arith, a, b))

source_one : (n k : ℕ) → k + 1 < n → source n k ≡ suc k
source_one n k b = pick (comes n k)
  where
    pick : Comes n k → source n k ≡ suc k
    pick (next a e) = omega (arith, e)
    pick (last a e) = absurd (omega (arith, a, b))
    pick (stays a e) = absurd (omega (arith, a, b))

source_end : (n : ℕ) → 0 < n → source n (n - 1) ≡ 0
source_end n z = pick (comes n (n - 1))
  where
    pick : Comes n (n - 1) → source n (n - 1) ≡ 0
    pick (next a e) = absurd (omega (arith, a))
    pick (last a e) = e
    pick (stays a e) = absurd (omega (arith, a, z))

rotated_at : (n : ℕ) (xs : List ℕ) (k : ℕ) → k < max_runs → get_or (rotated n xs) k 0 ≡ get_or xs (source n k) 0
unfolding rotated
rotated_at n xs zero l = refl
rotated_at n xs (suc zero) l = refl
rotated_at n xs (suc (suc zero)) l = refl
rotated_at n xs (suc (suc (suc zero))) l = refl
rotated_at n xs (suc (suc (suc (suc zero)))) l = refl
rotated_at n xs (suc (suc (suc (suc (suc zero))))) l = refl
rotated_at n xs (suc (suc (suc (suc (suc (suc zero)))))) l = refl
rotated_at n xs (suc (suc (suc (suc (suc (suc (suc zero))))))) l = refl
rotated_at n xs (suc (suc (suc (suc (suc (suc (suc (suc k)))))))) l = absurd (omega (arith, l))

rotated_eight : (n : ℕ) (xs : List ℕ) → length (rotated n xs) ≡ max_runs
unfolding rotated
rotated_eight n xs = refl

-- the same for a list of n whose front goes to the back
moved_at : (n : ℕ) (xs : List ℕ) (k : ℕ) → length xs ≡ n → k < n → get_or (moved_back xs) k 0 ≡ get_or xs (source n k) 0
unfolding moved_back
moved_at n [] k e l = absurd (omega (arith, e, l))
moved_at n (x ∷ xs) k e l = pick (comes n k)
  where
    pick : Comes n k → get_or (xs ++ (x ∷ [])) k 0 ≡ get_or (x ∷ xs) (source n k) 0
    pick (next a f) =
        let s : source n k ≡ suc k = omega (arith, f) in
        get_or-append xs (x ∷ []) 0 k (omega (arith, e, a)) ∙ sym (ap (λ j. get_or (x ∷ xs) j 0) s)
    pick (last a f) =
        let s : k ≡ length xs = omega (arith, e, a) in
        ap (λ j. get_or (xs ++ (x ∷ [])) j 0) s ∙ get_or-append_seam xs x [] 0 ∙ sym (ap (λ j. get_or (x ∷ xs) j 0) f)
    pick (stays a f) = absurd (omega (arith, a, l))

moved_length : (xs : List ℕ) → length (moved_back xs) ≡ length xs
unfolding moved_back
moved_length [] = refl
moved_length (x ∷ xs) = let l = length-append xs (x ∷ []) in omega (arith, l)

off_at : (xs : List ℕ) (k : ℕ) → get_or (taken_off xs) k 0 ≡ get_or xs (suc k) 0
unfolding taken_off
off_at [] k = refl
off_at (x ∷ xs) k = refl

off_length : (xs : List ℕ) → length (taken_off xs) ≡ length xs - 1
unfolding taken_off
off_length [] = refl
off_length (x ∷ xs) = omega arith

off_cons : (x : ℕ) (xs : List ℕ) → ◌≡◌ {A = List ℕ} (x ∷ xs) (x ∷ taken_off (x ∷ xs))
unfolding taken_off
off_cons x xs = refl

-- a queue whose order is rotated
module _ (q : Queue) (w : Whole q) (xs : List ℕ) (is : xs ≡ rotated q.count q.order) where
  at : (k : ℕ) → k < max_runs → get_or xs k 0 ≡ get_or q.order (source q.count k) 0
  at k l = ap (λ ys. get_or ys k 0) is ∙ rotated_at q.count q.order k l

  many : length xs ≡ max_runs
  many = ap (λ (ys : List ℕ). length ys) is ∙ rotated_eight q.count q.order

  pub whole_rotated : (n : ℕ) → n ≤ max_runs → Whole (record { order = xs; count = n })
  whole_rotated n h =
      record {
        few = h;
        eight = many;
        places = λ k l. subst (λ x. x < max_runs) (sym (at k l)) (w.places _ (source_within q.count k w.few l));
        apart = λ j k l m e.
            source_apart q.count j k
            (w.apart _ _ (source_within q.count j w.few l) (source_within q.count k w.few m) (sym (at j l) ∙ e ∙ at k m));
      }

  all_there : length (take q.count q.order) ≡ q.count
  all_there = let f = w.few in let e = w.eight in length-take-le q.count q.order (omega (arith, f, e))

  pub passed : ordered (record { order = xs; count = q.count }) ≡ moved_back (ordered q)
  unfolding ordered
  passed =
      let f = w.few in
      let l : length (take q.count xs) ≡ q.count = length-take-le q.count xs (omega (arith, f, many)) in
      ext_get_or 0 (take q.count xs) (moved_back (take q.count q.order)) (l ∙ sym all_there ∙ sym (moved_length (take q.count q.order))) (λ k h.
      let b : k < q.count = omega (arith, l, h) in
      get_or-take q.count xs k 0 b ∙ at k (omega (arith, b, f)) ∙ sym (get_or-take q.count q.order (source q.count k) 0 (source_inside q.count k b)) ∙ sym (moved_at q.count (take q.count q.order) k all_there b))

  pub left : 0 < q.count → ordered (record { order = xs; count = q.count - 1 }) ≡ taken_off (ordered q)
  unfolding ordered
  left z =
      let f = w.few in
      let l : length (take (q.count - 1) xs) ≡ q.count - 1 = length-take-le (q.count - 1) xs (omega (arith, f, many)) in
      ext_get_or 0 (take (q.count - 1) xs) (taken_off (take q.count q.order)) (l ∙ sym (ap (λ n. n - 1) all_there) ∙ sym (off_length (take q.count q.order))) (λ k h.
      let b : k + 1 < q.count = omega (arith, l, h) in
      let s : source q.count k ≡ suc k = source_one q.count k b in
      get_or-take (q.count - 1) xs k 0 (omega (arith, b)) ∙ at k (omega (arith, b, f)) ∙ ap (λ j. get_or q.order j 0) s
      ∙ sym (get_or-take q.count q.order (suc k) 0 (omega (arith, b))) ∙ sym (off_at (take q.count q.order) k))

  pub freed : 0 < q.count → get_or xs (q.count - 1) 0 ≡ front q
  freed z =
      let f = w.few in
      at (q.count - 1) (omega (arith, f, z)) ∙ ap (λ j. get_or q.order j 0) (source_end q.count z)

-- the first free place joins
pub joined : (q : Queue) → Whole q → q.count < max_runs → ordered (record { order = q.order; count = q.count + 1 }) ≡ at_back q
unfolding ordered at_back
joined q w h =
    let e = w.eight in
    let s : q.count + 1 ≡ suc q.count = omega arith in
    ap (λ n. take n q.order) s ∙ take-suc q.order q.count 0 (omega (arith, e, h))

front_of : (xs : List ℕ) (n : ℕ) → 0 < n → n ≤ length xs → take n xs ≡ get_or xs 0 0 ∷ taken_off (take n xs)
front_of [] n h l = absurd (omega (arith, h, l))
front_of (x ∷ xs) zero h l = absurd (omega (arith, h))
front_of (x ∷ xs) (suc n) h l = off_cons x (take n xs)

-- what stands in the order of a whole queue
module _ (q : Queue) (w : Whole q) where
  pub ordered_length : length (ordered q) ≡ q.count
  unfolding ordered
  ordered_length = let f = w.few in let e = w.eight in length-take-le q.count q.order (omega (arith, f, e))

  there : (k : ℕ) → k < length (ordered q) → get_or (ordered q) k 0 ≡ get_or q.order k 0
  unfolding ordered
  there k h = let l = ordered_length in get_or-take q.count q.order k 0 (omega (arith, l, h))

  -- the front, and behind it others
  pub ordered_front : 0 < q.count → ordered q ≡ front q ∷ taken_off (ordered q)
  unfolding ordered
  ordered_front z = let f = w.few in let e = w.eight in front_of q.order q.count z (omega (arith, f, e))

  pub rest_apart : (k : ℕ) → k < length (taken_off (ordered q)) → get_or (taken_off (ordered q)) k 0 ≡ front q → ⊥
  rest_apart k h e =
      let l = off_length (ordered q) in
      let o = ordered_length in
      let f = w.few in
      let s : suc k < length (ordered q) = omega (arith, l, h) in
      let z = w.apart (suc k) 0 (omega (arith, s, o, f)) (omega arith) (sym (there (suc k) s) ∙ sym (off_at (ordered q) k) ∙ e) in
      absurd (omega (arith, z))

  -- the first free place is none of them
  pub free_apart : q.count < max_runs → (k : ℕ) → k < length (ordered q) → get_or (ordered q) k 0 ≡ first_free q → ⊥
  free_apart c k h e =
      let o = ordered_length in
      let z = w.apart k q.count (omega (arith, h, o, c)) c (sym (there k h) ∙ e) in
      absurd (omega (arith, z, h, o))

  pub ordered_within : (k : ℕ) → k < length (ordered q) → get_or (ordered q) k 0 < max_runs
  ordered_within k h =
      let o = ordered_length in
      let f = w.few in
      subst (λ x. x < max_runs) (sym (there k h)) (w.places k (omega (arith, h, o, f)))

  pub rest_within : (k : ℕ) → k < length (taken_off (ordered q)) → get_or (taken_off (ordered q)) k 0 < max_runs
  rest_within k h = let l = off_length (ordered q) in subst (λ x. x < max_runs) (sym (off_at (ordered q) k)) (ordered_within (suc k) (omega (arith, l, h)))

-- the front at the back
pub moved_cons : (x : ℕ) (xs : List ℕ) → moved_back (x ∷ xs) ≡ xs ++ (x ∷ [])
unfolding moved_back
moved_cons x xs = refl

-- the first of n, turned by one, stand as they do after that
pub rotated_left : (n : ℕ) (xs ys : List ℕ) → length xs ≡ max_runs → 0 < n → n ≤ max_runs → length ys ≡ length (take n xs)
    → RotatedLeft (take n xs) ys (length (take n xs)) 1 → ys ++ drop n xs ≡ rotated n xs
rotated_left n xs ys e z h m r = ext_get_or 0 (ys ++ drop n xs) (rotated n xs) (all ∙ sym (rotated_eight n xs)) (λ k l. by k (omega (arith, all, l)) (comes n k))
  where
    long : length (take n xs) ≡ n
    long = length-take-le n xs (omega (arith, h, e))

    all : length (ys ++ drop n xs) ≡ max_runs
    all = let a = length-append ys (drop n xs) in let d = length-drop n xs in let t = long in omega (arith, a, d, m, t, e, h)

    by : (k : ℕ) → k < max_runs → Comes n k → get_or (ys ++ drop n xs) k 0 ≡ get_or (rotated n xs) k 0
    by k l c = at c ∙ sym (rotated_at n xs k l)
      where
        t : length (take n xs) ≡ n
        t = long

        at : Comes n k → get_or (ys ++ drop n xs) k 0 ≡ get_or xs (source n k) 0
        at (next a f) =
            get_or-append ys (drop n xs) 0 k (omega (arith, m, t, a)) ∙ r.0 k 0 (omega (arith, t, a)) ∙ get_or-take n xs (k + 1) 0 a
            ∙ sym (ap (λ j. get_or xs j 0) f)
        at (last a f) =
            let s : k + 1 - length (take n xs) ≡ 0 = omega (arith, t, a) in
            get_or-append ys (drop n xs) 0 k (omega (arith, m, t, a)) ∙ r.1 k 0 (omega (arith, t, a)) (omega (arith, t, a))
            ∙ ap (λ j. get_or (take n xs) j 0) s ∙ get_or-take n xs 0 0 z ∙ sym (ap (λ j. get_or xs j 0) f)
        at (stays a f) =
            let s : k ≡ length ys + (k - n) = omega (arith, m, t, a) in
            let u : n + (k - n) ≡ k = omega (arith, a) in
            ap (λ j. get_or (ys ++ drop n xs) j 0) s ∙ get_or-append-add ys (drop n xs) (k - n) 0 ∙ get_or-drop n xs (k - n) 0
            ∙ ap (λ j. get_or xs j 0) u ∙ sym (ap (λ j. get_or xs j 0) f)

-- every place is free
in_turn : (i : ℕ) → i < max_runs → get_or (0 ∷ 1 ∷ 2 ∷ 3 ∷ 4 ∷ 5 ∷ 6 ∷ 7 ∷ []) i 0 ≡ i
in_turn zero h = refl
in_turn (suc zero) h = refl
in_turn (suc (suc zero)) h = refl
in_turn (suc (suc (suc zero))) h = refl
in_turn (suc (suc (suc (suc zero)))) h = refl
in_turn (suc (suc (suc (suc (suc zero))))) h = refl
in_turn (suc (suc (suc (suc (suc (suc zero)))))) h = refl
in_turn (suc (suc (suc (suc (suc (suc (suc zero))))))) h = refl
in_turn (suc (suc (suc (suc (suc (suc (suc (suc k)))))))) h = absurd (omega (arith, h))

pub whole_none : Whole (record { order = 0 ∷ 1 ∷ 2 ∷ 3 ∷ 4 ∷ 5 ∷ 6 ∷ 7 ∷ []; count = 0 })
whole_none =
    record {
      few = omega arith;
      eight = refl;
      places = λ i h. subst (λ x. x < max_runs) (sym (in_turn i h)) h;
      apart = λ i j h l e. sym (in_turn i h) ∙ e ∙ in_turn j l;
    }

pub whole_joined : (q : Queue) → Whole q → q.count < max_runs → Whole (record { order = q.order; count = q.count + 1 })
whole_joined q w h = record { few = omega (arith, h); eight = w.eight; places = w.places; apart = w.apart }
