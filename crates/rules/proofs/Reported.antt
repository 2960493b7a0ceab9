-- The cleaner's report: it goes through the bytes once, so it has every byte that is changed, nothing else, in rising order of section, record and byte; of a clean job
-- it is empty. Assumes nothing.
use mathlib.Core.Path.{◌≡◌, refl, sym, ◌∙◌}
use mathlib.Core.Logic.{◌⊎◌, inl, inr}
use Prim.Native.Nat.{ℕ, zero, suc, ◌+◌, ◌-◌, ◌%◌, ◌/◌, ◌≤◌, ◌<◌}
use native.Mathlib.Omega.{arith}
use native.Mathlib.Decide.{ℕ_discrete, dec_lt}
use mathlib.Core.Bool.{true, false}
use mathlib.Core.List.Memᴰ
use mathlib.Core.List.{List, [], ◌∷◌, Memᴰ}
use lib.ListN.{length}
use lib.Dec.{ltb, eqb}
use borrow.Author.Tests.{ltb-true, ltb-false, eqb-true, eqb-false, not-true}
use Rattle.rules.specs.Bytes.{byte, nodes_at, script_at, trailer_at}
use Rattle.rules.specs.Check.{clean}
use Rattle.rules.specs.Clean.{spot_in, spot_of, is_read, cleaned, Change, change_at, is_dirty, changes, report, Before, Rising, CleanerRight}
use Rattle.rules.proofs.Tests.{Test, holds, fails, test, neither}
use Rattle.rules.proofs.Accepted.{right_by}
use Rattle.rules.proofs.Cleaned.{cleaned_agreed, cleaned_spare, cleaned_partly, cleaned_taken, cleaned_runs, clean_spare, clean_stays}

module _ (b : List ℕ) where
  -- one byte of the report
  pub changes_yes : (n at : ℕ) → is_dirty b at ≡ true → changes b (suc n) at ≡ change_at b at ∷ changes b n (suc at)
  unfolding changes
  changes_yes n at h = rw h

  pub changes_no : (n at : ℕ) → is_dirty b at ≡ false → changes b (suc n) at ≡ changes b n (suc at)
  unfolding changes
  changes_no n at h = rw h

  -- a byte that is changed is in it
  has : (n x at : ℕ) → x ≤ at → at < x + n → is_dirty b at ≡ true → Memᴰ (change_at b at) (changes b n x)
  has zero x at l m h = absurd (omega arith)
  has (suc n) x at l m h = by (ℕ_discrete x at) (test (is_dirty b x)) (λ k. has n (suc x) at k (omega arith) h)
    where
      by : Dec (x ≡ at) → Test (is_dirty b x) → (suc x ≤ at → Memᴰ (change_at b at) (changes b n (suc x))) → Memᴰ (change_at b at) (changes b (suc n) x)
      by (yes e) t g = rw e (rw (changes_yes n at h) (Memᴰ.head refl))
      by (no e) (holds t) g = rw (changes_yes n x t) (Memᴰ.tail (g (omega arith)))
      by (no e) (fails t) g = rw (changes_no n x t) (g (omega arith))

  -- what is in it is a byte that is changed
  record From (c : Change) (n x : ℕ) : Type 0 where
    at : ℕ
    above : x ≤ at
    below : at < x + n
    dirty : is_dirty b at ≡ true
    same : c ≡ change_at b at

  from : (c : Change) (n x : ℕ) → Memᴰ c (changes b n x) → From c n x
  unfolding changes
  from c zero x m = absurd (Memᴰ.not-nil m)
  from c (suc n) x m = by (test (is_dirty b x)) (λ k. from c n (suc x) k)
    where
      later : From c n (suc x) → From c (suc n) x
      later f = record { at = f.at; above = let z = f.above in omega arith; below = let z = f.below in omega arith; dirty = f.dirty; same = f.same }

      split : is_dirty b x ≡ true → (c ≡ change_at b x) ⊎ Memᴰ c (changes b n (suc x)) → (Memᴰ c (changes b n (suc x)) → From c n (suc x)) → From c (suc n) x
      split t (inl e) g = record { at = x; above = omega arith; below = omega arith; dirty = t; same = e }
      split t (inr k) g = later (g k)

      by : Test (is_dirty b x) → (Memᴰ c (changes b n (suc x)) → From c n (suc x)) → From c (suc n) x
      by (holds t) g = split t (Memᴰ.cases_cons (rw (changes_yes n x t) at m)) g
      by (fails t) g = later (g (rw (changes_no n x t) at m))

  -- a later byte stands later: in the same section by its record and its place there, or in a later section
  within : (s i j k l : ℕ) → Dec (i < k) → (k ≤ i → (i ≡ k) × (j < l)) → Before (record { section = s; index = i; byte = j }) (record { section = s; index = k; byte = l })
  unfolding Before
  within s i j k l (yes h) g = inr (refl, inl h)
  within s i j k l (no h) g = inr (refl, inr (g (omega arith)))

  pub before : (x y : ℕ) → x < y → Before (spot_of b x) (spot_of b y)
  unfolding spot_of spot_in Before
  before x y h =
      by (test (ltb x (nodes_at b))) (test (ltb x (script_at b))) (test (ltb x (trailer_at b))) (test (ltb y (nodes_at b))) (test (ltb y (script_at b)))
      (test (ltb y (trailer_at b)))
    where
      by : Test (ltb x (nodes_at b)) → Test (ltb x (script_at b)) → Test (ltb x (trailer_at b)) → Test (ltb y (nodes_at b)) → Test (ltb y (script_at b)) → Test (ltb y (trailer_at b))
          → Before (spot_of b x) (spot_of b y)
      by (holds p) q r (holds t) u v = rw (p, t) (within 0 ((x - 0) / 8) ((x - 0) % 8) ((y - 0) / 8) ((y - 0) % 8) (dec_lt _ _) (λ n. (omega arith, omega arith)))
      by (holds p) q r (fails t) (holds u) v = rw (p, t, u) (inl (omega arith))
      by (holds p) q r (fails t) (fails u) (holds v) = rw (p, t, u, v) (inl (omega arith))
      by (holds p) q r (fails t) (fails u) (fails v) = rw (p, t, u, v) (inl (omega arith))
      by (fails p) q r (holds t) u v = let z = ltb-false x (nodes_at b) p in let w = ltb-true y (nodes_at b) t in absurd (omega arith)
      by (fails p) (holds q) r (fails t) (holds u) v =
          let z = ltb-false x (nodes_at b) p in
          rw (p, q, t, u)
          (within 1 ((x - nodes_at b) / 12) ((x - nodes_at b) % 12) ((y - nodes_at b) / 12) ((y - nodes_at b) % 12) (dec_lt _ _) (λ n. (omega arith, omega arith)))
      by (fails p) (holds q) r (fails t) (fails u) (holds v) = rw (p, q, t, u, v) (inl (omega arith))
      by (fails p) (holds q) r (fails t) (fails u) (fails v) = rw (p, q, t, u, v) (inl (omega arith))
      by (fails p) (fails q) r (fails t) (holds u) v = let z = ltb-false x (script_at b) q in let w = ltb-true y (script_at b) u in absurd (omega arith)
      by (fails p) (fails q) (holds r) (fails t) (fails u) (holds v) =
          let z = ltb-false x (script_at b) q in
          rw (p, q, r, t, u, v)
          (within 2 ((x - script_at b) / 16) ((x - script_at b) % 16) ((y - script_at b) / 16) ((y - script_at b) % 16) (dec_lt _ _) (λ n. (omega arith, omega arith)))
      by (fails p) (fails q) (holds r) (fails t) (fails u) (fails v) = rw (p, q, r, t, u, v) (inl (omega arith))
      by (fails p) (fails q) (fails r) (fails t) (fails u) (holds v) = let z = ltb-false x (trailer_at b) r in let w = ltb-true y (trailer_at b) v in absurd (omega arith)
      by (fails p) (fails q) (fails r) (fails t) (fails u) (fails v) =
          let z = ltb-false x (trailer_at b) r in
          rw (p, q, r, t, u, v)
          (within 3 ((x - trailer_at b) / 8) ((x - trailer_at b) % 8) ((y - trailer_at b) / 8) ((y - trailer_at b) % 8) (dec_lt _ _) (λ n. (omega arith, omega arith)))

  rises : (n x : ℕ) → Rising (changes b n x)
  unfolding changes change_at
  rises zero x = tt
  rises (suc n) x = by (test (is_dirty b x)) (rises n (suc x))
    where
      later : (d : Change) → From d n (suc x) → Before (change_at b x).spot d.spot
      later d f = let z = f.above in rw f.same (before x f.at (omega arith))

      by : Test (is_dirty b x) → Rising (changes b n (suc x)) → Rising (changes b (suc n) x)
      by (holds t) r = rw (changes_yes n x t) ((λ d m. later d (from d n (suc x) m)), r)
      by (fails t) r = rw (changes_no n x t) r

  -- the bytes that are changed
  dirty_spare : (at : ℕ) → is_dirty b at ≡ true → (is_read b at ≡ false) × (byte b at ≡ 0 → ⊥)
  unfolding is_dirty
  dirty_spare at h = let z = neither (is_read b at) (eqb (byte b at) 0) (not-true _ h) in (z.0, eqb-false (byte b at) 0 z.1)

  changed_dirty : (at : ℕ) → (byte (cleaned b) at ≡ byte b at → ⊥) → (at < length b) × (is_dirty b at ≡ true)
  unfolding is_dirty
  changed_dirty at g = by (test (ltb at (length b))) (test (is_read b at)) (test (eqb (byte b at) 0))
    where
      by : Test (ltb at (length b)) → Test (is_read b at) → Test (eqb (byte b at) 0) → (at < length b) × (is_dirty b at ≡ true)
      by (fails t) u v = absurd (g ((cleaned_partly b).left at (ltb-false _ _ t)))
      by (holds t) (holds u) v = absurd (g ((cleaned_agreed b).bytes at u))
      by (holds t) (fails u) (holds v) = absurd (g (cleaned_spare b at (ltb-true _ _ t) u ∙ sym (eqb-true (byte b at) 0 v)))
      by (holds t) (fails u) (fails v) = (ltb-true _ _ t, rw (u, v))

  pub every : (at : ℕ) → (byte (cleaned b) at ≡ byte b at → ⊥) → Memᴰ (change_at b at) (report b)
  unfolding report
  every at g = let z = changed_dirty at g in has (length b) 0 at (omega arith) (omega arith) z.1

  pub only : (c : Change) → Memᴰ c (report b) → (at : ℕ) × ((c ≡ change_at b at) × ((byte b at ≡ 0 → ⊥) × (byte (cleaned b) at ≡ 0)))
  unfolding report
  only c m =
      let f = from c (length b) 0 m in
      let z = dirty_spare f.at f.dirty in (f.at, (f.same, (z.1, cleaned_spare b f.at (let y = f.below in omega arith) z.0)))

  pub rising : Rising (report b)
  unfolding report
  rising = rises (length b) 0

  none : ((x : ℕ) → is_dirty b x ≡ false) → (n x : ℕ) → changes b n x ≡ []
  unfolding changes
  none h zero x = refl
  none h (suc n) x = changes_no n x (h x) ∙ none h n (suc x)

  not_dirty : ((x : ℕ) → is_read b x ≡ false → byte b x ≡ 0) → (x : ℕ) → is_dirty b x ≡ false
  unfolding is_dirty
  not_dirty g x = by (test (is_read b x))
    where
      by : Test (is_read b x) → is_dirty b x ≡ false
      by (holds t) = rw t
      by (fails t) = rw (t, g x t)

  pub no_report : ((x : ℕ) → is_read b x ≡ false → byte b x ≡ 0) → report b ≡ []
  unfolding report
  no_report g = none (not_dirty g) (length b) 0

pub cleaner_right : CleanerRight
cleaner_right =
    record {
      cleans =
          λ b e. record {
            taken = cleaned_taken b e;
            runs = cleaned_runs b e;
            every = every b;
            only = only b;
            rising = rising b;
          };
      stays = λ b e. let s = right_by clean b e in record { bytes = clean_stays b s; report = no_report b (clean_spare b s) };
    }
