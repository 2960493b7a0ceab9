-- records that list a tree, each node followed by its whole subtree, pass check 13. Assumes nothing.
use mathlib.Core.Path.{◌≡◌, refl, sym, ap, subst}
use Prim.Native.Nat.{ℕ, zero, suc, ◌+◌, ◌-◌, ◌≤◌, ◌<◌}
use native.Mathlib.Omega.{arith}
use native.Mathlib.Decide.{ℕ_discrete}
use mathlib.Core.Bool.{Bool, true, false, ◌||◌, not}
use mathlib.Core.List.{List, [], ◌∷◌, ◌++◌}
use lib.ListN.{length}
use lib.Dec.{eqb, eqb-suc-zero}
use borrow.Author.Tests.{eqb-true, eqb-false, eq-eqb, ne_eqb, not-true}
use Rattle.rules.specs.Limits.{no_parent}
use Rattle.rules.specs.Tree.{Label, Forest, nil, tree, size}
use Rattle.rules.specs.Check.{parent, parent_rule, on_path, order_rule}
use Rattle.rules.specs.Job.{listed}
use Rattle.rules.proofs.Tests.{Test, holds, fails, test, both}
use Rattle.rules.specs.Write.{Entry, listing}
use Rattle.rules.proofs.Listing.{All, listing_length}
use Rattle.rules.proofs.Entries.{entry_of}
use Rattle.rules.proofs.Accepted.{parent_before}

-- a is record j or an ancestor of it
pub data Up (par : ℕ → ℕ) : ℕ → ℕ → Type 0 where
  here : {j : ℕ} → Up par j j
  above : {j a : ℕ} → (j ≡ 0 → ⊥) → Up par (par j) a → Up par j a

pub up_up : {par : ℕ → ℕ} {i j a : ℕ} → Up par i j → Up par j a → Up par i a
up_up here v = v
up_up (above n u) v = above n (up_up u v)

pub all_split : (P : ℕ → Entry → Type 0) (i m : ℕ) (xs ys : List Entry) → m ≡ i + length xs → All P i (xs ++ ys) → All P i xs × All P m ys
all_split P i m [] ys z f = let w : m ≡ i = omega arith in (tt, rw w f)
all_split P i m (x ∷ xs) ys z f = let r = all_split P (suc i) m xs ys (omega arith) f.1 in ((f.0, r.0), r.1)

or_right : (a : Bool) {c : Bool} → c ≡ true → (a || c) ≡ true
or_right true e = refl
or_right false e = e

-- for code that walks up from record j: it ends at p, or goes on from the parent, or ends above p
module _ (b : List ℕ) (base p : ℕ) where
  pub path_found : (n j : ℕ) → p ≡ j → on_path b base p n j ≡ true
  unfolding on_path
  path_found zero j e = eq-eqb p j e
  path_found (suc n) j e = rw (eq-eqb p j e)

  pub path_up : (n j : ℕ) → (p ≡ j → ⊥) → (j ≡ 0 → ⊥) → on_path b base p (suc n) j ≡ on_path b base p n (parent b base j)
  unfolding on_path
  path_up n j e z = rw (ne_eqb p j e, ne_eqb j 0 z)

module _ (b : List ℕ) (base : ℕ) where
  -- a way that is found
  pub path_is_up : (p n j : ℕ) → on_path b base p n j ≡ true → Up (parent b base) j p
  unfolding on_path
  path_is_up p zero j h = let e = eqb-true p j h in rw e here
  path_is_up p (suc n) j h = by (test (eqb p j)) (path_is_up p n (parent b base j))
    where
      by : Test (eqb p j) → (on_path b base p n (parent b base j) ≡ true → Up (parent b base) (parent b base j) p) → Up (parent b base) j p
      by (holds t) r = let e = eqb-true p j t in rw e here
      by (fails t) r =
          let x = both (not (eqb j 0)) (on_path b base p n (parent b base j)) (rw t at h) in
          above (eqb-false j 0 (not-true (eqb j 0) x.0)) (r x.1)

  -- an entry says which parent its record has
  abbrev Says : ℕ → Entry → Type 0
  Says i e = parent b base i ≡ e.parent

  says : (n i : ℕ) → All Says i (listed (entry_of b base) n i)
  unfolding listed entry_of
  says zero i = tt
  says (suc n) i = (refl, says n (suc i))

  module _ (m : ℕ) (parents : (i : ℕ) → i < m → parent_rule b base i ≡ true) where
    pub up_path : {j a : ℕ} → Up (parent b base) j a → (n : ℕ) → j ≤ n → j < m → on_path b base a n j ≡ true
    unfolding on_path
    up_path {j} here zero h l = eq-eqb j j refl
    up_path {j} here (suc n) h l = rw (eq-eqb j j refl)
    up_path {j} {a} (above w u) zero h l = absurd (w (omega arith))
    up_path {j} {a} (above w u) (suc n) h l =
        let d = parent_before b base j w (parents j l) in
        or_right (eqb a j) (rw (ne_eqb j 0 w) (up_path u n (omega arith) (omega arith)))

    pub path_below : (p n j : ℕ) → j < p → j < m → on_path b base p n j ≡ false
    unfolding on_path
    path_below p zero j h l = ne_eqb p j (λ e. omega arith)
    path_below p (suc n) zero h l = rw (ne_eqb p 0 (λ e. omega arith))
    path_below p (suc n) (suc j) h l =
        let d = parent_before b base (suc j) (λ e. omega arith) (parents (suc j) l) in
        rw (ne_eqb p (suc j) (λ e. omega arith), eqb-suc-zero j) (path_below p n (parent b base (suc j)) (omega arith) (omega arith))

    record Kept (p j : ℕ) (f : Forest) : Type 0 where
      rules : (k : ℕ) → j ≤ k → k < j + size f → order_rule b base k ≡ true
      up : Up (parent b base) (j + size f - 1) p

    kept : (p j : ℕ) (f : Forest) → 1 ≤ j → j + size f ≤ m → All Says j (listing p j f) → Up (parent b base) (j - 1) p → Kept p j f
    unfolding listing size order_rule
    kept p j nil o l s u =
        let z : j + 0 - 1 ≡ j - 1 = omega arith in record { rules = λ k a c. absurd (omega arith); up = rw z u }
    kept p j (tree x c r) o l s u =
        let q = all_split Says (suc j) (suc j + size c) (listing j (suc j) c) (listing p (suc j + size c) r)
        (ap (λ (n : ℕ). suc j + n) (sym (listing_length j (suc j) c))) s.1
        in
        let y : suc j - 1 ≡ j = omega arith in
        let below = kept j (suc j) c (omega arith) (omega arith) q.0 (rw y here) in
        let mine : Up (parent b base) j p = above {j = j} {a = p} (λ (e : j ≡ 0). omega arith) (rw s.0 here) in
        let right = kept p (suc j + size c) r (omega arith) (omega arith) q.1 (up_up below.up mine) in
        let w : j + suc (size c + size r) - 1 ≡ suc j + size c + size r - 1 = omega arith in
        record {
          rules = λ k a d. by k a d (ℕ_discrete j k) (test _) (below.rules k) (right.rules k);
          up = rw w right.up;
        }
      where
        first : order_rule b base j ≡ true
        first = or_right (eqb j 0) (rw s.0 (up_path u j (omega arith) (omega arith)))

        by : (k : ℕ) → j ≤ k → k < j + suc (size c + size r) → Dec (j ≡ k) → Test (lib.Dec.ltb k (suc j + size c))
            → (suc j ≤ k → k < suc j + size c → order_rule b base k ≡ true) → (suc j + size c ≤ k → k < suc j + size c + size r → order_rule b base k ≡ true)
            → order_rule b base k ≡ true
        by k a d (yes e) t x y = rw (← e) first
        by k a d (no e) (holds t) x y = let z = borrow.Author.Tests.ltb-true _ _ t in x (omega arith) z
        by k a d (no e) (fails t) x y = let z = borrow.Author.Tests.ltb-false _ _ t in y z (omega arith)

    -- a tree that is listed whole
    pub listing_ordered : (l : Label) (c : Forest) → size (tree l c nil) ≡ m → listed (entry_of b base) m 0 ≡ listing no_parent 0 (tree l c nil)
        → (k : ℕ) → k < m → order_rule b base k ≡ true
    unfolding listing size order_rule
    listing_ordered l c e h zero a = refl
    listing_ordered l c e h (suc k) a =
        let s = subst (All Says 0) h (says m 0) in
        let q = all_split Says 1 (1 + size c) (listing 0 1 c) [] (ap (λ (n : ℕ). 1 + n) (sym (listing_length 0 1 c))) s.1 in
        (kept 0 1 c (omega arith) (omega arith) q.0 here).rules (suc k) (omega arith) (omega arith)
