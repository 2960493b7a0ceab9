-- What the open blocks remember, after each change: where an action moves or removes nodes, each block knows where its own stands then; a block that is opened
-- or has ended leaves what the others remember alone. Assumes nothing.
use mathlib.Core.Path.{◌≡◌, refl, sym, ap, subst, ◌∙◌}
use mathlib.Core.Logic.{◌⊎◌, inl, inr}
use mathlib.Core.Bool.{cond}
use mathlib.Core.Option
use mathlib.Core.Option.{Option, none, some, bind, none-ne-some, some-injective}
use mathlib.Core.List.{List, ◌∷◌, map}
use Prim.Native.Nat.{ℕ, suc, ◌+◌, ◌-◌, ◌%◌, ◌<◌, ◌≤◌}
use native.Mathlib.Omega.{arith}
use lib.Dec.{ltb}
use lib.ListN.{length, set, length-set}
use lib.Seq.{get_or-set_same, get_or-set_other}
use borrow.Author.Tests.{lt-ltb}
use Rattle.rules.proofs.Tests.{Test, holds, fails, test}
use Rattle.rules.specs.Limits.{max_nodes, max_depth}
use Rattle.rules.specs.Tree.{Forest, Place}
use Rattle.rules.specs.Run.{Saved, Block, on_saved, on_block}
use Rattle.table.specs.Cells.{Table}
use Rattle.table.specs.Holds.{Holds}
use Rattle.table.specs.Since.{never, number, kept, Remembers, stands}
use Rattle.table.specs.Since as Since
use Rattle.std.specs.Prelude.{None, Some}
use Rattle.table.proofs.Remembering.{kept_new, kept_other, Relocates, remembers_after}
use Rattle.actions.specs.declared.marks.Saved as Code
use Rattle.actions.specs.Marks.{count_at, place_at, level_at, marks_size, Marked, nothing, plain, saved, saving, dropping, Recalled, found, lost, Recalls}

module _ {m : Table} {n used free : ℕ} {t : Forest} {ks : List ℕ} where
  -- no more than there are open blocks
  pub marked_few : {k : ℕ} {bs : List Block} → Marked m n used free t ks k bs → k ≤ length bs
  marked_few nothing = omega arith
  marked_few (plain b e h) = let l = marked_few h in omega arith
  marked_few (saved b r e d p v c h) = let l = marked_few h in omega arith

  -- by other numbers that say the same
  remembers_by : {ks' : List ℕ} {k y : ℕ} {o : Option Place} → number ks' y ≡ number ks y → Remembers m n used free t ks k y o → Remembers m n used free t ks' k y o
  remembers_by e (stands p h z) = stands p h (omega arith)
  remembers_by e (Since.lost z) = Since.lost (omega arith)

  pub marked_by : {ks' : List ℕ} {k : ℕ} {bs : List Block} → ((y : ℕ) → y < max_nodes → number ks' y ≡ number ks y)
      → ((i : ℕ) → i < k → (number ks' (place_at i) ≡ number ks (place_at i)) × (number ks' (level_at i) ≡ number ks (level_at i)))
      → Marked m n used free t ks k bs → Marked m n used free t ks' k bs
  marked_by low high nothing = nothing
  marked_by low high (plain b e h) = plain b e (marked_by low high h)
  marked_by {ks'} low high (saved {k} b r e d p v c h) =
      let z = high k (omega arith) in
      saved b r e d (omega (arith, z.0)) (ap (λ (i : ℕ). i % 256) z.1 ∙ v)
      (subst (λ y. Remembers m n used free t ks' k y r.place) (sym z.0) (remembers_by (low _ p) c)) (marked_by low (λ i l. high i (omega arith)) h)

  -- by no block
  pub marked_none : {m' : Table} {n' used' free' : ℕ} {t' : Forest} {ks' : List ℕ} (f : Place → Option Place) {k : ℕ} {bs : List Block} → k ≡ 0
      → Marked m n used free t ks k bs → Marked m' n' used' free' t' ks' k (map (on_block f) bs)
  unfolding on_block
  marked_none f z nothing = nothing
  marked_none f z (plain b e h) = plain (on_block f b) (ap (Option.map (on_saved f)) e) (marked_none f z h)
  marked_none f z (saved b r e d p v c h) = absurd (omega arith)

-- without the innermost block, which remembers nothing
pub marked_rest : {m : Table} {n used free : ℕ} {t : Forest} {ks : List ℕ} {k : ℕ} {b : Block} {bs : List Block} → b.saved ≡ none
    → Marked m n used free t ks k (b ∷ bs) → Marked m n used free t ks k bs
marked_rest e (plain b z h) = h
marked_rest e (saved b r z d p v c h) = absurd (none-ne-some r (sym e ∙ z))

-- where every node stays
pub stands_still : {m m' : Table} {n used free used' free' : ℕ} {t t' : Forest} {ks : List ℕ}
    → ((y : ℕ) (q : Place) → Holds m n used free y t q → Holds m' n used' free' y t' q) → Relocates some m n used free t ks m' used' free' t' ks
stands_still {m' = m'} {n} {used' = used'} {free'} {t' = t'} h =
    record {
      moved = λ y q r k e. subst (Holds m' n used' free' y t') (some-injective _ _ e) (h y q k);
      same = λ y q r k e. refl;
      gone = λ y q k e. absurd (none-ne-some _ (sym e));
      either = λ y. inl refl;
    }

module _ {f : Place → Option Place} {m m' : Table} {n used free used' free' : ℕ} {t t' : Forest} {ks ks' : List ℕ}
    (moves : Relocates f m n used free t ks m' used' free' t' ks') (behind : (y : ℕ) → max_nodes ≤ y → number ks' y ≡ number ks y) where
  pub marked_after : {k : ℕ} {bs : List Block} → Marked m n used free t ks k bs → Marked m' n used' free' t' ks' k (map (on_block f) bs)
  unfolding on_block on_saved
  marked_after nothing = nothing
  marked_after (plain b e h) = plain (on_block f b) (ap (Option.map (on_saved f)) e) (marked_after h)
  marked_after (saved {k} b r e d p v c h) =
      let z = behind (place_at k) (omega arith) in
      saved (on_block f b) (on_saved f r) (ap (Option.map (on_saved f)) e) d (omega arith) (ap (λ (i : ℕ). i % 256) (behind (level_at k) (omega arith)) ∙ v)
      (subst (λ y. Remembers m' n used' free' t' ks' k y (bind r.place f)) (sym z) (remembers_after moves (omega arith) c)) (marked_after h)

-- a number that is kept is one of a place
kept_at : (ks : List ℕ) (x k y : ℕ) → (y ≡ x → ⊥) → Test (ltb k (number ks x)) → number (kept ks x k) y ≡ number ks y
unfolding kept
kept_at ks x k y ne (holds z) = rw z (get_or-set_other ks x y k 0 ne)
kept_at ks x k y ne (fails z) = rw z

kept_long : (ks : List ℕ) (x k : ℕ) → Test (ltb k (number ks x)) → length (kept ks x k) ≡ length ks
unfolding kept
kept_long ks x k (holds z) = rw z (length-set ks x k)
kept_long ks x k (fails z) = rw z

-- block k remembers the place x and the level l
module _ (ks : List ℕ) (x l : ℕ) (long : marks_size ≤ length ks) (small : x < max_nodes) (deep : number ks count_at < max_depth) where
  abbrev k : ℕ
  k = number ks count_at

  abbrev ks₁ : List ℕ
  ks₁ = kept ks x k

  abbrev ks₂ : List ℕ
  ks₂ = set ks₁ (place_at k) x

  abbrev ks₃ : List ℕ
  ks₃ = set ks₂ (level_at k) l

  abbrev ks₄ : List ℕ
  ks₄ = set ks₃ count_at (k + 1)

  is_saving : saving ks x l ≡ ks₄
  unfolding saving
  is_saving = rw (lt-ltb k max_depth deep)

  long₁ : length ks₁ ≡ length ks
  long₁ = kept_long ks x k (test _)

  long₃ : length ks₃ ≡ length ks
  long₃ = length-set ks₂ (level_at k) l ∙ length-set ks₁ (place_at k) x ∙ long₁

  -- the count, the place and the level
  count_is : number ks₄ count_at ≡ k + 1
  count_is = get_or-set_same ks₃ count_at (k + 1) 0 (omega (arith, long₃))

  place_is : number ks₄ (place_at k) ≡ x
  place_is =
      get_or-set_other ks₃ count_at (place_at k) (k + 1) 0 (λ e. omega arith) ∙ get_or-set_other ks₂ (level_at k) (place_at k) l 0 (λ e. omega arith)
      ∙ get_or-set_same ks₁ (place_at k) x 0 (omega (arith, long₁))

  level_is : number ks₄ (level_at k) ≡ l
  level_is =
      get_or-set_other ks₃ count_at (level_at k) (k + 1) 0 (λ e. omega arith)
      ∙ get_or-set_same ks₂ (level_at k) l 0 (omega (arith, long₁, length-set ks₁ (place_at k) x))

  -- all else is as it was, but for what is kept
  else_is : (y : ℕ) → (y ≡ count_at → ⊥) → (y ≡ place_at k → ⊥) → (y ≡ level_at k → ⊥) → number ks₄ y ≡ number ks₁ y
  else_is y a b c =
      get_or-set_other ks₃ count_at y (k + 1) 0 a ∙ get_or-set_other ks₂ (level_at k) y l 0 c ∙ get_or-set_other ks₁ (place_at k) y x 0 b

  -- what older blocks remember
  older : {m : Table} {n used free : ℕ} {t : Forest} {j : ℕ} {bs : List Block} → j ≤ k → Marked m n used free t ks j bs → Marked m n used free t ks₁ j bs
  older le nothing = nothing
  older le (plain b e h) = plain b e (older le h)
  older {m} {n} {used} {free} {t} le (saved {k = j} b r e d p v c h) =
      let q : number ks₁ (place_at j) ≡ number ks (place_at j) = kept_at ks x k (place_at j) (λ i. omega arith) (test _) in
      let w : number ks₁ (level_at j) ≡ number ks (level_at j) = kept_at ks x k (level_at j) (λ i. omega arith) (test _) in
      saved b r e d (omega arith) (ap (λ (i : ℕ). i % 256) w ∙ v)
      (subst (λ y. Remembers m n used free t ks₁ j y r.place) (sym q) (kept_other ks x k (omega (arith, long)) (omega arith) c)) (older (omega arith) h)

  pub marked_saving : {m : Table} {n used free : ℕ} {t : Forest} {bs : List Block} {p : Place} (b : Block) (r : Saved) → b.saved ≡ some r → r.place ≡ some p → l % 256 ≡ r.level
      → Holds m n used free x t p → Marked m n used free t ks k bs → Marked m n used free t (saving ks x l) (number (saving ks x l) count_at) (b ∷ bs)
  marked_saving {m} {n} {used} {free} {t} {bs} {p} b r e at level h old =
      subst (λ z. Marked m n used free t z (number z count_at) (b ∷ bs)) (sym is_saving)
      (subst (λ j. Marked m n used free t ks₄ j (b ∷ bs)) (sym (count_is ∙ omega arith))
      (saved b r e deep (omega (arith, place_is)) (ap (λ (i : ℕ). i % 256) level_is ∙ level)
      (subst (λ o. Remembers m n used free t ks₄ k (number ks₄ (place_at k)) o) (sym at)
      (subst (λ y. Remembers m n used free t ks₄ k y (some p)) (sym place_is)
      (remembers_by (else_is x (λ i. omega arith) (λ i. omega arith) (λ i. omega arith)) (kept_new ks x k (omega arith) h))))
      (marked_by (λ y s. else_is y (λ i. omega arith) (λ i. omega arith) (λ i. omega arith))
      (λ i s. (else_is (place_at i) (λ i. omega arith) (λ i. omega arith) (λ i. omega arith), else_is (level_at i) (λ i. omega arith) (λ i. omega arith) (λ i. omega arith)))
      (older (omega arith) old))))

pub saving_long : (ks : List ℕ) (x l : ℕ) → length (saving ks x l) ≡ length ks
unfolding saving
saving_long ks x l = go (test (ltb (number ks count_at) max_depth))
  where
    go : Test (ltb (number ks count_at) max_depth) → length (cond (ltb (number ks count_at) max_depth) (set (set (set (kept ks x (number ks count_at)) (place_at (number ks count_at)) x) (level_at (number ks count_at)) l) count_at (number ks count_at + 1)) ks) ≡ length ks
    go (holds z) = rw z (simp length-set (kept_long ks x (number ks count_at) (test _)))
    go (fails z) = rw z

pub dropping_long : (ks : List ℕ) → length (dropping ks) ≡ length ks
unfolding dropping
dropping_long ks = length-set ks count_at _

-- the innermost block has ended
pub marked_dropping : {m : Table} {n used free : ℕ} {t : Forest} (ks : List ℕ) → marks_size ≤ length ks → {b : Block} {bs : List Block} {r : Saved} → b.saved ≡ some r
    → Marked m n used free t ks (number ks count_at) (b ∷ bs) → Marked m n used free t (dropping ks) (number (dropping ks) count_at) bs
unfolding dropping
marked_dropping {m} {n} {used} {free} {t} ks long {b} {bs} {r} e h = go (number ks count_at) refl h
  where
    off : (j y : ℕ) → (y ≡ count_at → ⊥) → number (set ks count_at j) y ≡ number ks y
    off j y ne = get_or-set_other ks count_at y j 0 ne

    go : (k : ℕ) → number ks count_at ≡ k → Marked m n used free t ks k (b ∷ bs)
        → Marked m n used free t (set ks count_at (number ks count_at - 1)) (number (set ks count_at (number ks count_at - 1)) count_at) bs
    go k z (plain b' e' h') = absurd (none-ne-some r (sym e' ∙ e))
    go (suc k) z (saved b' r' e' d p v c h') =
        let i : number (set ks count_at (number ks count_at - 1)) count_at ≡ k = get_or-set_same ks count_at (number ks count_at - 1) 0 (omega arith) ∙ omega arith in
        subst (λ j. Marked m n used free t (set ks count_at (number ks count_at - 1)) j bs) (sym i)
        (marked_by (λ y s. off _ y (λ q. omega arith)) (λ y s. (off _ (place_at y) (λ q. omega arith), off _ (level_at y) (λ q. omega arith))) h')

-- what the innermost block remembers, which comes back
record Top (m : Table) (n used free : ℕ) (t : Forest) (ks : List ℕ) (j : ℕ) (q : Saved) : Type 0 where
  k : ℕ
  is : j ≡ suc k
  deep : k < max_depth
  level : number ks (level_at k) % 256 ≡ q.level
  recalls : Remembers m n used free t ks k (number ks (place_at k)) q.place

top : {m : Table} {n used free : ℕ} {t : Forest} {ks : List ℕ} {j : ℕ} {b : Block} {bs : List Block} {q : Saved} → Marked m n used free t ks j (b ∷ bs) → b.saved ≡ some q
    → Top m n used free t ks j q
top (plain b z h) e = absurd (none-ne-some _ (sym z ∙ e))
top {m} {n} {used} {free} {t} {ks} {q = q} (saved {k} b r z d p v c h) e =
    let i : r ≡ q = some-injective _ _ (sym z ∙ e) in
    record { k = k; is = refl; deep = d; level = v ∙ ap (λ s. s.level) i; recalls = subst (λ s. Remembers m n used free t ks k (number ks (place_at k)) s.place) i c }

module _ (ks : List ℕ) (n : ℕ) where
  abbrev last : ℕ
  last = number ks count_at - 1

  gone_by : {m : Table} {used free : ℕ} {t : Forest} {k x : ℕ} {o : Option Place} → (n ≤ x) ⊎ (k < number ks x) → Remembers m n used free t ks k x o → o ≡ none
  gone_by (inl ge) (stands p h z) = absurd (omega (arith, h.live, h.room))
  gone_by (inr lt) (stands p h z) = absurd (omega arith)
  gone_by s (Since.lost z) = refl

  -- none, where its node has gone
  pub recalls_none : (last < max_depth → (n ≤ number ks (place_at last)) ⊎ (last < number ks (number ks (place_at last)))) → Recalls ks n None
  recalls_none s =
      record {
        within = tt;
        recalls = λ m used free t b bs q h e.
            let a = top h e in
            let i : last ≡ a.k = omega (arith, a.is) in
            lost
            (gone_by (s (omega (arith, a.is, a.deep)))
            (subst (λ k. Remembers m n used free t ks k (number ks (place_at k)) q.place) (sym i) a.recalls));
      }

  here_by : {m : Table} {used free : ℕ} {t : Forest} {q : Saved} (s : Code.Saved) → number ks s.place ≤ last → s.level % 256 ≡ q.level
      → (o : Option Place) → q.place ≡ o → Remembers m n used free t ks last s.place o → Recalled m n used free t q (Some s)
  here_by s le l o e (stands p h z) = found s p e h l
  here_by s le l o e (Since.lost z) = absurd (omega arith)

  -- the node that stands there still
  pub recalls_one : (s : Code.Saved) → s.place ≡ number ks (place_at last) → s.level ≡ number ks (level_at last) → s.place < n → number ks s.place ≤ last
      → Recalls ks n (Some s)
  recalls_one s at by lt le =
      record {
        within = lt;
        recalls = λ m used free t b bs q h e.
            let a = top h e in
            let i : last ≡ a.k = omega (arith, a.is) in
            here_by s le (ap (λ (z : ℕ). z % 256) by ∙ ap (λ k. number ks (level_at k) % 256) i ∙ a.level) q.place refl
            (subst (λ x. Remembers m n used free t ks last x q.place) (sym at)
            (subst (λ k. Remembers m n used free t ks k (number ks (place_at k)) q.place) (sym i) a.recalls));
      }
