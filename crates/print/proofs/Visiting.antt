-- Laws of the preorder: what comes from a node on follows from its place alone, so that each node comes once; and what comes behind it is what its
-- links lead to. Assumes nothing.
use mathlib.Core.Bool.{Bool, true, false, true≢false}
use mathlib.Core.List.{List, [], ◌∷◌, ◌++◌, append_assoc, append-nil}
use mathlib.Core.Option.{none, some}
use mathlib.Core.Option as Places
use Rattle.std.specs.Prelude.{Option, Some, None}
use mathlib.Core.Path.{◌≡◌, refl, sym, ◌∙◌, ap, subst}
use native.Mathlib.Numerals.{add-one}
use native.Mathlib.Omega.{arith}
use Prim.Native.Nat.{ℕ, zero, suc, ◌+◌, ◌-◌, ◌≤◌, ◌<◌}
use lib.Dec.{ltb}
use lib.ListN.{length, drop, get_or, length-append, length-drop}
use borrow.Author.Tests.{ltb-true, ltb-false}
use lib.Seq.{drop-nil, drop-cons, drop-append-le, drop-append-add}
use Rattle.rules.specs.Tree.{Forest, nil, tree, Side, child, sibling, along, Place, root, to, up, sub, exists, size}
use Rattle.table.specs.Cells.{Table}
use Rattle.table.specs.Holds.{Holds}
use Rattle.table.specs.Promises.{Leads, outside, missing, found}
use Rattle.print.specs.declared.preorder.Visit.{Visit}
use Rattle.table.proofs.Moves.{stands, to_root}
use Rattle.print.specs.Preorder.{Stop, stop, preorder, Stands, depth, later, from, Goes, First, Begins}

-- there are as many as the tree has nodes
pub length_preorder : (p : Place) (d : ℕ) (f : Forest) → length (preorder p d f) ≡ size f
unfolding preorder size
length_preorder p d nil = refl
length_preorder p d (tree l c r) =
    ap suc (length-append (preorder (to child p) (suc d) c) (preorder (to sibling p) d r)
    ∙ (λ i. length_preorder (to child p) (suc d) c i + length_preorder (to sibling p) d r i))

clash : {s : Stop} {u : List Stop} → ◌≡◌ {A = List Stop} [] (s ∷ u) → ⊥
clash e = let z : ◌≡◌ {A = ℕ} 0 1 = cc in omega arith

-- one element less
dropped : (k : ℕ) (l : List Stop) {s : Stop} {u : List Stop} → drop k l ≡ s ∷ u → drop (suc k) l ≡ u
dropped k [] e = absurd (clash (sym (drop-nil k) ∙ e))
dropped zero (y ∷ l) e = cc
dropped (suc k) (y ∷ l) e = dropped k l e

-- an element of the first of two lists
among : (a b : List Stop) (j : ℕ) {s : Stop} {u : List Stop} → j < length a → drop j (a ++ b) ≡ s ∷ u → drop j a ≡ s ∷ drop (suc j) a
among a b j {s} lt e =
    let front = drop-cons a j s lt in
    let both : get_or a j s ∷ (drop (suc j) a ++ b) ≡ s ∷ _ = sym (ap (λ l. l ++ b) front) ∙ sym (drop-append-le j a b (omega arith)) ∙ e in
    let same : get_or a j s ≡ s = cc in
    front ∙ ap (λ x. x ∷ drop (suc j) a) same

-- siblings with a first node, and none
first_of : (p : Place) (d : ℕ) (f : Forest) (l : List Stop) → exists f ≡ true
    → preorder p d f ++ l ≡ stop p d ∷ (preorder (to child p) (suc d) (along child f) ++ (preorder (to sibling p) d (along sibling f) ++ l))
unfolding exists preorder along
first_of p d nil l e = absurd (true≢false (sym e))
first_of p d (tree k c r) l e = ap (λ z. stop p d ∷ z) (append_assoc (preorder (to child p) (suc d) c) (preorder (to sibling p) d r) l)

none_of : (p : Place) (d : ℕ) (f : Forest) (l : List Stop) → exists f ≡ false → preorder p d f ++ l ≡ l
unfolding exists preorder
none_of p d nil l e = refl
none_of p d (tree k c r) l e = absurd (true≢false e)

there : (d : Side) (f : Forest) → exists (along d f) ≡ true → exists f ≡ true
unfolding exists along
there child nil h = h
there sibling nil h = h
there child (tree l c r) h = refl
there sibling (tree l c r) h = refl

decide : {X : Type 0} (b : Bool) → (b ≡ true → X) → (b ≡ false → X) → X
decide true f g = f refl
decide false f g = g refl

-- what comes from a node on, and its depth, follow from its place alone
module _ (t : Forest) where
  Told : Place → Forest → ℕ → Place → ℕ → Type 0
  Told p f k q e = (drop k (preorder p (depth p) f) ++ later t p ≡ from t q) × (e ≡ depth q)

  told : (p : Place) (f : Forest) → sub p t ≡ f → (k : ℕ) {q : Place} {e : ℕ} {u : List Stop} → drop k (preorder p (depth p) f) ≡ stop q e ∷ u
      → Told p f k q e
  unfolding Told preorder from later depth sub along
  told p nil h k i = absurd (clash (sym (drop-nil k) ∙ i))
  told p (tree l c r) h zero {q} {e} i =
      let same : p ≡ q = cc in
      let deep : depth p ≡ e = cc in
      (ap (λ f. preorder p (depth p) f ++ later t p) (sym h) ∙ ap (from t) same, sym deep ∙ ap depth same)
  told p (tree l c r) h (suc j) {q} {e} {u} i =
      let a = preorder (to child p) (suc (depth p)) c in
      let b = preorder (to sibling p) (depth p) r in
      let right : sub (to sibling p) t ≡ r = ap (along sibling) h in
      decide (ltb j (length a))
      (λ lt.
      let it = told (to child p) c (ap (along child) h) j (among a b j (ltb-true j (length a) lt) i) in (
        ap (λ l. l ++ later t p) (drop-append-le j a b (omega (arith, ltb-true j (length a) lt))) ∙ append_assoc (drop j a) b (later t p)
            ∙ ap (λ f. drop j a ++ (preorder (to sibling p) (depth p) f ++ later t p)) (sym right) ∙ it.0,
        it.1,
      ))
      (λ ge.
      let far : j ≡ length a + (j - length a) = omega (arith, ltb-false j (length a) ge) in
      let past : drop j (a ++ b) ≡ drop (j - length a) b = ap (λ k. drop k (a ++ b)) far ∙ drop-append-add a b (j - length a) in
      let it = told (to sibling p) r right (j - length a) (sym past ∙ i) in
      (ap (λ l. l ++ later t p) past ∙ it.0, it.1))

  -- the node number k of the tree
  numbered : (k : ℕ) {p : Place} {d : ℕ} {u : List Stop} → drop k (preorder root 0 t) ≡ stop p d ∷ u
      → (drop k (preorder root 0 t) ≡ from t p) × (d ≡ depth p)
  unfolding Told later depth sub
  numbered k e = let it = told root t refl k e in (sym (append-nil _) ∙ it.0, it.1)

  -- each node comes once
  pub once : (j k : ℕ) {p : Place} {d e : ℕ} {u v : List Stop} → drop j (preorder root 0 t) ≡ stop p d ∷ u → drop k (preorder root 0 t) ≡ stop p e ∷ v → j ≡ k
  once j k x y =
      omega (
        arith,
        length-drop j (preorder root 0 t),
        length-drop k (preorder root 0 t),
        ap length x,
        ap length y,
        ap length (numbered j x).0,
        ap length (numbered k y).0,
      )

  -- behind a node comes what comes from its first child on; where there is no node, what comes later
  begins : (p : Place) → exists (sub p t) ≡ true → from t p ≡ stop p (depth p) ∷ from t (to child p)
  unfolding from later depth sub
  begins p h = first_of p (depth p) (sub p t) (later t p) h

  skips : (p : Place) → exists (sub p t) ≡ false → from t p ≡ later t p
  unfolding from
  skips p h = none_of p (depth p) (sub p t) (later t p) h

  -- what comes behind a node without children, or behind the last of siblings, is what comes from the parent's right sibling on
  climbs : (p q : Place) → up p ≡ some q → (later t p ≡ from t (to sibling q)) × (depth p ≡ suc (depth q))
  unfolding up later from depth
  climbs root q e = absurd (let z : ◌≡◌ {A = ℕ} 0 1 = cc in omega arith)
  climbs (to child p) q e = let same : p ≡ q = cc in (ap (λ z. from t (to sibling z)) same, ap (λ z. suc (depth z)) same)
  climbs (to sibling p) q e = climbs p q e

  ends : (p : Place) → up p ≡ none → later t p ≡ []
  unfolding up later
  ends root e = refl
  ends (to child p) e = absurd (let z : ◌≡◌ {A = ℕ} 0 1 = cc in omega arith)
  ends (to sibling p) e = ends p e

  -- a node at the root's depth has no parent
  top : (p : Place) → depth p ≡ 0 → up p ≡ none
  unfolding up depth
  top root e = refl
  top (to child p) e = absurd (omega arith)
  top (to sibling p) e = top p e

  -- the parent of a node is one
  above : (p q : Place) → up p ≡ some q → exists (sub p t) ≡ true → exists (sub q t) ≡ true
  unfolding up sub
  above root q e h = absurd (let z : ◌≡◌ {A = ℕ} 0 1 = cc in omega arith)
  above (to child p) q e h = let same : p ≡ q = cc in subst (λ z. exists (sub z t) ≡ true) same (there child (sub p t) h)
  above (to sibling p) q e h = above p q e (there sibling (sub p t) h)

-- the climb from the node at p has come to the table's place x at the depth d, past nodes that have no right sibling
pub record Climb (m : Table) (n used free : ℕ) (t : Forest) (p : Place) (x d : ℕ) : Type 0 where
  pub place : Place
  pub holds : Holds m n used free x t place
  pub deep : d ≡ depth place
  pub same : from t (to sibling p) ≡ from t (to sibling place)

module _ {m : Table} {n used free : ℕ} {t : Forest} where
  -- a move that leads to a place of the table has come to a node
  moved : {o : Places.Option Place} {r : ℕ} → Leads m n used free t o r → r < n → (q : Place) × (o ≡ some q) × Holds m n used free r t q
  moved (outside ge e) lt = absurd (omega arith)
  moved (missing q ge e x) lt = absurd (omega arith)
  moved (found q le e h) lt = (q, e, h)

  -- one that leads to none would have come to no node
  stuck : {o : Places.Option Place} {r : ℕ} (q : Place) → Leads m n used free t o r → n ≤ r → o ≡ some q → exists (sub q t) ≡ false
  stuck q (outside ge e) le i = absurd (let z : ◌≡◌ {A = ℕ} 0 1 = cc in omega arith)
  stuck q (missing q' ge e x) le i = let same : q' ≡ q = cc in subst (λ z. exists (sub z t) ≡ false) same x
  stuck q (found q' lt e h) le i = absurd (omega arith)

  -- a node from which the walk goes on
  arrives : {k x d : ℕ} (q : Place) → drop k (preorder root 0 t) ≡ from t q → Holds m n used free x t q → d ≡ depth q → Stands m n used free t k x d
  arrives q e h deep = record {
    place = q;
    rest = from t (to child q);
    ahead = e ∙ begins t q (stands h) ∙ ap (λ z. stop q z ∷ from t (to child q)) (sym deep);
    holds = h;
  }

  pub climb : {x d : ℕ} (p : Place) → Holds m n used free x t p → d ≡ depth p → Climb m n used free t p x d
  climb p h e = record { place = p; holds = h; deep = e; same = refl }

  module _ {p : Place} {x d r : ℕ} (c : Climb m n used free t p x d) (right : Leads m n used free t (some (to sibling c.place)) r) where
    -- there is a right sibling
    pub passes : r < n → Begins m n used free t (from t (to sibling p)) r d
    unfolding depth
    passes lt =
        let w = moved right lt in
        let same : to sibling c.place ≡ w.0 = cc w.1 in
        record { place = w.0; holds = w.2; deep = c.deep ∙ ap depth same; same = c.same ∙ ap (from t) same }

    module _ (last : n ≤ r) where
      remains : from t (to sibling p) ≡ later t c.place
      unfolding later
      remains = c.same ∙ skips t (to sibling c.place) (stuck (to sibling c.place) right last refl)

      -- there is none, and no parent
      pub tops : d ≡ 0 → from t (to sibling p) ≡ []
      tops z = remains ∙ ends t c.place (top t c.place (sym c.deep ∙ z))

      module _ {s : ℕ} (parent : Leads m n used free t (up c.place) s) where
        pub leaves : n ≤ s → from t (to sibling p) ≡ []
        leaves le = remains ∙ ends t c.place (orphan (up c.place) refl)
          where
            orphan : (o : Places.Option Place) → up c.place ≡ o → up c.place ≡ none
            orphan none e = e
            orphan (some q) e = absurd (true≢false (sym (above t c.place q e (stands c.holds)) ∙ stuck q parent le e))

        -- there is none, but a parent
        pub rises : {e : ℕ} → s < n → d ≡ suc e → Climb m n used free t p s e
        rises lt z =
            let w = moved parent lt in
            let up-there = climbs t c.place w.0 w.1 in record {
              place = w.0;
              holds = w.2;
              deep = omega (arith, c.deep, up-there.1);
              same = remains ∙ up-there.0;
            }

  module _ {k x d : ℕ} (s : Stands m n used free t k x d) where
    -- behind the node comes what comes from its first child on
    behind : drop (suc k) (preorder root 0 t) ≡ from t (to child s.place)
    behind = dropped k (preorder root 0 t) ((numbered t k s.ahead).0 ∙ begins t s.place (stands s.holds))

    pub deep : d ≡ depth s.place
    deep = (numbered t k s.ahead).1

    pub number_below : k < size t
    number_below = omega (arith, length_preorder root 0 t, length-drop k (preorder root 0 t), ap length s.ahead)

    module _ {r : ℕ} (first : Leads m n used free t (some (to child s.place)) r) where
      -- there is one
      pub goes_down : r < n → Stands m n used free t (suc k) r (d + 1)
      unfolding depth
      goes_down lt =
          let w = moved first lt in
          let same : to child s.place ≡ w.0 = cc w.1 in
          arrives w.0 (behind ∙ ap (from t) same) w.2 (omega (arith, deep, ap depth same))

      -- there is none
      passed : n ≤ r → drop (suc k) (preorder root 0 t) ≡ from t (to sibling s.place)
      unfolding later from depth sub
      passed le = behind ∙ skips t (to child s.place) (stuck (to child s.place) first le refl)

      pub goes_on_law : n ≤ r → (o : Option Visit) → First m n used free t (from t (to sibling s.place)) o → Goes m n used free t (suc k) o
      goes_on_law le (Some v) b = arrives b.place (passed le ∙ b.same) b.holds b.deep
      goes_on_law le None e =
          omega (arith, number_below, length_preorder root 0 t, length-drop (suc k) (preorder root 0 t), ap length (passed le ∙ e))

  -- the walk starts at the root
  pub begun : {x : ℕ} {p : Place} → Holds m n used free x t p → Stands m n used free t 0 0 0
  unfolding from later depth sub
  begun h = arrives root (sym (append-nil _)) (to_root h) refl

  pub goes : {k x d : ℕ} → Stands m n used free t (suc k) x d → Stands m n used free t (k + 1) x d
  goes {k} {x} {d} s = subst (λ j. Stands m n used free t j x d) (sym (add-one k)) s
