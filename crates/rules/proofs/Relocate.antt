-- What an action makes of the remembered places: each node that it leaves in the tree is found where it is relocated to, and it moves or removes a node
-- only where C is not above the node's existence. So a block whose guard raised the cursor level keeps its node, and an action in a position that a
-- reader does not see changes nothing of what that reader sees of the blocks. Assumes nothing.
use mathlib.Core.Path.{◌≡◌, refl, sym, ◌∙◌, ap}
use Prim.Native.Nat.{ℕ, suc}
use mathlib.Core.Bool.{Bool, true, false}
use mathlib.Core.Option
use mathlib.Core.Option.{Option, none, some, Option-elim, bind, some-injective}
use mathlib.Core.List.{List, [], ◌∷◌, map}
use lib.ListN.{length}
use Rattle.rules.specs.Level.{Level, public, join, not_above, is_level, visible}
use Rattle.rules.specs.Tree.{Forest, nil, tree, Place, to, sub, label, exists, after_insert}
use Rattle.rules.specs.Script.{Expression, Action}
use Rattle.rules.specs.Run.{Memory, Saved, Block, Buffers, next, context, with_variables, with_tree, with_cursor, with_line, position, assign, output, move_to, go_joining, go_to, go_to_last, may_touch, insert_at, remove_at, write, effect, relocate, on_saved, on_block}
use Rattle.rules.proofs.Tests.{Test, holds, fails, test, clash}
use Rattle.rules.proofs.Lattice.{na_left, na_right, na_trans, vis_down}
use Rattle.rules.proofs.Places.{Still, same_still, no_some, still_written, Fate, unmoved, moved, gone, fate_insert, fate_remove}
use Rattle.rules.proofs.Results.{Good, good_need, good_given, good_next}
use Rattle.rules.proofs.Sound.{Sound}
use Rattle.rules.proofs.View.{SeenBlock, seen_at, seen_saved, seen_block, looks}

module _ (lent : Buffers) (pc : Level) (m : Memory) (sound : Sound m) where
  module _ (q : Place) (stands : exists (sub q m.tree) ≡ true) where
    -- the node at q in another tree: its place is the same, or C is not above its existence
    pub data Follows (u : Forest) : Option Place → Type 0 where
      stays : Still (sub q m.tree) (sub q u) → Follows u (some q)
      moves : (r : Place) → not_above (position pc m) (label (sub q m.tree)).existence ≡ true → Still (sub q m.tree) (sub r u) → Follows u (some r)
      lost : not_above (position pc m) (label (sub q m.tree)).existence ≡ true → Follows u none

    touch : (x : Forest) → exists x ≡ true → may_touch pc m x ≡ true → not_above (position pc m) (label x).existence ≡ true
    unfolding exists may_touch label
    touch nil e h = clash e refl
    touch (tree l c r) e h = h

    by_fate : (p : Place) (u : Forest) (o : Option Place) → may_touch pc m (sub p m.tree) ≡ true → Fate m.tree q stands p u o → Follows u o
    by_fate p u o h (unmoved s) = stays (same_still s)
    by_fate p u o h (moved r e a s) = moves r (na_trans _ _ _ (touch _ e h) a) (same_still s)
    by_fate p u o h (gone e a) = lost (na_trans _ _ _ (touch _ e h) a)

    same_tree : Follows m.tree (some q)
    same_tree = stays (record { there = stands; existence = refl })

    -- after an action
    After : Action → Memory → Type 0
    After a n = Follows n.tree (relocate a m.cursor q)

    insert_follows : (places : ℕ) (p : Place) (c : Option Place) (b k : Level) (e : Expression)
        → Good (λ n. Follows n.tree (some (after_insert p q))) (insert_at pc m places p c b k e)
    unfolding insert_at with_tree
    insert_follows places p none b k e = tt
    insert_follows places p (some c) b k e =
        let P : Memory → Type 0 = λ n. Follows n.tree (some (after_insert p q)) in
        good_need P _ _ _ λ _. good_need P _ _ _ λ h. good_given P _ _ λ _. good_need P _ _ _ λ _.
        by_fate p _ _ h (fate_insert m.tree q stands public public sound.rules p _)

    go_follows : (l : Place → Level) (p : Option Place) → Good (λ n. Follows n.tree (some q)) (go_joining pc m l p)
    unfolding go_joining move_to with_cursor
    go_follows l none = tt
    go_follows l (some p) =
        let P : Memory → Type 0 = λ n. Follows n.tree (some q) in
        good_need P _ _ _ λ _. good_need P _ _ _ λ _. same_tree

    effect_follows : (a : Action) → Good (After a) (effect lent pc m a)
    unfolding effect After relocate assign output move_to go_to go_to_last remove_at write with_variables with_tree with_cursor with_line
    effect_follows Action.skip = same_tree
    effect_follows (Action.assign i e) = good_need (After (Action.assign i e)) _ _ _ λ _. good_given (After (Action.assign i e)) _ _ λ _. same_tree
    effect_follows (Action.output r e) =
        good_need (After (Action.output r e)) _ _ _ λ _. good_given (After (Action.output r e)) _ _ λ _. good_need (After (Action.output r e)) _ _ _ λ _. same_tree
    effect_follows Action.goRoot = good_need (After Action.goRoot) _ _ _ λ _. same_tree
    effect_follows Action.goParent = go_follows _ _
    effect_follows (Action.go d) = go_follows _ _
    effect_follows Action.goLeft = go_follows _ _
    effect_follows Action.goLast = go_follows _ _
    effect_follows (Action.insert d b k e) = insert_follows _ _ _ b k e
    effect_follows (Action.remove d) =
        good_need (After (Action.remove d)) _ _ _ λ _. good_need (After (Action.remove d)) _ _ _ λ h.
        by_fate (to d m.cursor) _ _ h (fate_remove m.tree q stands public public sound.rules (to d m.cursor))
    effect_follows (Action.write e) =
        good_need (After (Action.write e)) _ _ _ λ _. good_given (After (Action.write e)) _ _ λ _. stays (still_written m.tree q stands m.cursor _)
    effect_follows (Action.raise l) = good_need (After (Action.raise l)) _ _ _ λ _. same_tree

    pub follows : (a : Action) (n : Memory) → effect lent pc m a ≡ next n → Follows n.tree (relocate a m.cursor q)
    unfolding After
    follows a n e = good_next (After a) _ n e (effect_follows a)

-- what is remembered under guards of level pc: a node that is not above the remembered level, and it is there where the guards raised that level
pub record Stands (t : Forest) (pc : Level) (r : Saved) : Type 0 where
  pub level : is_level r.level ≡ true
  pub node : (p : Place) → r.place ≡ some p → (exists (sub p t) ≡ true) × (not_above (label (sub p t)).existence r.level ≡ true)
  pub kept : not_above pc r.level ≡ false → r.place ≡ none → ⊥

abbrev pub Restorable : Forest → Level → Option Saved → Type 0
Restorable t pc none = Unit {0}
Restorable t pc (some r) = Stands t pc r

-- of all open blocks
abbrev pub AllRestorable : Forest → List Block → Type 0
AllRestorable t [] = Unit {0}
AllRestorable t (b ∷ bs) = Restorable t (context (b ∷ bs)) b.saved × AllRestorable t bs

-- an action that does nothing to the tree changes no block

back_skip : (c : Place) (r : Option Saved) → Option.map (on_saved (relocate Action.skip c)) r ≡ r
unfolding on_saved relocate bind
back_skip c none = refl
back_skip c (some r) = λ i. some (record { place = same r.place i; level = r.level })
  where
    same : (p : Option Place) → bind p (relocate Action.skip c) ≡ p
    same none = refl
    same (some p) = refl

pub blocks_skip : (c : Place) (bs : List Block) → map (on_block (relocate Action.skip c)) bs ≡ bs
unfolding on_block
blocks_skip c [] = refl
blocks_skip c (b ∷ bs) = λ i. record { guard = b.guard; saved = back_skip c b.saved i } ∷ blocks_skip c bs i

pub blocks_length : (f : Block → Block) (bs : List Block) → length (map f bs) ≡ length bs
blocks_length f [] = refl
blocks_length f (b ∷ bs) = ap suc (blocks_length f bs)

-- whether a block remembers a node
unfoldable pub remembers : Block → Bool
remembers b = Option-elim b.saved false (λ r. true)

pub remembers_on : (f : Place → Option Place) (bs : List Block) → map remembers (map (on_block f) bs) ≡ map remembers bs
unfolding on_block remembers Option-elim
remembers_on f [] = refl
remembers_on f (b ∷ bs) = λ i. same b.saved i ∷ remembers_on f bs i
  where
    same : (r : Option Saved) → Option-elim (Option.map (on_saved f) r) false (λ x. true) ≡ Option-elim r false (λ x. true)
    same none = refl
    same (some r) = refl

-- guards stay

pub context_on : (f : Place → Option Place) (bs : List Block) → context (map (on_block f) bs) ≡ context bs
unfolding context on_block
context_on f [] = refl
context_on f (b ∷ bs) = ap (join b.guard) (context_on f bs)

module _ (lent : Buffers) (pc : Level) (m : Memory) (sound : Sound m) (a : Action) (n : Memory) (e : effect lent pc m a ≡ next n) where
  -- what is remembered stays so
  stands_after : (g : Level) (r : Saved) → not_above g pc ≡ true → Stands m.tree g r
      → Stands n.tree g (on_saved (relocate a m.cursor) r)
  unfolding on_saved bind position
  stands_after g r below s = record { level = s.level; node = λ p h. node r.place refl p h; kept = λ h k. kept r.place refl h k }
    where
      node : (o : Option Place) → r.place ≡ o → (p : Place) → bind o (relocate a m.cursor) ≡ some p
          → (exists (sub p n.tree) ≡ true) × (not_above (label (sub p n.tree)).existence r.level ≡ true)
      node none w p h = no_some h
      node (some q) w p h = go (relocate a m.cursor q) h (follows lent pc m sound q (s.node q w).0 a n e)
        where
          found : (y : Place) → y ≡ p → Still (sub q m.tree) (sub y n.tree)
              → (exists (sub p n.tree) ≡ true) × (not_above (label (sub p n.tree)).existence r.level ≡ true)
          found y k x = rw (← k) (x.there, rw x.existence (s.node q w).1)

          go : (o : Option Place) → o ≡ some p → Follows lent pc m sound q (s.node q w).0 n.tree o
              → (exists (sub p n.tree) ≡ true) × (not_above (label (sub p n.tree)).existence r.level ≡ true)
          go o k (stays x) = found q (some-injective _ _ k) x
          go o k (moves y c x) = found y (some-injective _ _ k) x
          go o k (lost c) = no_some k

      kept : (o : Option Place) → r.place ≡ o → not_above g r.level ≡ false → bind o (relocate a m.cursor) ≡ none → ⊥
      kept none w h k = s.kept h w
      kept (some q) w h k = go (relocate a m.cursor q) k (follows lent pc m sound q (s.node q w).0 a n e)
        where
          go : (o : Option Place) → o ≡ none → Follows lent pc m sound q (s.node q w).0 n.tree o → ⊥
          go o k (stays x) = no_some (sym k)
          go o k (moves y c x) = no_some (sym k)
          go o k (lost c) =
              clash (na_trans _ _ _ below (na_trans _ _ _ (na_left pc m.level) (na_trans _ _ _ c (s.node q w).1))) h

  backed_after : (g : Level) (r : Option Saved) → not_above g pc ≡ true → Restorable m.tree g r → Restorable n.tree g (Option.map (on_saved (relocate a m.cursor)) r)
  backed_after g none h s = tt
  backed_after g (some r) h s = stands_after g r h s

  pub restorable_after : (bs : List Block) → not_above (context bs) pc ≡ true → AllRestorable m.tree bs → AllRestorable n.tree (map (on_block (relocate a m.cursor)) bs)
  unfolding context on_block
  restorable_after [] h s = tt
  restorable_after (b ∷ bs) h s = (first, restorable_after bs (na_trans _ _ _ outer h) s.1)
    where
      outer : not_above (context bs) (context (b ∷ bs)) ≡ true
      outer = na_right b.guard (context bs)

      first : Restorable n.tree (context (map (on_block (relocate a m.cursor)) (b ∷ bs))) (Option.map (on_saved (relocate a m.cursor)) b.saved)
      first = rw (context_on (relocate a m.cursor) (b ∷ bs)) (backed_after (context (b ∷ bs)) b.saved h s.0)

  -- for a reader who does not see the position
  module _ (o : Level) (dark : visible o (position pc m) ≡ false) where
    place_kept : (g : Level) (r : Saved) → Stands m.tree g r → visible o r.level ≡ true → bind r.place (relocate a m.cursor) ≡ r.place
    unfolding bind
    place_kept g r s v = pick r.place refl
      where
        pick : (x : Option Place) → r.place ≡ x → bind x (relocate a m.cursor) ≡ x
        pick none w = refl
        pick (some q) w = go (relocate a m.cursor q) (follows lent pc m sound q (s.node q w).0 a n e)
          where
            hidden : {A : Type 0} → not_above (position pc m) (label (sub q m.tree)).existence ≡ true → A
            hidden c = clash (vis_down o _ _ (na_trans _ _ _ c (s.node q w).1) v) dark

            go : (y : Option Place) → Follows lent pc m sound q (s.node q w).0 n.tree y → y ≡ some q
            go y (stays x) = refl
            go y (moves z c x) = hidden c
            go y (lost c) = hidden c

    back_kept : (g : Level) (r : Option Saved) → Restorable m.tree g r → seen_saved o (Option.map (on_saved (relocate a m.cursor)) r) ≡ seen_saved o r
    unfolding seen_saved on_saved seen_at
    back_kept g none s = refl
    back_kept g (some r) s = pick (test (visible o r.level))
      where
        pick : Test (visible o r.level) → some (seen_at o (bind r.place (relocate a m.cursor)) r.level) ≡ some (seen_at o r.place r.level)
        pick (holds v) = ap (λ (p : Option Place). some (seen_at o p r.level)) (place_kept g r s v)
        pick (fails v) = rw v

    pub looks_kept : (bs : List Block) → AllRestorable m.tree bs → looks o (map (on_block (relocate a m.cursor)) bs) ≡ looks o bs
    unfolding looks seen_block on_block
    looks_kept [] s = refl
    looks_kept (b ∷ bs) s =
        λ i. record { guard = b.guard; saved = back_kept (context (b ∷ bs)) b.saved s.0 i } ∷ looks_kept bs s.1 i

-- what is seen of the blocks after an action is fixed by what was seen of them before it, and by the cursor
module _ (o : Level) (f : Place → Option Place) where
  seen_on : Option Saved → Option Saved
  seen_on none = none
  seen_on (some r) = some (on_saved f r)

  back_on : Option (Option Saved) → Option (Option Saved)
  back_on none = none
  back_on (some r) = some (seen_on r)

  block_on : SeenBlock → SeenBlock
  block_on b = record { guard = b.guard; saved = back_on b.saved }

  mark_on : (p : Option Place) (l : Level) → seen_at o (bind p f) l ≡ seen_on (seen_at o p l)
  unfolding seen_at seen_on on_saved
  mark_on p l = pick (test (visible o l))
    where
      pick : Test (visible o l) → seen_at o (bind p f) l ≡ seen_on (seen_at o p l)
      pick (holds v) = rw v
      pick (fails v) = rw v

  back_on_law : (r : Option Saved) → seen_saved o (Option.map (on_saved f) r) ≡ back_on (seen_saved o r)
  unfolding seen_saved on_saved back_on
  back_on_law none = refl
  back_on_law (some r) = ap some (mark_on r.place r.level)

  looks_on : (bs : List Block) → looks o (map (on_block f) bs) ≡ map block_on (looks o bs)
  unfolding looks seen_block on_block block_on
  looks_on [] = refl
  looks_on (b ∷ bs) = λ i. record { guard = b.guard; saved = back_on_law b.saved i } ∷ looks_on bs i

  pub looks_alike : (bs cs : List Block) → looks o bs ≡ looks o cs → looks o (map (on_block f) bs) ≡ looks o (map (on_block f) cs)
  looks_alike bs cs h = looks_on bs ∙ ap (map block_on) h ∙ sym (looks_on cs)
