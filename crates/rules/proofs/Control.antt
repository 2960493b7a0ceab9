-- What every step keeps of a run's state: its memory is sound, its guards are levels, what its blocks remember stands in the tree, its record lies in
-- the script, and its block stack is as deep as the script's nesting there. A step keeps to the blocks that are open, opens one, or leaves the innermost. Assumes nothing.
use mathlib.Core.Path.{◌≡◌, refl, sym, ◌∙◌, ap, subst}
use mathlib.Core.Option.{Option, none, some, Option-elim}
use Prim.Native.Nat.{ℕ, suc, ◌≤◌, ◌<◌}
use native.Mathlib.Omega.{arith}
use mathlib.Core.Bool.{Bool, true, false, cond}
use mathlib.Core.List.{List, [], ◌∷◌, tail, map}
use lib.ListN.{length}
use lib.IntN.{ℤ}
use lib.Dec.{eqb}
use borrow.Author.Tests.{eqb-false, ltb-true}
use Rattle.rules.specs.Level.{Level, join, is_level}
use Rattle.rules.specs.Number.{is_zero}
use Rattle.rules.specs.Tree.{Place, child, sibling}
use Rattle.rules.specs.Script.{Expression, Action, Command, act, action_number, number, fetch, number_at}
use Rattle.rules.specs.Blocks.{branches, block_rule, goes_to, nest}
use Rattle.rules.specs.Run.{Memory, Saved, Block, State, Buffers, Result, next, stop, context, current, level_of, with_cursor, effect, relocate, restore, leave, stepped, onward, relocated, pushed, saving, raised, enter_if, enter_while, enter_back, leave_block, carried, step}
use Rattle.rules.proofs.Tests.{Test, holds, fails, test, clash}
use Rattle.rules.proofs.Lattice.{na_refl, na_left, na_right, na_trans, level_below, level_join}
use Rattle.rules.proofs.Parts.{Plain, is_if_law, is_back_law, if_opens, while_opens, end_closes}
use Rattle.rules.proofs.Nests.{no_length, nest_open, nest_plain}
use Rattle.rules.proofs.Ends.{nest_not_empty}
use Rattle.rules.proofs.Exits.{if_exit, while_exit, else_exit, end_exit, goes_within}
use Rattle.rules.proofs.Results.{Good, good_given, good_map, good_leave}
use Rattle.rules.proofs.Runs.{more}
use Rattle.rules.proofs.Sound.{Sound, Sets, moved, effect_sound, expression_level}
use Rattle.rules.proofs.Places.{no_some}
use Rattle.rules.proofs.Relocate.{Restorable, Stands, AllRestorable, remembers, remembers_on, blocks_skip, blocks_length, context_on, restorable_after}

-- the sets of a command are levels
abbrev pub CommandSets : Command → Type 0
CommandSets (act a) = Sets a
CommandSets (Command.if e) = Unit {0}
CommandSets (Command.while e) = Unit {0}
CommandSets (Command.ifBack e) = Unit {0}
CommandSets Command.else = Unit {0}
CommandSets Command.end = Unit {0}

-- what check 8 gives of a script, and that its sets are levels
pub record Closed (cs : List Command) : Type 0 where
  pub blocks : (i : ℕ) → i < suc (length cs) → block_rule (number_at cs) (length cs) i ≡ true
  pub sets : (i : ℕ) → CommandSets (fetch cs i)

-- record i is an if that comes back
abbrev pub returns_at : List Command → ℕ → Bool
returns_at cs i = eqb (number_at cs i) 17

-- the blocks that are open at a record of the script
abbrev pub open_at : List Command → ℕ → List ℕ
open_at cs i = nest (number_at cs) i

pub record Valid (cs : List Command) (s : State) : Type 0 where
  pub memory : Sound s.memory
  pub guards : is_level (context s.blocks) ≡ true
  pub within : s.at ≤ length cs
  pub depth : length s.blocks ≡ length (open_at cs s.at)
  pub kinds : map remembers s.blocks ≡ map (returns_at cs) (open_at cs s.at)
  pub restorable : AllRestorable s.memory.tree s.blocks

-- an action is no if, while, else or end
plain_number : (k : ℕ) → branches k ≡ false → eqb k 3 ≡ false → eqb k 4 ≡ false → eqb k 5 ≡ false → Plain k
plain_number k a b c d = record { not_if = a; not4 = eqb-false k 4 c; not3 = eqb-false k 3 b; not5 = eqb-false k 5 d }

action_plain : (a : Action) → Plain (action_number a)
unfolding action_number branches
action_plain Action.skip = plain_number 0 refl refl refl refl
action_plain (Action.assign i e) = plain_number 1 refl refl refl refl
action_plain (Action.output r e) = plain_number 6 refl refl refl refl
action_plain Action.goRoot = plain_number 7 refl refl refl refl
action_plain Action.goParent = plain_number 8 refl refl refl refl
action_plain (Action.go child) = plain_number 9 refl refl refl refl
action_plain (Action.go sibling) = plain_number 10 refl refl refl refl
action_plain (Action.insert child c l e) = plain_number 11 refl refl refl refl
action_plain (Action.insert sibling c l e) = plain_number 12 refl refl refl refl
action_plain (Action.remove child) = plain_number 13 refl refl refl refl
action_plain (Action.remove sibling) = plain_number 14 refl refl refl refl
action_plain (Action.write e) = plain_number 15 refl refl refl refl
action_plain (Action.raise l) = plain_number 16 refl refl refl refl
action_plain Action.goLeft = plain_number 18 refl refl refl refl
action_plain Action.goLast = plain_number 19 refl refl refl refl

map_tail : {A B : Type 0} (f : A → B) (xs : List A) → map f (tail xs) ≡ tail (map f xs)
map_tail f [] = refl
map_tail f (x ∷ xs) = refl

tail_length : {A B : Type 0} (x : A) (xs : List A) (ys : List B) → length (x ∷ xs) ≡ length ys → length xs ≡ length (tail ys)
tail_length x xs [] e = absurd (omega arith)
tail_length x xs (y ∷ ys) e = omega arith

-- what entering a block does: of an if or while nothing; of an if that comes back the cursor is remembered and its level raised
pub data Enters (s : State) (b : Block) (m : Memory) : Type 0 where
  plainly : b.saved ≡ none → m ≡ s.memory → Enters s b m
  saves : (l : Level) → b.saved ≡ some (record { place = some s.memory.cursor; level = s.memory.level })
      → m ≡ with_cursor s.memory s.memory.cursor (join s.memory.level l) → Enters s b m

-- how a step moves among the blocks: it does an action and follows what they remember, opens one, or leaves the innermost
pub data Moves (lent : Buffers) (cs : List Command) (s s' : State) : Type 0 where
  keeps : (a : Action) → effect lent (context s.blocks) s.memory a ≡ next s'.memory → s'.blocks ≡ relocated s a
      → open_at cs s'.at ≡ open_at cs s.at → Moves lent cs s s'
  opens_one : (e : Expression) (b : Block) → b.guard ≡ level_of s.memory e → s'.blocks ≡ b ∷ s.blocks → Enters s b s'.memory
      → open_at cs s'.at ≡ s.at ∷ open_at cs s.at → remembers b ≡ returns_at cs s.at → Moves lent cs s s'
  leaves_one : number_at cs s.at ≡ 5 → (b : Block) → s.blocks ≡ b ∷ s'.blocks → leave s.memory b.saved ≡ next s'.memory
      → s'.at ≡ goes_to (number_at cs) (length cs) s.at → open_at cs s'.at ≡ tail (open_at cs s.at) → Moves lent cs s s'

-- the end of a block leaves the tree
leave_tree : (m n : Memory) (r : Option Saved) → leave m r ≡ next n → n.tree ≡ m.tree
unfolding leave restore with_cursor
leave_tree m n none e = let z : n ≡ m = cc in ap (λ x. x.tree) z
leave_tree m n (some r) e = go r.place e
  where
    go : (p : Option Place) → restore m p r.level ≡ next n → n.tree ≡ m.tree
    go none e = let z : true ≡ false = cc in clash refl z
    go (some p) e = let z : n ≡ with_cursor m p r.level = cc in ap (λ x. x.tree) z

-- and a sound memory
leave_sound : (m : Memory) (g : Level) (r : Option Saved) → Sound m → Restorable m.tree g r → Good Sound (leave m r)
leave_sound m g r h s =
    good_leave Sound m r h λ x e p f.
    let k = subst (Restorable m.tree g) e s in let y = k.node p f in moved m h p x.level y.0 y.1 k.level

module _ (lent : Buffers) (cs : List Command) (closed : Closed cs) (s : State) (valid : Valid cs s) (here : more lent cs s ≡ true) where
  inside : s.at < length cs
  inside = ltb-true _ _ here

  -- where a jump leads
  jump : ℕ
  jump = goes_to (number_at cs) (length cs) s.at

  -- the state after a step
  pub record Lands (s' : State) : Type 0 where
    pub within : s'.at ≤ length cs
    pub memory : Sound s'.memory
    pub moves : Moves lent cs s s'

  -- the command that comes next, by its number
  numbered : (c : Command) → fetch cs s.at ≡ c → number_at cs s.at ≡ number c
  unfolding number_at
  numbered c e = ap number e

  by_jump : (m : Memory) (bs : List Block) → Sound m → Moves lent cs s (stepped s m bs jump) → Lands (stepped s m bs jump)
  unfolding stepped jump
  by_jump m bs h w = record { within = goes_within (number_at cs) (length cs) closed.blocks s.at inside; memory = h; moves = w }

  to_next : (m : Memory) (bs : List Block) → Sound m → Moves lent cs s (stepped s m bs (suc s.at)) → Lands (stepped s m bs (suc s.at))
  unfolding stepped
  to_next m bs h w = record { within = inside; memory = h; moves = w }

  -- a record that does nothing but jump
  idle : (i : ℕ) → open_at cs i ≡ open_at cs s.at → Moves lent cs s (stepped s s.memory s.blocks i)
  unfolding stepped effect relocated
  idle i w = keeps Action.skip refl (sym (blocks_skip s.memory.cursor s.blocks)) w

  -- a branch with the block b, in which the memory is m
  land_if : (e : Expression) (z : Bool) (b : Block) (m : Memory) → b.guard ≡ level_of s.memory e → Enters s b m → Sound m
      → remembers b ≡ returns_at cs s.at → branches (number_at cs s.at) ≡ true → Lands (stepped s m (b ∷ s.blocks) (cond z jump (suc s.at)))
  unfolding stepped jump
  land_if e true b m g n h r k = by_jump _ _ h (opens_one e b g refl n (if_exit (number_at cs) (length cs) closed.blocks s.at inside k) r)
  land_if e false b m g n h r k = to_next _ _ h (opens_one e b g refl n (nest_open (number_at cs) s.at (if_opens _ k)) r)

  land_while : (e : Expression) (z : ℤ) → number_at cs s.at ≡ 4 → Test (is_zero z) → Lands (enter_while s jump e z)
  unfolding enter_while stepped jump pushed remembers Option-elim
  land_while e y k (holds z) = rw z (by_jump _ _ valid.memory (idle _ (while_exit (number_at cs) (length cs) closed.blocks s.at inside k)))
  land_while e y k (fails z) =
      rw z
      (to_next _ _ valid.memory
      (opens_one e _ refl refl (plainly refl refl) (nest_open (number_at cs) s.at (while_opens _ k)) (sym (ap (λ (j : ℕ). eqb j 17) k))))

  guards_level : (e : Expression) → is_level (join (level_of s.memory e) (context s.blocks)) ≡ true
  guards_level e = level_join _ _ (expression_level s.memory valid.memory e) valid.guards

  raised_sound : (e : Expression) → Sound (raised s e)
  unfolding raised saving context current
  raised_sound e =
      let m = valid.memory in
      moved s.memory m _ _ m.stands (na_trans _ _ _ m.covered (na_left _ _)) (level_join _ _ m.cursor (guards_level e))

  land_back : (e : Expression) (z : ℤ) → number_at cs s.at ≡ 17 → Lands (enter_back s jump e z)
  unfolding enter_back saving raised remembers Option-elim
  land_back e z k =
      land_if e (is_zero z) _ _ refl (saves _ refl refl) (raised_sound e) (sym (ap (λ (j : ℕ). eqb j 17) k)) (is_back_law _ k)

  land_act : (a : Action) (r : Result Memory) → effect lent (context s.blocks) s.memory a ≡ r → Good Sound r → number_at cs s.at ≡ action_number a
      → Good Lands (onward s (relocated s a) (suc s.at) r)
  unfolding onward stepped
  land_act a (stop k) e h n = tt
  land_act a (next m) e h n = to_next m _ h (keeps a e refl (nest_plain (number_at cs) s.at (rw n (action_plain a))))

  -- an end has a block to leave
  not_open : s.blocks ≡ [] → number_at cs s.at ≡ 5 → ⊥
  not_open e k =
      nest_not_empty (number_at cs) (length cs) closed.blocks s.at inside (end_closes _ k) (no_length _ (sym valid.depth ∙ ap length e))

  restorable_of : (b : Block) (bs : List Block) → s.blocks ≡ b ∷ bs → AllRestorable s.memory.tree (b ∷ bs)
  restorable_of b bs e = subst (AllRestorable s.memory.tree) e valid.restorable

  land_end : (xs : List Block) → s.blocks ≡ xs → number_at cs s.at ≡ 5 → Good Lands (leave_block s jump xs)
  unfolding leave_block onward stepped jump
  land_end [] e k = absurd (not_open e k)
  land_end (b ∷ bs) e k = go (leave s.memory b.saved) refl (leave_sound s.memory _ b.saved valid.memory (restorable_of b bs e).0)
    where
      go : (r : Result Memory) → leave s.memory b.saved ≡ r → Good Sound r → Good Lands (onward s bs jump r)
      go (stop x) f h = tt
      go (next m) f h =
          by_jump m bs h (leaves_one k b e f refl (end_exit (number_at cs) (length cs) closed.blocks s.at inside k))

  land : (c : Command) → fetch cs s.at ≡ c → Good Lands (carried s lent jump c)
  unfolding carried enter_if number jump pushed remembers Option-elim
  land (act a) f =
      land_act a _ refl (effect_sound s.memory valid.memory _ valid.guards lent a (subst CommandSets f (closed.sets s.at))) (numbered (act a) f)
  land (Command.if e) f =
      good_given Lands _ _ λ z.
      land_if e (is_zero z) _ _ refl (plainly refl refl) valid.memory (sym (ap (λ (j : ℕ). eqb j 17) (numbered _ f))) (is_if_law _ (numbered _ f))
  land (Command.while e) f = good_given Lands _ _ λ z. land_while e z (numbered _ f) (test _)
  land (Command.ifBack e) f = good_given Lands _ _ λ z. land_back e z (numbered _ f)
  land Command.else f =
      by_jump _ _ valid.memory (idle _ (else_exit (number_at cs) (length cs) closed.blocks s.at inside (numbered _ f)))
  land Command.end f = land_end s.blocks refl (numbered _ f)

  pub step_lands : Good Lands (step lent cs s)
  unfolding step jump
  step_lands = land (fetch cs s.at) refl

  -- what a new block remembers stands in the tree, and so does what the others remember
  restorable_entered : (b : Block) (m : Memory) → Enters s b m → AllRestorable m.tree (b ∷ s.blocks)
  unfolding with_cursor current
  restorable_entered b m (plainly r e) = (
    subst (Restorable m.tree (context (b ∷ s.blocks))) (sym r) tt,
    subst (λ (z : Memory). AllRestorable z.tree s.blocks) (sym e) valid.restorable,
  )
  restorable_entered b m (saves l r e) =
      let x = valid.memory in (
        subst (Restorable m.tree (context (b ∷ s.blocks))) (sym r)
            (subst (λ (z : Memory). Stands z.tree (context (b ∷ s.blocks)) (record { place = some s.memory.cursor; level = s.memory.level })) (sym e)
            (record {
              level = x.cursor;
              node = λ p h. let z : s.memory.cursor ≡ p = cc in rw (← z) (x.stands, x.covered);
              kept = λ _ h. no_some (sym h);
            })),
        subst (λ (z : Memory). AllRestorable z.tree s.blocks) (sym e) valid.restorable,
      )

  -- the invariant holds after the step
  pub landed : (s' : State) → Lands s' → Valid cs s'
  unfolding context relocated
  landed s' l = pick l.moves
    where
      pick : Moves lent cs s s' → Valid cs s'
      pick (keeps a e b w) =
          record {
            memory = l.memory;
            guards = rw (b, context_on (relocate a s.memory.cursor) s.blocks) valid.guards;
            within = l.within;
            depth = ap length b ∙ blocks_length _ s.blocks ∙ valid.depth ∙ sym (ap length w);
            kinds = ap (map remembers) b ∙ remembers_on _ s.blocks ∙ valid.kinds ∙ sym (ap (map (returns_at cs)) w);
            restorable = rw b (restorable_after lent _ s.memory valid.memory a s'.memory e s.blocks (na_refl _) valid.restorable);
          }
      pick (opens_one e b g q n w r) =
          record {
            memory = l.memory;
            guards = rw (q, g) (guards_level e);
            within = l.within;
            depth = ap length q ∙ ap suc valid.depth ∙ sym (ap length w);
            kinds = ap (map remembers) q ∙ (λ i. r i ∷ valid.kinds i) ∙ sym (ap (map (returns_at cs)) w);
            restorable = rw q (restorable_entered b s'.memory n);
          }
      pick (leaves_one k b q f a w) =
          record {
            memory = l.memory;
            guards = level_below _ _ (na_right b.guard (context s'.blocks)) (rw q at valid.guards);
            within = l.within;
            depth = tail_length b s'.blocks (open_at cs s.at) (sym (ap length q) ∙ valid.depth) ∙ sym (ap length w);
            kinds =
                ap tail (sym (ap (map remembers) q) ∙ valid.kinds) ∙ sym (map_tail (returns_at cs) (open_at cs s.at))
                ∙ sym (ap (map (returns_at cs)) w);
            restorable = rw (leave_tree s.memory s'.memory b.saved f) (restorable_of b s'.blocks q).1;
          }

  pub step_valid : Good (Valid cs) (step lent cs s)
  step_valid = good_map Lands (Valid cs) landed (step lent cs s) step_lands
