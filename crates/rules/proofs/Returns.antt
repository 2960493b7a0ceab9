-- An if that comes back does come back where its guard raised the cursor level. While its block is open, the block keeps its guards and its remembered
-- level, and the invariant keeps its node: a removal needs C not above the node's existence, which is not above the remembered level. Assumes nothing.
use mathlib.Core.Path.{◌≡◌, refl, sym, ◌∙◌, ap, subst}
use Prim.Native.Nat.{ℕ, zero, suc, ◌≤◌, ◌<◌}
use native.Mathlib.Omega.{arith}
use mathlib.Core.Bool.{true, false}
use mathlib.Core.Option
use mathlib.Core.Option.{Option, none, some}
use Rattle.std.specs.Prelude.{None, Some}
use mathlib.Core.List.{List, [], ◌∷◌, ◌++◌, map, tail}
use lib.ListN.{length}
use lib.IntN.{ℤ}
use borrow.Author.Tests.{lt-ltb, ltb-false}
use Rattle.rules.specs.Number.{Value}
use Rattle.rules.specs.Level.{Level, not_above}
use Rattle.rules.specs.Tree.{Place}
use Rattle.rules.specs.Script.{Expression, Command, fetch, number_at}
use Rattle.rules.specs.Blocks.{goes_to}
use Rattle.rules.specs.Job.{script}
use Rattle.rules.specs.Run.{Saved, Block, State, Buffers, absent, next, stop, given, context, value, level_of, with_cursor, relocate, on_saved, on_block, restore, leave, stepped, onward, relocated, saving, raised, enter_back, leave_block, carried, step}
use Rattle.rules.specs.Outcome.{begin}
use Rattle.rules.specs.History.{section_script}
use Rattle.rules.specs.Returns.{Within, here, on, AtEnd, ComesBack, Returns}
use Rattle.rules.proofs.Tests.{Test, holds, fails, test, clash}
use Rattle.rules.proofs.Lattice.{join_below}
use Rattle.rules.proofs.Nests.{nest_done}
use Rattle.rules.proofs.Results.{good_next}
use Rattle.rules.proofs.Runs.{more}
use Rattle.rules.proofs.Relocate.{Stands, Restorable, AllRestorable, blocks_length, context_on}
use Rattle.rules.proofs.Control.{Closed, open_at, Valid, Moves, keeps, opens_one, leaves_one, Lands, step_lands, landed}
use Rattle.rules.proofs.Starts.{start_valid}
use Rattle.rules.proofs.Noninterference.{loads, begin_valid}
use Rattle.rules.proofs.Invariants.{run_valid}
use Rattle.rules.proofs.Stores.{holdable_kept, taken}

map_append : (f : Block → Block) (xs ys : List Block) → map f (xs ++ ys) ≡ map f xs ++ map f ys
map_append f [] ys = refl
map_append f (x ∷ xs) ys = ap (λ zs. f x ∷ zs) (map_append f xs ys)

append_length : (xs ys : List Block) → length ys ≤ length (xs ++ ys)
append_length [] ys = omega arith
append_length (x ∷ xs) ys = let h = append_length xs ys in omega arith

-- a record that is no skip lies in the script
in_range : (cs : List Command) (i : ℕ) (e : Expression) → fetch cs i ≡ Command.ifBack e → i < length cs
unfolding fetch
in_range [] i e h = let z : true ≡ false = cc in clash refl z
in_range (c ∷ cs) zero e h = omega arith
in_range (c ∷ cs) (suc i) e h = let l = in_range cs i e h in omega arith

module _ (lent : Buffers) (cs : List Command) (closed : Closed cs) where
  -- the blocks hold one over d others, with guards of level g, that remembers the level l
  record Holds (d : ℕ) (g l : Level) (bs : List Block) : Type 0 where
    inner : List Block
    block : Block
    outer : List Block
    all : bs ≡ inner ++ (block ∷ outer)
    depth : length outer ≡ d
    guards : context (block ∷ outer) ≡ g
    what : Saved
    saves : block.saved ≡ some what
    level : what.level ≡ l

  -- with a block open a record comes next
  open_more : (t : State) → Valid cs t → 0 < length t.blocks → more lent cs t ≡ true
  open_more t h o = pick (test (more lent cs t))
    where
      pick : Test (more lent cs t) → more lent cs t ≡ true
      pick (holds e) = e
      pick (fails e) =
          let z : t.at ≡ length cs = omega (arith, ltb-false t.at (length cs) e, h.within) in
          let y : length t.blocks ≡ 0 = h.depth ∙ ap (λ i. length (open_at cs i)) z ∙ ap length (nest_done (number_at cs) (length cs) closed.blocks) in
          absurd (omega arith)

  module _ (d : ℕ) (g l : Level) where
    on_holds : (f : Place → Option Place) (bs : List Block) → Holds d g l bs → Holds d g l (map (on_block f) bs)
    unfolding on_block on_saved
    on_holds f bs h =
        record {
          inner = map (on_block f) h.inner;
          block = on_block f h.block;
          outer = map (on_block f) h.outer;
          all = ap (map (on_block f)) h.all ∙ map_append (on_block f) h.inner _;
          depth = blocks_length (on_block f) h.outer ∙ h.depth;
          guards = context_on f (h.block ∷ h.outer) ∙ h.guards;
          what = on_saved f h.what;
          saves = ap (Option.map (on_saved f)) h.saves;
          level = h.level;
        }

    push_holds : (b : Block) (bs : List Block) → Holds d g l bs → Holds d g l (b ∷ bs)
    push_holds b bs h =
        record {
          inner = b ∷ h.inner;
          block = h.block;
          outer = h.outer;
          all = ap (λ xs. b ∷ xs) h.all;
          depth = h.depth;
          guards = h.guards;
          what = h.what;
          saves = h.saves;
          level = h.level;
        }

    pop_holds : (b : Block) (bs : List Block) → d < length bs → Holds d g l (b ∷ bs) → Holds d g l bs
    pop_holds b bs o h = go h.inner h.all
      where
        go : (xs : List Block) → b ∷ bs ≡ xs ++ (h.block ∷ h.outer) → Holds d g l bs
        go [] e = let z = ap length (ap tail e) in absurd (omega (arith, o, h.depth, z))
        go (x ∷ xs) e =
            record {
              inner = xs;
              block = h.block;
              outer = h.outer;
              all = ap tail e;
              depth = h.depth;
              guards = h.guards;
              what = h.what;
              saves = h.saves;
              level = h.level;
            }

    step_holds : (t u : State) → Moves lent cs t u → d < length u.blocks → Holds d g l t.blocks → Holds d g l u.blocks
    unfolding relocated
    step_holds t u (keeps a e w x) o h = rw w (on_holds (relocate a t.memory.cursor) t.blocks h)
    step_holds t u (opens_one e b k w m x r) o h = rw w (push_holds b t.blocks h)
    step_holds t u (leaves_one k b w f a x) o h = pop_holds b u.blocks o (subst (Holds d g l) w h)

    holds_length : (bs : List Block) → Holds d g l bs → 0 < length bs
    holds_length bs h = let e = append_length h.inner (h.block ∷ h.outer) in let z = ap length h.all in omega arith

    -- along a way
    record Along (t : State) : Type 0 where
      valid : Valid cs t
      kept : Holds d g l t.blocks

    along : (s t : State) → Along s → Within lent cs d s t → Along t
    along s t a here = a
    along s u a (on {t = t} w f o) = go (along s t a w)
      where
        go : Along t → Along u
        go x =
            let m = open_more t x.valid (holds_length _ x.kept) in
            let y = good_next (Lands lent cs closed t x.valid m) _ u f (step_lands lent cs closed t x.valid m) in
            record { valid = landed lent cs closed t x.valid m u y; kept = step_holds t u y.moves o x.kept }

    -- what the end of the block does: the run goes on, with the remembered level
    record Back (u : State) : Type 0 where
      state : State
      goes : step lent cs u ≡ next state
      level : state.memory.level ≡ l

    -- at the end of the block
    comes_back : (u : State) → Along u → length u.blocks ≡ suc d → fetch cs u.at ≡ Command.end → not_above g l ≡ false → Back u
    unfolding step carried leave_block onward leave restore stepped with_cursor
    comes_back u x n f r = at h.inner h.all
      where
        h : Holds d g l u.blocks
        h = x.kept

        j : ℕ
        j = goes_to (number_at cs) (length cs) u.at

        -- the step, where the block is innermost
        own : u.blocks ≡ h.block ∷ h.outer → step lent cs u ≡ onward u h.outer j (restore u.memory h.what.place h.what.level)
        own e =
            ap (carried u lent j) f ∙ ap (leave_block u j) e
            ∙ ap (λ (r : Option Saved). onward u h.outer j (leave u.memory r)) h.saves

        stands : u.blocks ≡ h.block ∷ h.outer → Stands u.memory.tree (context (h.block ∷ h.outer)) h.what
        stands e =
            subst (Restorable u.memory.tree (context (h.block ∷ h.outer))) h.saves (subst (AllRestorable u.memory.tree) e x.valid.restorable).0

        stays : u.blocks ≡ h.block ∷ h.outer → (p : Option Place) → h.what.place ≡ p → Back u
        stays e none w = absurd ((stands e).kept (rw (h.guards, h.level) r) w)
        stays e (some p) w =
            record {
              state = stepped u (with_cursor u.memory p h.what.level) h.outer j;
              goes = own e ∙ ap (λ (q : Option Place). onward u h.outer j (restore u.memory q h.what.level)) w;
              level = h.level;
            }

        at : (xs : List Block) → u.blocks ≡ xs ++ (h.block ∷ h.outer) → Back u
        at [] e = stays e h.what.place refl
        at (y ∷ ys) e =
            let a = append_length ys (h.block ∷ h.outer) in
            let z = ap length e in absurd (omega (arith, n, h.depth, a, z))

  -- where an if that comes back raised the cursor level
  module _ (s s' : State) (e : Expression) (valid : Valid cs s) (f : fetch cs s.at ≡ Command.ifBack e) (p : step lent cs s ≡ next s') where
    j : ℕ
    j = goes_to (number_at cs) (length cs) s.at

    -- its expression has a value
    record Entered : Type 0 where
      value : ℤ
      after : s' ≡ enter_back s j e value

    entered : Entered
    unfolding step carried given j
    entered = pick (value s.memory e) (subst (λ c. carried s lent j c ≡ next s') f p)
      where
        pick : (v : Value) → given v (λ z. next (enter_back s j e z)) ≡ next s' → Entered
        pick None q = let z : true ≡ false = cc in clash refl z
        pick (Some z) q = record { value = z; after = cc }

    opened : Along (length s.blocks) (context (saving s e)) s.memory.level s'
    unfolding enter_back stepped saving
    opened =
        let m = lt-ltb s.at (length cs) (in_range cs s.at e f) in
        record {
          valid =
              landed lent cs closed s valid m s'
              (good_next (Lands lent cs closed s valid m) _ s' p (step_lands lent cs closed s valid m));
          kept =
              rw entered.after
              (record {
                inner = [];
                block = record { guard = level_of s.memory e; saved = some (record { place = some s.memory.cursor; level = s.memory.level }) };
                outer = s.blocks;
                all = refl;
                depth = refl;
                guards = refl;
                what = record { place = some s.memory.cursor; level = s.memory.level };
                saves = refl;
                level = refl;
              });
        }

    higher : (s'.memory.level ≡ s.memory.level → ⊥) → not_above (context (saving s e)) s.memory.level ≡ false
    unfolding enter_back stepped raised with_cursor
    higher r = pick (test (not_above (context (saving s e)) s.memory.level))
      where
        pick : Test (not_above (context (saving s e)) s.memory.level) → not_above (context (saving s e)) s.memory.level ≡ false
        pick (fails h) = h
        pick (holds h) = absurd (r (ap (λ x. x.memory.level) entered.after ∙ join_below _ _ h))

    module _ (u : State) (r : s'.memory.level ≡ s.memory.level → ⊥) (a : AtEnd lent cs s s' u) where
      back : Back (length s.blocks) (context (saving s e)) s.memory.level u
      back =
          let d = length s.blocks in
          let g = context (saving s e) in
          let l = s.memory.level in comes_back d g l u (along d g l s' u opened a.way) a.innermost a.end (higher r)

      pub not_absent : step lent cs u ≡ stop absent → ⊥
      not_absent q = let e = sym back.goes ∙ q in let z : true ≡ false = cc in clash refl z

      -- the cursor level is what it was
      pub level_back : (u' : State) → step lent cs u ≡ next u' → u'.memory.level ≡ s.memory.level
      level_back u' q = let e = sym back.goes ∙ q in let z : back.state ≡ u' = cc in ap (λ x. x.memory.level) (sym z) ∙ back.level

-- over all runs of a script from a valid start
from_start : (cs : List Command) → Closed cs → (begin : State) → Valid cs begin → ComesBack cs begin
unfolding ComesBack
from_start cs closed begin valid lent n s s' u e w f p r a q =
    not_absent lent cs closed s s' e (subst (Valid cs) w (run_valid lent cs closed n begin valid)) f p u r a q

pub returns : Returns
returns =
    record {
      jobs = λ b ok. let l = loads b ok in from_start (script b) l.script (begin b) (begin_valid b l);
      scripts = λ s f ok.
          let w = taken s f ok in from_start (section_script f.section) w.script _ (start_valid _ _ (holdable_kept s w.store) _);
    }
