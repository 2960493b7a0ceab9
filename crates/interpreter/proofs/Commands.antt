-- The rules' step of a state that the slices stand for, as the monitor's arms do it: the record's bytes spell the command, whose number picks the arm.
-- Assumes nothing.
use mathlib.Core.Path.{◌≡◌, refl, sym, ◌∙◌, ap, subst}
use mathlib.Core.Bool.{Bool, true, false, cond}
use mathlib.Core.Option.{Option, none, some, Option-elim}
use mathlib.Core.List.{List, [], ◌∷◌, map, head_d}
use Prim.Native.Nat.{ℕ, zero, suc, ◌+◌, ◌-◌, ◌%◌, ◌<◌, ◌≤◌}
use native.Mathlib.Omega.{arith}
use lib.ListN.{length, get_or}
use lib.Dec.{eqb, ltb}
use borrow.Author.Tests.{eq-eqb, eqb-true, ltb-true, ltb-false}
use Rattle.rules.specs.Limits.{max_depth, record_size, command_count}
use Rattle.rules.specs.Level.{join}
use Rattle.rules.specs.Tree.{Place, Side, child, sibling, to, up, left_of}
use Rattle.rules.specs.Bytes.{byte, record_place}
use Rattle.rules.specs.Blocks.{branches, opens, closes, goes_to, nest}
use Rattle.rules.specs.Job.{script_from, command_of, command_by, set_at, expression_of}
use Rattle.rules.specs.Script.{Command, act, Action, rows, row_of, content_set, list_set, cover_set, commands, fetch, number_at, number}
use Rattle.rules.specs.Run as Run
use Rattle.rules.specs.Run.{State, Saved, Block, Buffers, Result, next, context, value, level_of, relocate, relocated, on_block, stepped, onward, enter_if, enter_while, enter_back, carried, effect, step}
use Rattle.rules.proofs.Ranges.{record_in}
use Rattle.rules.proofs.Decode.{listed_length, listed_from_zero, section_spelled, numbered_at}
use Rattle.rules.proofs.Nests.{nest_room}
use Rattle.rules.proofs.Ends.{nest_some}
use Rattle.rules.proofs.Exits.{goes_within}
use Rattle.rules.proofs.Relocate.{remembers}
use Rattle.rules.proofs.Control.{returns_at, Valid}
use Rattle.rules.proofs.Tests.{Test, holds, fails, test, clash}
use Rattle.fields.specs.declared.records.Fields.{Fields}
use Rattle.fields.specs.Fields.{fields_of, expression_from, commands_from, command_from}
use Rattle.job.specs.Plan.{code_of, next_of, end_mark, end_back, end_code, plan_code}
use Rattle.job.proofs.Words.{code_entry, next_entry, code_mark}
use Rattle.table.specs.Cells.{word_on, Within}
use Rattle.actions.specs.declared.evaluate.Valued.{Valued}
use Rattle.actions.specs.declared.control.Running.{Running}
use Rattle.actions.specs.declared.control.Stepped.{Stepped}
use Rattle.actions.specs.Guards.{Holds}
use Rattle.actions.specs.Board.{capacity}
use Rattle.actions.specs.Shows.{Slices, Reads, Readable}
use Rattle.actions.specs.Acts.{Does, shifted, closed_up, Same, Becomes, Acting, Acts, Evaluates, move_of}
use Rattle.actions.specs.Stands.{Stands, Timely, stepped as answered, ended}
use Rattle.actions.specs.Control.{Keeps, Jumps, Leaves, Enters, Stays, Saves, Restores}
use Rattle.interpreter.specs.Steps.{Held, script_in, fields_at, Script, Safe, Lent, Steps, Carries}
use Rattle.actions.proofs.Doing.{kept_refl}
use Rattle.actions.proofs.Stepping.{passes_keeps, jump_steps, leave_steps}

-- slices of the same lengths
pub record SameLengths (x x' : Slices) : Type 0 where
  pub words : length x'.words ≡ length x.words
  pub levels : x'.levels ≡ x.levels
  pub values : length x'.values ≡ length x.values
  pub board : length x'.board ≡ length x.board

-- one of four numbers from b on
pub data OneOfFour (k b : ℕ) : Type 0 where
  first : k ≡ b → OneOfFour k b
  second : k ≡ b + 1 → OneOfFour k b
  third : k ≡ b + 2 → OneOfFour k b
  fourth : k ≡ b + 3 → OneOfFour k b

one_of_four : (k b : ℕ) → b ≤ k → k ≤ b + 3 → OneOfFour k b
one_of_four k b l m = pick (k - b) refl
  where
    pick : (d : ℕ) → k - b ≡ d → OneOfFour k b
    pick zero e = first (omega arith)
    pick (suc zero) e = second (omega arith)
    pick (suc (suc zero)) e = third (omega arith)
    pick (suc (suc (suc zero))) e = fourth (omega arith)
    pick (suc (suc (suc (suc d)))) e = absurd (omega arith)

module _ (h : Held) (sc : Script h) where
  script_length : length (script_in h) ≡ h.records
  unfolding script_from
  script_length = listed_length _ h.records 0

  module _ (i : ℕ) (inside : i < h.records) where
    -- the record's command, by its fields
    spelled : fetch (script_in h) i ≡ command_from (fields_at h i)
    unfolding script_from fetch command_from commands_from fields_of expression_from command_by set_at expression_of
    spelled = listed_from_zero (λ (k : ℕ). command_of h.bytes (record_place h.base k)) (act Action.skip) h.records i inside

    -- the operands that its expression reads, if it has one
    pub reads : (row_of (byte h.bytes (record_place h.base i))).expression ≡ true → Reads h.vars (fields_at h i)
    unfolding fields_of
    reads e =
        let x = (record_in _ _ _ (sc.fields i inside)).fields.expression e in
        record {
          left = record { known = x.left.known; variable = x.left.variable };
          right = λ n. record { known = (x.right n).known; variable = (x.right n).variable };
        }

    -- its target, if that is a variable
    pub target_in : (row_of (byte h.bytes (record_place h.base i))).target ≡ true → byte h.bytes (record_place h.base i + 1) < h.vars
    target_in e = (record_in _ _ _ (sc.fields i inside)).fields.target e

    -- its mark, if it has one
    pub mark_in : (row_of (byte h.bytes (record_place h.base i))).mark ≡ true → byte h.bytes (record_place h.base i + 1) ≤ 3
    mark_in e = (record_in _ _ _ (sc.fields i inside)).fields.mark e

    pub command_in : byte h.bytes (record_place h.base i) < command_count
    command_in = (record_in _ _ _ (sc.fields i inside)).command

  -- the rules' step, by the fields of the record that comes next
  pub step_is : (lent : Buffers) (s : State) (i : ℕ) → i < h.records → s.at ≡ i
      → step lent (script_in h) s ≡ carried s lent (goes_to (number_at (script_in h)) h.records i) (command_from (fields_at h i))
  unfolding step
  step_is lent s i inside e = rw (e, script_length, spelled i inside)

  -- a step from the slices x, the marks k and the running record r, whose command has the number c
  module _ (x : Slices) (k : List ℕ) (r : Running) (sf : Safe h x k r) (inside : r.at < h.records) (c : ℕ) (coded : c ≡ (fields_at h r.at).command) (j : ℕ)
      (goal : j ≡ goes_to (number_at (script_in h)) h.records r.at)
    where
      -- the fields of the record
      abbrev f : Fields
      f = fields_at h r.at

      here_is : (lent : Buffers) (s : State) → s.at ≡ r.at → step lent (script_in h) s ≡ carried s lent j (command_from f)
      here_is lent s e = step_is lent s r.at inside e ∙ ap (λ (k : ℕ). carried s lent k (command_from f)) (sym goal)

      -- an action, which takes the slices to x' and the marks to k'
      pub acting : (x' : Slices) (k' : List ℕ) (a : Stepped) {move : Place → Place → Option Place} {marks : List ℕ → List ℕ → Type 0}
          (action : Run.Memory → Result Run.Memory) → SameLengths x x' → length k' ≡ length k → marks k k'
          → Acting move marks h.places h.vars x x' r a action
          → ((lent : Buffers) (s : State) → Lent h x lent → Holds r.guards s.blocks
          → carried s lent j (command_from f) ≡ onward s (map (on_block (move s.memory.cursor)) s.blocks) (suc s.at) (action s.memory))
          → Steps h x x' k k' r a
      acting x' k' a action same long marked acts is =
          record {
            safe =
                record {
                  long = rw same.words sf.long;
                  few = sf.few;
                  levelled = rw same.levels sf.levelled;
                  valued = rw same.values sf.valued;
                  cursor = acts.cursor;
                  room = acts.room sf.room;
                  within = acts.within h.records inside;
                  marks = rw long sf.marks;
                };
            kept = acts.kept;
            counted = acts.counted;
            uncounted = acts.uncounted;
            board = same.board;
            steps = λ lent s l v st.
                subst (Does (Stands h.places h.vars x' k' a.running) a.stop s)
                (sym (here_is lent s st.at ∙ is lent s l st.guards)) (acts.acts k k' marked s st);
          }

      -- a step that leaves the slices and the memory
      controlling : (a : Stepped) → Keeps r a → a.running.at ≤ h.records
          → ((lent : Buffers) (s : State) → Lent h x lent → Valid (script_in h) s → Stands h.places h.vars x k r s
          → Does (Stands h.places h.vars x k a.running) a.stop s (step lent (script_in h) s))
          → Steps h x x k k r a
      controlling a p w g =
          record {
            safe =
                record {
                  long = sf.long;
                  few = sf.few;
                  levelled = sf.levelled;
                  valued = sf.valued;
                  cursor = rw p.memory sf.cursor;
                  room = rw p.memory sf.room;
                  within = w;
                  marks = sf.marks;
                };
            kept = rw p.memory kept_refl;
            counted = p.counted;
            uncounted = p.uncounted;
            board = refl;
            steps = g;
          }

      -- the command, by its number
      numbered : (k : ℕ) (d : Command) → c ≡ k → get_or (commands_from f) k (act Action.skip) ≡ d → command_from f ≡ d
      unfolding command_from
      numbered k d e w = ap (λ (n : ℕ). get_or (commands_from f) n (act Action.skip)) (sym coded ∙ e) ∙ w

      jump_within : j ≤ h.records
      jump_within = rw goal (goes_within (number_at (script_in h)) h.records sc.blocks r.at inside)

      -- 3 and 5
      module _ (a : Stepped) where
        pub elses : c ≡ 3 → Jumps r j a → Steps h x x k k r a
        unfolding commands commands_from carried
        elses key p =
            controlling a (passes_keeps p.passes) (rw p.at jump_within) (λ lent s l v st.
            subst (Does (Stands h.places h.vars x k a.running) a.stop s)
            (sym (here_is lent s st.at ∙ ap (carried s lent _) (numbered 3 Command.else key refl)))
            (jump_steps h.places h.vars x k r s st _ a p))

        -- an end whose block remembers nothing
        pub ends : c ≡ 5 → ((s : State) → Valid (script_in h) s → s.at ≡ r.at → (b : Block) (bs : List Block) → s.blocks ≡ b ∷ bs → b.saved ≡ none)
            → Leaves r j a → Steps h x x k k r a
        unfolding commands commands_from carried
        ends key plain p =
            controlling a (passes_keeps p.passes) (rw p.at jump_within) (λ lent s l v st.
            subst (Does (Stands h.places h.vars x k a.running) a.stop s)
            (sym (here_is lent s st.at ∙ ap (carried s lent _) (numbered 5 Command.end key refl)))
            (leave_steps h.places h.vars x k r s st _ a (plain s v st.at) p))

      -- 2 and 4: there is room for one block more
      room_for : (s : State) → Valid (script_in h) s → s.at ≡ r.at → (d : Command)
          → command_from f ≡ d → opens (number d) ≡ true → length s.blocks < max_depth
      unfolding number_at
      room_for s v e d w o =
          let n : length s.blocks ≡ length (nest (number_at (script_in h)) r.at) = v.depth ∙ ap (λ (i : ℕ). length (nest (number_at (script_in h)) i)) e in
          rw n (nest_room (number_at (script_in h)) h.records sc.blocks r.at inside (rw (spelled r.at inside, w) o))

      module _ (v : Valued) (a : Stepped)
          (ev : Evaluates x.words x.levels x.values h.places h.vars r.memory (expression_from f) v)
        where
          pub ifs : c ≡ 2 → Enters enter_if r v j a → Steps h x x k k r a
          unfolding commands commands_from carried number opens branches
          ifs key n =
              controlling a n.keeps (n.within h.records jump_within inside) (λ lent s l vl st.
              subst (Does (Stands h.places h.vars x k a.running) a.stop s)
              (sym (here_is lent s st.at ∙ ap (carried s lent _) (numbered 2 _ key refl)))
              (n.enters h.places h.vars x k s _ ev.fits (ev.value x.board s.memory st.memory) (ev.level x.board s.memory st.memory)
              (room_for s vl st.at _ (numbered 2 _ key refl) refl) st))

          pub whiles : c ≡ 4 → Enters enter_while r v j a → Steps h x x k k r a
          unfolding commands commands_from carried number opens branches
          whiles key n =
              controlling a n.keeps (n.within h.records jump_within inside) (λ lent s l vl st.
              subst (Does (Stands h.places h.vars x k a.running) a.stop s)
              (sym (here_is lent s st.at ∙ ap (carried s lent _) (numbered 4 _ key refl)))
              (n.enters h.places h.vars x k s _ ev.fits (ev.value x.board s.memory st.memory) (ev.level x.board s.memory st.memory)
              (room_for s vl st.at _ (numbered 4 _ key refl) refl) st))

      -- what an if that comes back, and its end, leave alone
      staying : (k' : List ℕ) (a : Stepped) → Stays h.places r k k' j a
          → ((lent : Buffers) (s : State) → Lent h x lent → Valid (script_in h) s → Stands h.places h.vars x k r s
          → Does (Stands h.places h.vars x k' a.running) a.stop s (step lent (script_in h) s))
          → Steps h x x k k' r a
      staying k' a p g =
          record {
            safe =
                record {
                  long = sf.long;
                  few = sf.few;
                  levelled = sf.levelled;
                  valued = sf.valued;
                  cursor = p.cursor sf.cursor;
                  room = rw p.lines sf.room;
                  within = p.within h.records jump_within inside;
                  marks = rw p.long sf.marks;
                };
            kept = rw p.lines kept_refl;
            counted = p.counted;
            uncounted = p.uncounted;
            board = refl;
            steps = g;
          }

      -- 17
      pub backs : (v : Valued) (a : Stepped) → Evaluates x.words x.levels x.values h.places h.vars r.memory (expression_from f) v
          → (k' : List ℕ) → c ≡ 17 → Saves h.places r v j k k' a → Steps h x x k k' r a
      unfolding commands commands_from carried number opens branches
      backs v a ev k' key n =
          staying k' a n.stays (λ lent s l vl st.
          subst (Does (Stands h.places h.vars x k' a.running) a.stop s)
          (sym (here_is lent s st.at ∙ ap (carried s lent _) (numbered 17 _ key refl)))
          (n.enters h.vars x s _ ev.fits (ev.value x.board s.memory st.memory) (ev.level x.board s.memory st.memory)
          (room_for s vl st.at _ (numbered 17 _ key refl) refl) st))

      -- its end: the innermost block remembers a node
      pub comes_back : (a : Stepped) (k' : List ℕ) → c ≡ 5
          → ((s : State) → Valid (script_in h) s → s.at ≡ r.at → (b : Block) × (bs : List Block) × (q : Saved) × (s.blocks ≡ b ∷ bs) × (b.saved ≡ some q))
          → Restores h.places r j k k' a → Steps h x x k k' r a
      unfolding commands commands_from carried
      comes_back a k' key inner n =
          staying k' a n.stays (λ lent s l v st.
          let i = inner s v st.at in
          subst (Does (Stands h.places h.vars x k' a.running) a.stop s)
          (sym (here_is lent s st.at ∙ ap (carried s lent _) (numbered 5 Command.end key refl)))
          (n.leaves h.vars x s i.0 i.1 i.2 i.3 i.4 st))

      -- the actions, in the context pc that the guards hold
      module _ (x' : Slices) (a : Stepped) (pc : ℕ) (top : (bs : List Run.Block) → Holds r.guards bs → pc ≡ context bs) (same : SameLengths x x')
        where
          -- the action α of the number n is what was done
          by_number : (k' : List ℕ) {marks : List ℕ → List ℕ → Type 0} (n : ℕ) (α : Action) (action : Run.Memory → Result Run.Memory) → c ≡ n
              → get_or (commands_from f) n (act Action.skip) ≡ act α
              → ((lent : Buffers) (μ : Run.Memory) → Lent h x lent → effect lent pc μ α ≡ action μ) → length k' ≡ length k → marks k k'
              → Acting (relocate α) marks h.places h.vars x x' r a action → Steps h x x' k k' r a
          unfolding carried relocated
          by_number k' n α action key w is long marked acts =
              acting x' k' a action same long marked acts (λ lent s l held.
              ap (carried s lent _) (numbered n (act α) key w)
              ∙ ap (λ (l : ℕ). onward s (relocated s α) (suc s.at) (effect lent l s.memory α)) (sym (top s.blocks held))
              ∙ ap (onward s (relocated s α) (suc s.at)) (is lent s.memory l))

          pub skips : c ≡ 0 → Acts h.places h.vars x x' r a (λ μ. next μ) → Steps h x x' k k r a
          unfolding commands commands_from effect relocate
          skips key = by_number k 0 Action.skip _ key refl (λ lent μ l. refl) refl refl

          pub assigns : (i : ℕ) → i ≡ f.target → c ≡ 1
              → Acts h.places h.vars x x' r a (λ μ. Run.assign pc μ i (Run.variable_at μ.variables i) (expression_from f)) → Steps h x x' k k r a
          unfolding commands commands_from effect relocate
          assigns i is key = by_number k 1 (Action.assign _ _) _ key refl (λ lent μ l. rw is) refl refl

          pub outputs : (d : ℕ) → d ≡ f.target % 256 → c ≡ 6
              → Acts h.places h.vars x x' r a
              (λ μ. Run.output pc μ (capacity x.board) d (expression_from f))
              → Steps h x x' k k r a
          unfolding commands commands_from effect relocate
          outputs d is key = by_number k 6 (Action.output _ _) _ key refl (λ lent μ l. rw (l.board, is)) refl refl

          pub writes : c ≡ 15
              → Acts h.places h.vars x x' r a (λ μ. Run.write pc μ (expression_from f))
              → Steps h x x' k k r a
          unfolding commands commands_from effect relocate
          writes key = by_number k 15 (Action.write _) _ key refl (λ lent μ l. refl) refl refl

          pub raises : (d : ℕ) → d ≡ cover_set (f.fifth % 256) → c ≡ 16
              → Acts h.places h.vars x x' r a (λ μ. Run.move_to pc μ μ.cursor (join μ.level d)) → Steps h x x' k k r a
          unfolding commands commands_from effect relocate
          raises d is key = by_number k 16 (Action.raise _) _ key refl (λ lent μ l. rw is) refl refl

          -- 7 to 10
          pub goes : 7 ≤ c → c ≤ 10
              → Acts h.places h.vars x x' r a (λ μ. move_of c pc μ) → Steps h x x' k k r a
          unfolding commands commands_from effect relocate move_of
          goes l m acts = pick (one_of_four _ 7 l m)
            where
              pick : OneOfFour c 7 → Steps h x x' k k r a
              pick (first e) = by_number k 7 Action.goRoot _ e refl (λ lent μ l. rw e) refl refl acts
              pick (second e) = by_number k 8 Action.goParent _ e refl (λ lent μ l. rw e) refl refl acts
              pick (third e) = by_number k 9 (Action.go child) _ e refl (λ lent μ l. rw e) refl refl acts
              pick (fourth e) = by_number k 10 (Action.go sibling) _ e refl (λ lent μ l. rw e) refl refl acts

          pub goes_left : c ≡ 18
              → Acts h.places h.vars x x' r a (λ μ. Run.go_to pc μ (left_of μ.cursor)) → Steps h x x' k k r a
          unfolding commands commands_from effect relocate
          goes_left key = by_number k 18 Action.goLeft _ key refl (λ lent μ l. refl) refl refl

          pub goes_last : c ≡ 19
              → Acts h.places h.vars x x' r a (λ μ. Run.go_to_last pc μ) → Steps h x x' k k r a
          unfolding commands commands_from effect relocate
          goes_last key = by_number k 19 Action.goLast _ key refl (λ lent μ l. refl) refl refl

          -- 11 and 12
          pub inserts : (d q : ℕ) (side : Side) → d ≡ content_set f.target (f.fifth % 256) → q ≡ list_set f.target (f.sixth % 256) → c ≡ word_on side + 11
              → Acting (shifted side) Same h.places h.vars x x' r a
              (λ μ. Run.insert_at pc μ h.places (to side μ.cursor) (up (to side μ.cursor)) d q (expression_from f))
              → Steps h x x' k k r a
          unfolding commands commands_from effect relocate
          inserts d q child is so key acts = by_number k 11 (Action.insert child _ _ _) _ key refl (λ lent μ l. rw (l.places, is, so)) refl refl acts
          inserts d q sibling is so key acts = by_number k 12 (Action.insert sibling _ _ _) _ key refl (λ lent μ l. rw (l.places, is, so)) refl refl acts

          -- 13 and 14
          pub removes : (k' : List ℕ) (side : Side) → c ≡ word_on side + 13 → length k' ≡ length k
              → Acting (closed_up side) (Becomes k k') h.places h.vars x x' r a (λ μ. Run.remove_at pc μ (to side μ.cursor))
              → Steps h x x' k k' r a
          unfolding commands commands_from effect relocate
          removes k' child key long acts = by_number k' 13 (Action.remove child) _ key refl (λ lent μ l. refl) long (refl, refl) acts
          removes k' sibling key long acts = by_number k' 14 (Action.remove sibling) _ key refl (λ lent μ l. refl) long (refl, refl) acts

-- the numbers that no single arm takes

above : (j k : ℕ) → j ≤ k → (k ≡ j → ⊥) → suc j ≤ k
above j k l n = omega arith

pub from_seven : (k : ℕ) → (k ≡ 0 → ⊥) → (k ≡ 1 → ⊥) → (k ≡ 2 → ⊥) → (k ≡ 3 → ⊥) → (k ≡ 4 → ⊥) → (k ≡ 5 → ⊥) → (k ≡ 6 → ⊥) → 7 ≤ k
from_seven k a b c d e f g =
    above 6 k (above 5 k (above 4 k (above 3 k (above 2 k (above 1 k (above 0 k (omega arith) a) b) c) d) e) f) g

pub from_twenty : (k : ℕ) → 15 ≤ k → (k ≡ 15 → ⊥) → (k ≡ 16 → ⊥) → (k ≡ 17 → ⊥) → (k ≡ 18 → ⊥) → (k ≡ 19 → ⊥) → 20 ≤ k
from_twenty k l a b c d e = above 19 k (above 18 k (above 17 k (above 16 k (above 15 k l a) b) c) d) e

-- 11 and 12 have a mark and an expression
pub insert_row : (k : ℕ) → 11 ≤ k → k < 13 → ((row_of k).mark ≡ true) × ((row_of k).expression ≡ true)
unfolding rows
insert_row k l m = pick (k - 11) refl
  where
    pick : (d : ℕ) → k - 11 ≡ d → ((row_of k).mark ≡ true) × ((row_of k).expression ≡ true)
    pick zero e = let i : k ≡ 11 = omega arith in (ap (λ (n : ℕ). (row_of n).mark) i, ap (λ (n : ℕ). (row_of n).expression) i)
    pick (suc zero) e = let i : k ≡ 12 = omega arith in (ap (λ (n : ℕ). (row_of n).mark) i, ap (λ (n : ℕ). (row_of n).expression) i)
    pick (suc (suc d)) e = absurd (omega arith)

-- the first of a list that is mapped as another
first_mapped : {A B : Type 0} (f : A → Bool) (g : B → Bool) (xs : List A) (y : B) (ys : List B) → map f xs ≡ map g (y ∷ ys)
    → (x : A) × (rest : List A) × (xs ≡ x ∷ rest) × (f x ≡ g y)
first_mapped f g [] y ys e = absurd (omega (arith, ap (λ bs. length bs) e))
first_mapped f g (x ∷ xs) y ys e = (x, xs, refl, cc)

-- whether something is remembered
is_none : (r : Option Saved) → Option-elim r false (λ q. true) ≡ false → r ≡ none
unfolding Option-elim
is_none none e = refl
is_none (some q) e = clash refl e

is_some : (r : Option Saved) → Option-elim r false (λ q. true) ≡ true → (q : Saved) × (r ≡ some q)
unfolding Option-elim
is_some none e = clash e refl
is_some (some q) e = (q, refl)

-- the command m that the number c of a word stands for: itself, or an end, by the command o that opened its block
data Means (c m o : ℕ) : Type 0 where
  itself : c ≡ m → (m ≡ 5 → eqb o 17 ≡ false) → Means c m o
  back : c ≡ end_back → m ≡ 5 → eqb o 17 ≡ true → Means c m o

means : (m o : ℕ) → Means (cond (eqb m 5) (end_code o) m) m o
unfolding end_code
means m o = go (test (eqb m 5)) (test (eqb o 17))
  where
    go : Test (eqb m 5) → Test (eqb o 17) → Means (cond (eqb m 5) (end_code o) m) m o
    go (holds e) (holds e') = rw (e, e') (back refl (eqb-true _ _ e) e')
    go (holds e) (fails e') = rw (e, e') (itself (sym (eqb-true _ _ e)) (λ _. e'))
    go (fails e) _ = rw e (itself refl (λ i. clash (eq-eqb _ _ i) e))

means_small : {c m o : ℕ} → m < command_count → Means c m o → c < end_mark
means_small l (itself e _) = omega arith
means_small l (back e _ _) = omega arith

-- what the word of the plan says, by the number c that it holds
module _ (h : Held) (sc : Script h) (x : Slices) (k : List ℕ) (r : Running) (sf : Safe h x k r) (c : ℕ) (read : c ≡ code_of (get_or h.plan r.at 0)) where
  -- the command numbers, and the one that opened the innermost block here
  abbrev numbers : ℕ → ℕ
  numbers = number_at (script_in h)

  abbrev opener : ℕ
  opener = numbers (head_d (nest numbers r.at) 0)

  module _ (inside : r.at < h.records) where
    number_is : numbers r.at ≡ byte h.bytes (record_place h.base r.at)
    unfolding number_at
    number_is =
        ap number (section_spelled h.bytes h.base h.records r.at inside)
        ∙ numbered_at h.bytes h.vars (record_place h.base r.at) (sc.fields r.at inside)

    small : numbers r.at < command_count
    small = omega (arith, number_is, command_in h sc r.at inside)

    meant : Means (plan_code numbers r.at) (numbers r.at) opener
    unfolding plan_code
    meant = means (numbers r.at) opener

    coded : Means c (numbers r.at) opener
    coded =
        subst (λ (n : ℕ). Means n (numbers r.at) opener)
        (sym (read ∙ ap code_of (sc.plan.each r.at inside) ∙ code_entry _ _ (omega (arith, means_small small meant)))) meant

    -- where the record goes
    pub goal_by : (j : ℕ) → j ≡ next_of (get_or h.plan r.at 0) → j ≡ goes_to numbers h.records r.at
    goal_by j e =
        e ∙ ap next_of (sc.plan.each r.at inside) ∙ next_entry _ _ (omega (arith, means_small small meant))

    -- at an end the innermost block remembers a node exactly where an if that comes back opened it
    innermost : numbers r.at ≡ 5 → (s : State) → Valid (script_in h) s → s.at ≡ r.at
        → (b : Block) × (bs : List Block) × (s.blocks ≡ b ∷ bs) × (remembers b ≡ eqb opener 17)
    unfolding closes head_d
    innermost e s v i =
        let n = nest_some numbers h.records sc.blocks r.at inside (rw e refl) in
        let f = first_mapped remembers (returns_at (script_in h)) s.blocks n.0 (nest numbers n.0)
        (v.kinds ∙ ap (λ (a : ℕ). map (returns_at (script_in h)) (nest numbers a)) i ∙ ap (map (returns_at (script_in h))) n.1) in
        (f.0, f.1, f.2, f.3 ∙ ap (λ (os : List ℕ). eqb (numbers (head_d os 0)) 17) (sym n.1))

  -- a number that stands for a command is a record's
  inside_by : c < end_mark → r.at < h.records
  inside_by l = pick (test (ltb r.at h.records))
    where
      pick : Test (ltb r.at h.records) → r.at < h.records
      pick (holds e) = ltb-true r.at h.records e
      pick (fails e) =
          let o = ltb-false r.at h.records e in
          let at : r.at ≡ h.records = omega (arith, o, sf.within) in
          let m : c ≡ 255 = read ∙ ap (λ (i : ℕ). code_of (get_or h.plan i 0)) at ∙ ap code_of sc.plan.last ∙ code_mark in
          absurd (omega (arith, m))

  -- another is no record's
  pub outside_by : command_count ≤ c → (c ≡ end_back → ⊥) → h.records ≤ r.at
  outside_by l n = pick (test (ltb r.at h.records))
    where
      out : (i : r.at < h.records) → Means c (numbers r.at) opener → ⊥
      out i (itself e _) = omega (arith, small i)
      out i (back e _ _) = n e

      pick : Test (ltb r.at h.records) → h.records ≤ r.at
      pick (holds e) = let i = ltb-true r.at h.records e in absurd (out i (coded i))
      pick (fails e) = ltb-false r.at h.records e

  -- what is known in an arm
  pub record Known (n : ℕ) : Type 0 where
    pub inside : r.at < h.records
    pub coded : n ≡ (fields_at h r.at).command

  pub known_by : c < command_count → Known c
  unfolding fields_of
  known_by l = let i = inside_by (omega arith) in record { inside = i; coded = pick i (coded i) }
    where
      pick : (i : r.at < h.records) → Means c (numbers r.at) opener → c ≡ byte h.bytes (record_place h.base r.at)
      pick i (itself e _) = e ∙ number_is i
      pick i (back e _ _) = absurd (omega arith)

  -- an end whose block remembers nothing
  pub plain_end : c ≡ 5 → (s : State) → Valid (script_in h) s → s.at ≡ r.at → (b : Block) (bs : List Block) → s.blocks ≡ b ∷ bs → b.saved ≡ none
  unfolding remembers
  plain_end z s v a b bs e = let i = inside_by (omega arith) in pick i (coded i)
    where
      pick : (i : r.at < h.records) → Means c (numbers r.at) opener → b.saved ≡ none
      pick i (itself f o) =
          let n = innermost i (sym f ∙ z) s v a in
          let w : n.0 ≡ b = cc in
          is_none b.saved (subst (λ y. remembers y ≡ eqb opener 17) w n.3 ∙ o (sym f ∙ z))
      pick i (back f _ _) = absurd (omega arith)

  -- the end of an if that comes back
  module _ (z : c ≡ end_back) where
    is_back_law : (i : r.at < h.records) → Means c (numbers r.at) opener → (numbers r.at ≡ 5) × (eqb opener 17 ≡ true)
    is_back_law i (itself e _) = absurd (omega (arith, small i))
    is_back_law i (back _ e o) = (e, o)

    pub known_back : Known 5
    unfolding fields_of
    known_back = let i = inside_by (omega arith) in record { inside = i; coded = sym (is_back_law i (coded i)).0 ∙ number_is i }

    pub inner_back : (s : State) → Valid (script_in h) s → s.at ≡ r.at
        → (b : Block) × (bs : List Block) × (q : Saved) × (s.blocks ≡ b ∷ bs) × (b.saved ≡ some q)
    unfolding remembers
    inner_back s v a =
        let i = inside_by (omega arith) in
        let e = is_back_law i (coded i) in
        let n = innermost i e.0 s v a in
        let q = is_some n.0.saved (n.3 ∙ e.1) in
        (n.0, n.1, q.0, n.2, q.1)

-- a step, or the script's end
module _ (h : Held) (x x' : Slices) (k k' : List ℕ) (r : Running) (a : Stepped) where
  pub as_step : r.at < h.records → Steps h x x' k k' r a → Carries h x x' k k' r a
  as_step inside s = record { steps = λ _. s; ends = λ o. absurd (omega arith) }

pub as_end : (h : Held) (x : Slices) (k : List ℕ) (r : Running) (a : Stepped) → h.records ≤ r.at → a ≡ answered ended r → Carries h x x k k r a
as_end h x k r a o e = record { steps = λ inside. absurd (omega arith); ends = λ _. (refl, refl, e) }

-- what the arms ask
module _ (h : Held) (sc : Script h) (x : Slices) (k : List ℕ) (r : Running) (sf : Safe h x k r) (inside : r.at < h.records) where
  pub readable : Readable x.words x.levels x.values h.places h.vars r.memory
  readable = record { long = sf.long; few = sf.few; cursor = sf.cursor; levelled = sf.levelled; valued = sf.valued }

  pub at_cursor : Within x.words h.places r.memory.cursor
  at_cursor = record { long = sf.long; few = sf.few; inside = sf.cursor }

  pub timely : 0 < r.left → Timely r
  timely e = record { near = omega (arith, sc.few); more = e }

  -- the record lies in the bytes
  pub record_there : record_place h.base r.at + record_size ≤ length h.bytes
  record_there = omega (arith, sc.inside)

  module _ (c : ℕ) (coded : c ≡ (fields_at h r.at).command) where
    command_is : byte h.bytes (record_place h.base r.at) ≡ c
    unfolding fields_of
    command_is = sym coded

    -- its expression, where it has one
    pub expressed : (row_of c).expression ≡ true → Readable x.words x.levels x.values h.places h.vars r.memory × Reads h.vars (fields_at h r.at)
    expressed e = (readable, reads h sc r.at inside (ap (λ (n : ℕ). (row_of n).expression) command_is ∙ e))

    pub target_by : c ≡ 1 → (fields_at h r.at).target < h.vars
    unfolding rows fields_of
    target_by key = target_in h sc r.at inside (ap (λ (n : ℕ). (row_of n).target) (command_is ∙ key))

    pub mark_by : (row_of c).mark ≡ true → (fields_at h r.at).target ≤ 3
    unfolding fields_of
    mark_by e = mark_in h sc r.at inside (ap (λ (n : ℕ). (row_of n).mark) command_is ∙ e)
