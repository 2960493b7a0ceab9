-- `advance` meets its contract: the record's own word and that of the part which it closes, the innermost, begun before it; and of both arrays a store at the
-- depth, a store at the last entry, or a smaller depth. Assumes nothing.
use mathlib.Core.Path.{◌≡◌, sym, ◌∙◌, subst}
use mathlib.Core.List.{◌∷◌}
use Prim.Native.Nat.{◌-◌}
use native.Mathlib.Omega.{arith}
use Rattle.rules.specs.Blocks.{parts, nest}
use Rattle.rules.specs.Check.{code}
use Rattle.rules.proofs.Tests.{clash}
use Rattle.rules.proofs.Parts.{before, after_open, after_else, after_end, after_plain, not_else, end_closes, opens_closes}
use Rattle.rules.proofs.Nests.{nest_open, nest_else, nest_end, nest_plain, nest_tail}
use Rattle.job.specs.Parts.{stack, Spells, placed_at}
use Rattle.job.proofs.Stack.{opening, plain, room, some_else, some_end, by_if_law, top, push, replace, pop}
use Rattle.job.proofs.Fill.{fill_first, fill_else, fill_end}
use Rattle.job.proofs.blocks.advance.Goals as goal
use Rattle.job.proofs.blocks.advance.Goals.{After-innermost-b, After-innermost-o, After-innermost-o-in-5, In-3, In-5}

-- an else and an end find an open part
at_else : (c : In-3) → c.args.depth ≡ 0 → ⊥
unfolding placed_at
at_else c = let r = c.requires.0 in some_else _ _ _ r.stands.spells _ _ r.passes (sym c.code_at-command.ensures ∙ c.in-3.is)

at_end_law : (c : In-5) → c.args.depth ≡ 0 → ⊥
unfolding placed_at
at_end_law c = let r = c.requires.0 in some_end _ _ _ r.stands.spells _ _ r.passes (sym c.code_at-command.ensures ∙ c.in-5.is)

-- the innermost is what they read
top_else : (c : After-innermost-o) → let a = c.args in
    parts (code a.job.now a.base) a.i ≡ c.innermost-o.result ∷ stack a.begun.now (a.depth - 1)
unfolding placed_at
top_else c = rw c.innermost-o.ensures (top _ _ _ c.requires.0.stands.spells ((let r = c.requires.0 in some_else _ _ _ r.stands.spells _ _ r.passes (sym c.code_at-command.ensures ∙ c.in-3.is))))

top_end : (c : After-innermost-o-in-5) → let a = c.args in
    parts (code a.job.now a.base) a.i ≡ c.innermost-o-in-5.result ∷ stack a.begun.now (a.depth - 1)
unfolding placed_at
top_end c = rw c.innermost-o-in-5.ensures (top _ _ _ c.requires.0.stands.spells ((let r = c.requires.0 in some_end _ _ _ r.stands.spells _ _ r.passes (sym c.code_at-command.ensures ∙ c.in-5.is))))

top_block : (c : After-innermost-b) → let a = c.args in
    nest (code a.job.now a.base) a.i ≡ c.innermost-b.result ∷ stack a.opened.now (a.depth - 1)
unfolding placed_at
top_block c = rw c.innermost-b.ensures (top _ _ _ c.requires.0.blocks ((let r = c.requires.0 in some_end _ _ _ r.stands.spells _ _ r.passes (sym c.code_at-command.ensures ∙ c.in-5.is))))

pub bounds-begun-depth : goal.bounds-begun-depth
unfolding placed_at
bounds-begun-depth c = let r = c.requires.0 in
    let h = room _ _ _ r.stands.spells _ _ r.passes (opening c.code_at-command.ensures c.in-2.is) in omega (arith, r.stands.spells.size)

pub bounds-opened-depth : goal.bounds-opened-depth
unfolding placed_at
bounds-opened-depth c = let r = c.requires.0 in
    let h = room _ _ _ r.stands.spells _ _ r.passes (opening c.code_at-command.ensures c.in-2.is) in omega (arith, r.blocks.size)

pub innermost-o-requires : goal.innermost-o-requires
innermost-o-requires c = let s = c.requires.0.stands.spells in (at_else c, omega (arith, s.deep, s.size))

pub code_at-requires : goal.code_at-requires
code_at-requires c = let h = before _ _ _ _ (top_else (goal.at.code_at-requires c).After-innermost-o) in omega (arith, c.requires.0.stands.inside)

pub close-requires : goal.close-requires
close-requires c = let h = before _ _ _ _ (top_else (goal.at.close-requires c).After-innermost-o) in (c.requires.1, omega (arith, c.requires.1))

pub overflow_sub-begun : goal.overflow_sub-begun
overflow_sub-begun c = let n = at_else (goal.at.overflow_sub-begun c).In-3 in omega arith

pub innermost-o-requires-in-5 : goal.innermost-o-requires-in-5
innermost-o-requires-in-5 c = let s = c.requires.0.stands.spells in (at_end_law c, omega (arith, s.deep, s.size))

pub innermost-b-requires : goal.innermost-b-requires
innermost-b-requires c = let s = c.requires.0.blocks in (at_end_law (goal.at.innermost-b-requires c).In-5, omega (arith, s.deep, s.size))

pub end_part-requires : goal.end_part-requires
end_part-requires c = let r = c.requires in
    let h = before _ _ _ _ (top_end (goal.at.end_part-requires c).After-innermost-o-in-5) in
    let l = (nest_tail _ _ _ _ (top_block (goal.at.end_part-requires c).After-innermost-b)).earlier in
    (omega (arith, r.0.stands.inside), omega (arith, r.0.stands.inside), h, r.0.few, r.1)

pub overflow_sub-result : goal.overflow_sub-result
overflow_sub-result c = let n = at_end_law (goal.at.overflow_sub-result c).In-5 in omega arith

pub returns-in-2 : goal.returns-in-2
unfolding placed_at parts
returns-in-2 c = let r = c.requires.0 in
    let e = opening c.code_at-command.ensures c.in-2.is in
    let h = room _ _ _ r.stands.spells _ _ r.passes e in
    record {
      spells = subst (Spells _ _) (sym (after_open _ _ _ e)) (push _ _ _ r.stands.spells _ h);
      blocks = subst (Spells _ _) (sym (nest_open _ _ e)) (push _ _ _ r.blocks _ h);
      plans = λ n p h w.
          rw (c.word.ensures, c.code_at-command.ensures)
          (fill_first _ n _ p _ h c.requires.1 w (not_else _ e) (λ q. clash (end_closes _ q) (opens_closes _ e)));
    }

pub returns-in-3 : goal.returns-in-3
unfolding placed_at parts
returns-in-3 c = let r = c.requires.0 in
    let e = sym c.code_at-command.ensures ∙ c.in-3.is in
    record {
      spells = subst (Spells _ _) (sym (after_else _ _ _ e)) (replace _ _ _ r.stands.spells _ (at_else (goal.at.returns-in-3 c).In-3));
      blocks = subst (Spells _ _) (sym (nest_else _ _ e)) r.blocks;
      plans = λ n p h w.
          rw (c.close.ensures, c.word-in-3-2.ensures, c.word-in-3.ensures, c.code_at.ensures)
          (fill_else _ n _ p _ h c.requires.1 w _ _ (top_else (goal.at.returns-in-3 c).After-innermost-o) e
          (rw c.innermost-o.ensures (by_if_law _ _ _ r.stands.spells _ _ r.passes e)));
    }

pub returns-in-5 : goal.returns-in-5
unfolding parts
returns-in-5 c = let r = c.requires.0 in
    let e = sym c.code_at-command.ensures ∙ c.in-5.is in
    let n = at_end_law (goal.at.returns-in-5 c).In-5 in
    record {
      spells = subst (Spells _ _) (sym (after_end _ _ _ e)) (pop _ _ _ r.stands.spells n);
      blocks = subst (Spells _ _) (sym (nest_end _ _ e)) (pop _ _ _ r.blocks n);
      plans = λ n p h w. rw c.end_part.ensures (fill_end _ n _ p _ h c.requires.1 w _ _ (top_end (goal.at.returns-in-5 c).After-innermost-o-in-5) _ _ (top_block (goal.at.returns-in-5 c).After-innermost-b) e);
    }

pub returns-in_default : goal.returns-in_default
unfolding parts
returns-in_default c = let m = c.in_default.in_default-own.rest in
    let k = plain c.code_at-command.ensures m.0.0.1 m.0.1 m.1 in
    let r = c.requires.0 in
    record {
      spells = subst (Spells _ _) (sym (after_plain _ _ _ k)) r.stands.spells;
      blocks = subst (Spells _ _) (sym (nest_plain _ _ k)) r.blocks;
      plans = λ n p h w. rw (c.word-in_default.ensures, c.code_at-command.ensures) (fill_first _ n _ p _ h c.requires.1 w k.not3 k.not5);
    }
