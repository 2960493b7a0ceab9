-- `skip` meets its contract: each turn drops what is left of the block, the last one as much as is wanted. Assumes nothing.
use Rattle.std.proofs.Common.{◌≡◌, [], ◌+◌, arith, rules, drop-drop, ap, sym, refl, ◌∙◌, take, drop, subst}
use Rattle.frames.specs.Block.{Block}
use Rattle.frames.proofs.Coming.{Came, begun, whole, short, leap, empty, dry}
use Rattle.frames.proofs.input.Input.skip.Goals as goal

pub loop-count-init : goal.loop-count-init
loop-count-init c = (search rules, begun _ _)

pub loop-count-preserved : goal.loop-count-preserved
loop-count-preserved c = (
  search rules,
  let i = c.self.inside in
      let there : c.ready.new.self.gone + c.min-k.result ≡ i.from + c.min-k.result = ap (λ (b : Block). b.gone + c.min-k.result) (sym c.self.view_is) in
      let rest : drop c.min-k.result c.ready.new.self.left ≡ drop (i.from + c.min-k.result) (take i.end i.block) =
      ap (λ (b : Block). drop c.min-k.result b.left) (sym c.self.view_is) ∙ drop-drop c.min-k.result i.from (take i.end i.block) in
      subst (λ (u : Block). Came c.args.self.now [] [] u (c.loop-count.count + c.min-k.result))
      (λ j. record { gone = there j; left = rest j; bytes = ap (λ (b : Block). b.bytes) (sym c.self.view_is) j; stdin = ap (λ (b : Block). b.stdin) (sym c.self.view_is) j })
      (leap c.loop-count.invariant.1 c.ready.ensures c.min-k.result (omega arith) (omega arith)),
)

pub returns-then-k-eq0 : goal.returns-then-k-eq0
returns-then-k-eq0 c =
    let z : c.ready.new.self.left ≡ [] = empty (omega arith) in
    short c.loop-count.invariant.1 _ c.loop-count-test.true (dry c.ready.ensures z) c.ready.ensures z

pub returns : goal.returns
returns c = whole c.loop-count.invariant.1 _ _ refl (search rules)
