use Rattle.std.proofs.Common.{◌≡◌, true, false, sym, ◌∙◌, arith}
use Rattle.hare_depends.specs.Edges.{Returns}
use Rattle.hare_depends.proofs.FindLemmas.{none-below}
use Rattle.hare_depends.proofs.circles.first_returning.Goals as goal

pub returns-then-branch : goal.returns-then-branch
returns-then-branch c = (c.loop-node-test.true, c.in_ok-returns.ensures.0 c.if-branch.true, c.loop-node.invariant)

pub loop-node-preserved : goal.loop-node-preserved
loop-node-preserved c =
    none-below (Returns c.args.forward.now) c.loop-node.node c.loop-node.invariant
    (λ r. let e : true ≡ false = sym (c.in_ok-returns.ensures.1 r) ∙ c.if-branch.false in absurd cc)

pub returns : goal.returns
returns c = λ d l r. c.loop-node.invariant d (omega arith) r
