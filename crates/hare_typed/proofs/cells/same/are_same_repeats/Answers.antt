use Rattle.std.proofs.Common.{arith, rules}
use Rattle.hare_typed.proofs.StretchLemmas.{agree_all, agree_more}
use Rattle.hare_typed.proofs.cells.same.are_same_repeats.Goals as goal

pub loop-i-preserved : goal.loop-i-preserved
loop-i-preserved c =
    agree_more c.args.left.now c.args.right.now c.loop-i.i (record { from = 0; to = 0; more = 0 }) (omega arith) (omega arith)
    (search rules) c.loop-i.invariant

pub returns : goal.returns
returns c = (
  λ _. agree_all c.loop-i.i c.args.left.now c.args.right.now (omega arith) (omega arith) c.loop-i.invariant,
  λ _. search rules,
)
