use Rattle.std.proofs.Common.{sym, arith}
use Rattle.hare_typed.proofs.GivenLemmas.{followed-more}
use Rattle.hare_typed.proofs.given.followed.Goals as goal

pub loop-passed-preserved : goal.loop-passed-preserved
loop-passed-preserved c =
    followed-more c.loop-passed.passed c.args.s.now c.loop-passed.at c.in-Some.i _ (omega arith) (sym c.in-Some.ensures)
    c.loop-passed.invariant
