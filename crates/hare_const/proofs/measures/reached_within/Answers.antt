use Rattle.std.proofs.Common.{◌∙◌}
use Rattle.hare_const.proofs.PartLemmas.{reached_next}
use Rattle.hare_const.proofs.measures.reached_within.Goals as goal

pub loop-passed-preserved : goal.loop-passed-preserved
loop-passed-preserved c =
    reached_next c.args.s.now c.args.most c.loop-passed.passed c.loop-passed.at c.followed-at.result c.loop-passed-test.true
    c.followed-at.ensures
    ∙ c.loop-passed.invariant
