use Rattle.std.proofs.Common.{◌∙◌, refl, subst}
use Rattle.harec_check.proofs.CountLemmas.{Rose-one_more, StopsAtFault-one_more, StopsAtFault-stands}
use Rattle.harec_check.proofs.FileLemmas.{AreTold-more}
use Rattle.harec_check.proofs.files.read_all.Goals as goal

pub loop-i-preserved : goal.loop-i-preserved
loop-i-preserved g c =
    let (src, grown, told) = c.in-Ok.ensures.bytes in
    let kept = c.loop-i.invariant in
    record {
      told = AreTold-more _ _ _ _ _ _ src c.loop-i-test.true c.index-paths-i.is kept.told grown (rw kept.same at told);
      stands = c.in-Ok.ensures.count.cause ∙ kept.stands;
      same = λ p. c.in-Ok.ensures.same p ∙ kept.same p;
    }

-- the count is one more than before the first read, since none in front failed
pub returns-in-Err-Failed-clause-last : goal.returns-in-Err-Failed-clause-last
returns-in-Err-Failed-clause-last g c =
    let risen = rw (c.in-Err-Failed.field-0-is, c.loop-i.invariant.stands) at c.in-Err-Failed.ensures.count.cause in
    StopsAtFault-one_more _ _ _ risen (c.in-Err-Failed.ensures.last (rw c.in-Err-Failed.field-0-is refl))

pub returns-in-Err-Memory-clause-last : goal.returns-in-Err-Memory-clause-last
returns-in-Err-Memory-clause-last g c =
    let stands = rw c.in-Err-Memory.field-0-is at c.in-Err-Memory.ensures.count.cause in
    StopsAtFault-stands _ _ _ (stands ∙ c.loop-i.invariant.stands)

pub returns-clause-last : goal.returns-clause-last
returns-clause-last g c = StopsAtFault-stands _ _ _ c.loop-i.invariant.stands
