use Rattle.std.proofs.Common.{Some, arith}
use Rattle.rule_switch.specs.Labels.{range_told}
use Rattle.rule_switch.proofs.CoverLemmas.{case_counted}
use Rattle.rule_switch.proofs.covered.count_within.Goals as goal

pub loop-i-preserved : goal.loop-i-preserved
loop-i-preserved c = record {
  whole = λ f l.
      case_counted f (Some c.args.t) (range_told c.args.limits) c.loop-i.count _ c.args.kids.now c.loop-i.i c.in-Some.case.now
      c.count_case.result c.in-Some.ensures.found (c.count_case.ensures f l) (c.loop-i.invariant.whole f l);
  few = omega (arith, c.loop-i.invariant.few);
}
