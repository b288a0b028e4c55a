use Rattle.std.proofs.Common.{◌-◌, sym, ◌∙◌, arith}
use Rattle.rule_mem.proofs.ReachLemmas.{reached_within-stuck, reached_within-more}
use Rattle.rule_mem.proofs.reads.reached_within.Goals as goal

pub loop-passed-preserved : goal.loop-passed-preserved
loop-passed-preserved c = record {
  defined = c.in-Some.ensures.defined;
  rest = λ f l.
      reached_within-more c.args.most c.loop-passed.passed f c.loop-passed.at _ c.in-Some.t (omega arith)
      (sym (c.in-Some.ensures.value f l)) (c.loop-passed.invariant.rest f l);
}

pub returns-in-None-clause-value : goal.returns-in-None-clause-value
returns-in-None-clause-value c f l =
    sym (reached_within-stuck (c.args.most - c.loop-passed.passed) f c.loop-passed.at (sym (c.in-None.ensures.value f l))) ∙
    c.loop-passed.invariant.rest f l
