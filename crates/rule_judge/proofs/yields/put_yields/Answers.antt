use Rattle.std.proofs.Common.{sym, subst}
use Rattle.rule_judge.specs.Defined.{AreDefinedYields, AreDefinedCoercions}
use Rattle.rule_judge.proofs.YieldLemmas.{yield_defined, coercions_push, put_more}
use Rattle.rule_judge.proofs.yields.put_yields.Goals as goal

pub to_type-requires-clause-value : goal.to_type-requires-clause-value
to_type-requires-clause-value c =
    yield_defined c.args.s.now _ c.loop-y.y-index c.y-item.result
    (subst (AreDefinedYields c.args.s.now) (sym c.as_slice-y-items.ensures) c.requires.yields) c.loop-y-test.true c.y-item.is

pub loop-y-preserved : goal.loop-y-preserved
loop-y-preserved c = record {
  value = λ f l.
      put_more f c.args.coercions.now c.loop-y.coercions c.push.new.self c.as_slice-y-items.result.now c.loop-y.y-index c.y-item.result
      c.to_type.result c.args.to.now
      (c.loop-y.invariant.value f l) c.loop-y-test.true c.y-item.is (c.to_type.ensures.value f l) c.in_ok-push.ensures.ok;
  defined =
      subst (AreDefinedCoercions c.args.s.now) (sym c.in_ok-push.ensures.ok)
      (coercions_push c.args.s.now c.loop-y.coercions c.to_type.result c.loop-y.invariant.defined c.to_type.ensures.defined);
}
