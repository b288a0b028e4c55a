use Rattle.std.proofs.Common.{sym, subst}
use Rattle.rule_judge.specs.Defined.{AreDefinedYields}
use Rattle.rule_judge.proofs.DefinedLemmas.{in_store}
use Rattle.rule_judge.proofs.YieldLemmas.{yield_defined}
use Rattle.rule_judge.proofs.yields.first_going.Goals as goal

pub is_never-requires : goal.is_never-requires
is_never-requires c =
    in_store c.args.s.now c.y-item.result.ty
    (yield_defined c.args.s.now _ c.loop-y.y-index c.y-item.result
    (subst (AreDefinedYields c.args.s.now) (sym c.as_slice-y-items.ensures) c.requires) c.loop-y-test.true c.y-item.is)

pub returns-then-not-is_never-clause-defined : goal.returns-then-not-is_never-clause-defined
returns-then-not-is_never-clause-defined c =
    yield_defined c.args.s.now _ c.loop-y.y-index c.y-item.result
    (subst (AreDefinedYields c.args.s.now) (sym c.as_slice-y-items.ensures) c.requires) c.loop-y-test.true c.y-item.is
