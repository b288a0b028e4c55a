use Rattle.std.proofs.Common.{sym, subst}
use Rattle.std.proofs.lemmas.Result.{on_ok_weaker}
use Rattle.hare_rules.specs.Flow.{Flow}
use Rattle.hare_find.specs.Defined.{AreDefinedYielded}
use Rattle.hare_find.proofs.YieldsSeen.DefinedTypes.{yielded_filter}
use Rattle.hare_find.proofs.yields.pass_yields.Goals as goal

pub returns-then-is_handed_to-clause-defined : goal.returns-then-is_handed_to-clause-defined
returns-then-is_handed_to-clause-defined c s h k =
    on_ok_weaker c.take.result
    (λ e. subst (λ (f : Flow). AreDefinedYielded s f.yields) (sym e) (yielded_filter s _ c.args.seen.now.yields k)) c.take.ensures
