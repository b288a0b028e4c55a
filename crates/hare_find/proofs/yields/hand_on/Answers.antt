use Rattle.std.proofs.Common.{sym, subst}
use Rattle.std.proofs.lemmas.Result.{on_ok_weaker}
use Rattle.hare_flow.specs.Seen.{given_of}
use Rattle.hare_rules.specs.Flow.{Flow, Yielded}
use Rattle.hare_find.specs.Defined.{AreDefinedYielded}
use Rattle.hare_find.proofs.YieldsSeen.DefinedTypes.{yielded_append}
use Rattle.hare_find.proofs.yields.hand_on.Goals as goal

pub returns-in-Some-clause-defined : goal.returns-in-Some-clause-defined
returns-in-Some-clause-defined c s h k =
    let y : Yielded = record { level = c.in-Some.level; given = given_of c.handed.result } in
    on_ok_weaker c.hand.result
    (λ e.
    subst (λ (f : Flow). AreDefinedYielded s f.yields) (sym e)
    (yielded_append s c.args.seen.now.yields y k (c.handed.ensures.defined s h))) c.hand.ensures.ok
