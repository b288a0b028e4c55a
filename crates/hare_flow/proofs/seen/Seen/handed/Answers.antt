use Rattle.std.proofs.Common.{ap, ◌∙◌}
use Rattle.std.proofs.lemmas.Result.{IfOk-weaker}
use Rattle.hare_rules.specs.Flow.{Flow}
use Rattle.hare_flow.proofs.YieldLemmas.{handed_from}
use Rattle.hare_flow.proofs.seen.Seen.handed.Goals as goal

pub returns : goal.returns
returns c =
    IfOk-weaker c.handed_at.result _ _
    (λ gs e. e ∙ handed_from c.args.level c.as_slice.result.now c.self.inside.yields.items c.args.from c.args.self.now.yields
    c.as_slice.ensures.value (ap (λ (f : Flow). f.yields) c.self.view_is) c.requires)
    c.handed_at.ensures
