use Rattle.std.proofs.Common.{ap}
use Rattle.hare_rules.specs.Flow.{Flow}
use Rattle.hare_flow.proofs.YieldLemmas.{taken_from}
use Rattle.hare_flow.proofs.SeenLemmas.{with_yields}
use Rattle.hare_flow.proofs.seen.Seen.take.Goals as goal

pub returns : goal.returns
returns c =
    with_yields c.self.inside.bindings.items c.self.inside.yields.items c.drop_at.new.yields.items c.self.inside.coercions.items
    c.self.inside.late.items c.args.self.now _ c.self.view_is
    (taken_from c.args.level c.self.inside.yields.items c.drop_at.new.yields.items c.args.from c.args.self.now.yields
    (ap (λ (f : Flow). f.yields) c.self.view_is) c.requires c.in_ok-drop_at.ensures)
