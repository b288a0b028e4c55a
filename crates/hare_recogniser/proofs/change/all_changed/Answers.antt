use Rattle.std.proofs.Common.{◌∙◌}
use Rattle.hare_recogniser.proofs.Marks.Capping.{next_changed}
use Rattle.hare_recogniser.proofs.change.all_changed.Goals as goal

pub loop-change-preserved : goal.loop-change-preserved
loop-change-preserved c =
    c.loop-change.invariant ∙ next_changed c.args.number c.loop-change.change-index c.args.changes.now _ c.loop-change.frames
    c.changed.new.frames c.loop-change-test.true c.in_ok-changed.ensures
