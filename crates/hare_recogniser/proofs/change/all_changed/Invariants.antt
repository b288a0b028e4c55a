use Rattle.std.proofs.Common.{◌≡◌, drop}
use Rattle.hare_nesting.specs.Marks.{all_changed}
use Rattle.hare_recogniser.specs.Capped.{capped}
use Rattle.hare_recogniser.proofs.change.all_changed.Given as goal

abbrev pub invariant-loop-change : goal.invariant-loop-change
invariant-loop-change l =
    capped (all_changed l.number l.changes l.fn.frames) ≡ capped (all_changed l.number (drop l.change-index l.changes) l.frames)
