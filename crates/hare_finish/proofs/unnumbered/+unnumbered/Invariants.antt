use Rattle.std.proofs.Common.{◌≡◌, map, take}
use Rattle.hare_whole.specs.Declared.{unnumbered}
use Rattle.hare_finish.proofs.unnumbered.+unnumbered.Given as goal

abbrev pub decreases-copy_each : goal.decreases-copy_each
decreases-copy_each l = goal.size-copy_each l

abbrev pub decreases-copy_unnumbered : goal.decreases-copy_unnumbered
decreases-copy_unnumbered l = goal.size-copy_unnumbered l

abbrev pub invariant-copy_each-loop-i : goal.invariant-copy_each-loop-i
invariant-copy_each-loop-i l = l.kids ≡ map unnumbered (take l.i l.ts)
