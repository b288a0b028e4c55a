use Rattle.std.proofs.Common.{◌≡◌, take}
use Rattle.harec_check.proofs.judged.copied.Given as goal

abbrev pub invariant-loop-path : goal.invariant-loop-path
invariant-loop-path l = l.copy ≡ take l.path-index l.paths
