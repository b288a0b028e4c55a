use Rattle.std.proofs.Common.{◌≡◌, drop, fold}
use Rattle.hare_modules.specs.Order.{earlier, first_in}
use Rattle.hare_modules.specs.Takings.{runtime_files}
use Rattle.hare_modules.proofs.looks.runtime_file.Given as goal

abbrev pub invariant-loop-i : goal.invariant-loop-i
invariant-loop-i l = fold earlier l.first (runtime_files (drop l.i l.homes) (drop l.i l.files)) ≡ first_in (runtime_files l.homes l.files)
