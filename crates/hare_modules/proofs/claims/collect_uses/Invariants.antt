use Rattle.std.proofs.Common.{◌≡◌, ◌++◌, map, drop}
use Rattle.hare_modules.specs.Takings.{using, usings}
use Rattle.hare_modules.proofs.claims.collect_uses.Given as goal

-- what was collected, and the files that are left
abbrev pub invariant-loop-file : goal.invariant-loop-file
invariant-loop-file l = map using l.collected.items ++ usings l.known (drop l.file l.homes) (drop l.file l.files) ≡
    usings l.known l.homes l.files
