use Rattle.std.proofs.Common.{◌≡◌, ◌==◌, ◌++◌, map, drop}
use Rattle.hare_modules.specs.Modules.{spelled}
use Rattle.hare_modules.specs.Uses.{text_of}
use Rattle.hare_modules.proofs.SpelledLemmas.{more}
use Rattle.hare_modules.proofs.paths.module_used.Given as goal

-- what is spelled so far, and the names that are left
abbrev pub invariant-loop-i : goal.invariant-loop-i
invariant-loop-i l = l.module.items ++ more (l.i == 0) (map text_of (drop l.i l.names)) ≡ spelled (map text_of l.names)
