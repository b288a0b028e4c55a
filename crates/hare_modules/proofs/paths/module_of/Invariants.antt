use Rattle.std.proofs.Common.{◌≡◌, ◌++◌, [], length}
use Rattle.hare_modules.specs.Modules.{directories_behind, module_of}
use Rattle.hare_modules.proofs.SpelledLemmas.{more}
use Rattle.hare_modules.proofs.paths.module_of.Given as goal

-- what is spelled so far, and the directories that are left
abbrev pub invariant-loop-end : goal.invariant-loop-end
invariant-loop-end l = l.module.items ++ more l.is_first (directories_behind [] l.rest) ≡ module_of l.fn.path

abbrev pub decreases-loop-end : goal.decreases-loop-end
decreases-loop-end l = length l.rest
