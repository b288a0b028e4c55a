use Rattle.std.proofs.Common.{◌≡◌, length}
use Rattle.harec_words.specs.Reading.{is_path}
use Rattle.harec_words.proofs.path.is_path.Given as goal

-- what is left is a path where the whole is one
abbrev pub invariant-loop-end : goal.invariant-loop-end
invariant-loop-end l = is_path l.rest ≡ is_path l.fn.path

abbrev pub decreases-loop-end : goal.decreases-loop-end
decreases-loop-end l = length l.rest
