use Rattle.std.proofs.Common.{◌≡◌, max, drop}
use Rattle.hare_nesting.specs.Marks as marks
use Rattle.hare_recogniser.proofs.frame.highest.Given as goal

abbrev pub invariant-loop-tree : goal.invariant-loop-tree
invariant-loop-tree l = marks.highest l.trees ≡ max l.highest (marks.highest (drop l.tree-index l.trees))
