use Rattle.hare_tree.specs.Node.{head}
use Rattle.hare_typed.specs.Erased.{erase}
use Rattle.hare_whole.specs.Limits.{is_param}
use Rattle.hare_limits.proofs.EntryFound.First.{NoneBelow}
use Rattle.hare_limits.proofs.shapes.has_param_among.Given as goal

-- none so far is a parameter
abbrev pub invariant-loop-i : goal.invariant-loop-i
invariant-loop-i l = NoneBelow (λ t. is_param (head (erase t)).kind) l.kids l.i
