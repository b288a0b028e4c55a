use Rattle.std.proofs.Common.{◌≡◌, drop}
use Rattle.hare_typed.proofs.ParameterLemmas.{parameter_times}
use Rattle.hare_typed.proofs.copied.times_among_parameters.Given as goal

-- what is found in the trees that are left is what is found in all
abbrev pub invariant-loop-i : goal.invariant-loop-i
invariant-loop-i l = parameter_times l.node (drop l.i l.kids) ≡ parameter_times l.node l.kids
