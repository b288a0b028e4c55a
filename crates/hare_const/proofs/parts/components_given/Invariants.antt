use Rattle.std.proofs.Common.{◌≡◌, ◌++◌, ◌-◌}
use Rattle.hare_typed.specs.ConstantForms.{counted_from}
use Rattle.hare_const.proofs.parts.components_given.Given as goal

-- the components so far, and those that are left
abbrev pub invariant-loop-i : goal.invariant-loop-i
invariant-loop-i l = l.places.items ++ counted_from l.i (l.i-end - l.i) ≡ counted_from 0 l.i-end
