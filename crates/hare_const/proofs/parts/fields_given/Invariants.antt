use Rattle.std.proofs.Common.{◌≡◌, ◌++◌, ◌-◌, suc}
use Rattle.hare_types.specs.declared.coercion.Ty.TheVariants as ty
use Rattle.hare_typed.specs.ConstantForms.{fields_from}
use Rattle.hare_const.proofs.parts.fields_given.Given as goal

-- the fields so far, and those that are left
abbrev pub invariant-loop-i : goal.invariant-loop-i
invariant-loop-i l =
    l.places.items ++ fields_from l.s (ty.Of l.of) (suc l.i) (l.i-end - l.i) l.t ≡ fields_from l.s (ty.Of l.of) 1 l.i-end l.t
