use Rattle.std.proofs.Common.{◌-◌, suc}
use Rattle.std.specs.List.{All}
use Rattle.hare_types.specs.declared.coercion.Ty.TheVariants as ty
use Rattle.hare_typed.specs.ConstantForms.{fields_from}
use Rattle.hare_typed.specs.Sizes.{HasPart}
use Rattle.hare_const.proofs.settled.has_fields.Given as goal

-- all are parts where those are that are left, and only there
abbrev pub invariant-loop-i : goal.invariant-loop-i
invariant-loop-i l =
    record {
      found : All (HasPart l.s l.of) (fields_from l.s (ty.Of l.of) (suc l.i) (l.i-end - l.i) l.t) →
          All (HasPart l.s l.of) (fields_from l.s (ty.Of l.of) 1 l.i-end l.t);
      back : All (HasPart l.s l.of) (fields_from l.s (ty.Of l.of) 1 l.i-end l.t) →
          All (HasPart l.s l.of) (fields_from l.s (ty.Of l.of) (suc l.i) (l.i-end - l.i) l.t);
    }
