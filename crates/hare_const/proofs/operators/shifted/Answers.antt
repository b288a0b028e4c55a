use Rattle.std.proofs.Common.{◌≡◌, ◌∙◌, ap, sym, subst, ◌^◌, to_z, of_z}
use Rattle.std.specs.Prelude.{pos, ◌*ℤ◌}
use Rattle.std.proofs.lemmas.Int.{to_z-of_z}
use mir.Syntax.{w128}
use mir.Val.{SFits}
use Rattle.hare_typed.specs.Arithmetic as spec
use Rattle.hare_const.specs.Operators.{int_of}
use Rattle.hare_const.proofs.OperatorLemmas.{kept, whole-kept, moved_fits, left_given}
use Rattle.hare_const.proofs.operators.shifted.Goals as goal

pub overflow_mul-x : goal.overflow_mul-x
overflow_mul-x c =
    let x = c.args.x in
    let by = c.distance-by.result in
    let power : to_z w128 (of_z w128 c.pow.result) ≡ pos (2 ^ by) = kept c.pow.result c.pow.type_inv ∙ c.pow.ensures in
    let fits : SFits w128 (x *ℤ pos (2 ^ by)) =
    record { sfits = moved_fits x by c.args.t.bits c.requires.operand c.distance-by.ensures.short c.requires.width.few } in
    subst (λ v. SFits w128 (v *ℤ to_z w128 (of_z w128 c.pow.result))) (sym (whole-kept x c.requires.operand))
    (subst (λ v. SFits w128 (x *ℤ v)) (sym power) fits)

pub returns-in-Left : goal.returns-in-Left
returns-in-Left c =
    let t = c.args.t in
    let x = c.args.x in
    let by = c.distance-by.result in
    let power : to_z w128 (of_z w128 c.pow.result) ≡ pos (2 ^ by) = kept c.pow.result c.pow.type_inv ∙ c.pow.ensures in
    let fits = moved_fits x by t.bits c.requires.operand c.distance-by.ensures.short c.requires.width.few in
    kept c.cut.result c.cut.type_inv
    ∙ c.cut.ensures
    ∙ ap (λ v. spec.cut (int_of t) (to_z w128 (of_z w128 (v *ℤ to_z w128 (of_z w128 c.pow.result))))) (whole-kept x c.requires.operand)
    ∙ ap (λ v. spec.cut (int_of t) (to_z w128 (of_z w128 (x *ℤ v)))) power
    ∙ ap (spec.cut (int_of t)) (kept (x *ℤ pos (2 ^ by)) fits)
    ∙ left_given t c.args.way x c.args.amount (to_z w128 (of_z w128 c.args.amount)) by c.in-Left.is
    (to_z-of_z w128 c.args.amount c.ranges.amount) c.distance-by.ensures.value
