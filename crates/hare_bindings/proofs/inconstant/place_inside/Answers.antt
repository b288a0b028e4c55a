use Rattle.std.proofs.Common.{sym, subst}
use Rattle.std.specs.Prelude.{IfOk}
use Rattle.hare_bindings.proofs.FoundOfDeclaration.Inconstant.{IsPlaceInside, place_none, place_some}
use Rattle.hare_bindings.proofs.inconstant.place_inside.Goals.{in-Ok, in-Err-Fault, in-Err-Memory}
use Rattle.hare_bindings.proofs.inconstant.place_inside.Goals as goal

pub returns : goal.returns
returns c =
    let s = c.args.s.now in
    let own = c.args.own in
    let t = c.args.value.now in
    let sound = c.declarations-law.ensures.sound in
    let settled = c.is_settled.ensures.0 c.if-not-is_settled.false in
    let coherent = c.in_ok-is_coherent.ensures.0 c.if-not-branch.false in
    elim c.match-constant_cells.branch [
      | in-Ok w ↦
          subst (λ r. IfOk r (IsPlaceInside s own t)) (sym w.result-is)
          (place_none c.law_constants_stay.ensures s sound own t settled coherent w.in-Ok.ensures.ok.0)
      | in-Err-Fault w ↦
          subst (λ r. IfOk r (IsPlaceInside s own t)) (sym w.result-is)
          (place_some c.law_constants_stay.ensures s sound own t settled coherent w.in-Err-Fault.field-0 w.in-Err-Fault.fault
          w.in-Err-Fault.field-0-is w.in-Err-Fault.ensures.err)
      | in-Err-Memory w ↦ subst (λ r. IfOk r (IsPlaceInside s own t)) (sym w.result-is) tt
    ]
