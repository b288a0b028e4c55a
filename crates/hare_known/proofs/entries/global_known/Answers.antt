use Rattle.std.proofs.Common.{[], ap, sym, ◌∙◌}
use Rattle.hare_typed.specs.declared.constant.Const.TheVariants as constant
use Rattle.hare_typed.specs.Order.{tree_from_front, missing}
use Rattle.hare_whole.specs.Parts.{is_mutable, known_as}
use Rattle.hare_known.proofs.OneMore.Declarations.{declared_id-written}
use Rattle.hare_known.proofs.OneMore.WrittenTypes.{written-first}
use Rattle.hare_known.proofs.entries.global_known.Goals as goal

pub returns : goal.returns
returns c l =
    let t = tree_from_front 0 c.args.types.now in
    c.global_as.ensures
    ∙ ap (λ u. known_as c.args.own c.args.kind u [] (is_mutable c.args.kind) constant.Absent)
    (written-first c.args.types.now c.in_ok-ty.ty c.in_ok-ty.ensures
    ∙ sym (declared_id-written l t missing (sym c.is_there.ensures ∙ c.if-not-is_there.false)))
