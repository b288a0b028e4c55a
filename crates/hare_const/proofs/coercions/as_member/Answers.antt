use Rattle.std.proofs.Common.{◌∙◌, ap, sym}
use Rattle.hare_types.specs.Assign.{coercion}
use Rattle.hare_typed.specs.ConstantForms.{own_type}
use Rattle.hare_const.proofs.CoercionLemmas.{member_result}
use Rattle.hare_const.proofs.coercions.as_member.Goals as goal

pub returns-clause-value : goal.returns-clause-value
returns-clause-value c =
    member_result c.args.s.now c.declarations-law.ensures.sound c.args.own c.args.t.now c.args.cells c.args.of_union c.requires.from
    c.requires.to
    c.requires.joined c.args.member c.requires.chosen c.in-Some.goes
    (sym (c.in-Some.ensures.value ∙ ap (λ y. coercion c.args.s.now (own_type y) c.args.member) c.t.view_is)) c.union_cells.result _
    c.in_ok-inner.ensures.value c.union_cells.ensures
