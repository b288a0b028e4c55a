use Rattle.std.proofs.Common.{◌∙◌, ap, sym, subst}
use Rattle.hare_typed.specs.ConstantForms.{own_type}
use Rattle.hare_assign.specs.Chosen.{first_choice}
use Rattle.hare_typed.specs.Joined.{HasToldUnion}
use Rattle.hare_const.proofs.ToldLemmas.{joined_found, joined_own, own_union}
use Rattle.hare_const.proofs.joined.is_joined.Goals as goal

pub returns-then-is_some : goal.returns-then-is_some
returns-then-is_some c = (
  λ e.
      joined_found c.args.s.now (own_type c.args.t.now) c.args.to c.first_choice.result (c.is_told_union.ensures.0 c.if-is_told_union.true)
      (c.first_choice.ensures.value ∙ ap (λ y. first_choice c.args.s.now (own_type y) c.args.to) c.t.view_is) (sym c.is_some.ensures ∙ e),
  λ h. c.if-is_some.true,
)

pub returns-else-is_some : goal.returns-else-is_some
returns-else-is_some c =
    let s = c.args.s.now in
    let f = own_type c.args.t.now in
    let found = c.first_choice.ensures.value ∙ ap (λ y. first_choice s (own_type y) c.args.to) c.t.view_is in (
      λ e.
          joined_own s f c.args.to (c.is_told_union.ensures.0 c.if-is_told_union.true)
          (subst (λ y. HasToldUnion s (own_type y)) c.t.view_is (c.has_told_union.ensures.0 e)),
      λ h.
          c.has_told_union.ensures.1 (subst (λ y. HasToldUnion s (own_type y)) (sym c.t.view_is)
          (own_union s f c.args.to c.first_choice.result found (sym c.is_some.ensures ∙ c.if-is_some.false) h)),
    )
