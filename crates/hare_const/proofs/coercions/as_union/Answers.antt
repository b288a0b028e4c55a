use Rattle.std.proofs.Common.{◌≡◌, ◌∙◌, refl, ap, sym, subst, None}
use Rattle.hare_typed.specs.Unions.{union_members}
use Rattle.hare_typed.specs.Coercions.{chosen_member}
use Rattle.hare_typed.specs.ConstantForms.{own_type}
use Rattle.hare_assign.specs.Chosen.{first_choice}
use Rattle.hare_typed.specs.Joined.{HasToldUnion}
use Rattle.hare_const.proofs.JoinedLemmas.{chosen_choice}
use Rattle.hare_const.proofs.CoercionLemmas.{wider_result, wider_made}
use Rattle.hare_const.proofs.coercions.as_union.Goals as goal

pub as_member-requires-clause-chosen : goal.as_member-requires-clause-chosen
as_member-requires-clause-chosen c =
    chosen_choice c.args.s.now (own_type c.args.t.now) c.args.of_union
    ∙ sym (c.in-Some.ensures.value ∙ ap (λ y. first_choice c.args.s.now (own_type y) c.args.of_union) c.t.view_is)

pub wider_cells-requires-clause-from : goal.wider_cells-requires-clause-from
wider_cells-requires-clause-from c =
    let none : chosen_member c.args.s.now (own_type c.args.t.now) (union_members c.args.s.now c.args.of_union) ≡ None =
    chosen_choice c.args.s.now (own_type c.args.t.now) c.args.of_union
    ∙ sym (c.in-None.ensures.value ∙ ap (λ y. first_choice c.args.s.now (own_type y) c.args.of_union) c.t.view_is) in
    subst (λ y. HasToldUnion c.args.s.now (own_type y)) (sym c.t.view_is) (c.requires.joined.own none)

pub returns-in-None-clause-value : goal.returns-in-None-clause-value
returns-in-None-clause-value c =
    let none : chosen_member c.args.s.now (own_type c.args.t.now) (union_members c.args.s.now c.args.of_union) ≡ None =
    chosen_choice c.args.s.now (own_type c.args.t.now) c.args.of_union
    ∙ sym (c.in-None.ensures.value ∙ ap (λ y. first_choice c.args.s.now (own_type y) c.args.of_union) c.t.view_is) in
    wider_result c.args.s.now c.declarations-law.ensures.sound c.args.own c.args.t.now c.args.cells c.args.of_union c.requires.from
    c.requires.to
    c.requires.joined none c.wider_cells.result _ _ (ap own_type c.t.view_is) refl c.wider_cells.ensures

pub returns-in-None-clause-made : goal.returns-in-None-clause-made
returns-in-None-clause-made c =
    let none : chosen_member c.args.s.now (own_type c.args.t.now) (union_members c.args.s.now c.args.of_union) ≡ None =
    chosen_choice c.args.s.now (own_type c.args.t.now) c.args.of_union
    ∙ sym (c.in-None.ensures.value ∙ ap (λ y. first_choice c.args.s.now (own_type y) c.args.of_union) c.t.view_is) in
    wider_made c.args.s.now c.declarations-law.ensures.sound c.args.own c.args.t.now c.args.cells c.args.of_union c.requires.from
    c.requires.to
    c.requires.joined none c.wider_cells.result c.args.made.now
