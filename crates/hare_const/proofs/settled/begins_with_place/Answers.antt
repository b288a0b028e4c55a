use Rattle.std.proofs.Common.{◌≡◌, ◌∙◌, sym, ap, subst, Bool, true, false, not, refl}
use Rattle.hare_types.specs.Assign.{IsIn}
use Rattle.hare_typed.specs.Typed.{mark_of, typed_nodes, kids_of}
use Rattle.hare_typed.specs.Constants.{own_kind}
use Rattle.hare_typed.specs.Constancy.{names_void, is_global_path}
use Rattle.hare_typed.specs.Settled.{AreSettled}
use Rattle.hare_const.proofs.NodeLemmas.{begins-found}
use Rattle.hare_const.proofs.Shown.Trees.{not-true}
use Rattle.hare_const.proofs.SettledLemmas.{first_placed, not_placed, settled_at, settled_type}
use Rattle.hare_const.proofs.settled.begins_with_place.Goals as goal

unless : (b : Bool) → (b ≡ true → ⊥) → not b ≡ true
unless true h = absurd (h refl)
unless false h = refl

pub returns-then-not-is_global_path : goal.returns-then-not-is_global_path
returns-then-not-is_global_path c = (
  λ e g.
      let none : false ≡ true =
      sym c.if-not-is_global_path.true ∙ c.is_global_path.ensures
      ∙ begins-found c.args.t.now c.in-Some.kid.now _ _ c.t.inside.kids c.t.view_is c.in-Some.ensures.found ∙ g in
      absurd cc,
  λ h. refl,
)

pub names_void-requires : goal.names_void-requires
names_void-requires c =
    let s = c.args.s.now in
    let kids : AreSettled s (typed_nodes c.t.inside.kids) = subst (λ y. AreSettled s (kids_of y)) (sym c.t.view_is) c.requires in
    subst (λ y. IsIn s (mark_of y).ty) (sym c.kid.view_is)
    (settled_type s c.in-Some.kid.now (settled_at s _ 0 c.in-Some.kid.now c.in-Some.ensures.found kids))

pub returns : goal.returns
returns c =
    let s = c.args.s.now in
    let x = c.in-Some.kid.now in
    let global : is_global_path (own_kind x) (mark_of x) ≡ true = sym c.is_global_path.ensures ∙ c.if-not-is_global_path.false in
    let said = ap (λ y. names_void s (mark_of y).meaning (mark_of y).ty) c.kid.view_is in (
      λ e g.
          let void : names_void s (mark_of x).meaning (mark_of x).ty ≡ false =
          sym said ∙ sym c.names_void.ensures ∙ not-true c.names_void.result e in
          first_placed s c.args.t.now x _ _ c.t.inside.kids c.t.view_is c.in-Some.ensures.found global void,
      λ h. unless c.names_void.result λ void.
          not_placed s c.args.t.now x _ _ c.t.inside.kids c.t.view_is c.in-Some.ensures.found global
          (sym said ∙ sym c.names_void.ensures ∙ void)
          (h (sym (begins-found c.args.t.now x _ _ c.t.inside.kids c.t.view_is c.in-Some.ensures.found) ∙ global)),
    )
