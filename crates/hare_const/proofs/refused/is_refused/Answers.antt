use Rattle.std.proofs.Common.{◌≡◌, ◌∙◌, sym, ap, ap₂, true, false, not}
use Rattle.std.specs.Prelude.{◌&&◌}
use Rattle.hare_tree.specs.Levels.{is_type}
use Rattle.hare_typed.specs.Constants.{own_kind}
use Rattle.hare_typed.specs.Typed.{kids_of}
use Rattle.hare_typed.specs.Constancy.{hides_kids}
use Rattle.hare_const.proofs.RefusedLemmas.{refused_of, refused_type, refused_here, refused_within}
use Rattle.hare_const.proofs.refused.is_refused.Goals as goal

pub returns-then-is_type : goal.returns-then-is_type
returns-then-is_type c =
    let kind : is_type (own_kind c.args.t.now) ≡ true =
    sym (ap (λ y. is_type (own_kind y)) c.t.view_is) ∙ sym c.is_type.ensures ∙ c.if-is_type.true in
    sym (refused_type c.args.s.now c.args.t.now kind)

pub returns-then-not-is_constant : goal.returns-then-not-is_constant
returns-then-not-is_constant c =
    let kind : is_type (own_kind c.args.t.now) ≡ false =
    sym (ap (λ y. is_type (own_kind y)) c.t.view_is) ∙ sym c.is_type.ensures ∙ c.if-is_type.false in
    sym (refused_here c.args.s.now c.args.t.now kind (sym c.is_constant.ensures ∙ c.if-not-is_constant.true))

pub returns-then-within : goal.returns-then-within
returns-then-within c =
    let kind : is_type (own_kind c.args.t.now) ≡ false =
    sym (ap (λ y. is_type (own_kind y)) c.t.view_is) ∙ sym c.is_type.ensures ∙ c.if-is_type.false in
    sym (refused_within c.args.s.now c.args.t.now kind (sym c.is_constant.ensures ∙ c.if-not-is_constant.false)
    ∙ ap₂ (λ x y. x && not y) (sym c.requires.within ∙ c.if-within.true) (sym c.hides_kids.ensures))

pub returns-else-within : goal.returns-else-within
returns-else-within c =
    let s = c.args.s.now in
    let t = c.args.t.now in
    let kind : is_type (own_kind t) ≡ false =
    sym (ap (λ y. is_type (own_kind y)) c.t.view_is) ∙ sym c.is_type.ensures ∙ c.if-is_type.false in
    let all = refused_within s t kind (sym c.is_constant.ensures ∙ c.if-not-is_constant.false) in
    let none : (refused_of s (kids_of t) && not (hides_kids (own_kind t) (kids_of t))) ≡ false =
    ap (λ x. x && not (hides_kids (own_kind t) (kids_of t))) (sym c.requires.within ∙ c.if-within.false) in
    c.if-within.false ∙ sym (all ∙ none)
