use Rattle.std.proofs.Common.{◌≡◌, ◌∙◌, sym, ap, Option, Some, None, false, true, refl}
use Rattle.std.specs.Prelude.{is_some}
use Rattle.hare_typed.specs.Given.{first_given, is_str}
use Rattle.hare_typed.specs.Typed.{kids_of}
use Rattle.hare_typed.specs.Constancy.{first_inconstant_of}
use Rattle.hare_const.proofs.settled.compares_plainly.Goals as goal

none_is : {A : Type 0} (o : Option A) → is_some o ≡ false → o ≡ None
none_is None e = refl
none_is (Some x) e = absurd cc

pub returns : goal.returns
returns c =
    let s = c.args.s.now in
    let ts = kids_of c.args.t.now in
    let text : is_str s (first_given ts) ≡ true =
    ap (is_str s) (sym c.first_given.ensures) ∙ sym c.is_str.ensures ∙ c.if-not-is_str.false in
    let none : first_inconstant_of s (λ u. false) ts ≡ None =
    none_is (first_inconstant_of s (λ u. false) ts) (sym c.requires ∙ c.if-refused.false) in
    (λ e f g. c.are_texts.ensures.0 e, λ h. c.are_texts.ensures.1 (h text none))

pub returns-then-refused : goal.returns-then-refused
returns-then-refused c = (
  λ e f g. (let both = sym c.if-refused.true ∙ c.requires ∙ ap is_some g in absurd cc),
  λ h. refl,
)

pub returns-then-not-is_str : goal.returns-then-not-is_str
returns-then-not-is_str c =
    let s = c.args.s.now in (
      λ e f g. (let both = sym c.if-not-is_str.true ∙ c.is_str.ensures ∙ ap (is_str s) c.first_given.ensures ∙ f in absurd cc),
      λ h. refl,
    )
