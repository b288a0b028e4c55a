use Rattle.std.proofs.Common.{◌≡◌, ◌∙◌, sym, ap, subst}
use Rattle.hare_types.specs.declared.coercion.Ty.TheVariants as ty
use Rattle.hare_typed.specs.ConstantForms.{own_type}
use Rattle.hare_typed.specs.Settled.{HasParts, fields_given}
use Rattle.hare_const.proofs.SettledLemmas.{fields_back}
use Rattle.hare_const.proofs.settled.gives_fields.Goals as goal

pub returns-then-fits : goal.returns-then-fits
returns-then-fits c =
    let s = c.args.s.now in
    let t = c.args.t.now in
    let own : own_type t ≡ ty.Of c.in-Of.of = sym (ap own_type c.t.view_is) ∙ c.in-Of.is in (
      λ e.
          subst (λ f. HasParts s f (fields_given s t)) (sym own) (c.fits.ensures.0 c.if-fits.true, c.has_fields.ensures.0 e),
      λ h. c.has_fields.ensures.1 (fields_back s t c.in-Of.of own h).1,
    )
