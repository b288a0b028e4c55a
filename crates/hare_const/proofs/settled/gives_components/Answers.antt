use Rattle.std.proofs.Common.{◌≡◌, ◌∙◌, sym, ap, arith}
use Rattle.hare_tree.specs.declared.kind.Kind.TheVariants as kind
use Rattle.hare_types.specs.declared.coercion.Ty.TheVariants as ty
use Rattle.hare_typed.specs.Typed.{kids_of}
use Rattle.hare_typed.specs.Weight.{items_of}
use Rattle.hare_typed.specs.ConstantForms.{own_type}
use Rattle.hare_const.proofs.NodeLemmas.{count-kids}
use Rattle.hare_const.proofs.SettledLemmas.{components_there, components_back}
use Rattle.hare_const.proofs.settled.gives_components.Goals as goal

pub returns-then-fits : goal.returns-then-fits
returns-then-fits c =
    let s = c.args.s.now in
    let t = c.args.t.now in
    let n = c.saturating_sub.result in
    let own : own_type t ≡ ty.Of c.in-Of.of = sym (ap own_type c.t.view_is) ∙ c.in-Of.is in
    let all = count-kids t _ _ c.t.inside.kids c.t.view_is in
    let many : n ≡ items_of kind.Tuple (kids_of t) = omega (arith, all, c.saturating_sub.ensures, c.len.ensures) in (
      λ e. components_there s t c.in-Of.of n own (c.fits.ensures.0 c.if-fits.true) many (c.has_parts.ensures.0 e),
      λ h. c.has_parts.ensures.1 (components_back s t c.in-Of.of n own many h).1,
    )
