use Rattle.std.proofs.Common.{drop, pos, ap, sym, ◌∙◌, subst}
use Rattle.std.specs.Prelude.{IfSome}
use Rattle.std.specs.Ordering.{int_eq}
use Rattle.hare_types.specs.declared.coercion.Ty.TheVariants.{Of}
use Rattle.hare_typed.specs.Given.{base_row}
use Rattle.hare_rules.specs.Constants.{width_of, each_label}
use Rattle.rule_judge.specs.Defined.{IsDefined}
use Rattle.rule_judge.proofs.PartLemmas.{base_row_stays}
use Rattle.rule_switch.specs.Labels.{counted, numbers_in, range_told}
use Rattle.rule_switch.proofs.CoverLemmas.{covers_by, covers_none}
use Rattle.rule_switch.proofs.covered.are_all.Goals as goal

pub returns-in-Some-limits_at : goal.returns-in-Some-limits_at
returns-in-Some-limits_at c f l =
    let s = c.args.s.now in
    let r = range_told c.in-Some-limits_at.limits in
    let ks = drop 1 c.args.kids.now in
    let d = subst (λ o. IfSome o (IsDefined s)) c.in-Some.is c.requires in
    c.is_width.ensures ∙ ap (λ n. int_eq (pos n) (width_of r)) (c.count_within.ensures f l)
    ∙ ap (λ o. int_eq (pos (counted r (each_label f o ks))) (width_of r)) (sym c.in-Some.is)
    ∙ covers_by f c.args.to.now c.in-Some.t (base_row s (Of c.in-Some.t)) r (numbers_in (each_label f c.args.to.now ks)) c.in-Some.is
    (base_row_stays s f c.declarations-law.ensures.sound l (Of c.in-Some.t) d) c.in-Some-limits_at.ensures.value

pub returns-in-None : goal.returns-in-None
returns-in-None c f l =
    let s = c.args.s.now in
    let d = subst (λ o. IfSome o (IsDefined s)) c.in-Some.is c.requires in
    covers_none f c.args.to.now c.in-Some.t (base_row s (Of c.in-Some.t)) (numbers_in (each_label f c.args.to.now (drop 1 c.args.kids.now)))
    c.in-Some.is (base_row_stays s f c.declarations-law.ensures.sound l (Of c.in-Some.t) d) c.in-None.ensures.value
