use Rattle.std.proofs.Common.{Some, ap, ◌∙◌, arith}
use Rattle.std.specs.Prelude.{if◌then◌else◌}
use Rattle.hare_typed.specs.Typed.{mark_of}
use Rattle.hare_rules.specs.Constants.{label_of}
use Rattle.rule_switch.specs.Labels.{is_number_within, range_told}
use Rattle.rule_switch.proofs.CoverLemmas.{value_counted, values_counted}
use Rattle.rule_switch.proofs.covered.count_values.Goals as goal

pub loop-i-preserved : goal.loop-i-preserved
loop-i-preserved c = record {
  whole = λ f l.
      value_counted f (Some c.args.t) (range_told c.args.limits) c.loop-i.count _ c.args.values.now c.loop-i.i c.in-Some.value.now
      c.tally-count.result c.in-Some.ensures.found (omega arith)
      (c.tally-count.ensures.value f l
      ∙ ap (λ x. if is_number_within (range_told c.args.limits) (label_of f (Some c.args.t) (mark_of x).value) then 1 else 0)
      c.value.view_is)
      (c.loop-i.invariant.whole f l);
  few = omega (arith, c.tally-count.ensures.few, c.loop-i.invariant.few);
}

pub returns : goal.returns
returns c f l =
    values_counted f (Some c.args.t) (range_told c.args.limits) c.loop-i.count _ c.args.values.now c.loop-i.i (omega arith)
    (c.loop-i.invariant.whole f l)
