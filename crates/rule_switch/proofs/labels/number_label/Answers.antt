use Rattle.std.proofs.Common.{◌≡◌, ap, ◌∙◌, arith, to_z, of_z}
use Rattle.std.proofs.lemmas.Int.{ints}
use mir.Syntax.{w128}
use Rattle.hare_rules.specs.Constants.{Value, value_label}
use Rattle.rule_switch.proofs.LabelLemmas.{number_stays}
use Rattle.rule_switch.proofs.labels.number_label.Goals as goal

pub returns-in-Some : goal.returns-in-Some
returns-in-Some c f l =
    let host : to_z w128 (of_z w128 c.in-Some.v) ≡ c.in-Some.v = omega (arith, ints, c.in-Some.ensures.low, c.in-Some.ensures.high) in
    ap Value host
    ∙ ap value_label (c.in-Some.ensures.value ∙
    number_stays c.args.s.now f c.declarations-law.ensures.sound l c.args.t c.requires c.args.c.now)

pub returns-in-None : goal.returns-in-None
returns-in-None c f l = ap value_label (c.in-None.ensures.value ∙
    number_stays c.args.s.now f c.declarations-law.ensures.sound l c.args.t c.requires c.args.c.now)
