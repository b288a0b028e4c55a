use Rattle.std.proofs.Common.{sym, ◌∙◌}
use Rattle.rule_switch.specs.Labels.{labels_met}
use Rattle.rule_switch.proofs.RepeatLemmas.{lacking_met, set_met, set_repeated}
use Rattle.rule_switch.proofs.repeated.meet.Goals as goal

pub returns-then-not-is_constant : goal.returns-then-not-is_constant
returns-then-not-is_constant c =
    lacking_met (labels_met c.args.met.now.keys) c.args.place c.args.label c.if-not-is_constant.ensures

pub returns-then-is_first : goal.returns-then-is_first
returns-then-is_first c =
    set_met c.args.met.now.keys c.insert.new.self.keys c.args.place c.args.label (sym c.if-not-is_constant.ensures)
    (sym c.if-is_first.true ∙ c.in_ok-is_first.ensures.added) c.in_ok-is_first.ensures.keys

pub returns : goal.returns
returns c =
    set_repeated c.args.met.now.keys c.insert.new.self.keys c.args.place c.args.label (sym c.if-not-is_constant.ensures)
    (sym c.if-is_first.false ∙ c.in_ok-is_first.ensures.added)
