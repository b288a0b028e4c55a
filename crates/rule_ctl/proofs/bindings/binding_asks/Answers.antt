use Rattle.std.proofs.Common.{ap, sym, ◌∙◌, is_some}
use Rattle.hare_rules.specs.Words.{id_in}
use Rattle.rule_ctl.proofs.AskLemmas.{value_written}
use Rattle.rule_ctl.proofs.bindings.binding_asks.Goals as goal

pub returns-clause-variable : goal.returns-clause-variable
returns-clause-variable c f =
    c.is_some.ensures ∙ ap is_some (c.id_in.ensures ∙ ap id_in c.own.ensures.value)
    ∙ value_written c.args.t.now.kids.now c.args.i (sym c.kids_before.ensures ∙ c.if-kids_before-ne1.false)
    (sym c.is_there.ensures ∙ c.if-not-is_there.false)

pub returns-clause-constant : goal.returns-clause-constant
returns-clause-constant c f =
    c.is_some.ensures ∙ ap is_some (c.id_in.ensures ∙ ap id_in c.own.ensures.value)
    ∙ value_written c.args.t.now.kids.now c.args.i (sym c.kids_before.ensures ∙ c.if-kids_before-ne1.false)
    (sym c.is_there.ensures ∙ c.if-not-is_there.false)
