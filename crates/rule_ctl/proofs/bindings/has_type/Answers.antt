use Rattle.std.proofs.Common.{ap, ◌∙◌}
use Rattle.hare_typed.specs.Order.{tree_from_front}
use Rattle.hare_rules.specs.Context.{own_type}
use Rattle.hare_rules.specs.Control.{has_written_type, value_kid}
use Rattle.hare_rules.specs.Words.{has_default}
use Rattle.rule_judge.specs.Turns.{context_in}
use Rattle.rule_ctl.proofs.BindingLemmas.{or_first, or_second}
use Rattle.rule_ctl.proofs.bindings.has_type.Goals as goal

pub returns-then-has_written_type : goal.returns-then-has_written_type
returns-then-has_written_type c f =
    let x = context_in f c.args.t.now in
    or_first c.has_written_type.result (has_written_type x) (has_default (own_type (value_kid x))) c.if-has_written_type.true
    (c.has_written_type.ensures f)

pub returns : goal.returns
returns c f =
    let x = context_in f c.args.t.now in
    or_second c.has_written_type.result (has_written_type x) c.has_default.result (has_default (own_type (value_kid x)))
    c.if-has_written_type.false (c.has_written_type.ensures f)
    (c.has_default.ensures ∙ ap has_default (c.own.ensures.value ∙ ap (λ n. own_type (tree_from_front n c.args.t.now.kids.now))
    c.value_kid.ensures))
