use Rattle.std.proofs.Common.{ap, cond, sym, ◌∙◌}
use Rattle.hare_typed.specs.Order.{tree_from_front}
use Rattle.hare_rules.specs.Context.{own_type}
use Rattle.hare_rules.specs.Control.{type_kid, value_kid}
use Rattle.rule_judge.specs.Turns.{context_in}
use Rattle.rule_ctl.proofs.bindings.written_or_value.Goals as goal

pub returns-then-has_written_type-clause-value : goal.returns-then-has_written_type-clause-value
returns-then-has_written_type-clause-value c f =
    let x = context_in f c.args.t.now in
    c.own.ensures.value ∙ ap (λ n. own_type (tree_from_front n c.args.t.now.kids.now)) c.type_kid.ensures
    ∙ sym (ap (λ b. own_type (cond b (type_kid x) (value_kid x))) (sym (c.has_written_type.ensures f) ∙ c.if-has_written_type.true))

pub returns-clause-value : goal.returns-clause-value
returns-clause-value c f =
    let x = context_in f c.args.t.now in
    c.own-2.ensures.value ∙ ap (λ n. own_type (tree_from_front n c.args.t.now.kids.now)) c.value_kid.ensures
    ∙ sym (ap (λ b. own_type (cond b (type_kid x) (value_kid x))) (sym (c.has_written_type.ensures f) ∙ c.if-has_written_type.false))
