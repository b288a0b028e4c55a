use Rattle.std.proofs.Common.{ap, ◌∙◌}
use Rattle.std.proofs.lemmas.Result.{IfOk-weaker}
use Rattle.hare_typed.specs.Order.{tree_from_front}
use Rattle.hare_rules.specs.Context.{own_type}
use Rattle.hare_rules.specs.Control.{has_written_type, type_kid, value_kid}
use Rattle.hare_rules.specs.Words.{id_in, default_in}
use Rattle.rule_judge.specs.Turns.{context_in}
use Rattle.rule_ctl.proofs.BindingLemmas.{first_of, second_of}
use Rattle.rule_ctl.proofs.bindings.binding_type.Goals as goal

pub returns-then-has_written_type-clause-value : goal.returns-then-has_written_type-clause-value
returns-then-has_written_type-clause-value c f l =
    let x = context_in f c.args.t.now in
    first_of c.has_written_type.result (has_written_type x) (id_in (own_type (type_kid x))) (default_in f (own_type (value_kid x)))
    c.id_in.result c.if-has_written_type.true
    (c.has_written_type.ensures f) (c.id_in.ensures ∙ ap id_in
    (c.own-written.ensures.value ∙ ap (λ n. own_type (tree_from_front n c.args.t.now.kids.now)) c.type_kid.ensures))

pub returns-clause-value : goal.returns-clause-value
returns-clause-value c =
    IfOk-weaker c.default_in.result _ _
    (λ o h f l.
    let x = context_in f c.args.t.now in
    second_of c.has_written_type.result (has_written_type x) (id_in (own_type (type_kid x))) (default_in f (own_type (value_kid x))) o
    c.if-has_written_type.false
    (c.has_written_type.ensures f) (h f l ∙ ap (default_in f)
    (c.own-value.ensures.value ∙ ap (λ n. own_type (tree_from_front n c.args.t.now.kids.now)) c.value_kid.ensures)))
    c.default_in.ensures.value
