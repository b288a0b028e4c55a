use Rattle.std.proofs.Common.{ap, sym, ◌∙◌}
use Rattle.std.proofs.lemmas.Result.{IfOk-weaker}
use Rattle.hare_rules.specs.Control.{has_written_type}
use Rattle.hare_rules.specs.Settles.{default_at}
use Rattle.hare_rules.specs.Words.{default_in}
use Rattle.rule_judge.specs.Turns.{context_in}
use Rattle.rule_ctl.proofs.BindingLemmas.{other_stays, written_stays, value_goes}
use Rattle.rule_ctl.proofs.bindings.binding_target.Goals as goal

pub returns-then-i-value_kid-clause-value : goal.returns-then-i-value_kid-clause-value
returns-then-i-value_kid-clause-value c f l =
    let x = context_in f c.args.t.now in
    other_stays c.args.i _ (has_written_type x) (default_at x c.args.i) (λ e. c.if-i-value_kid.true (e ∙ sym c.value_kid.ensures))

pub returns-then-has_written_type-clause-value : goal.returns-then-has_written_type-clause-value
returns-then-has_written_type-clause-value c f l =
    let x = context_in f c.args.t.now in
    written_stays _ (has_written_type x) (default_at x c.args.i) (sym (c.has_written_type.ensures f) ∙ c.if-has_written_type.true)

pub returns-clause-value : goal.returns-clause-value
returns-clause-value c =
    IfOk-weaker c.default_in.result _ _
    (λ o h f l.
    let x = context_in f c.args.t.now in
    value_goes c.args.i _ (has_written_type x) o (default_at x c.args.i) (c.if-i-value_kid.false ∙ c.value_kid.ensures)
    (sym (c.has_written_type.ensures f) ∙ c.if-has_written_type.false) (h f l ∙ ap (default_in f) c.own-value.ensures.value))
    c.default_in.ensures.value
