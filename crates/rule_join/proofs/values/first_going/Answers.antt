use Rattle.std.proofs.Common.{not, ap, sym, ◌∙◌}
use Rattle.hare_rules.specs.declared.judged.Yielded.{Yielded}
use Rattle.hare_rules.specs.Words.{is_never}
use Rattle.rule_join.specs.Together.{listed_in}
use Rattle.rule_join.proofs.ValueLemmas.{find_here, find_next}
use Rattle.rule_join.proofs.values.first_going.Goals as goal

pub returns-then-not-is_never-clause-value : goal.returns-then-not-is_never-clause-value
returns-then-not-is_never-clause-value c f l =
    sym (c.loop-i.invariant f l
    ∙ find_here (λ (y : Yielded). not (is_never f y.ty)) (listed_in c.args.v c.args.t.now) c.loop-i.i c.value_at-y.result
    c.value_at-y.ensures.value
    (ap not (sym (c.if-not-is_never.ensures f l))))

pub loop-i-preserved : goal.loop-i-preserved
loop-i-preserved c f l =
    c.loop-i.invariant f l
    ∙ find_next (λ (y : Yielded). not (is_never f y.ty)) (listed_in c.args.v c.args.t.now) c.loop-i.i c.value_at-y.result
    c.value_at-y.ensures.value
    (ap not (sym (c.if-not-is_never.ensures f l)))
