use Rattle.std.proofs.Common.{not, is_some, ap, sym, ◌∙◌}
use Rattle.std.specs.Prelude.{option_map}
use Rattle.hare_rules.specs.declared.judged.Yielded.{Yielded}
use Rattle.hare_rules.specs.Words.{fits}
use Rattle.rule_join.specs.Together.{listed_in, place_told}
use Rattle.rule_join.proofs.ValueLemmas.{find_here, find_next}
use Rattle.rule_join.proofs.joins.listed_misfit.Goals as goal

pub returns-then-is_none : goal.returns-then-is_none
returns-then-is_none c f l =
    sym (ap (option_map place_told) (c.loop-i.invariant f l
    ∙ find_here (λ (y : Yielded). not (fits f y.ty c.args.to)) (listed_in c.args.v c.args.t.now) c.loop-i.i c.value_at-y.result
    c.value_at-y.ensures.value
    (ap not (ap is_some (sym (c.coerced.ensures.value f l)) ∙ c.if-is_none.ensures))))

pub loop-i-preserved : goal.loop-i-preserved
loop-i-preserved c f l =
    c.loop-i.invariant f l
    ∙ find_next (λ (y : Yielded). not (fits f y.ty c.args.to)) (listed_in c.args.v c.args.t.now) c.loop-i.i c.value_at-y.result
    c.value_at-y.ensures.value
    (ap not (ap is_some (sym (c.coerced.ensures.value f l)) ∙ c.if-is_none.ensures))
