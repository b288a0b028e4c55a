use Rattle.std.proofs.Common.{refl, ap, sym, ◌∙◌}
use Rattle.hare_rules.specs.Rows.{sized_item}
use Rattle.rule_judge.specs.Turns.{context_in}
use Rattle.rule_mem.proofs.BoolLemmas.{or_first, or_second}
use Rattle.rule_mem.proofs.allocs.has_sized_object.Goals as goal

pub returns-then-has_capacity-clause-value : goal.returns-then-has_capacity-clause-value
returns-then-has_capacity-clause-value c f l = or_first _ _ _ refl (sym c.if-has_capacity.true ∙ c.has_capacity.ensures f)

pub returns-in-Some-clause-value : goal.returns-in-Some-clause-value
returns-in-Some-clause-value c f l =
    or_second _ _ _ c.has_size.result c.if-has_capacity.false (c.has_capacity.ensures f)
    (c.has_size.ensures f l ∙ ap (sized_item (context_in f c.args.t.now)) (sym c.in-Some.is ∙ c.in_ok-found.ensures.value f l))
