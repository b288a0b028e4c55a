use Rattle.std.proofs.Common.{ap, ◌∙◌}
use Rattle.hare_rules.specs.Words.{has_default}
use Rattle.rule_mem.proofs.BoolLemmas.{or_first, or_second}
use Rattle.rule_mem.proofs.allocs.has_object.Goals as goal

pub returns-then-has_capacity : goal.returns-then-has_capacity
returns-then-has_capacity c f = or_first _ _ _ c.if-has_capacity.true (c.has_capacity.ensures f)

pub returns-else-has_capacity : goal.returns-else-has_capacity
returns-else-has_capacity c f = or_second _ _ _ _ c.if-has_capacity.false (c.has_capacity.ensures f)
    (c.has_default.ensures ∙ ap has_default c.seen.ensures.value)
