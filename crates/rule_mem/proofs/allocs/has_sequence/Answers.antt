use Rattle.std.proofs.Common.{ap, not, ◌∙◌}
use Rattle.std.specs.Prelude.{is_some}
use Rattle.hare_types.specs.declared.coercion.Ty.{Ty}
use Rattle.hare_typed.specs.Given.{element_in, base_row}
use Rattle.rule_mem.proofs.BoolLemmas.{or_first, or_second}
use Rattle.rule_mem.proofs.allocs.has_sequence.Goals as goal

pub returns-then-not-has_capacity : goal.returns-then-not-has_capacity
returns-then-not-has_capacity c f l = or_first _ _ _ (ap not c.if-not-has_capacity.true) (ap not (c.has_capacity.ensures f))

pub returns-else-not-has_capacity : goal.returns-else-not-has_capacity
returns-else-not-has_capacity c f l =
    or_second _ _ _ _ (ap not c.if-not-has_capacity.false) (ap not (c.has_capacity.ensures f))
    (c.is_some.ensures ∙ ap is_some (c.element.ensures.value f l ∙ ap (λ (a : Ty). element_in (base_row f a)) c.seen.ensures.value))
