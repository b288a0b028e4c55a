use Rattle.std.proofs.Common.{ap, ◌∙◌}
use Rattle.hare_types.specs.declared.coercion.Ty.{Ty}
use Rattle.hare_typed.specs.Given.{element_in, base_row}
use Rattle.hare_typed.specs.Followed.{reached_type}
use Rattle.rule_mem.proofs.reached.element_reached.Goals as goal

pub returns-clause-value : goal.returns-clause-value
returns-clause-value c f l =
    c.element.ensures.value f l ∙ ap (λ (a : Ty). element_in (base_row f a))
    (c.reached.ensures.value f l ∙ ap (reached_type f) c.seen.ensures.value)
