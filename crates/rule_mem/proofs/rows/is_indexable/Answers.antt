use Rattle.std.proofs.Common.{ap, ◌∙◌}
use Rattle.std.specs.Prelude.{is_some}
use Rattle.rule_mem.proofs.rows.is_indexable.Goals as goal

pub returns-clause-index : goal.returns-clause-index
returns-clause-index c f l = c.is_some.ensures ∙ ap is_some (c.element_reached.ensures.value f l)

pub returns-clause-slice : goal.returns-clause-slice
returns-clause-slice c f l = c.is_some.ensures ∙ ap is_some (c.element_reached.ensures.value f l)
