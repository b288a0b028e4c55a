use Rattle.std.proofs.Common.{ap, ◌∙◌}
use Rattle.hare_rules.specs.Control.{is_scalar}
use Rattle.rule_ctl.proofs.declarations.has_scalar_type.Goals as goal

pub returns : goal.returns
returns c f l = c.is_scalar.ensures f l ∙ ap (is_scalar f) (c.written_or_value.ensures.value f)
