use Rattle.std.proofs.Common.{ap, ◌∙◌, sym}
use Rattle.std.specs.Prelude.{is_some}
use Rattle.rule_ops.proofs.OperandLemmas.{common_typed}
use Rattle.rule_ops.proofs.common.has_common.Goals as goal

pub returns-else-are_iconsts : goal.returns-else-are_iconsts
returns-else-are_iconsts c f l =
    c.is_some.ensures ∙ ap is_some (c.common_type.ensures.value f l) ∙ common_typed f c.args.a.now c.args.b.now
    (sym c.if-are_iconsts.ensures)
