use Rattle.std.proofs.Common.{Some, ap, ◌∙◌}
use Rattle.hare_types.specs.declared.row.Row.TheVariants as row
use Rattle.hare_layout.proofs.SpreadLemmas.{never-is}
use Rattle.spelled_types.proofs.definable.is_never.Goals as goal

pub returns-in-Never : goal.returns-in-Never
returns-in-Never c = λ _. never-is c.args.store.now c.row.ensures.sound c.args.t
    (c.row.ensures.row ∙ ap Some (c.in-Scalar.is ∙ ap row.Scalar c.in-Never.is))
