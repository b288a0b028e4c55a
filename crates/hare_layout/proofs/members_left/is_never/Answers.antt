use Rattle.std.proofs.Common.{Some, refl, ap, ◌∙◌}
use Rattle.hare_types.specs.declared.row.Row.TheVariants as row
use Rattle.hare_layout.proofs.SpreadLemmas.{never-is, never-word, never-other}
use Rattle.hare_layout.proofs.members_left.is_never.Goals as goal

pub returns-in-Never : goal.returns-in-Never
returns-in-Never c = (
  λ _. never-is c.args.s.now c.row.ensures.sound c.args.t
      (c.row.ensures.row ∙ ap Some (c.in-Scalar.is ∙ ap row.Scalar c.in-Never.is)),
  λ _. refl,
)

pub returns-in_default-matches : goal.returns-in_default-matches
returns-in_default-matches c = (
  λ h. absurd cc,
  λ h. absurd (never-word c.args.s.now c.row.ensures.sound c.args.t c.in-Scalar.k
      (c.row.ensures.row ∙ ap Some c.in-Scalar.is) c.in_default-matches.not-Never h),
)

pub returns-in_default : goal.returns-in_default
returns-in_default c = (
  λ h. absurd cc,
  λ h. absurd
      (never-other c.args.s.now c.row.ensures.sound c.args.t c.row.result.now c.row.ensures.row c.in_default.not-Scalar h),
)
