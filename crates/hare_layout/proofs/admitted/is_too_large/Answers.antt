use Rattle.hare_layout.specs.Reduced.{tree_of_reduced}
use Rattle.hare_layout.proofs.AdmitLemmas.{tells-large, none-large}
use Rattle.hare_layout.proofs.admitted.is_too_large.Goals as goal

pub returns-in-Some : goal.returns-in-Some
returns-in-Some c = tells-large c.args.s.now (tree_of_reduced c.args.s.now c.args.t.now) c.in-Some.x c.in-Some.ensures.some

pub returns-in-None : goal.returns-in-None
returns-in-None c = (
  λ h. absurd cc,
  λ h. absurd
      (none-large c.args.s.now (tree_of_reduced c.args.s.now c.args.t.now) c.in-None.ensures.none h),
)
