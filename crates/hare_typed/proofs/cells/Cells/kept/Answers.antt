use Rattle.std.specs.Prelude.{Contains}
use Rattle.std.proofs.Common.{sym, subst}
use Rattle.hare_typed.proofs.RepeatLemmas.{of-repeated, in-repeated}
use Rattle.hare_typed.proofs.cells.Cells.kept.Goals as goal

pub returns : goal.returns
returns c x = (
  λ h.
      subst (λ cs. Contains cs x) c.self.view_is
      (in-repeated c.self.inside.repeats.items _ x (subst (λ cs. Contains cs x) c.as_slice.ensures.value h)),
  λ h.
      subst (λ cs. Contains cs x) (sym c.as_slice.ensures.value)
      (of-repeated c.self.inside.repeats.items _ x (subst (λ cs. Contains cs x) (sym c.self.view_is) h)),
)
