use Rattle.std.proofs.Common.{◌∙◌, le-leb, leb-true}
use Rattle.hare_layout.proofs.SmallLemmas.{small_told, told_small, told_low}
use Rattle.hare_layout.proofs.size.is_small.Goals as goal

pub returns-in-Some : goal.returns-in-Some
returns-in-Some c = (
  λ h. small_told c.args.s.now c.args.t c.in-Some.x c.in-Some.ensures.value (leb-true c.in-Some.x.size 67108864 h),
  λ h. le-leb c.in-Some.x.size 67108864 (told_low c.args.s.now c.args.t c.in-Some.x c.in-Some.ensures.value h),
)

pub returns-in-None : goal.returns-in-None
returns-in-None c = (λ h. absurd cc, λ h. let both = c.in-None.ensures.value ∙ told_small c.args.s.now c.args.t h in absurd cc)
