use Rattle.std.proofs.Common.{length, ap, arith, rules}
use Rattle.hare_typed.proofs.StretchLemmas.{agree_all}
use Rattle.hare_typed.proofs.cells.Cells.agrees.Goals as goal

pub returns : goal.returns
returns c = (
  λ _. agree_all c.loop-place.place c.args.self.now c.args.other.now c.requires (omega (arith, ap length c.self.view_is))
      c.loop-place.invariant,
  λ _. search rules,
)
