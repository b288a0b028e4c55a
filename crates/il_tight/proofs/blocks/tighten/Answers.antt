-- The blocks are tight.
use Rattle.std.proofs.Common.{subst, sym}
use Rattle.il_tight.specs.Tightness.{IsTight}
use Rattle.il_tight.proofs.TightBlocks.Tightness.{tight_is_tight}
use Rattle.il_tight.proofs.blocks.tighten.Goals as goal

pub returns-clause-tightness : goal.returns-clause-tightness
returns-clause-tightness c = subst IsTight (sym c.in_ok-bs.ensures) (tight_is_tight c.args.params.now c.args.blocks)
