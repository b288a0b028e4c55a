use Rattle.std.proofs.Common.{sym, arith}
use Rattle.il_acts.proofs.Parts.{mapped_far, not_below}
use Rattle.il_acts.proofs.pieces.is_mapped.Goals as goal

pub returns-in_default-clause-value : goal.returns-in_default-clause-value
returns-in_default-clause-value c = λ m h.
    sym (mapped_far c.args.memory.now m c.args.at c.args.n c.requires.low h (omega arith) (not_below _ c.in_default.ensures))
