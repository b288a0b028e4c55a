use Rattle.std.proofs.Common.{sym, subst}
use Rattle.hare_bytes.specs.Sliced.{TellsArray}
use Rattle.hare_bytes.proofs.SlicedLemmas.{not-sliced}
use Rattle.hare_bytes.proofs.sliced.joins_as_slice.Goals as goal

pub returns-then-not-branch : goal.returns-then-not-branch
returns-then-not-branch c =
    let other = subst (TellsArray c.args.s.now c.args.from) c.if-not-branch.true c.in_ok-is_array.ensures in
    sym (not-sliced c.args.s.now c.args.from c.args.to other)
