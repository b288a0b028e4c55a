use Rattle.std.proofs.Common.{◌≡◌, ◌-◌, length}
use Rattle.il_read.specs.Lists.{each}
use Rattle.il_read.proofs.Loops.{also}
use Rattle.il_read.proofs.list.each_at.Given as goal

-- what was read and what the rest reads as is all
abbrev pub invariant-loop-turn : goal.invariant-loop-turn
invariant-loop-turn g l = also l.items (each g.T.Construct.reads g.T.Repeated.starts (l._turn-end - l._turn) l.rest) ≡
    each g.T.Construct.reads g.T.Repeated.starts (length l.fn.s) l.fn.s
