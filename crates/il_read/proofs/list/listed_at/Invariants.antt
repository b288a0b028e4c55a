use Rattle.std.proofs.Common.{◌≡◌, ◌-◌, length}
use Rattle.il_read.specs.Lists.{listed}
use Rattle.il_read.proofs.Loops.{also}
use Rattle.il_read.proofs.list.listed_at.Given as goal

-- what was read and what the rest reads as is all
abbrev pub invariant-loop-turn : goal.invariant-loop-turn
invariant-loop-turn g l = also l.items (listed g.T.Construct.reads (l._turn-end - l._turn) l.rest) ≡
    listed g.T.Construct.reads (length l.fn.s) l.fn.s
