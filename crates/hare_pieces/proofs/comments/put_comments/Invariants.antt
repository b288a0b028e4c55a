use Rattle.std.proofs.Common.{◌≤◌, ◌-◌, length}
use Rattle.hare_pieces.specs.Walk.{Leads}
use Rattle.hare_pieces.proofs.comments.put_comments.Given as goal

-- the front is passed
abbrev pub invariant-gap : goal.invariant-gap
invariant-gap l = record { within : l.len ≤ length l.s; leads : Leads l.at l.s l.fn.pieces l.pieces l.len }

abbrev pub decreases-gap : goal.decreases-gap
decreases-gap l = length l.s - l.len
