use Rattle.std.proofs.Common.{◌≡◌, drop}
use Rattle.hare_tree.specs.Shape.{own_of}
use Rattle.hare_tree.proofs.own.own_of.Given as goal

-- what the pieces from here on ask for is what all ask for
abbrev pub invariant-loop-piece : goal.invariant-loop-piece
invariant-loop-piece l = own_of (drop l.piece-index l.form) ≡ own_of l.form
