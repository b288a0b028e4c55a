use Rattle.std.proofs.Common.{◌≡◌, drop, None}
use Rattle.std.specs.Prelude.{slice_index_or}
use Rattle.hare_tree.specs.KidSorts.{kid_sorts}
use Rattle.hare_tree.proofs.kid.sort_in_form.Given as goal

-- the kid that is asked for is this one of those of the pieces from here on
abbrev pub invariant-loop-piece : goal.invariant-loop-piece
invariant-loop-piece l =
    slice_index_or (kid_sorts (drop l.piece-index l.form) l.left) l.number None ≡ slice_index_or (kid_sorts l.form l.fn.kids) l.fn.i None
