use Rattle.std.proofs.Common.{◌≡◌, ◌++◌, map, drop, filter}
use Rattle.hare_modules.specs.Uses.{is_name_tree}
use Rattle.hare_modules.specs.Takings.{taking, named}
use Rattle.hare_modules.proofs.claims.take_members.Given as goal

-- what was taken, and the names that are left
abbrev pub invariant-loop-i : goal.invariant-loop-i
invariant-loop-i l =
    map taking l.claims.items ++ map (named l.spot.file l.spot.home l.taker) (filter is_name_tree (drop l.i l.kids))
    ≡ map taking l.fn.claims.items ++ map (named l.spot.file l.spot.home l.taker) (filter is_name_tree l.kids)
