use Rattle.std.proofs.Common.{◌≡◌, drop}
use Rattle.std.specs.List.{list_all}
use Rattle.hare_tree.specs.Depth.{fits_as}
use Rattle.hare_tree.proofs.fit.all_fit.Given as goal

-- the trees from here on fit as all do
abbrev pub invariant-loop-i : goal.invariant-loop-i
invariant-loop-i l =
    list_all (fits_as l.sort) (drop l.i l.kids) ≡ list_all (fits_as l.sort) l.kids
