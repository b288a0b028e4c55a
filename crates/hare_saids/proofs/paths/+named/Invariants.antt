use Rattle.std.proofs.Common.{◌≡◌, ◌++◌, drop}
use Rattle.hare_tree.specs.Node.{nodes_of, size_of, sizes_of}
use Rattle.hare_names.specs.Answers.{meaning_in}
use Rattle.hare_depends.specs.Said.{numbers_at, paths_among}
use Rattle.hare_saids.proofs.paths.+named.Given as goal

abbrev pub decreases-push_named : goal.decreases-push_named
decreases-push_named l = size_of l.t.now

abbrev pub decreases-push_named_among : goal.decreases-push_named_among
decreases-push_named_among l = sizes_of (nodes_of l.kids.now)

-- what has been put, and what is left to be put
abbrev pub invariant-push_named_among-loop-i : goal.invariant-push_named_among-loop-i
invariant-push_named_among-loop-i l =
    l.numbers ++ numbers_at l.count (meaning_in l.names) (paths_among (nodes_of (drop l.i l.kids)))
    ≡ l.initial.numbers ++ numbers_at l.count (meaning_in l.names) (paths_among (nodes_of l.kids))
