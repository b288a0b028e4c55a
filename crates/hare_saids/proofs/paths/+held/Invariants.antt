use Rattle.std.proofs.Common.{◌≡◌, ◌++◌, drop}
use Rattle.hare_tree.specs.Node.{nodes_of, size_of, sizes_of}
use Rattle.hare_names.specs.Answers.{meaning_in}
use Rattle.hare_depends.specs.Said.{numbers_at, held_among}
use Rattle.hare_saids.proofs.paths.+held.Given as goal

abbrev pub decreases-push_held : goal.decreases-push_held
decreases-push_held l = size_of l.t.now

abbrev pub decreases-push_held_among : goal.decreases-push_held_among
decreases-push_held_among l = sizes_of (nodes_of l.kids.now)

-- what has been put, and what is left to be put
abbrev pub invariant-push_held_among-loop-i : goal.invariant-push_held_among-loop-i
invariant-push_held_among-loop-i l =
    l.numbers ++ numbers_at l.count (meaning_in l.names) (held_among l.behind (nodes_of (drop l.i l.kids)))
    ≡ l.initial.numbers ++ numbers_at l.count (meaning_in l.names) (held_among l.behind (nodes_of l.kids))
