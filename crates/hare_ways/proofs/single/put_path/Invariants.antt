use Rattle.std.proofs.Common.{◌≡◌, ◌++◌, drop, false}
use Rattle.hare_ways.specs.Walk.{at_depth, path_behind}
use Rattle.hare_ways.proofs.single.put_path.Given as goal

-- what is put so far and the path from here on is the path
abbrev pub invariant-loop-i : goal.invariant-loop-i
invariant-loop-i l =
    l.out.items ++ at_depth l.depth (path_behind l.k l.taken (drop l.i l.text))
    ≡ l.initial.out.items ++ at_depth l.depth (path_behind l.k false l.text)
