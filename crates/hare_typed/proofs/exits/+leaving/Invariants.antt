use Rattle.std.proofs.Common.{◌≡◌, ◌≤◌, ◌+◌, drop, length, min}
use Rattle.hare_typed.specs.Typed.{typed_nodes}
use Rattle.hare_typed.specs.Copies.{exits_each}
use Rattle.hare_typed.specs.Rounds.{frames, leaving}
use Rattle.hare_typed.proofs.exits.+leaving.Given as goal

abbrev pub decreases-leaving : goal.decreases-leaving
decreases-leaving l = goal.size-leaving l

abbrev pub decreases-leaving_from : goal.decreases-leaving_from
decreases-leaving_from l = goal.size-leaving_from l

-- what is counted and what is left to be counted
abbrev pub invariant-leaving_from-loop-i : goal.invariant-leaving_from-loop-i
invariant-leaving_from-loop-i l = record {
  within : l.count ≤ 18446744073709551615;
  counted :
      min (l.count + length (leaving (frames l.round) (exits_each (typed_nodes (drop l.i l.kids))))) 18446744073709551615
      ≡ min (length (leaving (frames l.round) (exits_each (typed_nodes (drop l.fn.from l.kids))))) 18446744073709551615;
}
