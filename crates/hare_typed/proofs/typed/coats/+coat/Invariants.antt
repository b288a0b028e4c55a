use Rattle.std.proofs.Common.{◌≡◌, ◌++◌, map, take, drop}
use Rattle.hare_typed.specs.Coats.{coat}
use Rattle.hare_typed.proofs.typed.coats.+coat.Given as goal

abbrev pub invariant-coat_kids-loop-t : goal.invariant-coat_kids-loop-t
invariant-coat_kids-loop-t l = record {
  unvisited : goal.unvisited-coat_kids-loop-t l;
  visited : l.t-items ≡ map (coat l.cs) (take l.t-index l.initial.t-items) ++ drop l.t-index l.initial.t-items;
}
