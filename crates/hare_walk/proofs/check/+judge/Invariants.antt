use Rattle.std.proofs.Common.{◌≡◌, List, [], ◌∷◌, map, take, drop, length}
use Rattle.hare_tree.specs.Node.{head, nodes_of}
use Rattle.hare_types.specs.Store.{Store}
use Rattle.hare_types.specs.Later.{IsLater}
use Rattle.hare_typed.specs.Typed.{typed_nodes}
use Rattle.hare_typed.specs.Erased.{erase}
use Rattle.hare_rules.specs.Flow.{count}
use Rattle.hare_rules.specs.Finished.{bare}
use Rattle.hare_inference.specs.Inferred.{infer_each}
use Rattle.hare_inference.specs.Hands.{AreBelow}
use Rattle.hare_walk.specs.Counts.{IsAmong}
use Rattle.hare_walk.specs.Grown.{IsGrown}
use Rattle.hare_walk.specs.Spots.{Spot, spot}
use Rattle.hare_walk.specs.Walks.{Each, AreInHand}
use Rattle.hare_walk.proofs.check.+judge.Given as goal

abbrev pub invariant-judge_kids-loop-i : goal.invariant-judge_kids-loop-i
invariant-judge_kids-loop-i g l = record {
  many : length l.done ≡ l.i;
  above : g.W.Walk.above l.w ≡ g.W.Walk.above l.initial.w;
  outer : g.W.Walk.outer l.w ≡ g.W.Walk.outer l.initial.w;
  setting : g.W.Walk.setting l.w ≡ g.W.Walk.setting l.initial.w;
  hand : AreInHand (g.W.Walk.flow l.w) l.done;
  below : AreBelow (count (g.W.Walk.flow l.w)) (typed_nodes (map bare l.done));
  counts : IsAmong (g.W.Walk.above l.initial.w) (head l.node) (map bare l.done) l.counts;
  ready : (ps : List Spot) → g.W.Walk.Ready l.initial.w l.initial.s (spot (head l.node).kind 0 ∷ ps) →
      g.W.Walk.Ready l.w l.s (spot (head l.node).kind (length l.done) ∷ ps);
  kept : Each (λ x. (r : Store) → IsGrown l.s r → g.W.Walk.Keeps r x) l.done;
  erased : map erase l.done ≡ take l.i l.kids;
  grown : IsGrown l.initial.s l.s;
  rest : (f : Store) → IsLater l.s f →
      infer_each (g.W.Walk.setting l.initial.w f) (g.W.Walk.above l.initial.w) (head l.node) (map bare l.done) (nodes_of
      (drop l.i l.kids)) (g.W.Walk.flow l.w)
      ≡ infer_each (g.W.Walk.setting l.initial.w f) (g.W.Walk.above l.initial.w) (head l.node) [] (nodes_of l.kids)
      (g.W.Walk.flow l.initial.w);
}
