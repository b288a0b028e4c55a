-- A walker that has looked at a node knows the same as before.
use Rattle.std.proofs.Common.{◌≡◌, List, ap, sym, ◌∙◌, subst}
use Rattle.hare_tree.specs.Node.{Node, head, kids_of}
use Rattle.hare_types.specs.Store.{Store}
use Rattle.hare_types.specs.Sound.{IsStore}
use Rattle.hare_types.proofs.LaterLemmas.{later_trans}
use Rattle.hare_typed.specs.Typed.{TypedNode}
use Rattle.hare_rules.specs.Above.{Above}
use Rattle.hare_rules.specs.Context.{Setting}
use Rattle.hare_rules.specs.Flow.{Flow}
use Rattle.hare_walk.specs.Grown.{IsGrown}
use Rattle.hare_walk.specs.Spots.{Spot}
use Rattle.hare_walk.specs.Walks.{IsTurned, AreInferred}
use Rattle.hare_find.specs.declared.finding.Finding.{Finding}
use Rattle.hare_find.specs.Findings.{IsFound}
use Rattle.hare_check.specs.declared.walker.Walker.{Walker}
use Rattle.hare_check.specs.Nodes.{program_of, above_of, Walks, IsAtNode, IsSame, IsFindingOf}
use Rattle.hare_check.specs.Walking.{program_over}
use Rattle.hare_check.proofs.Kept.Relied.{each_kept-grown}
use Rattle.hare_check.proofs.Walks.Growing.{grown-later, walking-later}

pub same-program : (w v : Walker) → IsSame w v → program_of v ≡ program_of w
same-program w v e = ap (λ ns. program_over ns v.decls.now) e.names ∙ ap (program_over w.names.now) e.decls

pub same-walks : (s : Store) (ps : List Spot) (w v : Walker) → IsSame w v → Walks s ps w → Walks s ps v
same-walks s ps w v e h = record {
  standing = record { above = rw e.above h.standing.above; outer = rw e.outer h.standing.outer };
  known = rw e.decls h.known;
  decls = rw e.decls h.decls;
  entries = rw (e.seen, e.told) h.entries;
  locals = rw e.told h.locals;
  yields = rw e.seen h.yields;
  spots = rw (e.above, e.outer, e.begun, e.seen) h.spots;
}

pub same-node : (s : Store) (w v : Walker) (n : Node) (xs : List TypedNode) → IsSame w v → IsAtNode s w n xs → IsAtNode s v n xs
same-node s w v n xs e a = record {
  walks = (a.walks.0, same-walks s _ w v e a.walks.1);
  part = a.part;
  whole = a.whole;
  inferred =
      subst (λ (z : Store → Setting). AreInferred z s (above_of v) (head n) (kids_of n) xs v.seen) (sym (same-program w v e))
      (subst (λ (b : Above). AreInferred (program_of w) s b (head n) (kids_of n) xs v.seen) (sym e.above)
      (subst (λ (f : Flow). AreInferred (program_of w) s (above_of w) (head n) (kids_of n) xs f) (sym e.seen) a.inferred));
  hand = rw e.seen a.hand;
  kept = a.kept;
}

pub node-later : (s r : Store) (w : Walker) (n : Node) (xs : List TypedNode) → IsStore s → IsStore r → IsGrown s r → IsAtNode s w n xs →
    IsAtNode r w n xs
node-later s r w n xs v u g a =
    let l = grown-later s r u g in
    record {
      walks = (a.walks.0, walking-later s r v l _ w.decls.now w.standing w.seen w.told w.begun a.walks.1);
      part = a.part;
      whole = a.whole;
      inferred = (a.inferred.0, λ f d. a.inferred.1 f (later_trans s r f l d));
      hand = a.hand;
      kept = each_kept-grown s r v g xs a.kept;
    }

pub same-finding : (s : Store) (w v : Walker) (n : Node) (xs : List TypedNode) (x : Finding) → IsSame w v → IsFindingOf s w n xs x →
    IsFindingOf s v n xs x
same-finding s w v n xs x e f = record {
  found =
      subst (λ (z : Store → Setting). IsFound z s (above_of v) (head n) xs v.seen x) (sym (same-program w v e))
      (subst (λ (b : Above). IsFound (program_of w) s b (head n) xs v.seen x) (sym e.above)
      (subst (λ (g : Flow). IsFound (program_of w) s (above_of w) (head n) xs g x) (sym e.seen) f.found));
  many = f.many;
  defined = f.defined;
  void = λ k. rw e.above (f.void k);
  kept = f.kept;
}

-- ---- the answer

pub same-turned : (s : Store) (w v : Walker) (n : Node) (xs : List TypedNode) (x : TypedNode) (g : Flow) → IsSame w v →
    IsTurned (program_of v) s (above_of v) (head n) xs v.seen x g → IsTurned (program_of w) s (above_of w) (head n) xs w.seen x g
same-turned s w v n xs x g e k =
    subst (λ (z : Store → Setting). IsTurned z s (above_of w) (head n) xs w.seen x g) (same-program w v e)
    (subst (λ (b : Above). IsTurned (program_of v) s b (head n) xs w.seen x g) e.above
    (subst (λ (f : Flow). IsTurned (program_of v) s (above_of v) (head n) xs f x g) e.seen k))
