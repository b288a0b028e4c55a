-- What is known when a walker has closed the turn of a node.
use Rattle.std.proofs.Common.{◌≡◌, List, ◌∷◌, length, map, ap, sym, ◌∙◌, subst}
use Rattle.std.specs.Prelude.{reverse}
use Rattle.hare_tree.specs.declared.kind.Kind.TheVariants as ki
use Rattle.hare_tree.specs.declared.token.Meaning.{Meaning}
use Rattle.hare_tree.specs.Node.{Node, head}
use Rattle.hare_types.specs.Store.{Store}
use Rattle.hare_types.specs.Sound.{IsStore}
use Rattle.hare_types.specs.Later.{IsLater}
use Rattle.hare_types.proofs.LaterLemmas.{later_here, later_trans}
use Rattle.hare_typed.specs.Typed.{TypedNode, Mark, marked, typed_nodes}
use Rattle.hare_rules.specs.declared.declared.Local.{Local}
use Rattle.hare_rules.specs.Finished.{bare}
use Rattle.hare_rules.specs.Flow.{Flow, count, meaning_of, path_meaning, flow_after}
use Rattle.hare_rules.specs.Values.{value_of}
use Rattle.hare_told.specs.Told.{AreToldEntries}
use Rattle.rule_judge.specs.Defined.{IsDefinedTree}
use Rattle.rule_judge.specs.Grown.{IsGrown as IsGrownInTypes}
use Rattle.hare_walk.specs.Grown.{IsGrown}
use Rattle.hare_walk.specs.Spots.{Spot, spot}
use Rattle.hare_walk.proofs.Grows.{grown-trans}
use Rattle.hare_above.proofs.ReadyLemmas.{ready_stays}
use Rattle.hare_find.specs.declared.finding.Finding.{Finding}
use Rattle.hare_find.specs.Defined.{AreDefinedLocals, AreDefinedYielded}
use Rattle.hare_find.specs.Settling.{option_in}
use Rattle.hare_find.proofs.YieldsSeen.DefinedTypes.{coated_defined}
use Rattle.hare_check.specs.declared.walker.Walker.{Walker}
use Rattle.hare_check.specs.Keeps.{IsKeptTree}
use Rattle.hare_check.specs.Nodes.{program_of, above_of, Walks, IsAtNode, IsFindingOf, kids_behind}
use Rattle.hare_check.specs.Turned.{context_at, IsClosed}
use Rattle.hare_check.specs.Walking.{IsWalking}
use Rattle.hare_check.proofs.Kept.Relied.{kept-grown, trees-defined}
use Rattle.hare_check.proofs.Labels.Spots.{spotted-later, spotted-turn}
use Rattle.hare_check.proofs.Walks.Growing.{known_stays, decls_stay, grown-types}

-- This was found of the node at hand. Behind its turn, in a later store, this has been seen, and these are its mark and its kids.
pub record IsClosing (s r : Store) (w : Walker) (n : Node) (xs : List TypedNode) (x : Finding) (g : Flow) (m : Mark) (ys : List TypedNode) :
    Type 0 where
  pub sound : IsStore s
  pub grown : IsGrownInTypes s r
  pub node : IsAtNode s w n xs
  pub found : IsFindingOf s w n xs x
  pub flow : (l : Store) → IsLater r l → g ≡ flow_after (program_of w l) (above_of w) (head n) (map bare xs) w.seen
  pub kids : ys ≡ kids_behind xs x
  pub number : m.node ≡ count w.seen
  pub ty : m.ty ≡ x.ty
  pub own : m.coerce ≡ x.own
  pub meaning : (l : Store) → m.meaning ≡ meaning_of (program_of w l) (head n)
  pub value : (l : Store) → IsLater r l → m.value ≡ value_of (context_at (program_of w) (above_of w) n xs w.seen l)

-- ---- the tree

-- a path itself is what it means
pub own-path : (w : Walker) (n : Node) (xs : List TypedNode) (l : Store) (m : Meaning) → m ≡ meaning_of (program_of w l) (head n) →
    (head n).kind ≡ ki.Path → (context_at (program_of w) (above_of w) n xs w.seen l).meaning ≡ m
own-path w n xs l m e k = ap (λ z. path_meaning (program_of w l) (head n) z (map bare xs)) k ∙ sym e

pub closing-closed : (s r : Store) (w : Walker) (n : Node) (xs : List TypedNode) (x : Finding) (g : Flow) (m : Mark) (ys : List TypedNode) →
    IsClosing s r w n xs x g m ys → IsClosed (program_of w) r (above_of w) n xs w.seen g x m ys
closing-closed s r w n xs x g m ys q =
    let later : (l : Store) → IsLater r l → IsLater s l = λ l d. later_trans s r l q.grown.later d in
    record {
      inferred = (q.node.inferred.0, λ l d. q.node.inferred.1 l (later l d));
      hand = q.node.hand;
      found = λ l d. q.found.found l (later l d);
      flow = q.flow;
      kids = q.kids;
      node = q.number;
      ty = q.ty;
      own = q.own;
      meaning = λ l d. q.meaning l;
      value = q.value;
    }

-- the types of the tree are defined, and it is kept
pub closing-kept : (s r : Store) (w : Walker) (n : Node) (xs : List TypedNode) (x : Finding) (g : Flow) (m : Mark) (ys : List TypedNode) →
    IsClosing s r w n xs x g m ys → (u : Store) → IsGrown r u → IsKeptTree u (marked (head n) m (typed_nodes ys))
closing-kept s r w n xs x g m ys q u h =
    let d = q.found.defined in
    let types : IsDefinedTree s (marked (head n) m (typed_nodes (kids_behind xs x))) =
    (rw q.ty d.ty, rw q.own d.own, coated_defined s xs (map option_in x.kids) (trees-defined s xs q.node.kept) d.kids) in
    let kept = q.found.kept m q.ty q.own types in
    let all = kept-grown s u q.sound (grown-trans s r u (grown-types s r q.grown) h) (marked (head n) m (typed_nodes (kids_behind xs x)))
    kept in
    subst (λ zs. IsKeptTree u (marked (head n) m (typed_nodes zs))) (sym q.kids) all

-- ---- the walk

-- what judges are told of bindings behind the turn, and that no type of it mentions a name without a definition
pub record IsSeenBehind (r : Store) (g : Flow) (told : List Local) : Type 0 where
  pub entries : AreToldEntries g.locals told
  pub locals : AreDefinedLocals r told
  pub yields : AreDefinedYielded r g.yields

pub closing-walks : (s r : Store) (w : Walker) (n : Node) (xs : List TypedNode) (x : Finding) (g : Flow) (m : Mark) (ys : List TypedNode)
    (told : List Local) (ps : List Spot) → IsClosing s r w n xs x g m ys → IsSeenBehind r g told →
    Walks s (spot (head n).kind (length xs) ∷ ps) w → IsWalking r (spot (head n).kind 0 ∷ ps) w.decls.now w.standing g told w.begun
closing-walks s r w n xs x g m ys told ps q e h =
    let v = q.sound in
    let l = q.grown.later in
    let a = above_of w in
    let here = later_here r l.sound in
    let before = spotted-later s r (spot (head n).kind (length xs) ∷ ps) (a ∷ w.standing.outer) (reverse w.begun) w.seen.yields
    (λ f d. later_trans s r f l d) h.spots in
    let turn = spotted-turn r (head n).kind (length xs) ps a w.standing.outer (reverse w.begun) w.seen.yields (head n) (map bare xs)
    (λ k i t o f d. q.found.void k i t o f (later_trans s r f l d)) before in
    record {
      standing = ready_stays s r v l w.standing h.standing;
      known = known_stays s r v l w.decls.now h.known;
      decls = decls_stay s r v l w.decls.now h.decls;
      entries = e.entries;
      locals = e.locals;
      yields = e.yields;
      spots = rw (q.flow r here) turn;
    }
