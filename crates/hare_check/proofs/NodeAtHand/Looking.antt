-- What a walker looks at itself.
use Rattle.std.proofs.Common.{◌≡◌, ℕ, true, List, [], ◌∷◌, length, map, take, refl, ap, sym, ◌∙◌, subst, Option, Ok}
use Rattle.std.specs.Prelude.{filter, slice_get}
use Rattle.hare_tree.specs.declared.kind.Kind.{Kind}
use Rattle.hare_tree.specs.declared.kind.Kind.TheVariants as ki
use Rattle.hare_tree.specs.declared.place.Fault.{Fault}
use Rattle.hare_tree.specs.declared.place.Place.{Place}
use Rattle.hare_tree.specs.declared.stop.Stop.{Stop}
use Rattle.hare_tree.specs.declared.stop.Stop.TheVariants.{Fault as Refused, Memory}
use Rattle.hare_tree.specs.declared.token.Meaning.{Meaning}
use Rattle.hare_tree.specs.declared.token.Meaning.TheVariants as means
use Rattle.hare_tree.specs.Node.{Head, Node, head}
use Rattle.hare_types.specs.Store.{Store}
use Rattle.hare_types.specs.Later.{IsLater}
use Rattle.hare_typed.specs.Typed.{TypedNode}
use Rattle.hare_rules.specs.declared.row_id.RowId.TheVariants as asked
use Rattle.hare_rules.specs.declared.hint.Hint.{Hint}
use Rattle.hare_rules.specs.declared.judged.Case.{Case}
use Rattle.hare_rules.specs.Context.{Setting, Context, Entry, store_of}
use Rattle.hare_rules.specs.Control.{block_meant, hint_of_open}
use Rattle.hare_rules.specs.Above.{Above}
use Rattle.hare_rules.specs.Flow.{Flow, Yielded, is_at, context}
use Rattle.hare_rules.specs.Rows.{holds}
use Rattle.hare_rules.specs.Finished.{bare}
use Rattle.hare_inference.specs.Inferred.{found_kids, with_type, with_kids, judged_by}
use Rattle.hare_told.specs.Told.{IsLookedAt, has_judge, told_label}
use Rattle.hare_walk.specs.Spots.{Spot}
use Rattle.hare_walk.specs.Walks.{IsStop, AreInHand}
use Rattle.hare_find.specs.Looked.{MeansLocal, IsKnownAt, IsRefusedBy, IsYield, MeansInside}
use Rattle.hare_find.proofs.YieldsSeen.Meant.{yield-context}
use Rattle.hare_check.specs.declared.walker.Walker.{Walker}
use Rattle.hare_check.specs.Nodes.{program_of, above_of, IsAtNode, IsStopOf}
use Rattle.hare_check.specs.Spotted.{AreSpotted}
use Rattle.hare_check.specs.Turned.{context_at}
use Rattle.hare_check.proofs.Labels.Spots.{spotted-from, spotted-taken}

-- ---- what was yielded when the node began

-- the number is that of the innermost
abbrev pub IsInnermost : ℕ → List ℕ → Type 0
IsInnermost m ns = (n : ℕ) (rest : List ℕ) → ns ≡ n ∷ rest → m ≡ n

pub none-before : (s : Store) (p : Spot) (ps : List Spot) (a : Above) (outer : List Above) (ns : List ℕ) (ys : List Yielded) (m k : ℕ) →
    AreSpotted s (p ∷ ps) (a ∷ outer) ns ys → IsInnermost m ns → k ≡ length a.inside.labels → filter (is_at k) (take m ys) ≡ []
none-before s p ps a outer [] ys m k o i e = absurd o
none-before s p ps a outer (n ∷ ns) ys m k o i e =
    ap (λ j. filter (is_at j) (take m ys)) e
    ∙ ap (λ j. filter (is_at (length a.inside.labels)) (take j ys)) (i n ns refl)
    ∙ spotted-from s p ps a outer n ns ys o

-- ---- what has been looked at

pub looked-at : (s : Store) (w : Walker) (n : Node) (xs : List TypedNode) (l : Store) → IsAtNode s w n xs → IsLater s l →
    ((i : ℕ) → (head n).kind ≡ ki.Path → (context_at (program_of w) (above_of w) n xs w.seen l).meaning ≡ means.Local i →
    IsKnownAt (context_at (program_of w) (above_of w) n xs w.seen l) i) →
    ((head n).kind ≡ ki.Yield → holds asked.YieldTarget (context_at (program_of w) (above_of w) n xs w.seen l) ≡ true →
    holds asked.YieldInside (context_at (program_of w) (above_of w) n xs w.seen l) ≡ true →
    holds asked.YieldNoValue (context_at (program_of w) (above_of w) n xs w.seen l) ≡ true) →
    IsLookedAt (context_at (program_of w) (above_of w) n xs w.seen l)
looked-at s w n xs l a d path value = record {
  path = path;
  value = value;
  taken = λ t h i.
      spotted-taken s (program_of w l) (head n).kind (length xs) a.walks.0 (above_of w) w.standing.outer _ (head n) (map bare xs) w.seen
      refl d
      a.walks.1.spots t h i;
}

-- ---- a refusal

pub stop-refused : (v : Setting) (a : Above) (h : Head) (xs : List TypedNode) (f : Flow) (e : Stop Fault) →
    IsRefusedBy (context v a h xs f) e →
    IsStop e (with_kids v a h (Ok (found_kids xs f)))
stop-refused v a h xs f Memory k = tt
stop-refused v a h xs f (Refused e) k =
    let c = context v a h xs f in
    (k.row, c, ap (λ o. with_type v a h xs f (judged_by c o)) k.first, sym k.is)

-- ---- a path

not-yield : (k : Kind) → k ≡ ki.Path → ¬ (k ≡ ki.Yield)
not-yield k e d = let f : ki.Path ≡ ki.Yield = sym e ∙ d in cc

not-path : (k : Kind) → k ≡ ki.Yield → ¬ (k ≡ ki.Path)
not-path k e d = let f : ki.Yield ≡ ki.Path = sym e ∙ d in cc

-- The path at this place means binding number i, of which this is known.
pub record IsLocalAt (w : Walker) (n : Node) (xs : List TypedNode) (l : Store) (i : ℕ) (p : Place) (o : Option Entry) : Type 0 where
  pub kind : (head n).kind ≡ ki.Path
  pub place : (head n).place ≡ p
  pub role : has_judge (above_of w).inside.role ≡ true
  pub meaning : (context_at (program_of w) (above_of w) n xs w.seen l).meaning ≡ means.Local i
  pub entry : o ≡ slice_get w.seen.locals i

means-local : (w : Walker) (n : Node) (xs : List TypedNode) (l : Store) (i : ℕ) (p : Place) (o : Option Entry) →
    IsLocalAt w n xs l i p o → MeansLocal (context_at (program_of w) (above_of w) n xs w.seen l) i p o
means-local w n xs l i p o q = record { kind = q.kind; place = q.place; meaning = q.meaning; role = q.role; entry = sym q.entry }

same-local : (m n : Meaning) (i j : ℕ) → m ≡ means.Local i → n ≡ means.Local j → m ≡ n → i ≡ j
same-local m n i j e d k = let f : means.Local i ≡ means.Local j = sym e ∙ k ∙ d in cc

pub looked-local : (s : Store) (w : Walker) (n : Node) (xs : List TypedNode) (l : Store) (i : ℕ) (p : Place) (o : Option Entry) →
    IsAtNode s w n xs → IsLater s l → IsLocalAt w n xs l i p o → ((c : Context) (j : ℕ) → MeansLocal c j p o → IsKnownAt c j) →
    IsLookedAt (context_at (program_of w) (above_of w) n xs w.seen l)
looked-local s w n xs l i p o a d q k =
    let c = context_at (program_of w) (above_of w) n xs w.seen l in
    let known : IsKnownAt c i = k c i (means-local w n xs l i p o q) in
    looked-at s w n xs l a d
    (λ j e m. subst (IsKnownAt c) (same-local c.meaning c.meaning i j q.meaning m refl) known)
    (λ e t u. absurd (not-yield (head n).kind q.kind e))

pub stop-local : (s : Store) (w : Walker) (n : Node) (xs : List TypedNode) (i : ℕ) (p : Place) (o : Option Entry) (e : Stop Fault) →
    ((l : Store) → IsLater s l → IsLocalAt w n xs l i p o) → ((c : Context) (j : ℕ) → MeansLocal c j p o → IsRefusedBy c e) →
    IsStopOf s w n xs e
stop-local s w n xs i p o e q k =
    λ l d.
    stop-refused (program_of w l) (above_of w) (head n) (map bare xs) w.seen e
    (k (context_at (program_of w) (above_of w) n xs w.seen l) i (means-local w n xs l i p o (q l d)))

-- ---- a `yield`, and what is neither

-- a node is told of with the labels round it, and with what is asked of what it means
pub record IsToldYieldOf (w : Walker) (n : Node) (q : Case) (i : Hint) : Type 0 where
  pub kind : (head n).kind ≡ ki.Yield
  pub labels : q.inside.labels ≡ map told_label (above_of w).inside.labels
  pub deferred : q.inside.deferred ≡ (above_of w).inside.deferred
  pub role : has_judge (above_of w).inside.role ≡ true
  pub hint : i ≡ hint_of_open (block_meant (head n).text (above_of w).inside.labels)

pub yield-told : (w : Walker) (n : Node) (xs : List TypedNode) (l : Store) (q : Case) (i : Hint) → AreInHand w.seen xs →
    IsToldYieldOf w n q i →
    IsYield (context_at (program_of w) (above_of w) n xs w.seen l) q (head n) xs i
yield-told w n xs l q i h k = yield-context (program_of w l) (above_of w) (head n) xs w.seen q i k.kind h k.labels k.deferred k.role k.hint

pub looked-yield : (s : Store) (w : Walker) (n : Node) (xs : List TypedNode) (l : Store) (q : Case) (i : Hint) → IsAtNode s w n xs →
    IsLater s l →
    IsToldYieldOf w n q i →
    ((c : Context) → store_of c ≡ l → IsYield c q (head n) xs i → MeansInside c → holds asked.YieldNoValue c ≡ true) →
    IsLookedAt (context_at (program_of w) (above_of w) n xs w.seen l)
looked-yield s w n xs l q i a d k v =
    let c = context_at (program_of w) (above_of w) n xs w.seen l in
    looked-at s w n xs l a d (λ j e m. absurd (not-path (head n).kind k.kind e))
    (λ e t u. v c refl (yield-told w n xs l q i a.hand k) (record { target = t; inside = u }))

pub looked-other : (s : Store) (w : Walker) (n : Node) (xs : List TypedNode) (l : Store) → IsAtNode s w n xs → IsLater s l →
    ((i : ℕ) → (head n).kind ≡ ki.Path → ¬ ((context_at (program_of w) (above_of w) n xs w.seen l).meaning ≡ means.Local i)) →
    ¬ ((head n).kind ≡ ki.Yield) → IsLookedAt (context_at (program_of w) (above_of w) n xs w.seen l)
looked-other s w n xs l a d p y = looked-at s w n xs l a d (λ i e m. absurd (p i e m)) (λ e t u. absurd (y e))
