-- A part of a written type is judged, when its kids have been and its turn has come.
use Rattle.std.proofs.Common.{◌≡◌, ℕ, ◌+◌, ◌≤◌, List, [], ◌∷◌, ◌++◌, map, take, length, Some, Result, Ok, refl, ap, ap₂, sym, ◌∙◌, subst, ◌⊎◌, inl, inr, length-append}
use Rattle.std.specs.Prelude.{slice_get}
use Rattle.hare_tree.specs.declared.place.Fault.{Fault}
use Rattle.hare_tree.specs.declared.stop.Stop.{Stop}
use Rattle.hare_tree.specs.Node.{Head, Node, Nodes, branch, head, kids_of, nodes_of}
use Rattle.hare_types.specs.declared.coercion.Coercion.{Coercion}
use Rattle.hare_types.specs.Store.{Store}
use Rattle.hare_types.specs.Sound.{IsStore}
use Rattle.hare_types.specs.Later.{IsLater}
use Rattle.hare_types.proofs.ListLemmas.{slice_get_end}
use Rattle.hare_typed.specs.Typed.{TypedNode, Mark, marked, typed_nodes}
use Rattle.hare_typed.specs.Erased.{erase, erase_each}
use Rattle.hare_typed.specs.Order.{check_order}
use Rattle.hare_rules.specs.Above.{Above}
use Rattle.hare_rules.specs.Context.{Setting, Role}
use Rattle.hare_rules.specs.Finished.{bare, bare_each}
use Rattle.hare_rules.specs.Settles.{same}
use Rattle.hare_inference.specs.Inferred.{found, found_kids, with_kids, infer, infer_each}
use Rattle.hare_seen.specs.Laws.{BytesFollowDefinitions}
use Rattle.hare_seen.specs.Seen.{MeasuresTheSame}
use Rattle.hare_seen.specs.Sizes.{FitsNode, IsLargeNode}
use Rattle.hare_walk.specs.Grown.{IsGrown}
use Rattle.hare_walk.specs.Walks.{Each, IsStop}
use Rattle.hare_walk.proofs.Grows.{later-grown}
use Rattle.hare_walk.proofs.Parts.{erased-all, take_all}
use Rattle.hare_walk.proofs.Steps.{each_end, infer_at, stop_kids, stop-same}
use Rattle.hare_written.specs.Nodes.{nodes_in, StandsIn, IsFirst, coercions_of, seen_of, HasOwn, HaveOwn}
use Rattle.hare_written.specs.Judged.{large_stop, IsJudged, IsStopped, AreAllJudged, AreStopped}
use Rattle.hare_written.specs.Turns.{IsAt, IsTurned, IsTurn, IsTurnedBack}
use Rattle.hare_written.proofs.Fitting.Fits.{grown-later, grown-measures, measures-trans, stands-stay, fits-stay}
use Rattle.hare_written.proofs.Fitting.NodeLists.{coerced, each-join, each-left, each-right, first-split, coercions-join, owns-front}
use Rattle.hare_written.proofs.Fitting.NodeLists.{owns-hand}

branched : (t : Node) (ts : Nodes) → ts ≡ kids_of t → branch (head t) ts ≡ t
branched (branch h us) ts e = ap (branch h) e

bare-kids : (xs : List TypedNode) → bare_each (typed_nodes xs) ≡ map bare xs
bare-kids [] = refl
bare-kids (x ∷ xs) = ap (λ ys. bare x ∷ ys) (bare-kids xs)

-- all kids stand in the tree
pub all-erased : (w : Store → Setting) (s : Store) (t : Node) (n : ℕ) (xs : List TypedNode) → AreAllJudged w s t n xs →
    erase_each (typed_nodes xs) ≡ kids_of t
all-erased w s t n xs a = erased-all xs a.trees (length xs) a.judged.erases (take_all a.trees (length xs) a.many) ∙ sym a.kids

-- inference stops in a kid
pub kids-stopped : (w : Store → Setting) (s : Store) (r : Role) (t : Node) (n : ℕ) (q : Stop Fault) → AreStopped w s t n q →
    IsStopped w s r t n q
kids-stopped w s r t n q k f l m a cs i e =
    stop-same q _ _ (sym (infer_at (w f) a t (seen_of cs) (kids_of t) refl)) (stop_kids (w f) a (head t) _ q (k f l m a cs e))

module _ (w : Store → Setting) (s r : Store) (b : BytesFollowDefinitions) (g : IsGrown s r) (v : IsStore s) (u : IsStore r) (t : Node)
    (n : ℕ) (xs : List TypedNode)
    (a : AreAllJudged w s t n xs) where
  abbrev h : Head
  h = head t

  abbrev behind : List Coercion → List Coercion
  behind cs = cs ++ coercions_of (nodes_in xs)

  later : IsLater s r
  later = grown-later s r g u

  count : (cs : List Coercion) → length cs ≡ n → length (behind cs) ≡ n + length (nodes_in xs)
  count cs e = length-append cs (coercions_of (nodes_in xs)) ∙ ap₂ (λ i j. i + j) e (coerced (nodes_in xs))

  at : (o : Above) (role : Role) (cs : List Coercion) → o.inside.role ≡ role → length cs ≡ n → IsAt o role xs (behind cs)
  at o role cs i e = record { role = i; hand = owns-hand (behind cs) xs (a.judged.own cs e) }

  -- inference comes to the turn
  to-turn : (f : Store) → IsLater s f → Each (FitsNode f) (nodes_in xs) → (o : Above) (cs : List Coercion) → length cs ≡ n →
      infer (w f) o t (seen_of cs) ≡ with_kids (w f) o h (Ok (found_kids xs (seen_of (behind cs))))
  to-turn f l k o cs e =
      infer_at (w f) o t (seen_of cs) (kids_of t) refl
      ∙ ap (λ ts. with_kids (w f) o h (infer_each (w f) o h [] ts (seen_of cs))) a.kids
      ∙ ap (with_kids (w f) o h) (a.judged.infers f l k o cs e ∙ each_end (w f) o h xs a.trees (length xs) (seen_of (behind cs)) a.many)

  -- where it stops
  pub turn-stopped : (role : Role) (q : Stop Fault) → IsTurnedBack w r role h xs q → IsStopped w r role t n q
  turn-stopped role q k f l m o cs i e =
      let d : IsLater s f = later-grown s r f g l in
      let same = measures-trans s r f v later (grown-measures b s r g v u) m in
      let fit = fits-stay s f v d same (nodes_in xs) a.judged.stand a.judged.fit in
      stop-same q _ _ (sym (to-turn f d fit o cs e)) (k f l o (behind cs) (at o role cs i e))

  module _ (role : Role) (m : Mark) (i : IsTurned w r role h xs (n + length (nodes_in xs)) m) where
    abbrev x : TypedNode
    x = marked h m (typed_nodes xs)

    all : (cs : List Coercion) → behind cs ++ m.coerce ∷ [] ≡ cs ++ coercions_of (nodes_in xs ++ x ∷ [])
    all cs = coercions-join cs (nodes_in xs) (x ∷ [])

    plain : bare x ≡ x
    plain = ap₂ (λ c ys. marked h (record m { coerce = c }) (typed_nodes ys)) (sym i.plain) (bare-kids xs ∙ a.judged.plain)

    numbered : (cs : List Coercion) → length cs ≡ n → slice_get (behind cs ++ m.coerce ∷ []) m.node ≡ Some m.coerce
    numbered cs e = ap (slice_get (behind cs ++ m.coerce ∷ [])) (i.node ∙ sym (count cs e)) ∙ slice_get_end (behind cs) m.coerce []

    owned : (cs : List Coercion) → length cs ≡ n → HasOwn (cs ++ coercions_of (nodes_in xs ++ x ∷ [])) x
    owned cs e =
        subst (λ (ds : List Coercion). HasOwn ds x) (all cs)
        (numbered cs e, owns-front (behind cs) (m.coerce ∷ []) (typed_nodes xs) (a.judged.own cs e))

    too-large : (f : Store) (y : TypedNode) → IsLater r f → IsFirst f (nodes_in xs ++ x ∷ []) y → (o : Above) (cs : List Coercion) →
        o.inside.role ≡ role →
        length cs ≡ n → IsStop (large_stop y) (infer (w f) o t (seen_of cs))
    too-large f y l k o cs j e = by (first-split f (nodes_in xs) (x ∷ []) y k)
      where
        d : IsLater s f
        d = later-grown s r f g l

        by : IsFirst f (nodes_in xs) y ⊎ (Each (FitsNode f) (nodes_in xs) × IsFirst f (x ∷ []) y) →
            IsStop (large_stop y) (infer (w f) o t (seen_of cs))
        by (inl p) =
            let kids = a.judged.large f y d p o cs e in
            let there = ap (λ ts. infer_each (w f) o h [] ts (seen_of cs)) (sym a.kids) in
            stop-same (large_stop y) _ _ (sym (infer_at (w f) o t (seen_of cs) (kids_of t) refl))
            (stop_kids (w f) o h _ (large_stop y) (stop-same (large_stop y) _ _ there kids))
        by (inr (p, inl (same, large))) =
            let here = i.large f l large o (behind cs) (at o role cs j e) (count cs e) in
            let moved = stop-same (large_stop x) _ _ (sym (to-turn f d p o cs e)) here in
            subst (λ z. IsStop (large_stop z) (infer (w f) o t (seen_of cs))) same moved
        by (inr (p, inr (fit, none))) = absurd none

    judged-by : IsJudged w r role t n x
    judged-by = record {
      erases = branched t (erase_each (typed_nodes xs)) (all-erased w s t n xs a);
      plain = plain;
      own = owned;
      stands = each-join (StandsIn r) (nodes_in xs) (x ∷ []) (stands-stay s r v later (nodes_in xs) a.judged.stand) (i.stands, tt);
      fits =
          each-join (FitsNode r) (nodes_in xs) (x ∷ [])
          (fits-stay s r v later (grown-measures b s r g v u) (nodes_in xs) a.judged.stand a.judged.fit) (i.fits, tt);
      known = i.known;
      counted = i.counted;
      infers = λ f l k o cs j e.
          to-turn f (later-grown s r f g l) (each-left (FitsNode f) (nodes_in xs) (x ∷ []) k) o cs e
          ∙ i.turns f l (each-right (FitsNode f) (nodes_in xs) (x ∷ []) k).0 o (behind cs) (at o role cs j e) (count cs e)
          ∙ ap (λ (ds : List Coercion). Ok (found x (seen_of ds))) (all cs);
      large = too-large;
    }

  -- the tree, and how many nodes it has
  pub judged : (role : Role) (z : TypedNode) → IsTurn w r role h xs (n + length (nodes_in xs)) z → IsJudged w r role t n z
  judged role z (m, e, i) = subst (IsJudged w r role t n) (sym e) (judged-by role m i)

  pub judged-count : (role : Role) (z : TypedNode) (k : ℕ) → IsTurn w r role h xs k z → length (check_order z) ≡ length (nodes_in xs) + 1
  judged-count role z k (m, e, i) =
      ap (λ y. length (check_order y)) e ∙ length-append (nodes_in xs) (marked h m (typed_nodes xs) ∷ [])
