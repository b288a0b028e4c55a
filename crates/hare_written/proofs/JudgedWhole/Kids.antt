-- One kid more is judged.
use Rattle.std.proofs.Common.{◌≡◌, ℕ, zero, suc, ◌+◌, ◌≤◌, Bool, true, cond, Result, List, [], ◌∷◌, ◌++◌, map, take, drop, length, Some, Ok, refl, ap, ap₂, sym, ◌∙◌, subst, ◌⊎◌, inl, inr, arith, append-nil, length-append}
use Rattle.std.specs.Prelude.{slice_get, slice_set}
use Rattle.std.proofs.lemmas.List.{map-append}
use Rattle.hare_tree.specs.declared.kind.Kind.{Kind}
use Rattle.hare_tree.specs.declared.kind.Kind.TheVariants as ki
use Rattle.hare_tree.specs.declared.place.Fault.{Fault}
use Rattle.hare_tree.specs.declared.stop.Stop.{Stop}
use Rattle.hare_tree.specs.Node.{Head, Node, Nodes, head, kids_of, nodes_of}
use Rattle.hare_types.specs.declared.coercion.Coercion.{Coercion}
use Rattle.hare_types.specs.Store.{Store}
use Rattle.hare_types.specs.Sound.{IsStore}
use Rattle.hare_types.specs.Later.{IsLater}
use Rattle.hare_typed.specs.Typed.{TypedNode, typed_nodes}
use Rattle.hare_typed.specs.Erased.{erase}
use Rattle.hare_typed.specs.Order.{check_order, tree_from_front}
use Rattle.hare_rules.specs.Above.{Above, over_kid, role_of}
use Rattle.hare_rules.specs.Context.{Setting, Length, own_type}
use Rattle.hare_rules.specs.Finished.{bare}
use Rattle.hare_rules.specs.Flow.{Flow, each_entry, flow_before}
use Rattle.hare_inference.specs.Inferred.{Found, FoundKids, Reason, then_kids, infer, infer_each}
use Rattle.hare_seen.specs.Laws.{BytesFollowDefinitions}
use Rattle.hare_seen.specs.Seen.{MeasuresTheSame}
use Rattle.hare_seen.specs.Sizes.{FitsNode}
use Rattle.hare_walk.specs.Grown.{IsGrown}
use Rattle.hare_walk.specs.Walks.{Each, IsStop}
use Rattle.hare_walk.proofs.Grows.{later-grown}
use Rattle.hare_walk.proofs.Parts.{erased-more}
use Rattle.hare_walk.proofs.Steps.{each_next, stop_then, stop-same}
use Rattle.rule_judge.specs.Defined.{IsDefinedTy}
use Rattle.rule_judge.proofs.DefinedLemmas.{ty_stays}
use Rattle.rule_types.specs.Known.{AreKnownParts}
use Rattle.hare_written.specs.Nodes.{is_written, nodes_in, StandsIn, IsFirst, coercions_of, seen_of, HasOwn, HaveOwn}
use Rattle.hare_written.specs.Judged.{large_stop, IsJudged, IsStopped, AreJudged, AreStopped}
use Rattle.hare_written.proofs.Fitting.Fits.{grown-later, grown-measures, measures-trans, stands-stay, fits-stay}
use Rattle.hare_written.proofs.PartOfType.Kinds.{written-operand}
use Rattle.hare_written.proofs.PartOfType.Known.{parts-stay, parts-more}
use Rattle.hare_written.proofs.Fitting.NodeLists.{coerced, each-join, each-left, each-right, nodes-more, first-split, coercions-join, owns-front, owns-more}

-- none is
pub judged-none : (w : Store → Setting) (s : Store) (h : Head) (ts : List Node) (n : ℕ) → AreJudged w s h ts n []
judged-none w s h ts n = record {
  erases = refl;
  plain = refl;
  own = λ cs e. tt;
  stand = tt;
  fit = tt;
  known = tt;
  counted = λ e. tt;
  infers = λ f l k a cs e. ap (λ (ds : List Coercion). infer_each (w f) a h [] (nodes_of ts) (seen_of ds)) (sym (append-nil cs));
  large = λ f y l k. absurd k;
}

-- so many have been judged behind a kid
count-behind : (n : ℕ) (cs : List Coercion) (ys : List TypedNode) → length cs ≡ n → length (cs ++ coercions_of ys) ≡ n + length ys
count-behind n cs ys e = length-append cs (coercions_of ys) ∙ ap₂ (λ i j. i + j) e (coerced ys)

-- no binding is bound before a kid
before-kid : (w : Setting) (a : Above) (h : Head) (xs : List TypedNode) (f : Flow) → is_written h.kind ≡ true → flow_before w a h xs f ≡ f
before-kid w a h xs f e = ap (λ b. cond b (record f { locals = slice_set f.locals a.first (each_entry w h xs) }) f)
    (written-operand h.kind e (length xs))

module _ (w : Store → Setting) (h : Head) (kind : is_written h.kind ≡ true) (ts : List Node) (n : ℕ) (xs : List TypedNode) (t : Node)
    (next : slice_get ts (length xs) ≡ Some t) where
  abbrev rest : Nodes
  rest = nodes_of (drop (length xs + 1) ts)

  abbrev over : Store → Above → Above
  over f a = over_kid (w f) a h xs t rest

  abbrev go : Store → Above → TypedNode → Flow → Result FoundKids Reason
  go f a y g = infer_each (w f) a h (xs ++ y ∷ []) rest g

  abbrev between : List Coercion → List Coercion
  between cs = cs ++ coercions_of (nodes_in xs)

  -- inference goes on with the kid
  to-kid : (s f : Store) → IsLater s f → AreJudged w s h ts n xs → Each (FitsNode f) (nodes_in xs) → (a : Above) (cs : List Coercion) →
      length cs ≡ n →
      infer_each (w f) a h [] (nodes_of ts) (seen_of cs) ≡ then_kids (infer (w f) (over f a) t (seen_of (between cs))) (go f a)
  to-kid s f l j k a cs e =
      j.infers f l k a cs e ∙ each_next (w f) a h xs ts (length xs) t (seen_of (between cs)) next
      ∙ ap (λ g. then_kids (infer (w f) (over f a) t g) (go f a)) (before-kid (w f) a h xs (seen_of (between cs)) kind)

  -- which is the first with a fault
  pub kid-stopped : (s r : Store) → BytesFollowDefinitions → IsGrown s r → IsStore s → IsStore r → AreJudged w s h ts n xs →
      (q : Stop Fault) →
      IsStopped w r (role_of h.kind (length xs) (head t).kind) t (n + length (nodes_in xs)) q →
      (f : Store) → IsLater r f → MeasuresTheSame r f → (a : Above) (cs : List Coercion) → length cs ≡ n →
      IsStop q (infer_each (w f) a h [] (nodes_of ts) (seen_of cs))
  kid-stopped s r b g v u j q stopped f l m a cs e =
      let d : IsLater s f = later-grown s r f g l in
      let same = measures-trans s r f v (grown-later s r g u) (grown-measures b s r g v u) m in
      let fit = fits-stay s f v d same (nodes_in xs) j.stand j.fit in
      let here = stopped f l m (over f a) (between cs) refl (count-behind n cs (nodes_in xs) e) in
      stop-same q _ _ (sym (to-kid s f d j fit a cs e)) (stop_then (infer (w f) (over f a) t (seen_of (between cs))) (go f a) q here)

  module _ (s r : Store) (b : BytesFollowDefinitions) (g : IsGrown s r) (v : IsStore s) (u : IsStore r) (j : AreJudged w s h ts n xs)
      (x : TypedNode)
      (i : IsJudged w r (role_of h.kind (length xs) (head t).kind) t (n + length (nodes_in xs)) x) where
    abbrev more : List TypedNode
    more = xs ++ x ∷ []

    many : length more ≡ length xs + 1
    many = length-append xs (x ∷ [])

    nodes : nodes_in more ≡ nodes_in xs ++ check_order x
    nodes = nodes-more xs x

    all : (cs : List Coercion) → between cs ++ coercions_of (check_order x) ≡ cs ++ coercions_of (nodes_in more)
    all cs = coercions-join cs (nodes_in xs) (check_order x) ∙ ap (λ (ys : List TypedNode). cs ++ coercions_of ys) (sym nodes)

    count : (cs : List Coercion) → length cs ≡ n → length (between cs) ≡ n + length (nodes_in xs)
    count cs e = count-behind n cs (nodes_in xs) e

    later : IsLater s r
    later = grown-later s r g u

    both : (P : TypedNode → Type 0) → Each P (nodes_in xs) → Each P (check_order x) → Each P (nodes_in more)
    both P k m = subst (Each P) (sym nodes) (each-join P (nodes_in xs) (check_order x) k m)

    apart : (P : TypedNode → Type 0) → Each P (nodes_in more) → Each P (nodes_in xs ++ check_order x)
    apart P k = subst (Each P) nodes k

    owned : (cs : List Coercion) → length cs ≡ n → HaveOwn (cs ++ coercions_of (nodes_in more)) (typed_nodes more)
    owned cs e =
        subst (λ (ds : List Coercion). HaveOwn ds (typed_nodes more)) (all cs)
        (owns-more (between cs ++ coercions_of (check_order x)) xs x
        (owns-front (between cs) (coercions_of (check_order x)) (typed_nodes xs) (j.own cs e)) (i.own (between cs) (count cs e)))

    first-kid : (ys : List TypedNode) → ys ≡ xs → h.kind ≡ ki.TypeArray → IsDefinedTy r (own_type (tree_from_front 0 (ys ++ x ∷ [])))
    first-kid [] e k =
        let none : zero ≡ length xs = ap length e in
        i.counted (ap (λ o. role_of o (length xs) (head t).kind) k ∙ ap (λ m. role_of ki.TypeArray m (head t).kind) (sym none))
    first-kid (y ∷ ys) e k = ty_stays s r v later (own_type y)
        (subst (λ (zs : List TypedNode). IsDefinedTy s (own_type (tree_from_front 0 zs))) (sym e) (j.counted k))

    go-on : (f : Store) → IsLater r f → Each (FitsNode f) (nodes_in more) → (a : Above) (cs : List Coercion) → length cs ≡ n →
        infer_each (w f) a h [] (nodes_of ts) (seen_of cs)
        ≡ infer_each (w f) a h more (nodes_of (drop (length more) ts)) (seen_of (cs ++ coercions_of (nodes_in more)))
    go-on f l k a cs e =
        let d : IsLater s f = later-grown s r f g l in
        let k' = apart (FitsNode f) k in
        to-kid s f d j (each-left (FitsNode f) (nodes_in xs) (check_order x) k') a cs e
        ∙ ap (λ q. then_kids q (go f a))
        (i.infers f l (each-right (FitsNode f) (nodes_in xs) (check_order x) k') (over f a) (between cs) refl (count cs e))
        ∙ ap₂ (λ m (ds : List Coercion). infer_each (w f) a h more (nodes_of (drop m ts)) (seen_of ds)) (sym many) (all cs)

    too-large : (f : Store) (y : TypedNode) → IsLater r f → IsFirst f (nodes_in xs ++ check_order x) y → (a : Above) (cs : List Coercion) →
        length cs ≡ n →
        IsStop (large_stop y) (infer_each (w f) a h [] (nodes_of ts) (seen_of cs))
    too-large f y l k a cs e = by (first-split f (nodes_in xs) (check_order x) y k)
      where
        d : IsLater s f
        d = later-grown s r f g l

        by : IsFirst f (nodes_in xs) y ⊎ (Each (FitsNode f) (nodes_in xs) × IsFirst f (check_order x) y) →
            IsStop (large_stop y) (infer_each (w f) a h [] (nodes_of ts) (seen_of cs))
        by (inl m) = j.large f y d m a cs e
        by (inr m) =
            stop-same (large_stop y) _ _ (sym (to-kid s f d j m.0 a cs e))
            (stop_then (infer (w f) (over f a) t (seen_of (between cs))) (go f a) (large_stop y)
            (i.large f y l m.1 (over f a) (between cs) refl (count cs e)))

    pub judged-more : AreJudged w r h ts n (xs ++ x ∷ [])
    judged-more = record {
      erases = erased-more xs more ts x t (length xs) j.erases next i.erases refl ∙ ap (λ m. take m ts) (sym many);
      plain = map-append bare xs (x ∷ []) ∙ ap₂ (λ (ys : List TypedNode) y. ys ++ y ∷ []) j.plain i.plain;
      own = owned;
      stand = both (StandsIn r) (stands-stay s r v later (nodes_in xs) j.stand) i.stands;
      fit = both (FitsNode r) (fits-stay s r v later (grown-measures b s r g v u) (nodes_in xs) j.stand j.fit) i.fits;
      known = parts-more r xs x (parts-stay s r v later xs j.known) i.known;
      counted = first-kid xs refl;
      infers = go-on;
      large = λ f y l k. too-large f y l (subst (λ (ys : List TypedNode). IsFirst f ys y) nodes k);
    }
