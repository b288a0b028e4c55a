-- Written types, one behind another.
use Rattle.std.proofs.Common.{◌≡◌, ℕ, List, [], ◌∷◌, ◌++◌, length, ◌⊎◌, inl, inr, refl, sym, ◌∙◌, subst}
use Rattle.std.specs.Prelude.{Contains}
use Rattle.std.specs.List.{AllZip}
use Rattle.std.proofs.lemmas.List.{append-nil}
use Rattle.std.proofs.lemmas.List.Elements.{Contains-append_left, Contains-append_right, Contains-append_cases}
use Rattle.hare_tree.specs.declared.place.Fault.{Fault}
use Rattle.hare_types.specs.Store.{Store}
use Rattle.hare_types.specs.Later.{IsLater, TypesStay}
use Rattle.hare_typed.specs.Typed.{TypedNode}
use Rattle.hare_typed.specs.Erased.{erase}
use Rattle.hare_typed.specs.Order.{check_order}
use Rattle.hare_seen.specs.Sizes.{nodes_of_types, AllFit, StandIn, IsFirstLarge, too_large}
use Rattle.hare_seen.specs.Laws.{BytesFollowDefinitions}
use Rattle.hare_rules.specs.declared.declared.DeclType.{DeclType}
use Rattle.hare_rules.specs.Context.{Setting}
use Rattle.hare_modules.specs.Uses.{place_of}
use Rattle.hare_whole.specs.Listing.{Listing, Written}
use Rattle.hare_whole.specs.Turns.{AreTyped, IsTypeFault, IsTypesFault}
use Rattle.hare_turns.specs.Stages.{over, AreReadable}
use Rattle.hare_turns.specs.Types.{IsTypeOf, TypesAreJudged, TypesBegin}
use Rattle.hare_turns.proofs.LaterStores.Lists.{Contains-nil, Contains-head, Contains-cons_cases, split_at}
use Rattle.hare_turns.proofs.LaterStores.Stores.{IsLater-trans}
use Rattle.hare_turns.proofs.LaterStores.Sizes.{StandIn-later, AllFit-later}

-- ---- nodes of some types

-- the nodes of the first, and those of the rest
first_node : (x : TypedNode) (xs : List TypedNode) (y : TypedNode) → Contains (nodes_of_types (x ∷ [])) y →
    Contains (nodes_of_types (x ∷ xs)) y
first_node x xs y c =
    Contains-append_left (check_order x) (nodes_of_types xs) y
    (subst (λ (ys : List TypedNode). Contains ys y) (append-nil (check_order x)) c)

own_node : (x y : TypedNode) → Contains (check_order x) y → Contains (nodes_of_types (x ∷ [])) y
own_node x y c = Contains-append_left (check_order x) [] y c

AllFit-first : (f : Store) (x : TypedNode) (xs : List TypedNode) → AllFit f (x ∷ xs) → AllFit f (x ∷ [])
AllFit-first f x xs fit = λ y c. fit y (first_node x xs y c)

AllFit-rest : (f : Store) (x : TypedNode) (xs : List TypedNode) → AllFit f (x ∷ xs) → AllFit f xs
AllFit-rest f x xs fit = λ y c. fit y (Contains-append_right (check_order x) (nodes_of_types xs) y c)

AllFit-more : (f : Store) (x : TypedNode) (xs : List TypedNode) → AllFit f (x ∷ []) → AllFit f xs → AllFit f (x ∷ xs)
AllFit-more f x xs fit rest = λ y c. elim (Contains-append_cases (check_order x) (nodes_of_types xs) y c) [
  | inl i ↦ fit y (own_node x y i)
  | inr i ↦ rest y i
]

AllFit-push : (f : Store) (xs : List TypedNode) (x : TypedNode) → AllFit f xs → AllFit f (x ∷ []) → AllFit f (xs ++ x ∷ [])
AllFit-push f [] x fit own = own
AllFit-push f (y ∷ xs) x fit own =
    AllFit-more f y (xs ++ x ∷ []) (AllFit-first f y xs fit) (AllFit-push f xs x (AllFit-rest f y xs fit) own)

StandIn-more : (s : Store) (x : TypedNode) (xs : List TypedNode) → StandIn s (x ∷ []) → StandIn s xs → StandIn s (x ∷ xs)
StandIn-more s x xs own rest = λ y u c e. elim (Contains-append_cases (check_order x) (nodes_of_types xs) y c) [
  | inl i ↦ own y u (own_node x y i) e
  | inr i ↦ rest y u i e
]

-- the first that is too large is a node of the first type, or all of those fit
first_large : (f : Store) (x : TypedNode) (xs : List TypedNode) (i : ℕ) (y : TypedNode) → IsFirstLarge f (x ∷ xs) i y →
    IsFirstLarge f (x ∷ []) i y ⊎ (AllFit f (x ∷ []) × ((j : ℕ) × IsFirstLarge f xs j y))
first_large f x xs i y h = by (split_at (check_order x) (nodes_of_types xs) h.before y h.behind h.nodes)
  where
    first_own : (es : List TypedNode) (z : TypedNode) → Contains (nodes_of_types (x ∷ [])) z → Contains (check_order x ++ es) z
    first_own es z c =
        Contains-append_left (check_order x) es z (subst (λ (ys : List TypedNode). Contains ys z) (append-nil (check_order x)) c)

    by : ((es : List TypedNode) × (check_order x ≡ h.before ++ y ∷ es))
        ⊎ ((es : List TypedNode) × (h.before ≡ check_order x ++ es) × (nodes_of_types xs ≡ es ++ y ∷ h.behind))
        → IsFirstLarge f (x ∷ []) i y ⊎ (AllFit f (x ∷ []) × ((j : ℕ) × IsFirstLarge f xs j y))
    by (inl (es, e)) = inl (record {
      before = h.before;
      behind = es;
      nodes = append-nil (check_order x) ∙ e;
      count = h.count;
      fit = h.fit;
      large = h.large;
    })
    by (inr (es, e, r)) =
        let among : (z : TypedNode) → Contains (check_order x ++ es) z → Contains h.before z =
        λ z c. subst (λ (ys : List TypedNode). Contains ys z) (sym e) c in
        let fit : AllFit f (x ∷ []) =
        λ z c. h.fit z (among z (first_own es z c)) in
        inr (
          fit,
          (
            length es,
            record {
              before = es;
              behind = h.behind;
              nodes = r;
              count = refl;
              fit = λ z c. h.fit z (among z (Contains-append_right (check_order x) es z c));
              large = h.large;
            },
          ),
        )

-- ---- types so far

module _ (p : Listing) (ds : List DeclType) (s : Store) (n : ℕ) where
  stand_so_far : (rs : List Written) (xs : List TypedNode) → AllZip (IsTypeOf p ds s n) rs xs → StandIn s xs
  stand_so_far [] [] h = λ y u c e. absurd (Contains-nil y c)
  stand_so_far [] (x ∷ xs) h = absurd h
  stand_so_far (r ∷ rs) [] h = absurd h
  stand_so_far (r ∷ rs) (x ∷ xs) h = StandIn-more s x xs h.0.stand (stand_so_far rs xs h.1)

  typed_so_far : (f : Store) → IsLater s f → (rs : List Written) (xs : List TypedNode) → AllZip (IsTypeOf p ds s n) rs xs → AllFit f xs →
      AreTyped (over p ds f) n rs xs
  typed_so_far f l [] [] h fit = tt
  typed_so_far f l [] (x ∷ xs) h fit = h
  typed_so_far f l (r ∷ rs) [] h fit = h
  typed_so_far f l (r ∷ rs) (x ∷ xs) h fit =
      (h.0.typed f l (AllFit-first f x xs fit), typed_so_far f l rs xs h.1 (AllFit-rest f x xs fit))

  large_so_far : (f : Store) → IsLater s f → (rs : List Written) (xs : List TypedNode) → AllZip (IsTypeOf p ds s n) rs xs → (i : ℕ)
      (y : TypedNode) → IsFirstLarge f xs i y → IsTypesFault (over p ds f) n rs (too_large (place_of (erase y)))
  large_so_far f l [] [] h i y k =
      let itself = Contains-append_right k.before (y ∷ k.behind) y (Contains-head y k.behind) in
      absurd (Contains-nil y (subst (λ (ys : List TypedNode). Contains ys y) (sym k.nodes) itself))
  large_so_far f l [] (x ∷ xs) h i y k = absurd h
  large_so_far f l (r ∷ rs) [] h i y k = absurd h
  large_so_far f l (r ∷ rs) (x ∷ xs) h i y k = by (large_so_far f l rs xs h.1) (first_large f x xs i y k)
    where
      by : ((j : ℕ) (z : TypedNode) → IsFirstLarge f xs j z → IsTypesFault (over p ds f) n rs (too_large (place_of (erase z))))
          → IsFirstLarge f (x ∷ []) i y ⊎ (AllFit f (x ∷ []) × ((j : ℕ) × IsFirstLarge f xs j y))
          → IsTypesFault (over p ds f) n (r ∷ rs) (too_large (place_of (erase y)))
      by rest (inl a) = inl (h.0.large f i y l a)
      by rest (inr (fit, (j, a))) = inr (x, h.0.typed f l fit, rest j y a)

  readable_so_far : (rs : List Written) (xs : List TypedNode) → AllZip (IsTypeOf p ds s n) rs xs → (x : TypedNode) → Contains xs x →
      AreReadable p ds (erase x)
  readable_so_far [] [] h y c = absurd (Contains-nil y c)
  readable_so_far [] (x ∷ xs) h y c = absurd h
  readable_so_far (r ∷ rs) [] h y c = absurd h
  readable_so_far (r ∷ rs) (x ∷ xs) h y c = by (readable_so_far rs xs h.1) (Contains-cons_cases x xs y c)
    where
      by : ((z : TypedNode) → Contains xs z → AreReadable p ds (erase z)) → (x ≡ y) ⊎ Contains xs y → AreReadable p ds (erase y)
      by rest (inl e) = subst (λ (z : TypedNode). AreReadable p ds (erase z)) e h.0.readable
      by rest (inr i) = rest y i

  -- with one more
  each-push : (rs : List Written) (xs : List TypedNode) (r : Written) (x : TypedNode) → AllZip (IsTypeOf p ds s n) rs xs →
      IsTypeOf p ds s n r x → AllZip (IsTypeOf p ds s n) (rs ++ r ∷ []) (xs ++ x ∷ [])
  each-push [] [] r x h k = (k, tt)
  each-push [] (y ∷ xs) r x h k = absurd h
  each-push (q ∷ rs) [] r x h k = absurd h
  each-push (q ∷ rs) (y ∷ xs) r x h k = (h.0, each-push rs xs r x h.1 k)

  -- in later stores
  each-later : (f : Store) → IsLater s f → (rs : List Written) (xs : List TypedNode) → AllZip (IsTypeOf p ds s n) rs xs →
      AllZip (IsTypeOf p ds f n) rs xs
  each-later f l [] [] h = tt
  each-later f l [] (x ∷ xs) h = h
  each-later f l (r ∷ rs) [] h = h
  each-later f l (r ∷ rs) (x ∷ xs) h = (
    record {
      stand = StandIn-later s f l (x ∷ []) h.0.stand;
      typed = λ k m fit. h.0.typed k (IsLater-trans s f k l m) fit;
      large = λ k i y m a. h.0.large k i y (IsLater-trans s f k l m) a;
      readable = h.0.readable;
    },
    each-later f l rs xs h.1,
  )

-- the fault of a type behind others that are well typed
fault_behind : (w : Setting) (n : ℕ) (rs : List Written) (xs : List TypedNode) (r : Written) (qs : List Written) (e : Fault) →
    AreTyped w n rs xs → IsTypeFault w n r e → IsTypesFault w n (rs ++ r ∷ qs) e
fault_behind w n [] xs r qs e h k = inl k
fault_behind w n (q ∷ rs) [] r qs e h k = absurd h
fault_behind w n (q ∷ rs) (x ∷ xs) r qs e h k = inr (x, h.0, fault_behind w n rs xs r qs e h.1 k)

pub types_begin : TypesBegin
types_begin p ds s n = record { each = tt; fit = λ y c. absurd (Contains-nil y c) }

pub types_are_judged : TypesStay → BytesFollowDefinitions → TypesAreJudged
types_are_judged stay bytes p ds s n rs xs v h = record {
  stay = λ f k. record {
    each = each-later p ds s n f k.later rs xs h.each;
    fit = AllFit-later stay s f v k.later (bytes s f v k.later k.same) xs stand h.fit;
  };
  more = λ r x own fit. record {
    each = each-push p ds s n rs xs r x h.each own;
    fit = AllFit-push s xs x h.fit fit;
  };
  all = λ t e. record {
    stand = stand;
    typed = λ f l fit. subst (λ (qs : List Written). AreTyped (over p ds f) n qs xs) e (typed_so_far p ds s n f l rs xs h.each fit);
    large = λ f i y l a.
        subst (λ (qs : List Written). IsTypesFault (over p ds f) n qs (too_large (place_of (erase y)))) e
        (large_so_far p ds s n f l rs xs h.each i y a);
    readable = readable_so_far p ds s n rs xs h.each;
  };
  stop = λ t r qs e i faulty f l same.
      let typed = typed_so_far p ds s n f l rs xs h.each (AllFit-later stay s f v l same xs stand h.fit) in
      subst (λ (ws : List Written). IsTypesFault (over p ds f) n ws e) i
      (fault_behind (over p ds f) n rs xs r qs e typed (faulty f l same));
}
  where
    stand : StandIn s xs
    stand = stand_so_far p ds s n rs xs h.each
