-- The steps of the search: what is entered, passed over and put out.
use Rattle.std.proofs.Common.{◌≡◌, ◌↔◌, ℕ, ◌+◌, ◌<◌, ◌≤◌, List, [], ◌∷◌, ◌++◌, ◌⊎◌, inl, inr, Bool, true, false, length, get_or, slice_get, set, fold, filter, nat_lt, replicate, sum_by, cond, is_none, is_some, Option, Some, None, refl, sym, ap, ◌∙◌, subst, zero, suc, arith, length-append}
use Rattle.std.specs.Prelude.{Contains}
use Rattle.std.specs.List.Sorted.{IsPermutation, IsNonDecreasing}
use Rattle.std.proofs.lemmas.Bool.{and_parts, cases_lt, ltb-true, lt-ltb}
use Rattle.std.proofs.lemmas.List.{length-set, get_or-set_same, get_or-set_other, length-replicate}
use Rattle.std.proofs.lemmas.List.Sums.{sum_by-set}
use Rattle.std.proofs.lemmas.List.Sorted.{Contains-permutation, IsPermutation-sym}
use Rattle.std.proofs.lemmas.List.Elements.{Contains-push, Contains-append_left, Contains-push_cases}
use Rattle.hare_graph.specs.Graphs.{Graph, HasEdge, Reached, at_start, along, label_of, IsLabelled, count_free, Spreads, AreNew, cleared}
use Rattle.hare_graph.specs.Ranks.{StaysWithin}
use Rattle.hare_graph.proofs.Elements.{Contains-none, Contains-cases, Contains-here, Contains-behind, Other, other, get_or-there}
use Rattle.hare_graph.proofs.ReachLemmas.{label_of-replicate}
use Rattle.hare_depends.specs.declared.said.Said.{Said}
use Rattle.hare_depends.specs.declared.search.Frame.{Frame}
use Rattle.hare_depends.specs.declared.search.Search.{Search}
use Rattle.hare_depends.specs.Dependence.{DependsOn}
use Rattle.hare_depends.specs.Circles.{TellsCircle}
use Rattle.hare_depends.specs.Order.{IsReady, IsFirstLeft, IsAny, AreInTurn, IsOrder}
use Rattle.hare_depends.specs.Search.{source, IsDependence, IsClosed, AreSpent, is_below, AreLeft, wants, last_of, IsOnWay, IsFrame, IsWay, IsNextOn, IsUnder, AreEntered, Stands, work, Continues, Skips, is_passed, IsAt}
use Rattle.hare_depends.proofs.ListLemmas.{Contains-filter, filter-from, there-within}
use Rattle.hare_depends.proofs.WayLemmas.{on-way-push, on-way-cases, last-push, way-push, way-front, way-first, way-frame, way-next, next-fresh, way-done, turn-more, done-kept}

-- ---- labels

told-of : (o : Option ℕ) → ((l : ℕ) × (o ≡ Some l)) ⊎ (o ≡ None)
told-of None = inr refl
told-of (Some l) = inl (l, refl)

pub told : (ls : List (Option ℕ)) (n : ℕ) → IsLabelled ls n ⊎ (label_of ls n ≡ None)
told ls n = told-of (label_of ls n)

pub not-both : (ls : List (Option ℕ)) (n : ℕ) → IsLabelled ls n → label_of ls n ≡ None → ⊥
not-both ls n l e = let f : label_of ls n ≡ Some l.0 = l.1 in absurd cc

labelled-within : (ls : List (Option ℕ)) (n : ℕ) → IsLabelled ls n → n < length ls
labelled-within [] n l = absurd (none n l.0 l.1)
  where
    none : (n k : ℕ) → label_of [] n ≡ Some k → ⊥
    none zero k e = absurd cc
    none (suc n) k e = absurd cc
labelled-within (o ∷ ls) zero l = omega arith
labelled-within (o ∷ ls) (suc n) l = let h : n < length ls = labelled-within ls n l in omega arith

abbrev free : Option ℕ → ℕ
free o = cond (is_none o) 1 0

-- one more has a label
module _ (ls : List (Option ℕ)) (d : ℕ) (there : d < length ls) where
  abbrev marked : List (Option ℕ)
  marked = set ls d (Some 0)

  pub marked-itself : IsLabelled marked d
  marked-itself = (0, get_or-set_same ls d (Some 0) None there)

  pub marked-keeps : (e : ℕ) → IsLabelled ls e → IsLabelled marked e
  marked-keeps e l = by (other e d)
    where
      by : Other e d → IsLabelled marked e
      by (inl q) = subst (IsLabelled marked) (sym q) marked-itself
      by (inr n) = (l.0, get_or-set_other ls d e (Some 0) None n ∙ l.1)

  pub marked-from : (e : ℕ) → IsLabelled marked e → IsLabelled ls e ⊎ (d ≡ e)
  marked-from e l = by (other e d)
    where
      by : Other e d → IsLabelled ls e ⊎ (d ≡ e)
      by (inl q) = inr (sym q)
      by (inr n) = inl (l.0, sym (get_or-set_other ls d e (Some 0) None n) ∙ l.1)

  pub marked-less : label_of ls d ≡ None → count_free marked + 1 ≡ count_free ls
  marked-less e =
      let s : sum_by free marked + free (label_of ls d) ≡ sum_by free ls + 0 = sum_by-set free ls d (Some 0) None there in
      let f : free (label_of ls d) ≡ 1 = rw e refl in
      omega (arith, s, f)

-- labels that are taken away
cleared-size : (ls : List (Option ℕ)) (n : ℕ) → length (cleared ls n) ≡ length ls
cleared-size ls n = by (nat_lt n (length ls)) refl
  where
    by : (b : Bool) → nat_lt n (length ls) ≡ b → length (cleared ls n) ≡ length ls
    by true e = rw e (length-set ls n None)
    by false e = rw e refl

past-none : (ls : List (Option ℕ)) (n : ℕ) → (n < length ls → ⊥) → label_of ls n ≡ None
past-none ls n h = by (told ls n)
  where
    by : IsLabelled ls n ⊎ (label_of ls n ≡ None) → label_of ls n ≡ None
    by (inl l) = absurd (h (labelled-within ls n l))
    by (inr e) = e

cleared-itself : (ls : List (Option ℕ)) (n : ℕ) → label_of (cleared ls n) n ≡ None
cleared-itself ls n = by (nat_lt n (length ls)) refl
  where
    not-lt : nat_lt n (length ls) ≡ false → n < length ls → ⊥
    not-lt e l = let t : nat_lt n (length ls) ≡ true = lt-ltb n (length ls) l in absurd cc

    by : (b : Bool) → nat_lt n (length ls) ≡ b → label_of (cleared ls n) n ≡ None
    by true e = rw e (get_or-set_same ls n None None (ltb-true n (length ls) e))
    by false e = rw e (past-none ls n (not-lt e))

cleared-other : (ls : List (Option ℕ)) (n a : ℕ) → (a ≡ n → ⊥) → label_of (cleared ls n) a ≡ label_of ls a
cleared-other ls n a h = by (nat_lt n (length ls)) refl
  where
    by : (b : Bool) → nat_lt n (length ls) ≡ b → label_of (cleared ls n) a ≡ label_of ls a
    by true e = rw e (get_or-set_other ls n a None None h)
    by false e = rw e refl

all-cleared-size : (ns : List ℕ) (ls : List (Option ℕ)) → length (fold cleared ls ns) ≡ length ls
all-cleared-size [] ls = refl
all-cleared-size (n ∷ ns) ls = all-cleared-size ns (cleared ls n) ∙ cleared-size ls n

stays-clear : (ns : List ℕ) (ls : List (Option ℕ)) (a : ℕ) → label_of ls a ≡ None → label_of (fold cleared ls ns) a ≡ None
stays-clear [] ls a e = e
stays-clear (n ∷ ns) ls a e = stays-clear ns (cleared ls n) a (by (other a n))
  where
    by : Other a n → label_of (cleared ls n) a ≡ None
    by (inl q) = subst (λ x. label_of (cleared ls n) x ≡ None) (sym q) (cleared-itself ls n)
    by (inr h) = cleared-other ls n a h ∙ e

all-cleared : (ns : List ℕ) (ls : List (Option ℕ)) (a : ℕ) → Contains ns a → label_of (fold cleared ls ns) a ≡ None
all-cleared [] ls a c = absurd (Contains-none a c)
all-cleared (n ∷ ns) ls a c = by (all-cleared ns (cleared ls n) a) (Contains-cases n a ns c)
  where
    by : (Contains ns a → label_of (fold cleared (cleared ls n) ns) a ≡ None) → (n ≡ a) ⊎ Contains ns a →
        label_of (fold cleared (cleared ls n) ns) a ≡ None
    by r (inl q) = stays-clear ns (cleared ls n) a (subst (λ x. label_of (cleared ls n) x ≡ None) q (cleared-itself ls n))
    by r (inr d) = r d

others-kept : (ns : List ℕ) (ls : List (Option ℕ)) (a : ℕ) → (Contains ns a → ⊥) → label_of (fold cleared ls ns) a ≡ label_of ls a
others-kept [] ls a h = refl
others-kept (n ∷ ns) ls a h =
    others-kept ns (cleared ls n) a (λ c. h (Contains-behind n a ns c))
    ∙ cleared-other ls n a (λ q. h (subst (λ x. Contains (n ∷ ns) x) (sym q) (Contains-here n ns)))

-- ---- what is left of what a declaration depends on

-- what was found is given back, so labels are as before
module _ (g : Graph) (start k : ℕ) (old mid : List (Option ℕ)) (found : List ℕ) (stays : StaysWithin g) (size : length old ≡ length g)
    (there : start < length g)
    (closed : IsClosed g old) (s : Spreads g start k old mid) (t : AreNew g start old mid found) where
  -- what is reached and has no label is found
  reaches : {b : ℕ} → Reached g start b → label_of old b ≡ None → IsLabelled mid b
  reaches at_start e = s.started (omega (arith, size))
  reaches (along a b r h) e = by (λ n. reaches r n) (told old a)
    where
      by : (label_of old a ≡ None → IsLabelled mid a) → IsLabelled old a ⊎ (label_of old a ≡ None) → IsLabelled mid b
      by k (inl l) = absurd (not-both old b (closed a b l h) e)
      by k (inr n) = let w : b < length g = stays a b h in s.closed a b n (k n) h (omega (arith, size))

  abbrev new : List (Option ℕ)
  new = fold cleared mid found

  given-back : (a : ℕ) → IsLabelled new a → IsLabelled old a
  given-back a l = by (told old a)
    where
      by : IsLabelled old a ⊎ (label_of old a ≡ None) → IsLabelled old a
      by (inl o) = o
      by (inr n) = absurd (not-both new a l (clear (told mid a)))
        where
          clear : IsLabelled mid a ⊎ (label_of mid a ≡ None) → label_of new a ≡ None
          clear (inl m) = all-cleared found mid a (t.all a n m)
          clear (inr m) = stays-clear found mid a m

  kept-label : (a : ℕ) → IsLabelled old a → IsLabelled new a
  kept-label a l = (l.0, others-kept found mid a (λ c. not-both old a l (t.only a c).0) ∙ s.kept a l.0 l.1)

  pub left-are : (n : ℕ) (now : List (Option ℕ)) (fs bs xs : List ℕ) → now ≡ fold cleared mid fs → fs ≡ found →
      bs ≡ filter (is_below n) found → IsPermutation bs xs → IsNonDecreasing xs → AreLeft g n start old now xs
  left-are n now fs bs xs q qf qb p up = record {
    size = ap length q ∙ all-cleared-size fs mid ∙ s.size;
    same = λ a. (λ l. given-back a (subst (λ ls. IsLabelled ls a) e l), λ l. subst (λ ls. IsLabelled ls a) (sym e) (kept-label a l));
    sorted = up;
    only = λ x c. from x (filter-from (is_below n) found x
        (subst (λ ys. Contains ys x) qb (Contains-permutation xs bs x (IsPermutation-sym bs xs p) c)));
    all = λ x l r h. Contains-permutation bs xs x p
        (subst (λ ys. Contains ys x) (sym qb) (Contains-filter (is_below n) found x (t.all x h (reaches r h)) (lt-ltb x n l)));
  }
    where
      e : now ≡ new
      e = q ∙ ap (fold cleared mid) qf

      from : (x : ℕ) → Contains found x × (is_below n x ≡ true) → (x < n) × Reached g start x
      from x h = (ltb-true x n h.1, (t.only x h.0).1)

-- ---- a declaration is entered

module _ (ds : List Said) (g : Graph) (dep : IsDependence ds g) (done : List ℕ) (spent entered : List (Option ℕ)) (way : List Frame) (d : ℕ)
    (st : Stands ds g done spent entered way) (h : IsNextOn ds done way d) (spent' : List (Option ℕ)) (f : Frame)
    (l : AreLeft g (length ds) (source (length ds) d) spent spent' f.left.items) (fd : f.decl ≡ d) (fn : f.next ≡ 0) where
  entered-spent : AreSpent ds g done spent'
  entered-spent = record {
    size = l.size ∙ st.spent.size;
    tells = λ e k. (λ x. (st.spent.tells e k).0 ((l.same e).0 x), λ c. (l.same e).1 ((st.spent.tells e k).1 c));
    closed = λ a b x e. (l.same b).1 (st.spent.closed a b ((l.same a).0 x) e);
  }

  entered-frame : IsFrame ds done f
  entered-frame = record {
    sorted = l.sorted;
    only = λ e c. let x = l.only e c in subst (λ y. DependsOn ds y e) (sym fd) (dep.depends d e h.is_there x.0 x.1);
    all = λ e k. all e (subst (λ y. DependsOn ds y e) fd k);
    passed = λ j m n. absurd (omega (arith, fn));
  }
    where
      all : (e : ℕ) → DependsOn ds d e → Contains done e ⊎ Contains f.left.items e
      all e k = by (told spent e)
        where
          by : IsLabelled spent e ⊎ (label_of spent e ≡ None) → Contains done e ⊎ Contains f.left.items e
          by (inl x) = inl ((st.spent.tells e (dep.within d e k).1).0 x)
          by (inr n) = inr (l.all e (dep.within d e k).1 (dep.reached d e k) n)

  under-more : (e : ℕ) → IsUnder done way e ⊎ (d ≡ e) → IsUnder done (way ++ f ∷ []) e
  under-more e (inl (inl c)) = inl c
  under-more e (inl (inr w)) = inr (on-way-push way f e (inl w))
  under-more e (inr q) = inr (on-way-push way f e (inr (fd ∙ q)))

  pub entered-stands : Stands ds g done spent' (set entered d (Some 0)) (way ++ f ∷ [])
  entered-stands = record {
    in_turn = st.in_turn;
    spent = entered-spent;
    entered = record {
      size = length-set entered d (Some 0) ∙ st.entered.size;
      under = λ e x. under-more e (under e (marked-from entered d there e x));
    };
    way = way-push ds done None way f st.way (subst (IsNextOn ds done way) (sym fd) h) entered-frame;
  }
    where
      there : d < length entered
      there = let k : d < length ds = h.is_there in omega (arith, st.entered.size)

      under : (e : ℕ) → IsLabelled entered e ⊎ (d ≡ e) → IsUnder done way e ⊎ (d ≡ e)
      under e (inl x) = inl (st.entered.under e x)
      under e (inr q) = inr q

pub enters : (ds : List Said) (g : Graph) (s t : Search) (d : ℕ) (f : Frame) → IsDependence ds g →
    Stands ds g s.done.items s.spent.items s.entered.items s.way.items → IsNextOn ds s.done.items s.way.items d →
    label_of s.entered.items d ≡ None →
    AreLeft g (length ds) (source (length ds) d) s.spent.items t.spent.items f.left.items → f.decl ≡ d → f.next ≡ 0 →
    t.done.items ≡ s.done.items → t.entered.items ≡ set s.entered.items d (Some 0) → t.way.items ≡ s.way.items ++ f ∷ [] →
    Continues ds g s d (work s) t
enters ds g s t d f dep st h fresh l fd fn qd qe qw = record {
  stands =
      subst (λ ns. Stands ds g ns t.spent.items t.entered.items t.way.items) (sym qd)
      (subst (λ es. Stands ds g s.done.items t.spent.items es t.way.items) (sym qe)
      (subst (λ ws. Stands ds g s.done.items t.spent.items (set s.entered.items d (Some 0)) ws) (sym qw)
      (entered-stands ds g dep s.done.items s.spent.items s.entered.items s.way.items d st h t.spent.items f l fd fn)));
  under = λ e u.
      subst (λ ns. IsUnder ns t.way.items e) (sym qd)
      (subst (λ ws. IsUnder s.done.items ws e) (sym qw)
      (under-more ds g dep s.done.items s.spent.items s.entered.items s.way.items d st h t.spent.items f l fd fn e u));
  less =
      let c : count_free (set s.entered.items d (Some 0)) + 1 ≡ count_free s.entered.items = marked-less s.entered.items d there fresh in
      let e : count_free t.entered.items ≡ count_free (set s.entered.items d (Some 0)) = ap count_free qe in
      let w : length t.way.items ≡ length s.way.items + 1 = ap length qw ∙ length-append s.way.items (f ∷ []) in
      omega (arith, c, e, w);
}
  where
    there : d < length s.entered.items
    there = let k : d < length ds = h.is_there in omega (arith, st.entered.size)

-- ---- a declaration is put out

module _ (ds : List Said) (g : Graph) (dep : IsDependence ds g) (acyclic : TellsCircle ds None) (done : List ℕ)
    (spent entered : List (Option ℕ)) (way : List Frame)
    (f : Frame) (st : Stands ds g done spent entered (way ++ f ∷ [])) (ready : IsReady ds done f.decl) (k : ℕ) (spent' : List (Option ℕ))
    (sp : Spreads g (source (length ds) f.decl) k spent spent') where
  next : IsNextOn ds done way f.decl
  next = way-first ds done None way f st.way

  front : IsWay ds done None way
  front = way-front ds done None way f st.way

  within : f.decl < length spent'
  within = let l : f.decl < length ds = next.is_there in omega (arith, sp.size, st.spent.size, dep.nodes)

  abbrev more : List ℕ
  more = done ++ f.decl ∷ []

  -- of declarations those that are done now have a label
  spent-only : (e : ℕ) → e < length ds → IsLabelled spent' e → Contains done e
  spent-only e l x = by (sp.fresh e x.0 x.1)
    where
      by : (label_of spent e ≡ Some x.0) ⊎ ((label_of spent e ≡ None) × (x.0 ≡ k) × Reached g (source (length ds) f.decl) e) →
          Contains done e
      by (inl q) = (st.spent.tells e l).0 (x.0, q)
      by (inr q) = ready e (dep.depends f.decl e next.is_there l q.2)

  spent-kept : (e : ℕ) → IsLabelled spent e → IsLabelled spent' e
  spent-kept e x = (x.0, sp.kept e x.0 x.1)

  spent-closed : IsClosed g spent'
  spent-closed a b x e = by (told spent a)
    where
      by : IsLabelled spent a ⊎ (label_of spent a ≡ None) → IsLabelled spent' b
      by (inl y) = spent-kept b (st.spent.closed a b y e)
      by (inr n) = let l : b < length g = dep.stays a b e in sp.closed a b n x e (omega (arith, st.spent.size))

  put-spent : AreSpent ds g more (set spent' f.decl (Some 0))
  put-spent = record {
    size = length-set spent' f.decl (Some 0) ∙ sp.size ∙ st.spent.size;
    tells = λ e l. (λ x. only e l (marked-from spent' f.decl within e x), λ c. has e l (Contains-push_cases done f.decl e c));
    closed = λ a b x e. marked-keeps spent' f.decl within b (closed a b e (marked-from spent' f.decl within a x));
  }
    where
      only : (e : ℕ) → e < length ds → IsLabelled spent' e ⊎ (f.decl ≡ e) → Contains more e
      only e l (inl x) = done-kept ds done f.decl e (spent-only e l x)
      only e l (inr q) = subst (Contains more) q (Contains-push done f.decl)

      has : (e : ℕ) → e < length ds → Contains done e ⊎ (f.decl ≡ e) → IsLabelled (set spent' f.decl (Some 0)) e
      has e l (inl c) = marked-keeps spent' f.decl within e (spent-kept e ((st.spent.tells e l).1 c))
      has e l (inr q) = subst (IsLabelled (set spent' f.decl (Some 0))) q (marked-itself spent' f.decl within)

      closed : (a b : ℕ) → HasEdge g a b → IsLabelled spent' a ⊎ (f.decl ≡ a) → IsLabelled spent' b
      closed a b e (inl x) = spent-closed a b x e
      closed a b e (inr q) = absurd (dep.ends a b (subst (λ y. y < length ds) q next.is_there) e)

  under-put : (e : ℕ) → IsUnder done way e ⊎ (f.decl ≡ e) → IsUnder more way e
  under-put e (inl (inl c)) = inl (done-kept ds done f.decl e c)
  under-put e (inl (inr w)) = inr w
  under-put e (inr q) = inl (subst (Contains more) q (Contains-push done f.decl))

  put-stands : Stands ds g more (set spent' f.decl (Some 0)) entered way
  put-stands = record {
    in_turn = turn-more ds done f.decl st.in_turn (way-next ds done way f.decl front next ready);
    spent = put-spent;
    entered = record { size = st.entered.size; under = λ e x. under-put e (cases e (st.entered.under e x)) };
    way = way-done ds done f.decl acyclic way front next;
  }
    where
      cases : (e : ℕ) → IsUnder done (way ++ f ∷ []) e → IsUnder done way e ⊎ (f.decl ≡ e)
      cases e (inl c) = inl (inl c)
      cases e (inr w) = by (on-way-cases way f e w)
        where
          by : IsOnWay way e ⊎ (f.decl ≡ e) → IsUnder done way e ⊎ (f.decl ≡ e)
          by (inl x) = inl (inr x)
          by (inr q) = inr q

pub puts-out : (ds : List Said) (g : Graph) (s t : Search) (f : Frame) (k : ℕ) (mid : List (Option ℕ)) → IsDependence ds g →
    TellsCircle ds None →
    Stands ds g s.done.items s.spent.items s.entered.items (s.way.items ++ f ∷ []) → IsReady ds s.done.items f.decl →
    Spreads g (source (length ds) f.decl) k s.spent.items mid → t.done.items ≡ s.done.items ++ f.decl ∷ [] →
    t.spent.items ≡ set mid f.decl (Some 0) →
    t.entered.items ≡ s.entered.items → t.way.items ≡ s.way.items → Continues ds g s f.decl (work s + 1) t
puts-out ds g s t f k mid dep acyclic st ready sp qd qs qe qw = record {
  stands =
      subst (λ ns. Stands ds g ns t.spent.items t.entered.items t.way.items) (sym qd)
      (subst (λ ls. Stands ds g (s.done.items ++ f.decl ∷ []) ls t.entered.items t.way.items) (sym qs)
      (subst (λ es. Stands ds g (s.done.items ++ f.decl ∷ []) (set mid f.decl (Some 0)) es t.way.items) (sym qe)
      (subst (λ ws. Stands ds g (s.done.items ++ f.decl ∷ []) (set mid f.decl (Some 0)) s.entered.items ws) (sym qw)
      (put-stands ds g dep acyclic s.done.items s.spent.items s.entered.items s.way.items f st ready k mid sp))));
  under = λ e u.
      subst (λ ns. IsUnder ns t.way.items e) (sym qd)
      (subst (λ ws. IsUnder (s.done.items ++ f.decl ∷ []) ws e) (sym qw)
      (under-put ds g dep acyclic s.done.items s.spent.items s.entered.items s.way.items f st ready k mid sp e u));
  less =
      let e : count_free t.entered.items ≡ count_free s.entered.items =
      ap count_free qe in let w : length t.way.items ≡ length s.way.items = ap length qw in omega (arith, e, w);
}

-- the last on the way is a declaration
pub last-there : (ds : List Said) (g : Graph) (done : List ℕ) (spent entered : List (Option ℕ)) (way : List Frame) (f : Frame) →
    Stands ds g done spent entered (way ++ f ∷ []) → f.decl < length ds
last-there ds g done spent entered way f st = (way-first ds done None way f st.way).is_there

-- ---- those that are done are passed over

module _ (ds : List Said) (g : Graph) (done : List ℕ) (spent entered : List (Option ℕ)) (way : List Frame) (f h : Frame)
    (dep : IsDependence ds g) (st : Stands ds g done spent entered (way ++ f ∷ [])) (sk : Skips spent f h) where
  old-frame : IsFrame ds done f
  old-frame = way-frame ds done None way f st.way

  at-index : (xs : List ℕ) (j : ℕ) → j < length xs → Contains xs (get_or xs j 0)
  at-index xs j l = (j, l, same xs j l)
    where
      same : (xs : List ℕ) (j : ℕ) → j < length xs → get_or xs j (get_or xs j 0) ≡ get_or xs j 0
      same [] j l = absurd (omega arith)
      same (x ∷ xs) zero l = refl
      same (x ∷ xs) (suc j) l = same xs j (omega arith)

  same-default : (xs : List ℕ) (j d e : ℕ) → j < length xs → get_or xs j d ≡ get_or xs j e
  same-default [] j d e l = absurd (omega arith)
  same-default (x ∷ xs) zero d e l = refl
  same-default (x ∷ xs) (suc j) d e l = same-default xs j d e (omega arith)

  within-frame : (j : ℕ) → j < length f.left.items → get_or f.left.items j 0 < length ds
  within-frame j l = (dep.within f.decl (get_or f.left.items j 0) (old-frame.only (get_or f.left.items j 0) (at-index f.left.items j l))).1

  passed : (j : ℕ) → j < h.next → j < length f.left.items → Contains done (get_or f.left.items j 0)
  passed j l m = by (sk.passed j l m)
    where
      by : (j < f.next) ⊎ IsLabelled spent (get_or f.left.items j 0) → Contains done (get_or f.left.items j 0)
      by (inl n) = old-frame.passed j n m
      by (inr x) = (st.spent.tells (get_or f.left.items j 0) (within-frame j m)).0 x

  skipped-frame : IsFrame ds done h
  skipped-frame = record {
    sorted = subst IsNonDecreasing (sym sk.left) old-frame.sorted;
    only = λ e c. subst (λ d. DependsOn ds d e) (sym sk.decl) (old-frame.only e (subst (λ xs. Contains xs e) sk.left c));
    all = λ e k. subst (λ xs. Contains done e ⊎ Contains xs e) (sym sk.left) (old-frame.all e (subst (λ d. DependsOn ds d e) sk.decl k));
    passed = λ j l m.
        subst (λ xs. Contains done (get_or xs j 0)) (sym sk.left)
        (passed j l (subst (λ xs. j < length xs) sk.left m));
  }

  under-skipped : (e : ℕ) → IsUnder done (way ++ f ∷ []) e → IsUnder done (way ++ h ∷ []) e
  under-skipped e (inl c) = inl c
  under-skipped e (inr w) = inr (on-way-push way h e (same (on-way-cases way f e w)))
    where
      same : IsOnWay way e ⊎ (f.decl ≡ e) → IsOnWay way e ⊎ (h.decl ≡ e)
      same (inl x) = inl x
      same (inr q) = inr (sk.decl ∙ q)

  pub skipped-stands : Stands ds g done spent entered (way ++ h ∷ [])
  skipped-stands = record {
    in_turn = st.in_turn;
    spent = st.spent;
    entered = record { size = st.entered.size; under = λ e x. under-skipped e (st.entered.under e x) };
    way =
        way-push ds done None way h (way-front ds done None way f st.way)
        (subst (λ d. IsNextOn ds done way d) (sym sk.decl) (way-first ds done None way f st.way)) skipped-frame;
  }

  -- where it stops before the end, the first that is left is there
  module _ (next : ℕ) (is : get_or f.left.items h.next 0 ≡ next) (l : h.next < length f.left.items) where
    left : Contains done next → ⊥
    left c =
        not-both spent next ((st.spent.tells next (subst (λ x. x < length ds) is (within-frame h.next l))).1 c)
        (subst (λ x. label_of spent x ≡ None) is (sk.stops l))

    earlier : (c : ℕ) → c < next → (Contains done c → ⊥) → Contains done c ⊎ Contains f.left.items c → ⊥
    earlier c k n (inl x) = n x
    earlier c k n (inr x) = by (cases_lt x.0 h.next)
      where
        value : get_or f.left.items x.0 0 ≡ c
        value = same-default f.left.items x.0 0 c x.1 ∙ x.2

        by : (x.0 < h.next) ⊎ (h.next ≤ x.0) → ⊥
        by (inl y) = n (subst (Contains done) value (passed x.0 y x.1))
        by (inr y) =
            let u : get_or f.left.items h.next 0 ≤ get_or f.left.items x.0 0 =
            old-frame.sorted h.next x.0 0 y x.1 in omega (arith, u, value, is)

    pub next-on : IsNextOn ds done (way ++ h ∷ []) next
    next-on = subst (λ o. IsFirstLeft ds done (wants ds o) next) (sym (last-push None way h))
        (subst (λ d. IsFirstLeft ds done (DependsOn ds d) next) (sym sk.decl) first)
      where
        first : IsFirstLeft ds done (DependsOn ds f.decl) next
        first = record {
          is_there = subst (λ x. x < length ds) is (within-frame h.next l);
          is_left = left;
          holds = subst (DependsOn ds f.decl) is (old-frame.only (get_or f.left.items h.next 0) (at-index f.left.items h.next l));
          first = λ c k n d. earlier c k n (old-frame.all c d);
        }

    pub next-unentered : TellsCircle ds None → label_of entered next ≡ None
    next-unentered acyclic = by (told entered next)
      where
        by : IsLabelled entered next ⊎ (label_of entered next ≡ None) → label_of entered next ≡ None
        by (inl x) = absurd (next-fresh ds done next acyclic (way ++ h ∷ []) skipped-stands.way next-on
            (under-skipped next (st.entered.under next x)))
        by (inr n) = n

  -- where it is at the end, all is done
  pub all-done : length f.left.items ≤ h.next → IsReady ds done h.decl
  all-done l e k = by (old-frame.all e (subst (λ d. DependsOn ds d e) sk.decl k))
    where
      by : Contains done e ⊎ Contains f.left.items e → Contains done e
      by (inl c) = c
      by (inr x) = subst (Contains done) (same-default f.left.items x.0 0 e x.1 ∙ x.2) (passed x.0 (omega (arith, x.1)) x.1)

-- what is read of a frame
pub got : (xs ys : List ℕ) (i x : ℕ) → ys ≡ xs → slice_get ys i ≡ Some x → (i < length xs) × (get_or xs i 0 ≡ x)
got xs ys i x q e =
    let f : slice_get xs i ≡ Some x = subst (λ zs. slice_get zs i ≡ Some x) q e in (there-within xs i x f, get_or-there xs i x 0 f)

none-past : (xs : List ℕ) (i : ℕ) → slice_get xs i ≡ None → length xs ≤ i
none-past [] i e = omega arith
none-past (x ∷ xs) zero e = absurd cc
none-past (x ∷ xs) (suc i) e = let l : length xs ≤ i = none-past xs i e in omega arith

pub got-none : (xs ys : List ℕ) (i : ℕ) → ys ≡ xs → slice_get ys i ≡ None → length xs ≤ i
got-none xs ys i q e = none-past xs i (subst (λ zs. slice_get zs i ≡ None) q e)

-- the next is entered behind a frame
pub goes-to : (ds : List Said) (g : Graph) (s u t : Search) (f h : Frame) (next : ℕ) → f.decl ≡ h.decl → u.done.items ≡ s.done.items →
    u.entered.items ≡ s.entered.items →
    u.way.items ≡ s.way.items ++ h ∷ [] → Continues ds g u next (work u) t → Continues ds g s f.decl (work s + 1) t
goes-to ds g s u t f h next fh qd qe qw k = record {
  stands = k.stands;
  under = λ e x. k.under e (inl (subst (λ ns. IsUnder ns u.way.items e) (sym qd)
      (subst (λ ws. IsUnder s.done.items ws e) (sym qw) (from e x))));
  less =
      let c : count_free u.entered.items ≡ count_free s.entered.items = ap count_free qe in
      let w : length u.way.items ≡ length s.way.items + 1 = ap length qw ∙ length-append s.way.items (h ∷ []) in
      omega (arith, k.less, c, w);
}
  where
    from : (e : ℕ) → IsUnder s.done.items s.way.items e ⊎ (f.decl ≡ e) → IsUnder s.done.items (s.way.items ++ h ∷ []) e
    from e (inl (inl c)) = inl c
    from e (inl (inr w)) = inr (on-way-push s.way.items h e (inl w))
    from e (inr q) = inr (on-way-push s.way.items h e (inr (sym fh ∙ q)))

-- ---- from one declaration to the next in the source

pub at-start : (ds : List Said) (g : Graph) (s : Search) → length s.spent.items ≡ length g → s.done.items ≡ [] → s.way.items ≡ [] →
    s.spent.items ≡ replicate (length g) None → s.entered.items ≡ replicate (length ds) None → IsAt ds g 0 s
at-start ds g s z qd qw qs qe = record {
  stands = record {
    in_turn = λ k d e. absurd (nothing k d (subst (λ xs. slice_get xs k ≡ Some d) qd e));
    spent = record {
      size = z;
      tells = λ e l. (
        λ x. absurd (unlabelled (length g) s.spent.items qs e x),
        λ c. absurd
            (Contains-none e (subst (λ xs. Contains xs e) qd c)),
      );
      closed = λ a b x. absurd (unlabelled (length g) s.spent.items qs a x);
    };
    entered = record {
      size = ap length qe ∙ length-replicate (length ds) None;
      under = λ e x. absurd (unlabelled (length ds) s.entered.items qe e x);
    };
    way = subst (IsWay ds s.done.items None) (sym qw) tt;
  };
  empty = qw;
  before = λ e l. absurd (omega arith);
}
  where
    nothing : (k d : ℕ) → slice_get [] k ≡ Some d → ⊥
    nothing zero d e = cc
    nothing (suc k) d e = cc

    unlabelled : (n : ℕ) (ls : List (Option ℕ)) → ls ≡ replicate n None → (a : ℕ) → IsLabelled ls a → ⊥
    unlabelled n ls q a x = not-both ls a x (ap (λ ys. label_of ys a) q ∙ label_of-replicate n a)

pub at-next : (ds : List Said) (g : Graph) (k : ℕ) (s : Search) → IsAt ds g k s → Contains s.done.items k → IsAt ds g (k + 1) s
at-next ds g k s a c = record { stands = a.stands; empty = a.empty; before = λ e l. by e l (other e k) }
  where
    by : (e : ℕ) → e < k + 1 → Other e k → Contains s.done.items e
    by e l (inl q) = subst (Contains s.done.items) (sym q) c
    by e l (inr n) = a.before e (omega arith)

-- the first of all that are left is entered
pub first-on : (ds : List Said) (g : Graph) (k : ℕ) (s : Search) → IsAt ds g k s → k < length ds → label_of s.spent.items k ≡ None →
    IsNextOn ds s.done.items s.way.items k
first-on ds g k s a l n = subst (λ ws. IsNextOn ds s.done.items ws k) (sym a.empty) first
  where
    first : IsFirstLeft ds s.done.items IsAny k
    first = record {
      is_there = l;
      is_left = λ c. not-both s.spent.items k ((a.stands.spent.tells k l).1 c) n;
      holds = tt;
      first = λ c m h x. h (a.before c m);
    }

pub first-unentered : (ds : List Said) (g : Graph) (k : ℕ) (s : Search) → IsAt ds g k s → k < length ds → label_of s.spent.items k ≡ None →
    label_of s.entered.items k ≡ None
first-unentered ds g k s a l n = by (told s.entered.items k)
  where
    under : IsUnder s.done.items [] k → ⊥
    under (inl c) = not-both s.spent.items k ((a.stands.spent.tells k l).1 c) n
    under (inr w) = w

    by : IsLabelled s.entered.items k ⊎ (label_of s.entered.items k ≡ None) → label_of s.entered.items k ≡ None
    by (inl x) = absurd (under (subst (λ ws. IsUnder s.done.items ws k) a.empty (a.stands.entered.under k x)))
    by (inr e) = e

-- while a declaration is gone on from, those before it and it are done or under way
pub record Finishing (ds : List Said) (g : Graph) (k : ℕ) (s : Search) : Type 0 where
  pub stands : Stands ds g s.done.items s.spent.items s.entered.items s.way.items
  pub under : (e : ℕ) → e < k + 1 → IsUnder s.done.items s.way.items e

pub finishing-start : (ds : List Said) (g : Graph) (k : ℕ) (s t : Search) → IsAt ds g k s → Continues ds g s k (work s) t →
    Finishing ds g k t
finishing-start ds g k s t a c = record { stands = c.stands; under = λ e l. c.under e (by e l (other e k)) }
  where
    by : (e : ℕ) → e < k + 1 → Other e k → IsUnder s.done.items s.way.items e ⊎ (k ≡ e)
    by e l (inl q) = inr (sym q)
    by e l (inr n) = inl (inl (a.before e (omega arith)))

pub finishing-on : (ds : List Said) (g : Graph) (k : ℕ) (s u t : Search) (f : Frame) → Finishing ds g k s → u.done.items ≡ s.done.items →
    s.way.items ≡ u.way.items ++ f ∷ [] → Continues ds g u f.decl (work u + 1) t → Finishing ds g k t
finishing-on ds g k s u t f h qd qw c = record { stands = c.stands; under = λ e l. c.under e (from e (h.under e l)) }
  where
    cases : (e : ℕ) → IsOnWay u.way.items e ⊎ (f.decl ≡ e) → IsUnder u.done.items u.way.items e ⊎ (f.decl ≡ e)
    cases e (inl w) = inl (inr w)
    cases e (inr q) = inr q

    from : (e : ℕ) → IsUnder s.done.items s.way.items e → IsUnder u.done.items u.way.items e ⊎ (f.decl ≡ e)
    from e (inl x) = inl (inl (subst (λ ns. Contains ns e) (sym qd) x))
    from e (inr w) = cases e (on-way-cases u.way.items f e (subst (λ ws. IsOnWay ws e) qw w))

pub finished : (ds : List Said) (g : Graph) (k : ℕ) (s t : Search) → t.done.items ≡ s.done.items → t.spent.items ≡ s.spent.items →
    t.entered.items ≡ s.entered.items → Finishing ds g k s → s.way.items ≡ [] → t.way.items ≡ [] → IsAt ds g (k + 1) t
finished ds g k s t qd qs qe h q r = record {
  stands =
      subst (λ ns. Stands ds g ns t.spent.items t.entered.items t.way.items) (sym qd)
      (subst (λ ls. Stands ds g s.done.items ls t.entered.items t.way.items) (sym qs)
      (subst (λ es. Stands ds g s.done.items s.spent.items es t.way.items) (sym qe)
      (subst (λ ws. Stands ds g s.done.items s.spent.items s.entered.items ws) (q ∙ sym r) h.stands)));
  empty = r;
  before = λ e l. subst (λ ns. Contains ns e) (sym qd) (by e (subst (λ ws. IsUnder s.done.items ws e) q (h.under e l)));
}
  where
    by : (e : ℕ) → IsUnder s.done.items [] e → Contains s.done.items e
    by e (inl c) = c
    by e (inr w) = absurd w

pub goes-less : (s u t : Search) (f : Frame) → u.entered.items ≡ s.entered.items → s.way.items ≡ u.way.items ++ f ∷ [] →
    work t < work u + 1 → work t < work s
goes-less s u t f qe qw l =
    let e : count_free u.entered.items ≡ count_free s.entered.items = ap count_free qe in
    let w : length s.way.items ≡ length u.way.items + 1 = ap length qw ∙ length-append u.way.items (f ∷ []) in
    omega (arith, l, e, w)

-- at the end all are in order
pub in-order : (ds : List Said) (g : Graph) (k : ℕ) (s : Search) → IsAt ds g k s → length ds ≤ k → IsOrder ds s.done.items
in-order ds g k s a l = record { all = λ d m. a.before d (omega arith); in_turn = a.stands.in_turn }

-- ---- what a test tells of a label

some-told : (o : Option ℕ) → is_some o ≡ true → (l : ℕ) × (o ≡ Some l)
some-told None e = absurd cc
some-told (Some l) e = (l, refl)

none-told : (o : Option ℕ) → is_some o ≡ false → o ≡ None
none-told None e = refl
none-told (Some l) e = absurd cc

pub tested-true : (ls ms : List (Option ℕ)) (n : ℕ) (o : Option ℕ) (b : Bool) → ms ≡ ls → o ≡ label_of ms n → b ≡ is_some o → b ≡ true →
    IsLabelled ls n
tested-true ls ms n o b q e f t = some-told (label_of ls n) (ap is_some (sym (e ∙ ap (λ xs. label_of xs n) q)) ∙ sym f ∙ t)

pub tested-false : (ls ms : List (Option ℕ)) (n : ℕ) (o : Option ℕ) (b : Bool) → ms ≡ ls → o ≡ label_of ms n → b ≡ is_some o → b ≡ false →
    label_of ls n ≡ None
tested-false ls ms n o b q e f t = none-told (label_of ls n) (ap is_some (sym (e ∙ ap (λ xs. label_of xs n) q)) ∙ sym f ∙ t)

-- one more of a frame has a label
pub passed-more : (ls : List (Option ℕ)) (xs ys : List ℕ) (from n : ℕ) → ys ≡ xs → is_passed ls ys n ≡ true →
    ((j : ℕ) → j < n → j < length xs → (j < from) ⊎ IsLabelled ls (get_or xs j 0)) → (j : ℕ) → j < n + 1 → j < length xs →
    (j < from) ⊎ IsLabelled ls (get_or xs j 0)
passed-more ls xs ys from n q t inv j l m = by (other j n)
  where
    here : IsLabelled ls (get_or xs n 0)
    here =
        let u : is_passed ls xs n ≡ true = subst (λ zs. is_passed ls zs n ≡ true) q t in
        some-told (label_of ls (get_or xs n 0)) (and_parts (nat_lt n (length xs)) (is_some (label_of ls (get_or xs n 0))) u).1

    by : Other j n → (j < from) ⊎ IsLabelled ls (get_or xs j 0)
    by (inl e) = inr (subst (λ i. IsLabelled ls (get_or xs i 0)) (sym e) here)
    by (inr k) = inv j (omega arith) m
