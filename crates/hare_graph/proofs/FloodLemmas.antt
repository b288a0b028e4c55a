-- How a label spreads, node by node.
use Rattle.std.proofs.Common.{◌≡◌, ℕ, ◌+◌, ◌<◌, List, [], ◌∷◌, ◌++◌, Bool, true, false, cond, ◌&&◌, ◌⊎◌, inl, inr, length, get_or, set, fold, sum_by, Option, Some, None, is_none, refl, sym, ap, ◌∙◌, subst, length-append, arith}
use Rattle.std.specs.Prelude.{Contains}
use Rattle.std.proofs.lemmas.Bool.{and_parts, ltb-true, lt-ltb}
use Rattle.std.proofs.lemmas.List.{length-set, get_or-set_same, get_or-set_other}
use Rattle.std.proofs.lemmas.List.Sums.{sum_by-set}
use Rattle.std.proofs.lemmas.List.Elements.{Contains-push, Contains-append_left, Contains-push_cases}
use Rattle.hare_graph.proofs.Elements.{Contains-none, Contains-cases, Contains-here, Contains-behind, Other, other}
use Rattle.hare_graph.specs.Graphs.{Graph, HasEdge, Reached, at_start, along, label_of, IsLabelled, Marks, is_free, visited, marks, count_free, Spreads, AreNew}

-- ---- one step

-- what visiting these nodes does to the marks
pub record Step (k : ℕ) (ns : List ℕ) (m m' : Marks) : Type 0 where
  pub size : length m'.labels ≡ length m.labels
  pub kept : (n l : ℕ) → label_of m.labels n ≡ Some l → label_of m'.labels n ≡ Some l
  pub fresh : (n l : ℕ) → label_of m'.labels n ≡ Some l →
      (label_of m.labels n ≡ Some l) ⊎ ((label_of m.labels n ≡ None) × (l ≡ k) × Contains ns n × Contains m'.left n)
  pub stays : (n : ℕ) → Contains m.left n → Contains m'.left n
  pub left_from : (n : ℕ) → Contains m'.left n → Contains m.left n ⊎ ((label_of m.labels n ≡ None) × Contains ns n)
  pub all : (n : ℕ) → Contains ns n → n < length m.labels → IsLabelled m'.labels n
  pub work : count_free m'.labels + length m'.left ≡ count_free m.labels + length m.left

labelled : (o : Option ℕ) → is_none o ≡ false → (l : ℕ) × (o ≡ Some l)
labelled None e = absurd cc
labelled (Some l) e = (l, refl)

unlabelled : (o : Option ℕ) → is_none o ≡ true → o ≡ None
unlabelled None e = refl
unlabelled (Some l) e = absurd cc

module _ (k : ℕ) (m : Marks) (n : ℕ) (lt : n < length m.labels) (none : label_of m.labels n ≡ None) where
  abbrev new : List (Option ℕ)
  new = set m.labels n (Some k)

  new_kept : (a l : ℕ) → label_of m.labels a ≡ Some l → Other a n → label_of new a ≡ Some l
  new_kept a l e (inl h) = let f : label_of m.labels a ≡ None = rw h none in absurd cc
  new_kept a l e (inr h) = get_or-set_other m.labels n a (Some k) None h ∙ e

  new_fresh : (a l : ℕ) → label_of new a ≡ Some l → Other a n →
      (label_of m.labels a ≡ Some l) ⊎ ((label_of m.labels a ≡ None) × (l ≡ k) × Contains (n ∷ []) a × Contains (m.left ++ n ∷ []) a)
  new_fresh a l e (inl h) =
      let same : label_of new a ≡ Some k = rw h (get_or-set_same m.labels n (Some k) None lt) in
      let none_at : label_of m.labels a ≡ None = rw h none in
      let eq : l ≡ k = cc in
      inr (
        none_at,
        eq,
        subst (λ b. Contains (n ∷ []) b) (sym h) (Contains-here n []),
        subst (λ b. Contains (m.left ++ n ∷ []) b) (sym h)
            (Contains-push m.left n),
      )
  new_fresh a l e (inr h) = inl (sym (get_or-set_other m.labels n a (Some k) None h) ∙ e)

  new_left : (a : ℕ) → Contains m.left a ⊎ (n ≡ a) → Contains m.left a ⊎ ((label_of m.labels a ≡ None) × Contains (n ∷ []) a)
  new_left a (inl c) = inl c
  new_left a (inr e) = inr (subst (λ b. label_of m.labels b ≡ None) e none, subst (λ b. Contains (n ∷ []) b) e (Contains-here n []))

  new_all : (a : ℕ) → (n ≡ a) ⊎ Contains [] a → IsLabelled new a
  new_all a (inl e) = (k, subst (λ b. label_of new b ≡ Some k) e (get_or-set_same m.labels n (Some k) None lt))
  new_all a (inr c) = absurd (Contains-none a c)

  abbrev free : Option ℕ → ℕ
  free o = cond (is_none o) 1 0

  new_work : count_free new + length (m.left ++ n ∷ []) ≡ count_free m.labels + length m.left
  new_work =
      let s : sum_by free new + free (label_of m.labels n) ≡ sum_by free m.labels + 0 = sum_by-set free m.labels n (Some k) None lt in
      let f : free (label_of m.labels n) ≡ 1 = rw none refl in
      let l : length (m.left ++ n ∷ []) ≡ length m.left + 1 = length-append m.left (n ∷ []) in
      omega (arith, s, f, l)

  taken-step : Step k (n ∷ []) m (record { labels = new; left = m.left ++ n ∷ [] })
  taken-step = record {
    size = length-set m.labels n (Some k);
    kept = λ a l e. new_kept a l e (other a n);
    fresh = λ a l e. new_fresh a l e (other a n);
    stays = λ a c. Contains-append_left m.left (n ∷ []) a c;
    left_from = λ a c. new_left a (Contains-push_cases m.left n a c);
    all = λ a c l. new_all a (Contains-cases n a [] c);
    work = new_work;
  }

-- nothing changes where the node has a label, or is none
kept-step : (k : ℕ) (m : Marks) (n : ℕ) → (n < length m.labels → IsLabelled m.labels n) → Step k (n ∷ []) m m
kept-step k m n h = record {
  size = refl;
  kept = λ a l e. e;
  fresh = λ a l e. inl e;
  stays = λ a c. c;
  left_from = λ a c. inl c;
  all = λ a c l. by a (Contains-cases n a [] c) l;
  work = refl;
}
  where
    by : (a : ℕ) → (n ≡ a) ⊎ Contains [] a → a < length m.labels → IsLabelled m.labels a
    by a (inl e) l = subst (IsLabelled m.labels) e (h (rw e l))
    by a (inr c) l = absurd (Contains-none a c)

not_free : (ls : List (Option ℕ)) (n : ℕ) → is_free ls n ≡ false → n < length ls → IsLabelled ls n
not_free ls n e l = labelled (label_of ls n) (sym (ap (λ b. b && is_none (label_of ls n)) (lt-ltb n (length ls) l)) ∙ e)

visited-step : (k : ℕ) (m : Marks) (n : ℕ) → Step k (n ∷ []) m (visited k m n)
visited-step k m n = by (is_free m.labels n) refl
  where
    by : (b : Bool) → is_free m.labels n ≡ b →
        Step k (n ∷ []) m (cond b (record { labels = set m.labels n (Some k); left = m.left ++ n ∷ [] }) m)
    by true e = let p = and_parts _ _ e in taken-step k m n (ltb-true n (length m.labels) p.0) (unlabelled _ p.1)
    by false e = kept-step k m n (not_free m.labels n e)

-- ---- several steps

none-before : (o o' : Option ℕ) → ((l : ℕ) → o ≡ Some l → o' ≡ Some l) → o' ≡ None → o ≡ None
none-before None o' h e = refl
none-before (Some l) o' h e = let f : o' ≡ Some l = h l refl in absurd cc

module _ (k n : ℕ) (ns : List ℕ) (m m1 m2 : Marks) (s : Step k (n ∷ []) m m1) (t : Step k ns m1 m2) where
  step_none : (a : ℕ) → label_of m1.labels a ≡ None → label_of m.labels a ≡ None
  step_none a e = none-before (label_of m.labels a) (label_of m1.labels a) (s.kept a) e

  head_of : (a : ℕ) → Contains (n ∷ []) a → Contains (n ∷ ns) a
  head_of a c = by (Contains-cases n a [] c)
    where
      by : (n ≡ a) ⊎ Contains [] a → Contains (n ∷ ns) a
      by (inl e) = subst (λ b. Contains (n ∷ ns) b) e (Contains-here n ns)
      by (inr d) = absurd (Contains-none a d)

  joined_fresh : (a l : ℕ) → (label_of m1.labels a ≡ Some l) ⊎
      ((label_of m1.labels a ≡ None) × (l ≡ k) × Contains ns a × Contains m2.left a) →
      (label_of m.labels a ≡ Some l) ⊎ ((label_of m.labels a ≡ None) × (l ≡ k) × Contains (n ∷ ns) a × Contains m2.left a)
  joined_fresh a l (inr h) = inr (step_none a h.0, h.1, Contains-behind n a ns h.2, h.3)
  joined_fresh a l (inl e) = by (s.fresh a l e)
    where
      by : (label_of m.labels a ≡ Some l) ⊎ ((label_of m.labels a ≡ None) × (l ≡ k) × Contains (n ∷ []) a × Contains m1.left a) →
          (label_of m.labels a ≡ Some l) ⊎ ((label_of m.labels a ≡ None) × (l ≡ k) × Contains (n ∷ ns) a × Contains m2.left a)
      by (inl f) = inl f
      by (inr h) = inr (h.0, h.1, head_of a h.2, t.stays a h.3)

  joined_left : (a : ℕ) → Contains m1.left a ⊎ ((label_of m1.labels a ≡ None) × Contains ns a) →
      Contains m.left a ⊎ ((label_of m.labels a ≡ None) × Contains (n ∷ ns) a)
  joined_left a (inr h) = inr (step_none a h.0, Contains-behind n a ns h.1)
  joined_left a (inl c) = by (s.left_from a c)
    where
      by : Contains m.left a ⊎ ((label_of m.labels a ≡ None) × Contains (n ∷ []) a) →
          Contains m.left a ⊎ ((label_of m.labels a ≡ None) × Contains (n ∷ ns) a)
      by (inl d) = inl d
      by (inr h) = inr (h.0, head_of a h.1)

  joined_all : (a : ℕ) → a < length m.labels → (n ≡ a) ⊎ Contains ns a → IsLabelled m2.labels a
  joined_all a l (inl e) =
      let x = s.all a (subst (λ b. Contains (n ∷ []) b) e (Contains-here n [])) l in
      (x.0, t.kept a x.0 x.1)
  joined_all a l (inr c) = t.all a c (omega (arith, s.size))

  joined-step : Step k (n ∷ ns) m m2
  joined-step = record {
    size = t.size ∙ s.size;
    kept = λ a l e. t.kept a l (s.kept a l e);
    fresh = λ a l e. joined_fresh a l (t.fresh a l e);
    stays = λ a c. t.stays a (s.stays a c);
    left_from = λ a c. joined_left a (t.left_from a c);
    all = λ a c l. joined_all a l (Contains-cases n a ns c);
    work = t.work ∙ s.work;
  }

no-step : (k : ℕ) (m : Marks) → Step k [] m m
no-step k m = record {
  size = refl;
  kept = λ a l e. e;
  fresh = λ a l e. inl e;
  stays = λ a c. c;
  left_from = λ a c. inl c;
  all = λ a c l. absurd (Contains-none a c);
  work = refl;
}

pub all-step : (k : ℕ) (m : Marks) (ns : List ℕ) → Step k ns m (fold (visited k) m ns)
all-step k m [] = no-step k m
all-step k m (n ∷ ns) =
    joined-step k n ns m (visited k m n) (fold (visited k) (visited k m n) ns) (visited-step k m n) (all-step k (visited k m n) ns)

-- ---- the whole flood

-- the label has spread, and goes on from the nodes that are left
pub record Flooding (g : Graph) (start k : ℕ) (old now : List (Option ℕ)) (left : List ℕ) : Type 0 where
  pub size : length now ≡ length old
  pub kept : (n l : ℕ) → label_of old n ≡ Some l → label_of now n ≡ Some l
  pub fresh : (n l : ℕ) → label_of now n ≡ Some l → (label_of old n ≡ Some l) ⊎ ((label_of old n ≡ None) × (l ≡ k) × Reached g start n)
  pub started : start < length old → IsLabelled now start
  pub left_new : (n : ℕ) → Contains left n → (label_of old n ≡ None) × Reached g start n
  pub closed : (a b : ℕ) → label_of old a ≡ None → IsLabelled now a → HasEdge g a b → b < length old → IsLabelled now b ⊎ Contains left a

module _ (g : Graph) (start k : ℕ) (old now : List (Option ℕ)) (left : List ℕ) (s : Step k (start ∷ []) (marks old []) (marks now left))
  where
    start_reached : (n : ℕ) → (start ≡ n) ⊎ Contains [] n → Reached g start n
    start_reached n (inl e) = subst (λ a. Reached g start a) e at_start
    start_reached n (inr c) = absurd (Contains-none n c)

    start_fresh : (n l : ℕ) → (label_of old n ≡ Some l) ⊎ ((label_of old n ≡ None) × (l ≡ k) × Contains (start ∷ []) n × Contains left n) →
        (label_of old n ≡ Some l) ⊎ ((label_of old n ≡ None) × (l ≡ k) × Reached g start n)
    start_fresh n l (inl e) = inl e
    start_fresh n l (inr h) = inr (h.0, h.1, start_reached n (Contains-cases start n [] h.2))

    start_left : (n : ℕ) → Contains [] n ⊎ ((label_of old n ≡ None) × Contains (start ∷ []) n) → (label_of old n ≡ None) × Reached g start n
    start_left n (inl c) = absurd (Contains-none n c)
    start_left n (inr h) = (h.0, start_reached n (Contains-cases start n [] h.1))

    start_closed : (a b l : ℕ) → label_of old a ≡ None →
        (label_of old a ≡ Some l) ⊎ ((label_of old a ≡ None) × (l ≡ k) × Contains (start ∷ []) a × Contains left a) →
        IsLabelled now b ⊎ Contains left a
    start_closed a b l n (inl e) = absurd cc
    start_closed a b l n (inr h) = inr h.3

    started-flooding : Flooding g start k old now left
    started-flooding = record {
      size = s.size;
      kept = s.kept;
      fresh = λ n l e. start_fresh n l (s.fresh n l e);
      started = λ l. s.all start (Contains-here start []) l;
      left_new = λ n c. start_left n (s.left_from n c);
      closed = λ a b n e h l. start_closed a b e.0 n (s.fresh a e.0 e.1);
    }

pub flooding-start : (g : Graph) (start k : ℕ) (old now : List (Option ℕ)) (none left : List ℕ) → none ≡ [] →
    marks now left ≡ visited k (marks old none) start → Flooding g start k old now left
flooding-start g start k old now none left n e =
    let f : marks now left ≡ visited k (marks old []) start = e ∙ ap (λ xs. visited k (marks old xs) start) n in
    started-flooding g start k old now left
    (subst (λ m. Step k (start ∷ []) (marks old []) m) (sym f) (visited-step k (marks old []) start))

module _ (g : Graph) (start k : ℕ) (old now now' : List (Option ℕ)) (all left left' : List ℕ) (node : ℕ) (a : all ≡ left ++ node ∷ [])
    (s : Step k (get_or g node []) (marks now left) (marks now' left')) (f : Flooding g start k old now all) where
  on_none : (n : ℕ) → label_of now n ≡ None → label_of old n ≡ None
  on_none n e = none-before (label_of old n) (label_of now n) (f.kept n) e

  on_reached : (n : ℕ) → Contains (get_or g node []) n → Reached g start n
  on_reached n c = along node n (f.left_new node (subst (λ xs. Contains xs node) (sym a) (Contains-push left node))).1 c

  on_fresh : (n l : ℕ) → (label_of now n ≡ Some l) ⊎
      ((label_of now n ≡ None) × (l ≡ k) × Contains (get_or g node []) n × Contains left' n) →
      (label_of old n ≡ Some l) ⊎ ((label_of old n ≡ None) × (l ≡ k) × Reached g start n)
  on_fresh n l (inl e) = f.fresh n l e
  on_fresh n l (inr h) = inr (on_none n h.0, h.1, on_reached n h.2)

  on_left : (n : ℕ) → Contains left n ⊎ ((label_of now n ≡ None) × Contains (get_or g node []) n) → (label_of old n ≡ None) ×
      Reached g start n
  on_left n (inl c) = f.left_new n (subst (λ xs. Contains xs n) (sym a) (Contains-append_left left (node ∷ []) n c))
  on_left n (inr h) = (on_none n h.0, on_reached n h.1)

  on_waiting : (x b : ℕ) → HasEdge g x b → b < length old → Contains left x ⊎ (node ≡ x) → IsLabelled now' b ⊎ Contains left' x
  on_waiting x b h l (inl c) = inr (s.stays x c)
  on_waiting x b h l (inr e) = inl (s.all b (subst (λ y. HasEdge g y b) (sym e) h) (omega (arith, f.size)))

  on_done : (x b : ℕ) → HasEdge g x b → b < length old → IsLabelled now b ⊎ Contains all x → IsLabelled now' b ⊎ Contains left' x
  on_done x b h l (inl y) = inl (y.0, s.kept b y.0 y.1)
  on_done x b h l (inr c) = on_waiting x b h l (Contains-push_cases left node x (subst (λ xs. Contains xs x) a c))

  on_closed : (x b l : ℕ) → label_of old x ≡ None → HasEdge g x b → b < length old →
      (label_of now x ≡ Some l) ⊎ ((label_of now x ≡ None) × (l ≡ k) × Contains (get_or g node []) x × Contains left' x) →
      IsLabelled now' b ⊎ Contains left' x
  on_closed x b l n h lt (inl e) = on_done x b h lt (f.closed x b n (l, e) h lt)
  on_closed x b l n h lt (inr y) = inr y.3

  gone-on : Flooding g start k old now' left'
  gone-on = record {
    size = s.size ∙ f.size;
    kept = λ n l e. s.kept n l (f.kept n l e);
    fresh = λ n l e. on_fresh n l (s.fresh n l e);
    started = λ l. let x = f.started l in (x.0, s.kept start x.0 x.1);
    left_new = λ n c. on_left n (s.left_from n c);
    closed = λ x b n e h l. on_closed x b e.0 n h l (s.fresh x e.0 e.1);
  }

pub flooding-on : (g : Graph) (start k : ℕ) (old now now' : List (Option ℕ)) (all left left' : List ℕ) (node : ℕ) → all ≡ left ++ node ∷
    [] → marks now' left' ≡ fold (visited k) (marks now left) (get_or g node []) → Flooding g start k old now all →
    Flooding g start k old now' left'
flooding-on g start k old now now' all left left' node a e f =
    gone-on g start k old now now' all left left' node a
    (subst (λ m. Step k (get_or g node []) (marks now left) m) (sym e) (all-step k (marks now left) (get_or g node []))) f

-- each turn takes one node more
pub flooding-less : (k : ℕ) (now now' : List (Option ℕ)) (all left left' ns : List ℕ) (node : ℕ) → all ≡ left ++ node ∷ [] →
    marks now' left' ≡ fold (visited k) (marks now left) ns → count_free now' + length left' < count_free now + length all
flooding-less k now now' all left left' ns node a e =
    let s : Step k ns (marks now left) (marks now' left') =
    subst (λ m. Step k ns (marks now left) m) (sym e) (all-step k (marks now left) ns) in
    let l : length all ≡ length left + 1 = ap length a ∙ length-append left (node ∷ []) in
    omega (arith, s.work, l)

pub flooded : (g : Graph) (start k : ℕ) (old now : List (Option ℕ)) (left : List ℕ) → left ≡ [] → Flooding g start k old now left →
    Spreads g start k old now
flooded g start k old now left e f = record {
  size = f.size;
  kept = f.kept;
  fresh = f.fresh;
  started = f.started;
  closed = λ a b n x h l. by a b (f.closed a b n x h l);
}
  where
    by : (a b : ℕ) → IsLabelled now b ⊎ Contains left a → IsLabelled now b
    by a b (inl x) = x
    by a b (inr c) = absurd (Contains-none a (subst (λ xs. Contains xs a) e c))

-- ---- the nodes that got the label

-- those so far, which were left and are gone on from
pub record Gathering (g : Graph) (start : ℕ) (old now : List (Option ℕ)) (left found : List ℕ) : Type 0 where
  pub all : (n : ℕ) → label_of old n ≡ None → IsLabelled now n → Contains found n ⊎ Contains left n
  pub only : (n : ℕ) → Contains found n → (label_of old n ≡ None) × Reached g start n

pub gathering-start : (g : Graph) (start k : ℕ) (old now : List (Option ℕ)) (none left found : List ℕ) → none ≡ [] → found ≡ [] →
    marks now left ≡ visited k (marks old none) start → Gathering g start old now left found
gathering-start g start k old now none left found n q e = record {
  all = λ a h l. by a l.0 h (s.fresh a l.0 l.1);
  only = λ a c. absurd (Contains-none a (subst (λ xs. Contains xs a) q c));
}
  where
    f : marks now left ≡ visited k (marks old []) start
    f = e ∙ ap (λ xs. visited k (marks old xs) start) n

    s : Step k (start ∷ []) (marks old []) (marks now left)
    s = subst (λ m. Step k (start ∷ []) (marks old []) m) (sym f) (visited-step k (marks old []) start)

    by : (a l : ℕ) → label_of old a ≡ None →
        (label_of old a ≡ Some l) ⊎ ((label_of old a ≡ None) × (l ≡ k) × Contains (start ∷ []) a × Contains left a) →
        Contains found a ⊎ Contains left a
    by a l h (inl x) = absurd cc
    by a l h (inr x) = inr x.3

pub gathering-on : (g : Graph) (start k : ℕ) (old now now' : List (Option ℕ)) (all left left' found : List ℕ) (node : ℕ) → all ≡ left ++
    node ∷ [] → marks now' left' ≡ fold (visited k) (marks now left) (get_or g node []) → Flooding g start k old now all →
    Gathering g start old now all found → Gathering g start old now' left' (found ++ node ∷ [])
gathering-on g start k old now now' all left left' found node a e f t = record {
  all = λ n h l. fresh n l.0 h (s.fresh n l.0 l.1);
  only = λ n c. only n (Contains-push_cases found node n c);
}
  where
    s : Step k (get_or g node []) (marks now left) (marks now' left')
    s = subst (λ m. Step k (get_or g node []) (marks now left) m) (sym e) (all-step k (marks now left) (get_or g node []))

    waiting : (n : ℕ) → Contains left n ⊎ (node ≡ n) → Contains (found ++ node ∷ []) n ⊎ Contains left' n
    waiting n (inl c) = inr (s.stays n c)
    waiting n (inr q) = inl (subst (λ x. Contains (found ++ node ∷ []) x) q (Contains-push found node))

    before : (n : ℕ) → Contains found n ⊎ Contains all n → Contains (found ++ node ∷ []) n ⊎ Contains left' n
    before n (inl c) = inl (Contains-append_left found (node ∷ []) n c)
    before n (inr c) = waiting n (Contains-push_cases left node n (subst (λ xs. Contains xs n) a c))

    fresh : (n l : ℕ) → label_of old n ≡ None →
        (label_of now n ≡ Some l) ⊎ ((label_of now n ≡ None) × (l ≡ k) × Contains (get_or g node []) n × Contains left' n) →
        Contains (found ++ node ∷ []) n ⊎ Contains left' n
    fresh n l h (inl x) = before n (t.all n h (l, x))
    fresh n l h (inr x) = inr x.3

    only : (n : ℕ) → Contains found n ⊎ (node ≡ n) → (label_of old n ≡ None) × Reached g start n
    only n (inl c) = t.only n c
    only n (inr q) =
        f.left_new n (subst (λ xs. Contains xs n) (sym a) (subst (λ x. Contains (left ++ node ∷ []) x) q (Contains-push left node)))

pub gathered : (g : Graph) (start : ℕ) (old now : List (Option ℕ)) (left found : List ℕ) → left ≡ [] →
    Gathering g start old now left found → AreNew g start old now found
gathered g start old now left found e t = record {
  all = λ n h l. by n (t.all n h l);
  only = t.only;
}
  where
    by : (n : ℕ) → Contains found n ⊎ Contains left n → Contains found n
    by n (inl c) = c
    by n (inr c) = absurd (Contains-none n (subst (λ xs. Contains xs n) e c))
