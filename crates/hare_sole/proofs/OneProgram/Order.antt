-- Over one store a program whose declarations have an order has one list of typed trees.
use Rattle.std.proofs.Common.{◌≡◌, ◌≢◌, ◌⊎◌, inl, inr, ℕ, zero, suc, ◌<◌, ◌≤◌, List, [], ◌∷◌, ◌++◌, Bool, true, false, take, length, map, slice_get, Option, Some, None, refl, ap, sym, ◌∙◌, subst, arith}
use Rattle.std.specs.Prelude.{Contains}
use Rattle.std.specs.Option.{option_map}
use Rattle.std.specs.List.{flat_map}
use Rattle.std.proofs.lemmas.Bool.{cases_lt}
use Rattle.std.proofs.lemmas.List.{length-map}
use Rattle.std.proofs.lemmas.Option.{slice_get-map}
use Rattle.hare_tree.specs.declared.place.Place.{Place}
use Rattle.hare_tree.specs.Node.{Head, Node}
use Rattle.hare_types.specs.Store.{Store}
use Rattle.hare_typed.specs.Typed.{TypedNode}
use Rattle.hare_typed.specs.Erased.{erase, heads}
use Rattle.hare_typed.specs.Numbers.{kind_of}
use Rattle.hare_rules.specs.Aggregates.{is_path}
use Rattle.hare_modules.specs.Uses.{kid}
use Rattle.hare_depends.specs.declared.said.Said.{Said}
use Rattle.hare_depends.specs.declared.said.Sort.{Sort}
use Rattle.hare_depends.specs.declared.said.Sort.TheVariants as so
use Rattle.hare_depends.specs.Sorts.{sort_of, is_global}
use Rattle.hare_depends.specs.Said.{paths_in, held_in, parts_by, written_by, held_by, numbers_at as numbers_in, said_of}
use Rattle.hare_depends.specs.Dependence.{is_at, is_said, numbers_of, through, needed_by, needs, needed}
use Rattle.hare_depends.specs.Order.{IsReady, Descends, arrives, goes_on, IsNext, IsOrder}
use Rattle.hare_depends.proofs.ListLemmas.{Contains-left, Contains-right, Contains-flat_map}
use Rattle.hare_graph.proofs.Elements.{Contains-here}
use Rattle.hare_whole.specs.Listing.{Listing, saids, IsDecl}
use Rattle.hare_whole.specs.Parts.{known, known_by}
use Rattle.hare_whole.specs.Judged.{AreTyped}
use Rattle.hare_sole.proofs.OneProgram.Found.{known-found}
use Rattle.hare_sole.proofs.OneTree.Parts.{Trees, Pair, SaySame, AgreeAmong}
use Rattle.hare_sole.proofs.OneTree.Declarations.{AgreeOnParts, known-same, global-known-same, decl-same}
use Rattle.hare_sole.proofs.OneProgram.Said.{paths-there, held-there, numbers-there}

-- ---- orders

-- what is next is ready
next-ready : (ds : List Said) (done : List ℕ) (d : ℕ) → IsNext ds done d → IsReady ds done d
next-ready ds done d a = by a.from d a.descends
  where
    by : (c e : ℕ) → Descends ds done c e → IsReady ds done e
    by c e (arrives x r) = r
    by c e (goes_on x u z f w) = by u e w

-- where an element of a front stands
front-place : {A : Type 0} (xs : List A) (k : ℕ) (x : A) → Contains (take k xs) x → (j : ℕ) × (j < k) × (slice_get xs j ≡ Some x)
front-place [] zero x c = absurd (omega (arith, c.1))
front-place [] (suc k) x c = absurd (omega (arith, c.1))
front-place (y ∷ ys) zero x c = absurd (omega (arith, c.1))
front-place (y ∷ ys) (suc k) x (zero, l, e) = (zero, omega arith, ap Some e)
front-place (y ∷ ys) (suc k) x (suc i, l, e) =
    let p = front-place ys k x (i, omega (arith, l), e) in (suc p.0, omega (arith, p.1), p.2)

place-of : {A : Type 0} (xs : List A) (x : A) → Contains xs x → (k : ℕ) × (slice_get xs k ≡ Some x)
place-of [] x c = absurd (omega (arith, c.1))
place-of (y ∷ ys) x (zero, l, e) = (zero, ap Some e)
place-of (y ∷ ys) x (suc i, l, e) = let p = place-of ys x (i, omega (arith, l), e) in (suc p.0, p.1)

-- lists of which the elements are the same are the same
same-lists : (ds es : List TypedNode) → map erase ds ≡ map erase es →
    ((n : ℕ) (d e : TypedNode) → slice_get ds n ≡ Some d → slice_get es n ≡ Some e → d ≡ e) → ds ≡ es
same-lists [] [] i h = refl
same-lists [] (e ∷ es) i h = absurd cc
same-lists (d ∷ ds) [] i h = absurd cc
same-lists (d ∷ ds) (e ∷ es) i h =
    let others : map erase ds ≡ map erase es = cc in
    let a : d ≡ e = h 0 d e refl refl in
    let b : ds ≡ es = same-lists ds es others (λ n x y p q. h (suc n) x y p q) in
    cc

-- ---- two lists of typed trees

module _ (l : Trees) (p : Listing) (s : Store) (ds es : List TypedNode) (h : AreTyped p s ds) (j : AreTyped p s es) where
  abbrev pair : Pair
  pair = record { store = s; means = p.means; first = known s ds; second = known s es }

  -- of each declaration there is a tree
  tree-at : (xs : List TypedNode) (n : ℕ) (t : Node) → map erase xs ≡ p.decls → IsDecl p n t →
      (d : TypedNode) × (slice_get xs n ≡ Some d) × (erase d ≡ t)
  tree-at xs n t e i = by (slice_get xs n) refl
    where
      moved : option_map erase (slice_get xs n) ≡ Some t
      moved = sym (slice_get-map erase xs n) ∙ ap (λ (us : List Node). slice_get us n) e ∙ i

      by : (o : Option TypedNode) → slice_get xs n ≡ o → (d : TypedNode) × (slice_get xs n ≡ Some d) × (erase d ≡ t)
      by None q = let r : None ≡ Some t = sym (ap (option_map erase) q) ∙ moved in absurd cc
      by (Some d) q = let r : Some (erase d) ≡ Some t = sym (ap (option_map erase) q) ∙ moved in (d, q, cc)

  -- and of what is no declaration none
  none-at : (xs : List TypedNode) (n : ℕ) → map erase xs ≡ p.decls → slice_get p.decls n ≡ None → slice_get xs n ≡ None
  none-at xs n e i = by (slice_get xs n) refl
    where
      moved : option_map erase (slice_get xs n) ≡ None
      moved = sym (slice_get-map erase xs n) ∙ ap (λ (us : List Node). slice_get us n) e ∙ i

      by : (o : Option TypedNode) → slice_get xs n ≡ o → slice_get xs n ≡ None
      by None q = q
      by (Some d) q = let r : Some (erase d) ≡ None = sym (ap (option_map erase) q) ∙ moved in absurd cc

  beyond : (n : ℕ) → slice_get p.decls n ≡ None → SaySame pair n
  beyond n i =
      known-found s ds n ∙ ap (option_map (λ d. known_by s n (kind_of d) d)) (none-at ds n h.erases i ∙ sym (none-at es n j.erases i))
      ∙ ap (option_map (λ d. known_by s n (kind_of d) d)) refl ∙ sym (known-found s es n)

  -- what is known of both trees is what both lists say
  say-by : (n : ℕ) (d e : TypedNode) → slice_get ds n ≡ Some d → slice_get es n ≡ Some e →
      known_by s n (kind_of d) d ≡ known_by s n (kind_of e) e → SaySame pair n
  say-by n d e a b q =
      known-found s ds n ∙ ap (option_map (λ x. known_by s n (kind_of x) x)) a ∙ ap Some q
      ∙ sym (ap (option_map (λ x. known_by s n (kind_of x) x)) b) ∙ sym (known-found s es n)

  -- ---- what a declaration names

  abbrev count : ℕ
  count = length p.decls

  abbrev said : Node → Said
  said t = said_of count p.means t

  said-at : (n : ℕ) (t : Node) → IsDecl p n t → slice_get (saids p) n ≡ Some (said t)
  said-at n t i = slice_get-map said p.decls n ∙ ap (option_map said) i

  -- a number that is past the last is that of no declaration
  past : (n : ℕ) → count ≤ n → slice_get p.decls n ≡ None
  past n q = by p.decls n q
    where
      by : (xs : List Node) (i : ℕ) → length xs ≤ i → slice_get xs i ≡ None
      by [] i q = refl
      by (x ∷ xs) zero q = absurd (omega arith)
      by (x ∷ xs) (suc i) q = by xs i (omega arith)

  -- Where both say the same of each of these numbers, they agree on a tree of which they are what its paths mean.
  agree-by : (ps : List Place) (hs : List Head) → ((x : Head) → Contains hs x → is_path x.kind ≡ true → Contains ps x.place) →
      ((m : ℕ) → Contains (numbers_in count p.means ps) m → SaySame pair m) → AgreeAmong pair hs
  agree-by ps hs f g x m c e i = by (cases_lt m count)
    where
      by : (m < count) ⊎ (count ≤ m) → SaySame pair m
      by (inl q) = g m (numbers-there count p.means ps x.place m (f x c e) i q)
      by (inr q) = beyond m (past m q)

  -- ---- the front of an order

  module _ (before : ℕ → Type 0) (same : (m : ℕ) → before m → SaySame pair m) where
    -- of a global with a type it is known by what its type names
    global-same : (m : ℕ) (t : Node) → IsDecl p m t → sort_of t ≡ so.Global →
        ((i : ℕ) → Contains (said t).written i → before i) → SaySame pair m
    global-same m t i o f =
        let a = tree-at ds m t h.erases i in
        let b = tree-at es m t j.erases i in
        let erased : erase a.0 ≡ erase b.0 = a.2 ∙ sym b.2 in
        let written : (said t).written ≡ numbers_in count p.means (paths_in (kid t 2) ++ []) =
        ap (λ (x : Sort). numbers_in count p.means (flat_map paths_in (written_by x t))) o in
        let agree : AgreeAmong pair (heads (kid t 2)) =
        agree-by (paths_in (kid t 2) ++ []) (heads (kid t 2))
        (λ x c e. Contains-left x.place (paths_in (kid t 2)) [] (paths-there (kid t 2) x c e))
        (λ n c. same n (f n (subst (λ (ns : List ℕ). Contains ns n) (sym written) c))) in
        say-by m a.0 b.0 a.1 b.1
        (global-known-same l pair m a.0 b.0 erased (ap sort_of a.2 ∙ o)
        (subst (λ (x : Node). AgreeAmong pair (heads (kid x 2))) (sym a.2) agree)
        (h.well m a.0 a.1) (j.well m b.0 b.1))

    -- what a global with a type is looked through to
    through-same : (m : ℕ) → ((i : ℕ) → Contains (through (saids p) m) i → before i) → SaySame pair m
    through-same m f = by (slice_get p.decls m) refl
      where
        own : (b : Bool) → is_at is_global (saids p) m ≡ b → (t : Node) → IsDecl p m t → SaySame pair m
        own false q t i = same m (f m (rw q (Contains-here m [])))
        own true q t i =
            let a : is_global (sort_of t) ≡ true = sym (ap (is_said is_global) (said-at m t i)) ∙ q in
            global-same m t i (sort-is (sort_of t) a)
            (λ n c. f n (rw q (subst (λ (o : Option Said). Contains (numbers_of (λ x. x.written) o) n) (sym (said-at m t i)) c)))
          where
            sort-is : (x : Sort) → is_global x ≡ true → x ≡ so.Global
            sort-is so.Global e = refl
            sort-is so.Type e = absurd cc
            sort-is so.Function e = absurd cc
            sort-is so.Constant e = absurd cc

        by : (o : Option Node) → slice_get p.decls m ≡ o → SaySame pair m
        by None i = beyond m i
        by (Some t) i = own (is_at is_global (saids p) m) refl t i

    -- the declaration needs only what is before it
    module _ (n : ℕ) (t : Node) (i : IsDecl p n t) (ready : (m : ℕ) → Contains (needs (saids p) n) m → before m) where
      needed-first : (x : Sort) → sort_of t ≡ x → (m : ℕ) → Contains (needed_by (saids p) x (said t)) m → before m
      needed-first x o m c =
          ready m
          (subst (λ (q : Option Said). Contains (numbers_of (λ y. needed_by (saids p) y.sort y) q) m) (sym (said-at n t i))
          (subst (λ (y : Sort). Contains (needed_by (saids p) y (said t)) m) (sym o) c))

      parts-in : (f : Node → List Place) → ((u : Node) (x : Head) → Contains (heads u) x → is_path x.kind ≡ true → Contains (f u) x.place) →
          ((m : ℕ) → Contains (numbers_in count p.means (flat_map f (kid t 2 ∷ kid t 3 ∷ []))) m → SaySame pair m) → AgreeOnParts pair t
      parts-in f g k = record {
        second =
            agree-by (flat_map f (kid t 2 ∷ kid t 3 ∷ [])) (heads (kid t 2))
            (λ x c e. Contains-left x.place (f (kid t 2)) (flat_map f (kid t 3 ∷ [])) (g (kid t 2) x c e)) k;
        third =
            agree-by (flat_map f (kid t 2 ∷ kid t 3 ∷ [])) (heads (kid t 3))
            (λ x c e.
            Contains-right x.place (f (kid t 2)) (flat_map f (kid t 3 ∷ []))
            (Contains-left x.place (f (kid t 3)) [] (g (kid t 3) x c e))) k;
      }

      abbrev held : Sort → List ℕ
      held y = numbers_in count p.means (flat_map (held_in false) (held_by y t))

      abbrev named : Sort → List ℕ
      named y = numbers_in count p.means (flat_map paths_in (parts_by y t))

      agree-parts : (x : Sort) → sort_of t ≡ x → x ≢ so.Type → AgreeOnParts pair t
      agree-parts so.Type o q = absurd (q refl)
      agree-parts so.Function o q =
          parts-in (held_in false) (held-there false)
          (λ m c. same m (needed-first so.Function o m (subst (λ (y : Sort). Contains (held y) m) (sym o) c)))
      agree-parts so.Constant o q =
          parts-in paths_in paths-there
          (λ m c. same m (needed-first so.Constant o m (subst (λ (y : Sort). Contains (named y) m) (sym o) c)))
      agree-parts so.Global o q =
          parts-in paths_in paths-there
          (λ m c.
          through-same m
          (λ r d.
          needed-first so.Global o r
          (Contains-flat_map (through (saids p)) (said t).named m r (subst (λ (y : Sort). Contains (named y) m) (sym o) c) d)))

      own-same : SaySame pair n
      own-same =
          let a = tree-at ds n t h.erases i in
          let b = tree-at es n t j.erases i in
          say-by n a.0 b.0 a.1 b.1
          (known-same l pair n a.0 b.0 (a.2 ∙ sym b.2)
          (λ q.
          subst (λ (u : Node). AgreeOnParts pair u) (sym a.2) (agree-parts (sort_of t) refl (λ e. q (ap sort_of a.2 ∙ e))))
          (h.well n a.0 a.1) (j.well n b.0 b.1))

  -- ---- all of an order

  module _ (order : List ℕ) (o : IsOrder (saids p) order) where
    -- the declaration stands in the order before this place
    abbrev Before : ℕ → ℕ → Type 0
    Before k m = (i : ℕ) × (i < k) × (slice_get order i ≡ Some m)

    next-same : (k n : ℕ) → slice_get order k ≡ Some n → ((m : ℕ) → Before k m → SaySame pair m) → SaySame pair n
    next-same k n e same = by (slice_get p.decls n) refl
      where
        ready : (m : ℕ) → Contains (needs (saids p) n) m → Before k m
        ready m c = front-place order k m (next-ready (saids p) (take k order) n (o.in_turn k n e) m (needed m c))

        by : (x : Option Node) → slice_get p.decls n ≡ x → SaySame pair n
        by None i = beyond n i
        by (Some t) i = own-same (Before k) same n t i ready

    front-same : (k m : ℕ) → Before k m → SaySame pair m
    front-same zero m b = absurd (omega (arith, b.1))
    front-same (suc k) m b = by (cases_lt b.0 k) (front-same k)
      where
        by : (b.0 < k) ⊎ (k ≤ b.0) → ((n : ℕ) → Before k n → SaySame pair n) → SaySame pair m
        by (inl q) same = same m (b.0, q, b.2)
        by (inr q) same =
            let i : b.0 ≡ k = omega (arith, b.1) in
            next-same k m (subst (λ (z : ℕ). slice_get order z ≡ Some m) i b.2) same

    all-same : (n : ℕ) → SaySame pair n
    all-same n = by (cases_lt n count)
      where
        by : (n < count) ⊎ (count ≤ n) → SaySame pair n
        by (inl q) =
            let c = place-of order n (o.all n (omega (arith, length-map p.decls said))) in
            front-same (suc c.0) n (c.0, omega arith, c.1)
        by (inr q) = beyond n (past n q)

    pub typed-once : ds ≡ es
    typed-once =
        same-lists ds es (h.erases ∙ sym j.erases)
        (λ n d e a b. decl-same l pair n d e (erased n d e a b) all-same (h.well n d a) (j.well n e b))
      where
        erased : (n : ℕ) (d e : TypedNode) → slice_get ds n ≡ Some d → slice_get es n ≡ Some e → erase d ≡ erase e
        erased n d e a b =
            let q : slice_get (map erase ds) n ≡ Some (erase d) = slice_get-map erase ds n ∙ ap (option_map erase) a in
            let r : slice_get (map erase es) n ≡ Some (erase e) = slice_get-map erase es n ∙ ap (option_map erase) b in
            let x = ap (λ (us : List Node). slice_get us n) (h.erases ∙ sym j.erases) in
            let y : Some (erase d) ≡ Some (erase e) = sym q ∙ x ∙ r in
            cc
