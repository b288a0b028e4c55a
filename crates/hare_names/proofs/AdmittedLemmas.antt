-- What a file admits, by what its module declares and what it imports under a name.
use Rattle.std.proofs.Common.{◌≡◌, ℕ, List, [], ◌∷◌, ◌++◌, Bool, true, false, cond, ◌&&◌, not, map, filter, find, bytes_eq, Option, Some, None, refl, sym, ap, ◌∙◌, true≢false, if◌then◌else◌}
use Rattle.std.specs.Prelude.{option_map, option_and_then}
use Rattle.std.specs.Option.{option_or}
use Rattle.std.specs.List.{flat_map}
use Rattle.std.proofs.lemmas.List.Folds.{find-append}
use Rattle.std.proofs.lemmas.Slice.Eq.{bytes_eq-Decides}
use Rattle.hare_modules.specs.Modules.{Module, Source, is_known}
use Rattle.hare_modules.specs.Uses.{Import, imports}
use Rattle.hare_modules.specs.Declarations.{Item, items, item_named, exports, firsts}
use Rattle.hare_modules.specs.Admitted.{Triple, own_triples, imported_triples, first_imports, same_names, admitted, admitted_module}
use Rattle.hare_directory.proofs.TakenNames.First.{find-map, find-filter, find-kept, find-firsts, option_map-or, option_or-none}

-- ---- the first of each name

-- where those that are dropped give nothing, nothing is lost
dropped : {A B : Type 0} (f : A → List B) (p : B → Bool) (q : A → Bool) → ((a : A) → q a ≡ false → find p (f a) ≡ None) → (as' : List A) →
    find p (flat_map f (filter q as')) ≡ find p (flat_map f as')
dropped f p q none [] = refl
dropped {A} f p q none (a ∷ as') = by (q a) refl (dropped f p q none as')
  where
    by : (b : Bool) → q a ≡ b → find p (flat_map f (filter q as')) ≡ find p (flat_map f as') →
        find p (flat_map f (cond b (a ∷ filter q as') (filter q as'))) ≡ find p (f a ++ flat_map f as')
    by true e h = find-append p (f a) (flat_map f (filter q as')) ∙ ap (option_or (find p (f a))) h
        ∙ sym (find-append p (f a) (flat_map f as'))
    by false e h = h ∙ ap (λ o. option_or o (find p (flat_map f as'))) (sym (none a e)) ∙ sym (find-append p (f a) (flat_map f as'))

-- where those that are left give nothing, there is nothing
nothing : {A B : Type 0} (f : A → List B) (p : B → Bool) (q : A → Bool) → ((a : A) → q a ≡ true → find p (f a) ≡ None) → (as' : List A) →
    find p (flat_map f (filter q as')) ≡ None
nothing f p q none [] = refl
nothing {A} f p q none (a ∷ as') = by (q a) refl (nothing f p q none as')
  where
    by : (b : Bool) → q a ≡ b → find p (flat_map f (filter q as')) ≡ None →
        find p (flat_map f (cond b (a ∷ filter q as') (filter q as'))) ≡ None
    by true e h = find-append p (f a) (flat_map f (filter q as')) ∙ ap (λ o. option_or o (find p (flat_map f (filter q as')))) (none a e)
        ∙ h
    by false e h = h

differs : (x y z : List ℕ) → bytes_eq x z ≡ true → not (bytes_eq x y) ≡ true → bytes_eq y z ≡ false
differs x y z e n = by (bytes_eq y z) refl
  where
    by : (b : Bool) → bytes_eq y z ≡ b → b ≡ false
    by false h = refl
    by true h =
        let s : bytes_eq x y ≡ true = (bytes_eq-Decides x y).1 ((bytes_eq-Decides x z).0 e ∙ sym ((bytes_eq-Decides y z).0 h)) in
        absurd (true≢false (sym n ∙ ap not s))

same-differs : (x y z : List ℕ) → bytes_eq x z ≡ false → not (bytes_eq x y) ≡ false → bytes_eq y z ≡ false
same-differs x y z e n = by (bytes_eq x y) refl n
  where
    by : (b : Bool) → bytes_eq x y ≡ b → not b ≡ false → bytes_eq y z ≡ false
    by true h m = ap (λ w. bytes_eq w z) (sym ((bytes_eq-Decides x y).0 h)) ∙ e
    by false h m = absurd (true≢false m)

-- Where elements of other names give nothing, the first of the name decides.
find-by_name : {A B : Type 0} (f : A → List B) (p : B → Bool) (name : A → List ℕ) (x : List ℕ) →
    ((a : A) → bytes_eq (name a) x ≡ false → find p (f a) ≡ None) → (as' : List A) →
    find p (flat_map f (firsts name as')) ≡ option_and_then (λ a. find p (f a)) (find (λ a. bytes_eq (name a) x) as')
find-by_name f p name x others [] = refl
find-by_name {A} {B} f p name x others (a ∷ as') =
    find-append p (f a) (flat_map f (filter (λ b. not (bytes_eq (name a) (name b))) (firsts name as')))
    ∙ by (find-by_name f p name x others as') (bytes_eq (name a) x) refl
  where
    rest : Option B
    rest = find p (flat_map f (filter (λ b. not (bytes_eq (name a) (name b))) (firsts name as')))

    by : find p (flat_map f (firsts name as')) ≡ option_and_then (λ c. find p (f c)) (find (λ c. bytes_eq (name c) x) as') → (b : Bool) →
        bytes_eq (name a) x ≡ b →
        option_or (find p (f a)) rest ≡ option_and_then (λ c. find p (f c)) (cond b (Some a) (find (λ c. bytes_eq (name c) x) as'))
    by more true e = ap (option_or (find p (f a))) (nothing f p (λ b. not (bytes_eq (name a) (name b)))
        (λ b n. others b (differs (name a) (name b) x e n)) (firsts name as')) ∙ option_or-none (find p (f a))
    by more false e =
        ap (λ o. option_or o rest) (others a e)
        ∙ dropped f p (λ b. not (bytes_eq (name a) (name b))) (λ b n. others b (same-differs (name a) (name b) x e n)) (firsts name as')
        ∙ more

-- one that passes
abbrev pub only : {A : Type 0} → (A → Bool) → A → Option A
only q a = if q a then Some a else None

one-list : {A : Type 0} (as' : List A) → flat_map (λ a. a ∷ []) as' ≡ as'
one-list [] = refl
one-list (a ∷ as') = ap (λ bs. a ∷ bs) (one-list as')

pub find-passes : {A : Type 0} (p : A → Bool) (as' : List A) (a : A) → find p as' ≡ Some a → p a ≡ true
find-passes p [] a e = absurd cc
find-passes {A} p (b ∷ bs) a e = by (find-passes p bs a) (p b) refl e
  where
    by : (find p bs ≡ Some a → p a ≡ true) → (c : Bool) → p b ≡ c → cond c (Some b) (find p bs) ≡ Some a → p a ≡ true
    by more true h k = let same : b ≡ a = cc in ap p (sym same) ∙ h
    by more false h k = more k

-- what follows from what was found
then-same : {A B : Type 0} (p : A → Bool) (as' : List A) (f g : A → Option B) → ((a : A) → p a ≡ true → f a ≡ g a) →
    option_and_then f (find p as') ≡ option_and_then g (find p as')
then-same {A} p as' f g e = by (find p as') refl
  where
    by : (o : Option A) → find p as' ≡ o → option_and_then f o ≡ option_and_then g o
    by None h = refl
    by (Some a) h = e a (find-passes p as' a h)

-- of a name, with a test besides
find-named : {A : Type 0} (name : A → List ℕ) (q : A → Bool) (x : List ℕ) (as' : List A) →
    find (λ a. bytes_eq (name a) x && q a) (firsts name as') ≡ option_and_then (only q) (find (λ a. bytes_eq (name a) x) as')
find-named {A} name q x as' =
    ap (find (λ a. bytes_eq (name a) x && q a)) (sym (one-list (firsts name as')))
    ∙ find-by_name (λ a. a ∷ []) (λ a. bytes_eq (name a) x && q a) name x (λ a e. ap (λ b. cond (b && q a) (Some a) None) e) as'
    ∙ then-same (λ a. bytes_eq (name a) x) as' (λ a. find (λ b. bytes_eq (name b) x && q b) (a ∷ [])) (only q)
    (λ a e. ap (λ b. cond (b && q a) (Some a) None) e)

-- ---- paths of one name

and-true : (b : Bool) → (b && true) ≡ b
and-true true = refl
and-true false = refl

and-false : (b : Bool) → (b && false) ≡ false
and-false true = refl
and-false false = refl

find-same : {A : Type 0} (p q : A → Bool) → ((a : A) → p a ≡ q a) → (as' : List A) → find p as' ≡ find q as'
find-same p q e [] = refl
find-same p q e (a ∷ as') = ap (λ b. cond b (Some a) (find p as')) (e a) ∙ ap (λ o. cond (q a) (Some a) o) (find-same p q e as')

find-none : {A : Type 0} (p : A → Bool) → ((a : A) → p a ≡ false) → (as' : List A) → find p as' ≡ None
find-none p e [] = refl
find-none p e (a ∷ as') = ap (λ b. cond b (Some a) (find p as')) (e a) ∙ find-none p e as'

abbrev pub the_item : Triple → Item
the_item t = t.item

module _ (all : List Source) (s : Source) where
  abbrev named_one : Item → Triple
  named_one i = record { path = i.name ∷ []; item = i }

  abbrev behind : Import → Item → Triple
  behind i e = record { path = i.name ∷ e.name ∷ []; item = e }

  -- what a member that is imported by itself is
  abbrev pub member_of : List ℕ → Import → Option Item
  member_of x i = if i.whole then None else option_and_then (only (λ e. e.exported)) (item_named all i.from x)

  -- what a member behind the name of a module is
  abbrev pub behind_of : List ℕ → Import → Option Item
  behind_of x i = if i.whole then option_and_then (only (λ e. e.exported)) (item_named all i.from x) else None

  -- what a module exports under a name
  exported : (m : Module) (x : List ℕ) →
      find (λ e. bytes_eq e.name x) (exports all m) ≡ option_and_then (only (λ e. e.exported)) (item_named all m x)
  exported m x =
      find-filter (λ e. bytes_eq e.name x) (λ e. e.exported) (items all m)
      ∙ find-same (λ e. e.exported && bytes_eq e.name x) (λ e. bytes_eq e.name x && e.exported)
      (λ e. swapped e.exported (bytes_eq e.name x)) (items all m)
      ∙ find-named (λ e. e.name) (λ e. e.exported) x _
      ∙ ap (option_and_then (only (λ e. e.exported))) (sym (find-firsts (λ e. e.name) x _))
    where
      swapped : (a b : Bool) → (a && b) ≡ (b && a)
      swapped true true = refl
      swapped true false = refl
      swapped false true = refl
      swapped false false = refl

  named-item : (o : Option Item) (f : Item → Triple) → ((i : Item) → the_item (f i) ≡ i) → option_map the_item (option_map f o) ≡ o
  named-item None f e = refl
  named-item (Some i) f e = ap Some (e i)

  map-then : {A : Type 0} (f : A → Option Triple) (o : Option A) →
      option_map the_item (option_and_then f o) ≡ option_and_then (λ a. option_map the_item (f a)) o
  map-then f None = refl
  map-then f (Some a) = refl

  -- ---- one name

  module _ (x : List ℕ) where
    abbrev is_one : Triple → Bool
    is_one t = same_names t.path (x ∷ [])

    own-one : option_map the_item (find is_one (own_triples all s.home)) ≡ item_named all s.home x
    own-one =
        ap (option_map the_item) (find-map is_one named_one (items all s.home))
        ∙ named-item (find (λ i. is_one (named_one i)) (items all s.home)) named_one (λ i. refl)
        ∙ find-same (λ i. is_one (named_one i)) (λ i. bytes_eq i.name x) (λ i. and-true (bytes_eq i.name x)) (items all s.home)

    other-name : (i e : List ℕ) → bytes_eq i x ≡ false → (bytes_eq e i && (bytes_eq e x && true)) ≡ false
    other-name i e n = by (bytes_eq e i) refl
      where
        by : (b : Bool) → bytes_eq e i ≡ b → (b && (bytes_eq e x && true)) ≡ false
        by false h = refl
        by true h = ap (λ b. b && true) (ap (λ y. bytes_eq y x) ((bytes_eq-Decides e i).0 h) ∙ n)

    others-one : (i : Import) → bytes_eq i.name x ≡ false → find is_one (imported_triples all i) ≡ None
    others-one i n = by i.whole
      where
        by : (b : Bool) →
            find is_one (if b then map (behind i) (exports all i.from) else map named_one
            (filter (λ e. bytes_eq e.name i.name) (exports all i.from))) ≡ None
        by true =
            find-map is_one (behind i) (exports all i.from)
            ∙ ap (option_map (behind i)) (find-none (λ e. is_one (behind i e)) (λ e. ap (λ b. b && false) n) (exports all i.from))
        by false =
            find-map is_one named_one (filter (λ e. bytes_eq e.name i.name) (exports all i.from))
            ∙ ap (option_map named_one) (find-filter (λ e. is_one (named_one e)) (λ e. bytes_eq e.name i.name) (exports all i.from)
            ∙ find-none (λ e. bytes_eq e.name i.name && is_one (named_one e)) (λ e. other-name i.name e.name n) (exports all i.from))

    import-one : (i : Import) → bytes_eq i.name x ≡ true → option_map the_item (find is_one (imported_triples all i)) ≡ member_of x i
    import-one i n = by i.whole
      where
        same : i.name ≡ x
        same = (bytes_eq-Decides i.name x).0 n

        by : (b : Bool) →
            option_map the_item (find is_one (if b then map (behind i) (exports all i.from) else map named_one
            (filter (λ e. bytes_eq e.name i.name) (exports all i.from)))) ≡
            (if b then None else option_and_then (only (λ e. e.exported)) (item_named all i.from x))
        by true =
            ap (option_map the_item) (find-map is_one (behind i) (exports all i.from)
            ∙ ap (option_map (behind i)) (find-none (λ e. is_one (behind i e)) (λ e. and-false (bytes_eq i.name x)) (exports all i.from)))
        by false =
            ap (λ y. option_map the_item (find is_one (map named_one (filter (λ e. bytes_eq e.name y) (exports all i.from))))) same
            ∙ ap (option_map the_item) (find-map is_one named_one (filter (λ e. bytes_eq e.name x) (exports all i.from)))
            ∙ named-item (find (λ e. is_one (named_one e)) (filter (λ e. bytes_eq e.name x) (exports all i.from))) named_one (λ e. refl)
            ∙ find-same (λ e. is_one (named_one e)) (λ e. bytes_eq e.name x) (λ e. and-true (bytes_eq e.name x))
            (filter (λ e. bytes_eq e.name x) (exports all i.from))
            ∙ find-kept (λ e. bytes_eq e.name x) (λ e. bytes_eq e.name x) (λ e h. h) (exports all i.from)
            ∙ exported i.from x

    pub admitted-one : option_map the_item (admitted all s (x ∷ [])) ≡ option_or (item_named all s.home x)
        (option_and_then (member_of x) (find (λ i. bytes_eq i.name x) (imports s.tree)))
    admitted-one =
        ap (option_map the_item) (find-append is_one (own_triples all s.home) (flat_map (imported_triples all) (first_imports s)))
        ∙ option_map-or the_item (find is_one (own_triples all s.home)) (find is_one (flat_map (imported_triples all) (first_imports s)))
        ∙ ap (λ o. option_or o (option_map the_item (find is_one (flat_map (imported_triples all) (first_imports s))))) own-one
        ∙ ap (option_or (item_named all s.home x))
        (ap (option_map the_item) (find-by_name (imported_triples all) is_one (λ i. i.name) x others-one (imports s.tree))
        ∙ map-then (λ i. find is_one (imported_triples all i)) (find (λ i. bytes_eq i.name x) (imports s.tree))
        ∙ then-same (λ i. bytes_eq i.name x) (imports s.tree) (λ i. option_map the_item (find is_one (imported_triples all i)))
        (member_of x) import-one)

  -- ---- two names

  module _ (m x : List ℕ) where
    abbrev is_pair : Triple → Bool
    is_pair t = same_names t.path (m ∷ x ∷ [])

    own-pair : find is_pair (own_triples all s.home) ≡ None
    own-pair =
        find-map is_pair named_one (items all s.home)
        ∙ ap (option_map named_one) (find-none (λ i. is_pair (named_one i)) (λ i. and-false (bytes_eq i.name m)) (items all s.home))

    single-none : (es : List Item) → find is_pair (map named_one es) ≡ None
    single-none es = find-map is_pair named_one es ∙ ap (option_map named_one)
        (find-none (λ i. is_pair (named_one i)) (λ i. and-false (bytes_eq i.name m)) es)

    others-pair : (i : Import) → bytes_eq i.name m ≡ false → find is_pair (imported_triples all i) ≡ None
    others-pair i n = by i.whole
      where
        by : (b : Bool) →
            find is_pair (if b then map (behind i) (exports all i.from) else map named_one
            (filter (λ e. bytes_eq e.name i.name) (exports all i.from))) ≡ None
        by true =
            find-map is_pair (behind i) (exports all i.from)
            ∙ ap (option_map (behind i)) (find-none (λ e. is_pair (behind i e)) (λ e. ap (λ b. b && (bytes_eq e.name x && true)) n)
            (exports all i.from))
        by false = single-none (filter (λ e. bytes_eq e.name i.name) (exports all i.from))

    import-pair : (i : Import) → bytes_eq i.name m ≡ true → option_map the_item (find is_pair (imported_triples all i)) ≡ behind_of x i
    import-pair i n = by i.whole
      where
        by : (b : Bool) →
            option_map the_item (find is_pair (if b then map (behind i) (exports all i.from) else map named_one
            (filter (λ e. bytes_eq e.name i.name) (exports all i.from)))) ≡
            (if b then option_and_then (only (λ e. e.exported)) (item_named all i.from x) else None)
        by true =
            ap (option_map the_item) (find-map is_pair (behind i) (exports all i.from))
            ∙ named-item (find (λ e. is_pair (behind i e)) (exports all i.from)) (behind i) (λ e. refl)
            ∙ find-same (λ e. is_pair (behind i e)) (λ e. bytes_eq e.name x)
            (λ e. ap (λ b. b && (bytes_eq e.name x && true)) n ∙ and-true (bytes_eq e.name x)) (exports all i.from)
            ∙ exported i.from x
        by false = ap (option_map the_item) (single-none (filter (λ e. bytes_eq e.name i.name) (exports all i.from)))

    pub admitted-pair : option_map the_item (admitted all s (m ∷ x ∷ [])) ≡ option_and_then (behind_of x)
        (find (λ i. bytes_eq i.name m) (imports s.tree))
    admitted-pair =
        ap (option_map the_item) (find-append is_pair (own_triples all s.home) (flat_map (imported_triples all) (first_imports s))
        ∙ ap (λ o. option_or o (find is_pair (flat_map (imported_triples all) (first_imports s)))) own-pair
        ∙ find-by_name (imported_triples all) is_pair (λ i. i.name) m others-pair (imports s.tree))
        ∙ map-then (λ i. find is_pair (imported_triples all i)) (find (λ i. bytes_eq i.name m) (imports s.tree))
        ∙ then-same (λ i. bytes_eq i.name m) (imports s.tree) (λ i. option_map the_item (find is_pair (imported_triples all i)))
        (behind_of x) import-pair

    -- the import that admits a module
    pub admitted_module-found : admitted_module all s m ≡ option_and_then (only (λ i. i.whole && is_known all i.from))
        (find (λ i. bytes_eq i.name m) (imports s.tree))
    admitted_module-found =
        find-same (λ i. bytes_eq i.name m && i.whole && is_known all i.from) (λ i. bytes_eq i.name m && (i.whole && is_known all i.from))
        (λ i. grouped (bytes_eq i.name m) i.whole (is_known all i.from)) (first_imports s)
        ∙ find-named (λ i. i.name) (λ i. i.whole && is_known all i.from) m (imports s.tree)
      where
        grouped : (a b c : Bool) → (a && b && c) ≡ (a && (b && c))
        grouped true b c = refl
        grouped false b c = refl
