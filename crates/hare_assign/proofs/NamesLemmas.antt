-- Where no name holds itself by value, as many steps as there are names are enough to follow them: so a type comes to its base.
use Rattle.std.proofs.Common.{◌≡◌, ℕ, zero, suc, ◌<◌, Bool, true, false, cond, List, [], ◌∷◌, length, map, Option, Some, None, IfSome, IfNone, refl, ap, sym, ◌∙◌, subst, arith, nat_eq, true≢false, ◌⊎◌, inl, inr}
use Rattle.std.specs.Prelude.{Contains, option_map, option_and_then}
use Rattle.std.specs.Map.{lookup}
use Rattle.std.specs.Cmp.{unsigned_Decides}
use Rattle.std.proofs.lemmas.List.{length-map}
use Rattle.hare_types.specs.declared.declared.Declared.{Declared}
use Rattle.hare_types.specs.Trees.{Tree, Scalar, Pointer, Nullable, Slice, Array, Struct, Tuple, Union, Error, Named}
use Rattle.hare_types.specs.ByValue.{held, Leads}
use Rattle.hare_types.specs.Store.{Store, tree_at, meaning_of}
use Rattle.hare_types.specs.Sound.{IsStore}
use Rattle.hare_types.specs.Layout.{following, base_with, IsBase}
use Rattle.hare_types.specs.Bases.{IsBaseOf}
use Rattle.hare_types.specs.Assign.{type_at, base}
use Rattle.hare_types.proofs.DefinitionLemmas.{Leads-more}
use Rattle.hare_types.proofs.GrowthLemmas.{Knows}
use Rattle.hare_layout.proofs.SpreadLemmas.{tree_at-id, id-tree_at, base_stands}

-- what f says of a type rests on the names that the type holds by value alone
abbrev pub Near : {A : Type 0} → ((ℕ → Option A) → Tree → Option A) → Type 0
Near {A} f = (old new : ℕ → Option A) (t : Tree) → ((q : ℕ) (a : A) → Contains (held t) q → old q ≡ Some a → new q ≡ Some a) → (a : A) →
    f old t ≡ Some a → f new t ≡ Some a

-- no name comes back to itself
abbrev pub Finite : (ℕ → Option Tree) → Type 0
Finite m = (d : ℕ) (u : Tree) → m d ≡ Some u → ¬ ((way : List ℕ) × Leads m u way d)

abbrev Among : List ℕ → ℕ → Type 0
Among [] q = ⊥
Among (d ∷ ds) q = (d ≡ q) ⊎ Among ds q

-- the names that have a meaning are among these
abbrev Lists : List ℕ → (ℕ → Option Tree) → Type 0
Lists ds m = (q : ℕ) (u : Tree) → m q ≡ Some u → Among ds q

-- ---- one name less

-- the meanings of the names but d
abbrev but : ℕ → (ℕ → Option Tree) → ℕ → Option Tree
but d m q = cond (nat_eq d q) None (m q)

but_some : (d : ℕ) (m : ℕ → Option Tree) (q : ℕ) (u : Tree) → but d m q ≡ Some u → (m q ≡ Some u) × ¬ (d ≡ q)
but_some d m q u e = by (nat_eq d q) refl
  where
    by : (b : Bool) → nat_eq d q ≡ b → (m q ≡ Some u) × ¬ (d ≡ q)
    by true g =
        let gone : but d m q ≡ None = ap (λ b. cond b None (m q)) g in
        absurd cc
    by false g = (sym (ap (λ b. cond b None (m q)) g) ∙ e, λ s. true≢false (sym ((unsigned_Decides d q).1 s) ∙ g))

but-other : (d : ℕ) (m : ℕ → Option Tree) (q : ℕ) → ¬ (d ≡ q) → but d m q ≡ m q
but-other d m q other = by (nat_eq d q) refl
  where
    by : (b : Bool) → nat_eq d q ≡ b → but d m q ≡ m q
    by true g = absurd (other ((unsigned_Decides d q).0 g))
    by false g = ap (λ b. cond b None (m q)) g

-- the names but the first that is d
abbrev rest_of : ℕ → List ℕ → List ℕ
rest_of d [] = []
rest_of d (e ∷ es) = cond (nat_eq d e) es (e ∷ rest_of d es)

length-rest_of : (d : ℕ) (ds : List ℕ) → Among ds d → length ds ≡ suc (length (rest_of d ds))
length-rest_of d [] h = absurd h
length-rest_of d (e ∷ es) h = by (length-rest_of d es) (nat_eq d e) refl h
  where
    by : (Among es d → length es ≡ suc (length (rest_of d es))) → (b : Bool) → nat_eq d e ≡ b → (e ≡ d) ⊎ Among es d →
        suc (length es) ≡ suc (length (rest_of d (e ∷ es)))
    by ih true g k = ap (λ b. suc (length (cond b es (e ∷ rest_of d es)))) (sym g)
    by ih false g (inl k) = absurd (true≢false (sym ((unsigned_Decides d e).1 (sym k)) ∙ g))
    by ih false g (inr k) = ap suc (ih k) ∙ ap (λ b. suc (length (cond b es (e ∷ rest_of d es)))) (sym g)

Among-rest_of : (d : ℕ) (ds : List ℕ) (q : ℕ) → Among ds q → ¬ (d ≡ q) → Among (rest_of d ds) q
Among-rest_of d [] q h other = absurd h
Among-rest_of d (e ∷ es) q h other = by (λ k. Among-rest_of d es q k other) (nat_eq d e) refl h
  where
    by : (Among es q → Among (rest_of d es) q) → (b : Bool) → nat_eq d e ≡ b → (e ≡ q) ⊎ Among es q → Among (rest_of d (e ∷ es)) q
    by ih true g (inl k) = absurd (other ((unsigned_Decides d e).0 g ∙ k))
    by ih true g (inr k) = subst (λ b. Among (cond b es (e ∷ rest_of d es)) q) (sym g) k
    by ih false g (inl k) = subst (λ b. Among (cond b es (e ∷ rest_of d es)) q) (sym g) (inl k)
    by ih false g (inr k) = subst (λ b. Among (cond b es (e ∷ rest_of d es)) q) (sym g) (inr (ih k))

-- ---- how many names are followed

module _ {A : Type 0} (f : (ℕ → Option A) → Tree → Option A) (near : Near f) where
  -- what a look-up of a meaning gives
  abbrev Through : (ℕ → Option Tree) → ℕ → ℕ → Option A
  Through m n d = option_and_then (following f m n) (m d)

  through : (m new : ℕ → Option Tree) (n k : ℕ) (q : ℕ) → ((v : Tree) → m q ≡ Some v → new q ≡ Some v)
      → ((v : Tree) → m q ≡ Some v → (a : A) → following f m n v ≡ Some a → following f new k v ≡ Some a)
      → (a : A) → Through m n q ≡ Some a → Through new k q ≡ Some a
  through m new n k q same inner a e = by (m q) refl e
    where
      by : (o : Option Tree) → m q ≡ o → option_and_then (following f m n) o ≡ Some a → Through new k q ≡ Some a
      by None g h = absurd cc
      by (Some v) g h = ap (option_and_then (following f new k)) (same v g) ∙ inner v g a h

  -- following no name knows least
  pub from_none : (m : ℕ → Option Tree) (k : ℕ) → Knows (f (λ d. None)) (following f m k)
  from_none m zero t a e = e
  from_none m (suc k) t a e = near (λ d. None) (Through m k) t (λ q b h g. absurd cc) a e

  -- more meanings, and as many names
  pub meanings-more : (old new : ℕ → Option Tree) → Knows old new → (n : ℕ) → Knows (following f old n) (following f new n)
  meanings-more old new knows zero t a e = e
  meanings-more old new knows (suc n) t a e =
      let ih = meanings-more old new knows n in
      near (Through old n) (Through new n) t (λ q b h g. through old new n n q (knows q) (λ v l. ih v) b g) a e

  -- a type that does not lead to d needs no meaning of d
  apart : (m : ℕ → Option Tree) (d n : ℕ) (u : Tree) → ¬ ((way : List ℕ) × Leads m u way d) → (a : A) → following f m n u ≡ Some a →
      following f (but d m) n u ≡ Some a
  apart m d zero u away a e = e
  apart m d (suc n) u away a e =
      let ih = apart m d n in
      let other = λ (q : ℕ) (h : Contains (held u) q) (s : d ≡ q). away ([], subst (λ x. Contains (held u) x) (sym s) h) in
      near (Through m n) (Through (but d m) n) u
      (λ q b h g. through m (but d m) n n q (λ v l. but-other d m q (other q h) ∙ l) (λ v l. ih v (λ w. away (q ∷ w.0, (h, (v, l, w.1))))) b
      g) a e

  abbrev Enough : ℕ → Type 0
  Enough k = (ds : List ℕ) → length ds ≡ k → (m : ℕ → Option Tree) → Lists ds m → Finite m → (n : ℕ) →
      Knows (following f m n) (following f m k)

  -- a name that is followed is not met again
  less_one : (k : ℕ) → Enough k → (ds : List ℕ) → length ds ≡ suc k → (m : ℕ → Option Tree) → Lists ds m → Finite m → (n q : ℕ) (v : Tree) →
      m q ≡ Some v
      → (a : A) → following f m n v ≡ Some a → following f m k v ≡ Some a
  less_one k ih ds l m lists finite n q v g a e =
      let knows : Knows (but q m) m = λ x w h. (but_some q m x w h).0 in
      let shorter : length (rest_of q ds) ≡ k = omega (arith, length-rest_of q ds (lists q v g)) in
      let listed : Lists (rest_of q ds) (but q m) =
      λ x w h. Among-rest_of q ds x (lists x w (but_some q m x w h).0) (but_some q m x w h).1 in
      let still : Finite (but q m) = λ x w h way. finite x w (but_some q m x w h).0 (way.0, Leads-more (but q m) m knows w way.0 x way.1) in
      meanings-more (but q m) m knows k v a (ih (rest_of q ds) shorter (but q m) listed still n v a (apart m q n v (finite q v g) a e))

  pub enough : (k : ℕ) → Enough k
  enough k ds l m lists finite zero t a e = from_none m k t a e
  enough zero [] l m lists finite (suc n) t a e =
      near (Through m n) (λ d. None) t (λ q b h g. through m (λ d. None) n 0 q (λ v r. absurd (lists q v r)) (λ v r. absurd (lists q v r)) b
      g) a e
  enough zero (d ∷ ds) l m lists finite (suc n) t a e = absurd (omega arith)
  enough (suc k) ds l m lists finite (suc n) t a e =
      let ih = enough k in
      near (Through m n) (Through m k) t (λ q b h g. through m m n k q (λ v r. r) (λ v r. less_one k ih ds l m lists finite n q v r) b g) a
      e

-- ---- of a store

Among-keys : (q : ℕ) (es : List (ℕ × Declared)) (v : Declared) → lookup (nat_eq q) es ≡ Some v → Among (map (λ e. e.0) es) q
Among-keys q [] v e = absurd cc
Among-keys q ((d, x) ∷ es) v e = by (Among-keys q es v) (nat_eq q d) refl
  where
    by : (lookup (nat_eq q) es ≡ Some v → Among (map (λ e. e.0) es) q) → (b : Bool) → nat_eq q d ≡ b → (d ≡ q) ⊎ Among (map (λ e. e.0) es) q
    by ih true g = inl (sym ((unsigned_Decides q d).0 g))
    by ih false g = inr (ih (sym (ap (λ b. cond b (Some x) (lookup (nat_eq q) es)) g) ∙ e))

declared_lists : (s : Store) → Lists (map (λ e. e.0) s.declared) (meaning_of s)
declared_lists s q u e = by (lookup (nat_eq q) s.declared) refl e
  where
    by : (o : Option Declared) → lookup (nat_eq q) s.declared ≡ o →
        option_and_then (tree_at s) (option_and_then (λ e. e.definition) o) ≡ Some u → Among (map (λ e. e.0) s.declared) q
    by None g h = absurd cc
    by (Some v) g h = Among-keys q s.declared v g

-- as many names as are declared are enough
pub names_enough : {A : Type 0} (f : (ℕ → Option A) → Tree → Option A) → Near f → (s : Store) → IsStore s → (n : ℕ) (t : Tree) (a : A)
    → following f (meaning_of s) n t ≡ Some a → following f (meaning_of s) (length s.declared) t ≡ Some a
names_enough f near s v n t a e =
    enough f near (length s.declared) (map (λ e. e.0) s.declared) (length-map s.declared (λ e. e.0)) (meaning_of s) (declared_lists s)
    v.defined_finite n t a e

-- ---- bases

base_with-near : Near base_with
base_with-near old new (Error t) known a e = base_with-near old new t known a e
base_with-near old new (Named d) known a e = known d a (0, omega arith, refl) e
base_with-near old new (Scalar w) known a e = e
base_with-near old new (Pointer t) known a e = e
base_with-near old new (Nullable t) known a e = e
base_with-near old new (Slice t) known a e = e
base_with-near old new (Array n t) known a e = e
base_with-near old new (Struct ns ts) known a e = e
base_with-near old new (Tuple ts) known a e = e
base_with-near old new (Union ts) known a e = e

module _ (s : Store) (v : IsStore s) where
  -- what a type comes to is its base
  pub base_only : (t b : Tree) → IsBase s t b → base s t ≡ Some b
  base_only t b h = names_enough base_with base_with-near s v h.0 t b h.1

  -- what the store tells of a type by its id
  pub base-of-id : (t : ℕ) → t < length s.rows → (o : Option ℕ) → IfSome o (λ b. IsBaseOf s t b) → IfNone o ((b : ℕ) → ¬ IsBaseOf s t b)
      → option_map (type_at s) o ≡ base s (type_at s t)
  base-of-id t l (Some b) some none =
      let from = (id-tree_at s t some.0 some.2).1 in
      ap Some (id-tree_at s b some.1 some.3).1 ∙ sym (base_only (type_at s t) some.1 (subst (λ u. IsBase s u some.1) (sym from) some.4))
  base-of-id t l None some none = by (base s (type_at s t)) refl
    where
      by : (o : Option Tree) → base s (type_at s t) ≡ o → None ≡ o
      by None e = refl
      by (Some u) e =
          let here = tree_at-id s t l in
          let b = base_stands s v (length s.declared) (type_at s t) u t here e in
          absurd (none b.0 (type_at s t, u, here, b.1, (length s.declared, e)))
