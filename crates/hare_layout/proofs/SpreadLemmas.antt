-- What names and error marks leave of a type, and what members bring into a union.
use Rattle.std.proofs.Common.{◌≡◌, ℕ, zero, suc, ◌<◌, Bool, true, false, List, [], ◌∷◌, length, map, Option, Some, None, refl, ap, sym, ◌∙◌, subst, arith, inl, inr}
use Rattle.std.specs.Prelude.{slice_get, slice_index_or, Contains, option_and_then}
use Rattle.std.proofs.lemmas.Bool.{false≢true}
use Rattle.std.proofs.lemmas.List.Elements.{All-cons, All-nil}
use Rattle.std.proofs.lemmas.Option.{get_or_from_slice_get, slice_get-get_or, slice_get_within}
use Rattle.hare_types.specs.declared.row.Row.{Row}
use Rattle.hare_types.specs.declared.row.Row.TheVariants as row
use Rattle.hare_types.specs.declared.row.Scalar.{Scalar as Keyword}
use Rattle.hare_types.specs.declared.row.Scalar.TheVariants as keyword
use Rattle.hare_types.specs.Trees.{Tree, Trees, Scalar, Pointer, Nullable, Slice, Array, Struct, Tuple, Union, Error, Named, trees_of, SomeTree}
use Rattle.hare_types.specs.Rows.{tree_in, tree_of, trees, AllBelow}
use Rattle.hare_types.specs.Store.{Store, tree_at, definition_of, meaning_of}
use Rattle.hare_types.specs.Sound.{IsStore}
use Rattle.hare_types.specs.Layout.{following, base_with, IsBase}
use Rattle.hare_types.specs.Bases.{IsBaseOf}
use Rattle.hare_types.proofs.CallerLemmas.{tree_at_row}
use Rattle.hare_types.proofs.TreeLemmas.{length-trees}
use Rattle.hare_layout.specs.Ids.{AreBrought, AreIds, IsNoUnion, never}
use Rattle.hare_layout.specs.Reduction.{Brings}
use Rattle.hare_layout.proofs.AscendingLemmas.{In, In-from, In-to}
use Rattle.hare_layout.proofs.GrowthLemmas.{one_base}

-- ---- ids and trees

-- an id of the store stands for a tree
pub tree_at-id : (s : Store) (i : ℕ) → i < length s.rows → tree_at s i ≡ Some (tree_in (trees s.rows) i)
tree_at-id s i h =
    let count = length-trees s.rows in
    slice_get-get_or (trees s.rows) i (Scalar keyword.Void) (omega arith)

pub id-tree_at : (s : Store) (i : ℕ) (u : Tree) → tree_at s i ≡ Some u → (i < length s.rows) × (tree_in (trees s.rows) i ≡ u)
id-tree_at s i u e =
    let count = length-trees s.rows in
    let within = slice_get_within (trees s.rows) i u e in
    let far : i < length s.rows = omega arith in
    let both = sym (tree_at-id s i far) ∙ e in
    (far, cc)

-- the tree of an id is that of its row
pub tree_in-row : (s : Store) → IsStore s → (t : ℕ) (r : Row) → slice_get s.rows t ≡ Some r →
    tree_in (trees s.rows) t ≡ tree_of (trees s.rows) r
tree_in-row s v t r e = get_or_from_slice_get (trees s.rows) t (tree_of (trees s.rows) r) (Scalar keyword.Void) (tree_at_row s v t r e)

-- ---- what a type comes to is in the store

module _ (s : Store) (v : IsStore s) where
  -- the row of a type
  pub row_stands : (i : ℕ) (t : Tree) → tree_at s i ≡ Some t → (q : Row) × (slice_get s.rows i ≡ Some q) × (tree_of (trees s.rows) q ≡ t)
  row_stands i t e =
      let far = (id-tree_at s i t e).0 in
      let q = slice_index_or s.rows i (row.Scalar keyword.Void) in
      let here : slice_get s.rows i ≡ Some q = slice_get-get_or s.rows i (row.Scalar keyword.Void) far in
      let both = sym (tree_at_row s v i q here) ∙ e in
      (q, here, cc)

  -- the type behind an error mark
  inner_at : (i : ℕ) (t : Tree) → tree_at s i ≡ Some (Error t) → (j : ℕ) × (tree_at s j ≡ Some t)
  inner_at i t e = by (row_stands i (Error t) e).0 (row_stands i (Error t) e).1 (row_stands i (Error t) e).2
    where
      by : (q : Row) → slice_get s.rows i ≡ Some q → tree_of (trees s.rows) q ≡ Error t → (j : ℕ) × (tree_at s j ≡ Some t)
      by (row.Error j) h g =
          let below : j < i = v.rows_sound.within i (row.Error j) h in
          let far = slice_get_within s.rows i (row.Error j) h in
          let same : tree_in (trees s.rows) j ≡ t = cc in
          (j, tree_at-id s j (omega arith) ∙ ap Some same)
      by (row.Scalar k) h g = absurd cc
      by (row.Pointer j) h g = absurd cc
      by (row.Nullable j) h g = absurd cc
      by (row.Slice j) h g = absurd cc
      by (row.Array n j) h g = absurd cc
      by (row.Struct fs) h g = absurd cc
      by (row.Tuple js) h g = absurd cc
      by (row.Union js) h g = absurd cc
      by (row.Named d) h g = absurd cc

  -- what is left of a type, where what becomes of names is in the store
  base_under : (named : ℕ → Option Tree) → ((d : ℕ) (b : Tree) → named d ≡ Some b → (j : ℕ) × (tree_at s j ≡ Some b)) →
      (t b : Tree) (i : ℕ) → tree_at s i ≡ Some t → base_with named t ≡ Some b
      → (j : ℕ) × (tree_at s j ≡ Some b)
  base_under named h (Error t) b i e g =
      let inner = inner_at i t e in
      base_under named h t b inner.0 inner.1 g
  base_under named h (Named d) b i e g = h d b g
  base_under named h (Scalar k) b i e g = (i, e ∙ g)
  base_under named h (Pointer t) b i e g = (i, e ∙ g)
  base_under named h (Nullable t) b i e g = (i, e ∙ g)
  base_under named h (Slice t) b i e g = (i, e ∙ g)
  base_under named h (Array n t) b i e g = (i, e ∙ g)
  base_under named h (Struct ns ts) b i e g = (i, e ∙ g)
  base_under named h (Tuple ts) b i e g = (i, e ∙ g)
  base_under named h (Union ts) b i e g = (i, e ∙ g)

  pub base_stands : (n : ℕ) (t b : Tree) (i : ℕ) → tree_at s i ≡ Some t → following base_with (meaning_of s) n t ≡ Some b → (j : ℕ) ×
      (tree_at s j ≡ Some b)
  base_stands zero t b i e g = base_under (λ d. None) (λ d c k. absurd cc) t b i e g
  base_stands (suc n) t b i e g = base_under (λ d. option_and_then (following base_with (meaning_of s) n) (meaning_of s d))
      (λ d c k. name d c k (base_stands n)) t b i e g
    where
      name : (d : ℕ) (c : Tree) → option_and_then (following base_with (meaning_of s) n) (meaning_of s d) ≡ Some c
          → ((t b : Tree) (i : ℕ) → tree_at s i ≡ Some t → following base_with (meaning_of s) n t ≡ Some b → (j : ℕ) ×
          (tree_at s j ≡ Some b)) → (j : ℕ) × (tree_at s j ≡ Some c)
      name d c k ih = by (definition_of s d) k
        where
          by : (o : Option ℕ) → option_and_then (following base_with (meaning_of s) n) (option_and_then (tree_at s) o) ≡ Some c → (j : ℕ) ×
              (tree_at s j ≡ Some c)
          by None g = absurd cc
          by (Some q) g = next (tree_at s q) refl g
            where
              next : (o : Option Tree) → tree_at s q ≡ o → option_and_then (following base_with (meaning_of s) n) o ≡ Some c → (j : ℕ) ×
                  (tree_at s j ≡ Some c)
              next None f g = absurd cc
              next (Some u) f g = ih u c q f g

  -- the tree of a base
  base_tree : (t b : ℕ) (r : Row) → IsBaseOf s t b → slice_get s.rows b ≡ Some r →
      IsBase s (tree_in (trees s.rows) t) (tree_of (trees s.rows) r)
  base_tree t b r h e =
      let here = (id-tree_at s t h.0 h.2).1 in
      let both = sym h.3 ∙ tree_at_row s v b r e in
      let same : h.1 ≡ tree_of (trees s.rows) r = cc in
      subst (λ u. IsBase s u (tree_of (trees s.rows) r)) (sym here) (subst (IsBase s h.0) same h.4)

-- a row whose tree is a union is one
union_row : (ts : List Tree) (r : Row) (us : Trees) → tree_of ts r ≡ Union us → (is : List ℕ) × (r ≡ row.Union is)
union_row ts (row.Union is) us e = (is, refl)
union_row ts (row.Scalar k) us e = absurd cc
union_row ts (row.Pointer i) us e = absurd cc
union_row ts (row.Nullable i) us e = absurd cc
union_row ts (row.Slice i) us e = absurd cc
union_row ts (row.Array n i) us e = absurd cc
union_row ts (row.Struct fs) us e = absurd cc
union_row ts (row.Tuple is) us e = absurd cc
union_row ts (row.Error i) us e = absurd cc
union_row ts (row.Named d) us e = absurd cc

pub no_union-other : (s : Store) → IsStore s → (t b : ℕ) (r : Row) → IsBaseOf s t b → slice_get s.rows b ≡ Some r
    → ((is : List ℕ) → ¬ (r ≡ row.Union is)) → IsNoUnion s (tree_in (trees s.rows) t)
no_union-other s v t b r base g other us h =
    let k = union_row (trees s.rows) r us (one_base s (tree_in (trees s.rows) t) (tree_of (trees s.rows) r) (Union us)
    (base_tree s v t b r base g) h) in
    other k.0 k.1

-- what comes to a name that is not defined comes to no union
pub no_union-open : (s : Store) → IsStore s → (t : ℕ) → t < length s.rows → ((b : ℕ) → ¬ IsBaseOf s t b) →
    IsNoUnion s (tree_in (trees s.rows) t)
no_union-open s v t l none us h =
    let here = tree_at-id s t l in
    let b = base_stands s v h.0 (tree_in (trees s.rows) t) (Union us) t here h.1 in
    none b.0 (tree_in (trees s.rows) t, Union us, here, b.1, h)

-- ---- members of unions

pub SomeTree-in : (f : ℕ → Tree) (js : List ℕ) (j : ℕ) → In j js → SomeTree (λ m. m ≡ f j) (trees_of (map f js))
SomeTree-in f [] j h = absurd h
SomeTree-in f (i ∷ js) j (inl e) = inl (ap f e)
SomeTree-in f (i ∷ js) j (inr h) = inr (SomeTree-in f js j h)

pub SomeTree-out : (f : ℕ → Tree) (js : List ℕ) (u : Tree) → SomeTree (λ m. m ≡ u) (trees_of (map f js)) → (j : ℕ) × In j js × (f j ≡ u)
SomeTree-out f [] u h = absurd h
SomeTree-out f (i ∷ js) u (inl e) = (i, inl refl, e)
SomeTree-out f (i ∷ js) u (inr h) = let k = SomeTree-out f js u h in (k.0, inr k.1, k.2)

In-AllBelow : (n : ℕ) (is : List ℕ) → AllBelow n is → (i : ℕ) → In i is → i < n
In-AllBelow n [] h i m = absurd m
In-AllBelow n (j ∷ js) h i (inl e) = subst (λ x. x < n) e h.0
In-AllBelow n (j ∷ js) h i (inr m) = In-AllBelow n js h.1 i m

pub AreIds-AllBelow : (s : Store) (is : List ℕ) → AllBelow (length s.rows) is → AreIds s is
AreIds-AllBelow s [] h = All-nil (λ i. i < length s.rows)
AreIds-AllBelow s (i ∷ is) h = All-cons (λ i. i < length s.rows) i is h.0 (AreIds-AllBelow s is h.1)

-- the members of a union of the store are ids of it
union_ids : (s : Store) → IsStore s → (b : ℕ) (js : List ℕ) → slice_get s.rows b ≡ Some (row.Union js) → (j : ℕ) → In j js →
    j < length s.rows
union_ids s v b js e j m =
    let far = slice_get_within s.rows b (row.Union js) e in
    let below = In-AllBelow b js (v.rows_sound.within b (row.Union js) e) j m in
    omega arith

-- a spread brings the members of its base
pub brought-spread : (s : Store) → IsStore s → (t b : ℕ) (js : List ℕ) → IsBaseOf s t b → slice_get s.rows b ≡ Some (row.Union js)
    → AreBrought s true (tree_in (trees s.rows) t) js
brought-spread s v t b js h g = record {
  sound = λ j m. let k = In-from j js m in (f j, tree_at-id s j (union_ids s v b js g j k), (ts, base, SomeTree-in f js j k));
  whole = λ u h. one u h (one_base s (tree_in (trees s.rows) t) (Union ts) (Union h.0) base h.1);
  union = λ _. (ts, base);
  flat = λ j is m. (v.rows_sound.reduced b (row.Union js) g).not_union j is m;
}
  where
    f : ℕ → Tree
    f = tree_in (trees s.rows)

    ts : Trees
    ts = trees_of (map f js)

    base : IsBase s (tree_in (trees s.rows) t) (Union ts)
    base = base_tree s v t b (row.Union js) h g

    one : (u : Tree) (h : (us : Trees) × IsBase s (tree_in (trees s.rows) t) (Union us) × SomeTree (λ m. m ≡ u) us) → Union ts ≡ Union h.0
        → (j : ℕ) × Contains js j × (tree_at s j ≡ Some u)
    one u h same =
        let members : ts ≡ h.0 = cc in
        let k = SomeTree-out f js u (subst (λ x. SomeTree (λ m. m ≡ u) x) (sym members) h.2) in
        (k.0, In-to k.0 js k.1, tree_at-id s k.0 (union_ids s v b js g k.0 k.1) ∙ ap Some k.2)

-- an unnamed union brings its members
pub brought-union : (s : Store) → IsStore s → (t : ℕ) (js : List ℕ) → slice_get s.rows t ≡ Some (row.Union js) →
    AreBrought s false (tree_in (trees s.rows) t) js
brought-union s v t js g = record {
  sound = λ j m. (
    f j,
    tree_at-id s j (union_ids s v t js g j (In-from j js m)),
    subst (λ x. Brings x (f j)) (sym tree)
        (SomeTree-in f js j (In-from j js m)),
  );
  whole = λ u h. one u (SomeTree-out f js u (subst (λ x. Brings x u) tree h));
  union = λ e. absurd (false≢true e);
  flat = λ j is m. (v.rows_sound.reduced t (row.Union js) g).not_union j is m;
}
  where
    f : ℕ → Tree
    f = tree_in (trees s.rows)

    tree : tree_in (trees s.rows) t ≡ Union (trees_of (map f js))
    tree = tree_in-row s v t (row.Union js) g

    one : (u : Tree) → (j : ℕ) × In j js × (f j ≡ u) → (j : ℕ) × Contains js j × (tree_at s j ≡ Some u)
    one u k = (k.0, In-to k.0 js k.1, tree_at-id s k.0 (union_ids s v t js g k.0 k.1) ∙ ap Some k.2)

-- any other type brings itself
brings_itself : (ts : List Tree) (r : Row) → ((is : List ℕ) → ¬ (r ≡ row.Union is)) → (u : Tree) →
    Brings (tree_of ts r) u ≡ (tree_of ts r ≡ u)
brings_itself ts (row.Union is) other u = absurd (other is refl)
brings_itself ts (row.Scalar k) other u = refl
brings_itself ts (row.Pointer i) other u = refl
brings_itself ts (row.Nullable i) other u = refl
brings_itself ts (row.Slice i) other u = refl
brings_itself ts (row.Array n i) other u = refl
brings_itself ts (row.Struct fs) other u = refl
brings_itself ts (row.Tuple is) other u = refl
brings_itself ts (row.Error i) other u = refl
brings_itself ts (row.Named d) other u = refl

pub brought-alone : (s : Store) → IsStore s → (t : ℕ) (r : Row) → t < length s.rows → slice_get s.rows t ≡ Some r →
    ((is : List ℕ) → ¬ (r ≡ row.Union is)) → AreBrought s false (tree_in (trees s.rows) t) (t ∷ [])
brought-alone s v t r within g other = record {
  sound = λ j m. one j (In-from j (t ∷ []) m);
  whole = λ u h. (
    t,
    (0, omega arith, refl),
    tree_at-id s t within ∙ ap Some
        (tree ∙ subst (λ x. x) (brings_itself (trees s.rows) r other u) (subst (λ x. Brings x u) tree h)),
  );
  union = λ e. absurd (false≢true e);
  flat = λ j is m h. flat is (In-from j (t ∷ []) m) h;
}
  where
    tree : tree_in (trees s.rows) t ≡ tree_of (trees s.rows) r
    tree = tree_in-row s v t r g

    itself : Brings (tree_in (trees s.rows) t) (tree_in (trees s.rows) t)
    itself = subst (λ x. Brings x (tree_in (trees s.rows) t)) (sym tree)
        (subst (λ x. x) (sym (brings_itself (trees s.rows) r other (tree_in (trees s.rows) t))) (sym tree))

    flat : {j : ℕ} (is : List ℕ) → In j (t ∷ []) → ¬ (slice_get s.rows j ≡ Some (row.Union is))
    flat is (inl e) h =
        let both : Some r ≡ Some (row.Union is) = sym g ∙ ap (slice_get s.rows) e ∙ h in
        other is (cc)
    flat is (inr m) h = m

    one : (j : ℕ) → In j (t ∷ []) → (u : Tree) × (tree_at s j ≡ Some u) × Brings (tree_in (trees s.rows) t) u
    one j (inl e) = (tree_in (trees s.rows) t, subst (λ x. tree_at s x ≡ Some (tree_in (trees s.rows) t)) e (tree_at-id s t within), itself)
    one j (inr m) = absurd m

-- what is brought is in the store
pub AreIds-brought : (s : Store) (b : Bool) (t : Tree) (js : List ℕ) → AreBrought s b t js → AreIds s js
AreIds-brought s b t js h = by js (λ j m. (id-tree_at s j (h.sound j (In-to j js m)).0 (h.sound j (In-to j js m)).1).0)
  where
    by : (is : List ℕ) → ((j : ℕ) → In j is → j < length s.rows) → AreIds s is
    by [] f = All-nil (λ i. i < length s.rows)
    by (i ∷ is) f = All-cons (λ i. i < length s.rows) i is (f i (inl refl)) (by is (λ j m. f j (inr m)))

-- ---- never

pub never-is : (s : Store) → IsStore s → (t : ℕ) → slice_get s.rows t ≡ Some (row.Scalar keyword.Never) → tree_at s t ≡ Some never
never-is s v t e = tree_at_row s v t (row.Scalar keyword.Never) e

pub never-word : (s : Store) → IsStore s → (t : ℕ) (k : Keyword) → slice_get s.rows t ≡ Some (row.Scalar k) → ¬ (k ≡ keyword.Never) →
    ¬ (tree_at s t ≡ Some never)
never-word s v t k e other h =
    let both : Some (Scalar k) ≡ Some never = sym (tree_at_row s v t (row.Scalar k) e) ∙ h in
    other (cc)

other_tree : (ts : List Tree) (r : Row) → ((k : Keyword) → ¬ (r ≡ row.Scalar k)) → ¬ (tree_of ts r ≡ never)
other_tree ts (row.Scalar k) other e = absurd (other k refl)
other_tree ts (row.Pointer i) other e = absurd cc
other_tree ts (row.Nullable i) other e = absurd cc
other_tree ts (row.Slice i) other e = absurd cc
other_tree ts (row.Array n i) other e = absurd cc
other_tree ts (row.Struct fs) other e = absurd cc
other_tree ts (row.Tuple is) other e = absurd cc
other_tree ts (row.Union is) other e = absurd cc
other_tree ts (row.Error i) other e = absurd cc
other_tree ts (row.Named d) other e = absurd cc

pub never-other : (s : Store) → IsStore s → (t : ℕ) (r : Row) → slice_get s.rows t ≡ Some r → ((k : Keyword) → ¬ (r ≡ row.Scalar k)) →
    ¬ (tree_at s t ≡ Some never)
never-other s v t r e other h =
    let both : Some (tree_of (trees s.rows) r) ≡ Some never = sym (tree_at_row s v t r e) ∙ h in
    other_tree (trees s.rows) r other (cc)
