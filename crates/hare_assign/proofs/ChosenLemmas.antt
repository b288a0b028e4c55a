-- The member that a value becomes, where it is made a union.
use Rattle.std.proofs.Common.{◌≡◌, ℕ, zero, suc, ◌<◌, Bool, true, false, ◌||◌, ◌==◌, cond, List, [], ◌∷◌, length, Option, Some, None, refl, ap, ap₂, sym, ◌∙◌, subst, arith, lit<, ◌⊎◌, inl, inr}
use Rattle.std.specs.Prelude.{ℤ, ◌+◌, slice_get, IfSome}
use Rattle.std.specs.Option.{option_or}
use Rattle.hare_types.specs.declared.coercion.Ty.{Ty}
use Rattle.hare_types.specs.declared.coercion.Coercion.{Coercion}
use Rattle.hare_types.specs.declared.row.Row.{Row}
use Rattle.hare_types.specs.declared.row.Row.TheVariants as row
use Rattle.hare_types.specs.declared.row.Scalar.{Scalar as Keyword}
use Rattle.hare_types.specs.declared.row.Scalar.TheVariants as keyword
use Rattle.hare_types.specs.Trees.{Tree, Trees, Scalar, Pointer, Nullable, Slice, Array, Struct, Tuple, Union, Error, Named}
use Rattle.hare_types.specs.Rows.{tree_of, trees, AllBelow}
use Rattle.hare_types.specs.Store.{Store, meaning_of}
use Rattle.hare_types.specs.Sound.{IsStore}
use Rattle.hare_types.specs.Layout.{following, base_with}
use Rattle.hare_types.specs.Bases.{IsBaseOf}
use Rattle.hare_types.specs.ByIds.{row_at, base_at, members_at}
use Rattle.hare_types.specs.Assign.{Value, Of, Iconst, Null, Empty, type_at, value_at, base, some_tree, how_many, holds_of, same, holds, tree_holds, default_word, only_one, is_same, is_const, is_pointer, is_null, is_slice, is_lone, is_member, is_part, is_default, joins, table, first_row, coercion}
use Rattle.hare_types.specs.KeyLaws.{scalar_eq-Decides}
use Rattle.hare_types.proofs.IdLemmas.{base_tells, none_map}
use Rattle.hare_types.proofs.MeaningsLemmas.{ids_mean_trees}
use Rattle.hare_layout.proofs.AscendingLemmas.{In, In-to}
use Rattle.hare_assign.specs.Shapes.{types_at}
use Rattle.hare_assign.specs.Chosen.{is_its_default, first_of, only_of, member_for, first_member, IsChosen, KeepsMember}
use Rattle.hare_assign.proofs.FirstLemmas.{first_from-none}
use Rattle.hare_assign.proofs.NamesLemmas.{base-of-id}
use Rattle.hare_assign.proofs.TypeLemmas.{type_at_row, row_within}

-- ---- the members of the base

module _ (s : Store) (v : IsStore s) (t : ℕ) where
  pub no_base : ((b : ℕ) → ¬ IsBaseOf s t b) → members_at s t ≡ None
  no_base missing = by (members_at s t) refl
    where
      by : (o : Option (List ℕ)) → members_at s t ≡ o → members_at s t ≡ None
      by None e = e
      by (Some is) e =
          let h = ((ids_mean_trees s v).members t is).0 e in
          absurd (missing h.0 h.1)

  one_base : (a b : ℕ) → IsBaseOf s t a → IsBaseOf s t b → a ≡ b
  one_base a b h k =
      let both = sym ((base_tells s v t a).1 h) ∙ (base_tells s v t b).1 k in
      cc

  pub no_union : (b : ℕ) (r : Row) → IsBaseOf s t b → row_at s b ≡ Some r → ((is : List ℕ) → ¬ (r ≡ row.Union is)) → members_at s t ≡ None
  no_union b r base here other = by (members_at s t) refl
    where
      by : (o : Option (List ℕ)) → members_at s t ≡ o → members_at s t ≡ None
      by None e = e
      by (Some is) e =
          let h = ((ids_mean_trees s v).members t is).0 e in
          let there : row_at s b ≡ Some (row.Union is) = subst (λ i. row_at s i ≡ Some (row.Union is)) (one_base h.0 b h.1 base) h.2 in
          let both = sym here ∙ there in
          let same : r ≡ row.Union is = cc in
          absurd (other is same)

  -- what is left of the type
  pub base_is : t < length s.rows → (b : ℕ) → IsBaseOf s t b → base s (type_at s t) ≡ Some (type_at s b)
  base_is l b h = sym (base-of-id s v t l (Some b) h tt)

  pub union_base : t < length s.rows → (is : List ℕ) → members_at s t ≡ Some is → base s (type_at s t) ≡ Some (Union (types_at s is))
  union_base l is e =
      let h = ((ids_mean_trees s v).members t is).0 e in
      base_is l h.0 h.1 ∙ ap Some (type_at_row s v h.0 (row.Union is) h.2)

  pub members_below : (is : List ℕ) → members_at s t ≡ Some is → AllBelow (length s.rows) is
  members_below is e =
      let h = ((ids_mean_trees s v).members t is).0 e in
      row_within s v h.0 (row.Union is) h.2

  tree_union : (r : Row) (ts : Trees) → tree_of (trees s.rows) r ≡ Union ts → (is : List ℕ) × (r ≡ row.Union is) × (ts ≡ types_at s is)
  tree_union (row.Union is) ts e = (is, refl, cc)
  tree_union (row.Scalar k) ts e = absurd cc
  tree_union (row.Pointer i) ts e = absurd cc
  tree_union (row.Nullable i) ts e = absurd cc
  tree_union (row.Slice i) ts e = absurd cc
  tree_union (row.Array n i) ts e = absurd cc
  tree_union (row.Struct fs) ts e = absurd cc
  tree_union (row.Tuple is) ts e = absurd cc
  tree_union (row.Error i) ts e = absurd cc
  tree_union (row.Named d) ts e = absurd cc

  -- nothing is left of a type that comes to a name that is not defined
  pub base_none : t < length s.rows → base_at s t ≡ None → base s (type_at s t) ≡ None
  base_none l g =
      sym (base-of-id s v t l None tt (λ b h. let both = sym g ∙ (base_tells s v t b).1 h in absurd cc))

  -- the type has members where its base is a union
  pub base_union : t < length s.rows → (ts : Trees) → base s (type_at s t) ≡ Some (Union ts)
      → (is : List ℕ) × (members_at s t ≡ Some is) × (ts ≡ types_at s is)
  base_union l ts e = by (base_at s t) refl
    where
      by : (o : Option ℕ) → base_at s t ≡ o → (is : List ℕ) × (members_at s t ≡ Some is) × (ts ≡ types_at s is)
      by None g =
          let both = sym (base_none l g) ∙ e in
          absurd cc
      by (Some b) g =
          let h = (base_tells s v t b).0 g in
          let tree = sym (base_is l b h) ∙ e in
          let same : type_at s b ≡ Union ts = cc in
          let r = (ids_mean_trees s v).there b h.1 h.3 in
          let union = tree_union r.0 ts (sym (type_at_row s v b r.0 r.1) ∙ same) in
          (union.0, ((ids_mean_trees s v).members t union.0).1 (b, h, r.1 ∙ ap Some union.1), union.2)

-- ---- tests joined

or_left : (a b : Bool) → a ≡ true → (a || b) ≡ true
or_left a b e = ap (λ x. x || b) e

or_right : (a b : Bool) → b ≡ true → (a || b) ≡ true
or_right true b e = refl
or_right false b e = e

-- ---- members that are found

holds-none : {A : Type 0} (p : A → Bool) (o : Option A) → holds_of p o ≡ true → (a : A) × (o ≡ Some a) × (p a ≡ true)
holds-none p None e = absurd cc
holds-none p (Some a) e = (a, refl, e)

module _ (s : Store) (p : Tree → Bool) where
  found_in : (is : List ℕ) (m : ℕ) → first_of s p is ≡ Some m → In m is × (p (type_at s m) ≡ true)
  found_in [] m e = absurd cc
  found_in (i ∷ is) m e = by (p (type_at s i)) refl e (found_in is m)
    where
      by : (b : Bool) → p (type_at s i) ≡ b → cond b (Some i) (first_of s p is) ≡ Some m
          → (first_of s p is ≡ Some m → In m is × (p (type_at s m) ≡ true)) → In m (i ∷ is) × (p (type_at s m) ≡ true)
      by true g h ih =
          let same : i ≡ m = cc in
          (inl same, subst (λ j. p (type_at s j) ≡ true) same g)
      by false g h ih =
          let k = ih h in
          (inr k.0, k.1)

  some_among : (is : List ℕ) (m : ℕ) → In m is → p (type_at s m) ≡ true → some_tree p (types_at s is) ≡ true
  some_among [] m h e = absurd h
  some_among (i ∷ is) m (inl same) e = ap (λ b. b || some_tree p (types_at s is)) (ap (λ j. p (type_at s j)) same ∙ e)
  some_among (i ∷ is) m (inr h) e = or_right (p (type_at s i)) (some_tree p (types_at s is)) (some_among is m h e)

  none_among : (is : List ℕ) → first_of s p is ≡ None → some_tree p (types_at s is) ≡ false
  none_among [] e = refl
  none_among (i ∷ is) e = by (p (type_at s i)) refl e (none_among is)
    where
      by : (b : Bool) → p (type_at s i) ≡ b → cond b (Some i) (first_of s p is) ≡ None
          → (first_of s p is ≡ None → some_tree p (types_at s is) ≡ false) → some_tree p (types_at s (i ∷ is)) ≡ false
      by true g h ih = absurd cc
      by false g h ih = ap (λ b. b || some_tree p (types_at s is)) g ∙ ih h

  count_none : (is : List ℕ) → first_of s p is ≡ None → how_many p (types_at s is) ≡ 0
  count_none [] e = refl
  count_none (i ∷ is) e = by (p (type_at s i)) refl e (count_none is)
    where
      by : (b : Bool) → p (type_at s i) ≡ b → cond b (Some i) (first_of s p is) ≡ None
          → (first_of s p is ≡ None → how_many p (types_at s is) ≡ 0) → how_many p (types_at s (i ∷ is)) ≡ 0
      by true g h ih = absurd cc
      by false g h ih = ap (λ b. cond b 1 0 + how_many p (types_at s is)) g ∙ ap (λ n. 0 + n) (ih h)

  -- the only one is one
  only_in : (is : List ℕ) (m : ℕ) → only_of s p is ≡ Some m → (first_of s p is ≡ Some m) × (only_one p (types_at s is) ≡ true)
  only_in is m e = by (only_one p (types_at s is)) refl e
    where
      by : (b : Bool) → only_one p (types_at s is) ≡ b → cond b (first_of s p is) None ≡ Some m
          → (first_of s p is ≡ Some m) × (only_one p (types_at s is) ≡ true)
      by true g h = (h, g)
      by false g h = absurd cc

  not_only : (is : List ℕ) → only_of s p is ≡ None → only_one p (types_at s is) ≡ false
  not_only is e = by (only_one p (types_at s is)) refl e
    where
      by : (b : Bool) → only_one p (types_at s is) ≡ b → cond b (first_of s p is) None ≡ None → only_one p (types_at s is) ≡ false
      by true g h =
          let no : true ≡ false = sym g ∙ ap (λ n. n == 1) (count_none is h) in
          absurd cc
      by false g h = g

-- ---- the default type of a number

default_holds : (v : ℤ) (k : Keyword) → default_word v ≡ Some k → holds k v ≡ true
default_holds v k e = by (holds keyword.Int v) refl e
  where
    wide : (b : Bool) → holds keyword.I64 v ≡ b → cond b (Some keyword.I64) None ≡ Some k → holds k v ≡ true
    wide true g h =
        let same : keyword.I64 ≡ k = cc in
        subst (λ w. holds w v ≡ true) same g
    wide false g h = absurd cc

    by : (b : Bool) → holds keyword.Int v ≡ b → cond b (Some keyword.Int) (cond (holds keyword.I64 v) (Some keyword.I64) None) ≡ Some k
        → holds k v ≡ true
    by true g h =
        let same : keyword.Int ≡ k = cc in
        subst (λ w. holds w v ≡ true) same g
    by false g h = wide (holds keyword.I64 v) refl h

base_word : (s : Store) (k : Keyword) → base s (Scalar k) ≡ Some (Scalar k)
base_word s k = by (length s.declared)
  where
    by : (n : ℕ) → following base_with (meaning_of s) n (Scalar k) ≡ Some (Scalar k)
    by zero = refl
    by (suc n) = refl

same_word : (k : Keyword) (t : Tree) → same (Scalar k) t ≡ true → t ≡ Scalar k
same_word k (Scalar j) e = ap Scalar (sym ((scalar_eq-Decides k j).0 e))
same_word k (Pointer u) e = absurd cc
same_word k (Nullable u) e = absurd cc
same_word k (Slice u) e = absurd cc
same_word k (Array n u) e = absurd cc
same_word k (Struct ns us) e = absurd cc
same_word k (Tuple us) e = absurd cc
same_word k (Union us) e = absurd cc
same_word k (Error u) e = absurd cc
same_word k (Named d) e = absurd cc

-- a number may be assigned to its default type
default_const : (s : Store) (f : Value) (t : Tree) → is_its_default f t ≡ true → is_const s f t ≡ true
default_const s (Iconst v) t e =
    let h = holds-none (λ k. same (Scalar k) t) (default_word v) e in
    ap (λ u. holds_of (λ w. tree_holds w v) (base s u)) (same_word h.0 t h.2) ∙ ap (holds_of (λ w. tree_holds w v)) (base_word s h.0) ∙
    default_holds v h.0 h.1
default_const s (Of g) t e = absurd cc
default_const s Null t e = absurd cc
default_const s Empty t e = absurd cc

-- among members
default_among : (s : Store) (f : Value) (is : List ℕ) (m : ℕ) → In m is → is_its_default f (type_at s m) ≡ true
    → is_default f (types_at s is) ≡ true
default_among s (Iconst v) is m h e =
    let k = holds-none (λ w. same (Scalar w) (type_at s m)) (default_word v) e in
    ap (holds_of (λ w. some_tree (same (Scalar w)) (types_at s is))) k.1 ∙ some_among s (same (Scalar k.0)) is m h k.2
default_among s (Of g) is m h e = absurd cc
default_among s Null is m h e = absurd cc
default_among s Empty is m h e = absurd cc

default_none : (s : Store) (f : Value) (is : List ℕ) → first_of s (is_its_default f) is ≡ None → is_default f (types_at s is) ≡ false
default_none s (Iconst v) is e = by (default_word v) refl
  where
    first : (k : Keyword) → default_word v ≡ Some k → (js : List ℕ)
        → first_of s (same (Scalar k)) js ≡ first_of s (is_its_default (Iconst v)) js
    first k g [] = refl
    first k g (j ∷ js) = ap₂ (λ b o. cond b (Some j) o) (sym (ap (holds_of (λ w. same (Scalar w) (type_at s j))) g)) (first k g js)

    by : (o : Option Keyword) → default_word v ≡ o → is_default (Iconst v) (types_at s is) ≡ false
    by None g = ap (holds_of (λ w. some_tree (same (Scalar w)) (types_at s is))) g
    by (Some k) g = ap (holds_of (λ w. some_tree (same (Scalar w)) (types_at s is))) g
        ∙ none_among s (same (Scalar k)) is (first k g is ∙ e)
default_none s (Of g) is e = refl
default_none s Null is e = refl
default_none s Empty is e = refl

-- ---- the value goes to the member

module _ (s : Store) (f : Value) (t : Tree) where
  -- one of the rows before that of unions admits the value
  abbrev pub Goes : Type 0
  Goes = (k : ℕ) × (k < 8) × (slice_get (table s f t) k ≡ Some true)

  goes_own : is_same f t ≡ true → Goes
  goes_own e = (0, lit< tt, ap Some e)

  goes_const : is_const s f t ≡ true → Goes
  goes_const e = (2, lit< tt, ap Some e)

  goes_lone : is_lone s f t ≡ true → Goes
  goes_lone e = by (is_pointer f t) refl (is_null s f t) refl (is_slice s f t) refl
    where
      by : (a : Bool) → is_pointer f t ≡ a → (b : Bool) → is_null s f t ≡ b → (c : Bool) → is_slice s f t ≡ c → Goes
      by true g b h c k = (4, lit< tt, ap Some g)
      by false g true h c k = (5, lit< tt, ap Some h)
      by false g false h true k = (6, lit< tt, ap Some k)
      by false g false h false k =
          let no : is_lone s f t ≡ false = ap (λ x. x || is_null s f t || is_slice s f t) g ∙ ap (λ x. x || is_slice s f t) h ∙ k in
          let both = sym e ∙ no in
          absurd cc

-- ---- the member of a union

module _ (s : Store) (f : Value) (is : List ℕ) where
  -- what is known of the member: it is one, its union admits the value, and so does it
  pub record IsFor (m : ℕ) : Type 0 where
    pub among : In m is
    pub joins : joins s f (Union (types_at s is)) ≡ true
    pub goes : Goes s f (type_at s m)

  five : (a b c d e : Bool) → (a ≡ true) ⊎ ((c ≡ true) ⊎ ((d ≡ true) ⊎ (e ≡ true))) → (a || b || c || d || e) ≡ true
  five a b c d e (inl h) = ap (λ x. x || b || c || d || e) h
  five a b c d e (inr (inl h)) = or_left (a || b || c || d) e (or_left (a || b || c) d (or_right (a || b) c h))
  five a b c d e (inr (inr (inl h))) = or_left (a || b || c || d) e (or_right (a || b || c) d h)
  five a b c d e (inr (inr (inr h))) = or_right (a || b || c || d) e h

  abbrev ms : Trees
  ms = types_at s is

  pub is_for : (m : ℕ) → member_for s f is ≡ Some m → IsFor m
  is_for m e = by (first_of s (is_same f) is) refl (first_of s (is_its_default f) is) refl (only_of s (is_const s f) is) refl
      (only_of s (is_lone s f) is) refl e
    where
      joined : (is_member f ms ≡ true) ⊎ ((is_default f ms ≡ true) ⊎
          ((only_one (is_const s f) ms ≡ true) ⊎ (only_one (is_lone s f) ms ≡ true))) → joins s f (Union ms) ≡ true
      joined h = five (is_member f ms) (is_part s f ms) (is_default f ms) (only_one (is_const s f) ms) (only_one (is_lone s f) ms) h

      by : (a : Option ℕ) → first_of s (is_same f) is ≡ a → (b : Option ℕ) → first_of s (is_its_default f) is ≡ b → (c : Option ℕ)
          → only_of s (is_const s f) is ≡ c → (d : Option ℕ) → only_of s (is_lone s f) is ≡ d
          → option_or a (option_or b (option_or c d)) ≡ Some m → IsFor m
      by (Some i) g b h c k d l e =
          let same : i ≡ m = cc in
          let here = found_in s (is_same f) is m (g ∙ ap Some same) in
          record {
            among = here.0;
            joins = joined (inl (some_among s (is_same f) is m here.0 here.1));
            goes = goes_own s f (type_at s m)
                here.1;
          }
      by None g (Some i) h c k d l e =
          let same : i ≡ m = cc in
          let here = found_in s (is_its_default f) is m (h ∙ ap Some same) in
          record {
            among = here.0;
            joins = joined (inr (inl (default_among s f is m here.0 here.1)));
            goes = goes_const s f (type_at s m)
                (default_const s f (type_at s m) here.1);
          }
      by None g None h (Some i) k d l e =
          let same : i ≡ m = cc in
          let only = only_in s (is_const s f) is m (k ∙ ap Some same) in
          let here = found_in s (is_const s f) is m only.0 in
          record { among = here.0; joins = joined (inr (inr (inl only.1))); goes = goes_const s f (type_at s m) here.1 }
      by None g None h None k d l e =
          let only = only_in s (is_lone s f) is m (l ∙ e) in
          let here = found_in s (is_lone s f) is m only.0 in
          record { among = here.0; joins = joined (inr (inr (inr only.1))); goes = goes_lone s f (type_at s m) here.1 }

  -- where there is none, and the union admits the value, it does so by its parts
  none_for : member_for s f is ≡ None → joins s f (Union ms) ≡ true → is_part s f ms ≡ true
  none_for e j = by (first_of s (is_same f) is) refl (first_of s (is_its_default f) is) refl (only_of s (is_const s f) is) refl e
    where
      last : (a b c d x : Bool) → a ≡ false → c ≡ false → d ≡ false → x ≡ false → (a || b || c || d || x) ≡ true → b ≡ true
      last false true false false false e f g h k = refl
      last false false false false false e f g h k = absurd cc
      last true b c d x e f g h k = absurd cc
      last false b true d x e f g h k = absurd cc
      last false b false true x e f g h k = absurd cc
      last false b false false true e f g h k = absurd cc

      by : (a : Option ℕ) → first_of s (is_same f) is ≡ a → (b : Option ℕ) → first_of s (is_its_default f) is ≡ b → (c : Option ℕ)
          → only_of s (is_const s f) is ≡ c
          → option_or a (option_or b (option_or c (only_of s (is_lone s f) is))) ≡ None → is_part s f ms ≡ true
      by (Some i) g b h c k e = absurd cc
      by None g (Some i) h c k e = absurd cc
      by None g None h (Some i) k e = absurd cc
      by None g None h None k e =
          last (is_member f ms) (is_part s f ms) (is_default f ms) (only_one (is_const s f) ms) (only_one (is_lone s f) ms)
          (none_among s (is_same f) is g) (default_none s f is h) (not_only s (is_const s f) is k) (not_only s (is_lone s f) is e) j

-- the only one that holds a number is found
pub by_number : (s : Store) (f : Value) (is : List ℕ) (r : Option ℕ) → None ≡ first_of s (is_same f) is
    → None ≡ first_of s (is_its_default f) is → how_many (is_const s f) (types_at s is) ≡ 1
    → r ≡ first_of s (is_const s f) is → r ≡ member_for s f is
by_number s f is r own default one e =
    e ∙ by (first_of s (is_const s f) is) refl ∙ ap (λ o. option_or o (only_of s (is_lone s f) is))
    (sym (ap (λ b. cond b (first_of s (is_const s f) is) None) only))
    ∙ ap (λ o. option_or o (option_or (only_of s (is_const s f) is) (only_of s (is_lone s f) is))) default ∙ ap
    (λ o. option_or o (option_or (first_of s (is_its_default f) is)
    (option_or (only_of s (is_const s f) is) (only_of s (is_lone s f) is)))) own
  where
    only : only_one (is_const s f) (types_at s is) ≡ true
    only = ap (λ n. n == 1) one

    by : (o : Option ℕ) → first_of s (is_const s f) is ≡ o → o ≡ option_or o (only_of s (is_lone s f) is)
    by (Some m) g = refl
    by None g =
        let zeroes = sym one ∙ count_none s (is_const s f) is g in
        absurd (omega (arith, zeroes))

-- it is in the store
pub member_within : (s : Store) (from : Ty) (is : List ℕ) (m : ℕ) → AllBelow (length s.rows) is → member_for s (value_at s from) is ≡ Some m
    → m < length s.rows
member_within s from is m h e = below_in (length s.rows) is m h (is_for s (value_at s from) is m e).among
  where
    below_in : (n : ℕ) (js : List ℕ) (i : ℕ) → AllBelow n js → In i js → i < n
    below_in n [] i h k = absurd k
    below_in n (j ∷ js) i h (inl e) = subst (λ x. x < n) e h.0
    below_in n (j ∷ js) i h (inr k) = below_in n js i h.1 k

-- ---- the first member

-- it is one, and the value goes there by a row before that of unions
pub record IsFirstFor (s : Store) (f : Value) (is : List ℕ) (m : ℕ) : Type 0 where
  pub among : In m is
  pub goes : Goes s f (type_at s m)

pub first_for : (s : Store) (f : Value) (is : List ℕ) (m : ℕ) → first_member s f is ≡ Some m → IsFirstFor s f is m
first_for s f is m e = by (first_of s (is_same f) is) refl (first_of s (is_its_default f) is) refl (first_of s (is_const s f) is) refl e
  where
    by : (a : Option ℕ) → first_of s (is_same f) is ≡ a → (b : Option ℕ) → first_of s (is_its_default f) is ≡ b → (c : Option ℕ)
        → first_of s (is_const s f) is ≡ c → option_or a (option_or b (option_or c (first_of s (is_lone s f) is))) ≡ Some m →
        IsFirstFor s f is m
    by (Some i) g b h c k e =
        let same : i ≡ m = cc in
        let here = found_in s (is_same f) is m (g ∙ ap Some same) in
        record { among = here.0; goes = goes_own s f (type_at s m) here.1 }
    by None g (Some i) h c k e =
        let same : i ≡ m = cc in
        let here = found_in s (is_its_default f) is m (h ∙ ap Some same) in
        record { among = here.0; goes = goes_const s f (type_at s m) (default_const s f (type_at s m) here.1) }
    by None g None h (Some i) k e =
        let same : i ≡ m = cc in
        let here = found_in s (is_const s f) is m (k ∙ ap Some same) in
        record { among = here.0; goes = goes_const s f (type_at s m) here.1 }
    by None g None h None k e =
        let here = found_in s (is_lone s f) is m e in
        record { among = here.0; goes = goes_lone s f (type_at s m) here.1 }

-- it is in the store
pub first_within : (s : Store) (from : Ty) (is : List ℕ) (o : Option ℕ) → AllBelow (length s.rows) is →
    o ≡ first_member s (value_at s from) is
    → IfSome o (λ m. m < length s.rows)
first_within s from is None h e = tt
first_within s from is (Some m) h e = below_in is h (first_for s (value_at s from) is m (sym e)).among
  where
    below_in : (js : List ℕ) → AllBelow (length s.rows) js → In m js → m < length s.rows
    below_in [] k i = absurd i
    below_in (j ∷ js) k (inl g) = subst (λ x. x < length s.rows) g k.0
    below_in (j ∷ js) k (inr i) = below_in js k.1 i

-- ---- the coercion to it

module _ (s : Store) (v : IsStore s) (from : Ty) (to : ℕ) (l : to < length s.rows) where
  pub is_chosen : (is : List ℕ) (m : ℕ) → members_at s to ≡ Some is → member_for s (value_at s from) is ≡ Some m → (c : Coercion)
      → coercion s from m ≡ Some c → IsChosen s from to c
  is_chosen is m e g c h =
      let k = is_for s (value_at s from) is m g in
      record {
        members = is;
        member = m;
        union = e;
        among = In-to m is k.among;
        goes = h;
        admits = ap (holds_of (joins s (value_at s from))) (union_base s v to l is e) ∙ k.joins;
      }

  -- a member that is found admits the value
  pub goes_there : (is : List ℕ) (m : ℕ) → member_for s (value_at s from) is ≡ Some m → ¬ (coercion s from m ≡ None)
  goes_there is m g missing =
      let k = is_for s (value_at s from) is m g in
      first_from-none 1 (table s (value_at s from) (type_at s m)) (none_map _ (first_row s (value_at s from) (type_at s m)) missing)
      k.goes.0 k.goes.2

  pub keeps_none : members_at s to ≡ None → KeepsMember s from to
  keeps_none e ts b j =
      let h = base_union s v to l ts b in
      let both = sym e ∙ h.1 in
      absurd cc

  pub keeps_own : (is : List ℕ) → members_at s to ≡ Some is → member_for s (value_at s from) is ≡ None → KeepsMember s from to
  keeps_own is e g ts b j =
      let both = sym (union_base s v to l is e) ∙ b in
      let same : types_at s is ≡ ts = cc in
      subst (λ us. is_part s (value_at s from) us ≡ true) same
      (none_for s (value_at s from) is g (subst (λ us. joins s (value_at s from) (Union us) ≡ true) (sym same) j))
