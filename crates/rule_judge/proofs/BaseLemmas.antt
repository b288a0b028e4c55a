-- Bases, error marks and sizes of types of which each name is defined, and the verdicts that rest on them, in this store and in later ones.
use Rattle.std.proofs.Common.{◌≡◌, ℕ, zero, suc, List, [], ◌∷◌, length, Option, Some, None, IsSome, refl, ap, sym, ◌∙◌, subst, arith}
use Rattle.std.specs.Prelude.{Contains, option_and_then}
use Rattle.std.specs.List.{cons_option}
use Rattle.hare_types.specs.declared.coercion.Ty.{Ty}
use Rattle.hare_types.specs.declared.coercion.Ty.TheVariants as ty
use Rattle.hare_types.specs.declared.row.Row.{Row}
use Rattle.hare_types.specs.declared.row.Row.TheVariants as row
use Rattle.hare_types.specs.Trees.{Trees, Union, EachTree}
use Rattle.hare_types.specs.Rows.{tree_of, trees}
use Rattle.hare_types.specs.Bases.{base_over}
use Rattle.hare_types.specs.Store.{Store, tree_at, definition_of, meaning_of, sized_of}
use Rattle.hare_types.specs.Sound.{IsStore}
use Rattle.hare_types.specs.Layout.{following, base_with}
use Rattle.hare_types.specs.ByIds.{row_at, found_within, base_at, error_over, marked_at, is_error_at, sized_over, has_size_at}
use Rattle.hare_types.specs.Assign.{type_at, value_at, base, coercion, is_castable}
use Rattle.hare_types.specs.Later.{IsLater}
use Rattle.hare_types.proofs.LaterLemmas.{types_stay}
use Rattle.hare_types.proofs.IdLemmas.{base_tells}
use Rattle.hare_layout.proofs.SpreadLemmas.{id-tree_at}
use Rattle.hare_assign.specs.Growth.{HasBase, IsKnown, AreKnown}
use Rattle.hare_assign.specs.Shapes.{types_at}
use Rattle.hare_assign.proofs.TypeLemmas.{type_at_row, tree_at-type}
use Rattle.hare_assign.proofs.GrowthLemmas as growth
use Rattle.hare_assign.proofs.NamesLemmas.{base_only}
use Rattle.hare_typed.specs.Given.{base_row}
use Rattle.rule_judge.specs.Defined.{made_of, Mentions, itself, through, IsDefined, IsDefinedTy, HoldsDefined}
use Rattle.rule_judge.proofs.DefinedLemmas.{row_of, defined_part, defined_mentioned, in_store}
use Rattle.rule_judge.proofs.NameLemmas.{tree_known, base_known}

-- ---- what a type comes to is mentioned

named_part : (s : Store) (d j : ℕ) → definition_of s d ≡ Some j → Contains (made_of s (row.Named d)) j
named_part s d j e = subst (λ o. Contains (cons_option o []) j) (sym e) (0, omega arith, refl)

abbrev Comes : Store → ℕ → ℕ → ℕ → Type 0
Comes s n t b = found_within s (base_over (definition_of s)) n t ≡ Some b

base_found : (s : Store) (n t b : ℕ) → Comes s n t b → Mentions s t b
base_found s zero t b e = absurd cc
base_found s (suc n) t b e = by (base_found s n) (row_at s t) refl e
  where
    by : ((j c : ℕ) → Comes s n j c → Mentions s j c) → (o : Option Row) → row_at s t ≡ o
        → option_and_then (base_over (definition_of s) (found_within s (base_over (definition_of s)) n) t) o ≡ Some b → Mentions s t b
    by ih None g k = absurd cc
    by ih (Some (row.Error j)) g k = through (row.Error j) g (0, omega arith, refl) (ih j b k)
    by ih (Some (row.Named d)) g k = named (definition_of s d) refl k
      where
        named : (o : Option ℕ) → definition_of s d ≡ o → option_and_then (found_within s (base_over (definition_of s)) n) o ≡ Some b →
            Mentions s t b
        named None f h = absurd cc
        named (Some j) f h = through (row.Named d) g (named_part s d j f) (ih j b h)
    by ih (Some (row.Scalar w)) g k = let same : t ≡ b = cc in subst (Mentions s t) same itself
    by ih (Some (row.Pointer j)) g k = let same : t ≡ b = cc in subst (Mentions s t) same itself
    by ih (Some (row.Nullable j)) g k = let same : t ≡ b = cc in subst (Mentions s t) same itself
    by ih (Some (row.Slice j)) g k = let same : t ≡ b = cc in subst (Mentions s t) same itself
    by ih (Some (row.Array m j)) g k = let same : t ≡ b = cc in subst (Mentions s t) same itself
    by ih (Some (row.Struct fs)) g k = let same : t ≡ b = cc in subst (Mentions s t) same itself
    by ih (Some (row.Tuple is)) g k = let same : t ≡ b = cc in subst (Mentions s t) same itself
    by ih (Some (row.Union is)) g k = let same : t ≡ b = cc in subst (Mentions s t) same itself

-- the base is as well defined as the type
pub base_defined : (s : Store) → IsStore s → (t b : ℕ) → IsDefined s t → base_at s t ≡ Some b → IsDefined s b
base_defined s v t b h e = defined_mentioned s v t b h (base_found s (length s.rows) t b e)

-- ---- rows of bases

pub base_row_is : (s f : Store) → IsStore s → IsLater s f → (a : Ty) (t b : ℕ) (r : Row) → a ≡ ty.Of t → base_at s t ≡ Some b →
    row_at s b ≡ Some r
    → base_row f a ≡ Some r
base_row_is s f v l a t b r e g h =
    let keeps = types_stay s f v l in
    ap (base_row f) e ∙ ap (option_and_then (row_at f)) (keeps.base t b g) ∙ keeps.row b r h

pub base_there : (s : Store) → IsStore s → (a : Ty) (t : ℕ) → a ≡ ty.Of t → IsDefinedTy s a → base_at s t ≡ None → ⊥
base_there s v a t e h g =
    let k = base_known s v t (subst (IsDefinedTy s) e h) in
    let both = sym g ∙ k.1 in
    cc

pub base_held : (s : Store) → IsStore s → (a : Ty) (t b : ℕ) (r : Row) → a ≡ ty.Of t → IsDefinedTy s a → base_at s t ≡ Some b →
    row_at s b ≡ Some r
    → HoldsDefined s r
base_held s v a t b r e h g k = defined_part s v b r (base_defined s v t b (subst (IsDefinedTy s) e h) g) k

-- ---- error marks and sizes

marked_found : (s : Store) (n t b : ℕ) → Comes s n t b → IsSome (found_within s (error_over (definition_of s)) n t)
marked_found s zero t b e = absurd cc
marked_found s (suc n) t b e = by (marked_found s n) (row_at s t) e
  where
    by : ((j c : ℕ) → Comes s n j c → IsSome (found_within s (error_over (definition_of s)) n j)) → (o : Option Row)
        → option_and_then (base_over (definition_of s) (found_within s (base_over (definition_of s)) n) t) o ≡ Some b
        → IsSome (option_and_then (error_over (definition_of s) (found_within s (error_over (definition_of s)) n) t) o)
    by ih None k = absurd cc
    by ih (Some (row.Error j)) k = refl
    by ih (Some (row.Named d)) k = named (definition_of s d) k
      where
        named : (o : Option ℕ) → option_and_then (found_within s (base_over (definition_of s)) n) o ≡ Some b
            → IsSome (option_and_then (found_within s (error_over (definition_of s)) n) o)
        named None h = absurd cc
        named (Some j) h = ih j b h
    by ih (Some (row.Scalar w)) k = refl
    by ih (Some (row.Pointer j)) k = refl
    by ih (Some (row.Nullable j)) k = refl
    by ih (Some (row.Slice j)) k = refl
    by ih (Some (row.Array m j)) k = refl
    by ih (Some (row.Struct fs)) k = refl
    by ih (Some (row.Tuple is)) k = refl
    by ih (Some (row.Union is)) k = refl

-- whether the type is an error type is known
pub mark_known : (s : Store) → IsStore s → (t : ℕ) → IsDefined s t → IsSome (marked_at s t)
mark_known s v t h = let k = base_known s v t h in marked_found s (length s.rows) t k.0 k.1

named_sized : (s : Store) → IsStore s → (d j : ℕ) → definition_of s d ≡ Some j → IsSome (sized_of s d)
named_sized s v d j e =
    let k = v.defined_sized d (type_at s j) (ap (option_and_then (tree_at s)) e ∙ tree_at-type s j (v.defined_within d j e)) in
    subst IsSome (sym k.1) refl

sized_found : (s : Store) → IsStore s → (n t b : ℕ) → Comes s n t b → IsSome (found_within s (sized_over (sized_of s)) n t)
sized_found s v zero t b e = absurd cc
sized_found s v (suc n) t b e = by (sized_found s v n) (row_at s t) e
  where
    by : ((j c : ℕ) → Comes s n j c → IsSome (found_within s (sized_over (sized_of s)) n j)) → (o : Option Row)
        → option_and_then (base_over (definition_of s) (found_within s (base_over (definition_of s)) n) t) o ≡ Some b
        → IsSome (option_and_then (sized_over (sized_of s) (found_within s (sized_over (sized_of s)) n) t) o)
    by ih None k = absurd cc
    by ih (Some (row.Error j)) k = ih j b k
    by ih (Some (row.Named d)) k = named (definition_of s d) refl k
      where
        named : (o : Option ℕ) → definition_of s d ≡ o → option_and_then (found_within s (base_over (definition_of s)) n) o ≡ Some b →
            IsSome (sized_of s d)
        named None f h = absurd cc
        named (Some j) f h = named_sized s v d j f
    by ih (Some (row.Scalar w)) k = refl
    by ih (Some (row.Pointer j)) k = refl
    by ih (Some (row.Nullable j)) k = refl
    by ih (Some (row.Slice j)) k = refl
    by ih (Some (row.Array m j)) k = refl
    by ih (Some (row.Struct fs)) k = refl
    by ih (Some (row.Tuple is)) k = refl
    by ih (Some (row.Union is)) k = refl

pub mark_stays : (s f : Store) → IsStore s → IsLater s f → (t : ℕ) → IsDefined s t → is_error_at f t ≡ is_error_at s t
mark_stays s f v l t h = (types_stay s f v l).error t (mark_known s v t h)

pub size_stays : (s f : Store) → IsStore s → IsLater s f → (t : ℕ) → IsDefined s t → has_size_at f t ≡ has_size_at s t
size_stays s f v l t h = let k = base_known s v t h in (types_stay s f v l).has_size t (sized_found s v (length s.rows) t k.0 k.1)

-- ---- what may be assigned

-- the base of a type as a tree
base_tree : (s : Store) → IsStore s → (t b : ℕ) (r : Row) → base_at s t ≡ Some b → row_at s b ≡ Some r →
    base s (type_at s t) ≡ Some (tree_of (trees s.rows) r)
base_tree s v t b r e g =
    let h = (base_tells s v t b).0 e in
    let from = id-tree_at s t h.0 h.2 in
    let to = id-tree_at s b h.1 h.3 in
    let tree = sym to.1 ∙ type_at_row s v b r g in
    base_only s v (type_at s t) (tree_of (trees s.rows) r) (
      h.4.0,
      subst (λ u. following base_with (meaning_of s) h.4.0 u ≡ Some (tree_of (trees s.rows) r)) (sym from.1)
          (h.4.1 ∙ ap Some tree),
    )

each_known : (s : Store) → IsStore s → (is : List ℕ) → ((i : ℕ) → Contains is i → IsDefined s i) → EachTree (HasBase s) (types_at s is)
each_known s v [] h = tt
each_known s v (i ∷ is) h = (
  tree_known s v i (h i (0, omega arith, refl)),
  each_known s v is
      (λ j c. h j (suc c.0, omega (arith, c.1), c.2)),
)

members_known : (s : Store) → IsStore s → (r : Row) → HoldsDefined s r → (ts : Trees) → tree_of (trees s.rows) r ≡ Union ts →
    EachTree (HasBase s) ts
members_known s v (row.Union is) h ts e = let same : types_at s is ≡ ts = cc in subst (EachTree (HasBase s)) same (each_known s v is h)
members_known s v (row.Scalar k) h ts e = absurd cc
members_known s v (row.Pointer i) h ts e = absurd cc
members_known s v (row.Nullable i) h ts e = absurd cc
members_known s v (row.Slice i) h ts e = absurd cc
members_known s v (row.Array n i) h ts e = absurd cc
members_known s v (row.Struct fs) h ts e = absurd cc
members_known s v (row.Tuple is) h ts e = absurd cc
members_known s v (row.Error i) h ts e = absurd cc
members_known s v (row.Named d) h ts e = absurd cc

value_known : (s : Store) → IsStore s → (a : Ty) → IsDefinedTy s a → IsKnown s (value_at s a)
value_known s v (ty.Of t) h = tree_known s v t h
value_known s v (ty.Iconst n) h = tt
value_known s v ty.Null h = tt
value_known s v ty.Empty h = tt

are_known : (s : Store) → IsStore s → (a : Ty) (t : ℕ) → IsDefinedTy s a → IsDefined s t → AreKnown s (value_at s a) (type_at s t)
are_known s v a t h k = record {
  value = value_known s v a h;
  type = tree_known s v t k;
  members = λ ts e.
      let b = base_known s v t k in
      let there = base_defined s v t b.0 k b.1 in
      let r = row_of s b.0 there.within in
      let same = sym (base_tree s v t b.0 r.0 b.1 r.1) ∙ e in
      members_known s v r.0 (defined_part s v b.0 r.0 there r.1) ts (let inner : tree_of (trees s.rows) r.0 ≡ Union ts = cc in inner);
}

pub coercion_stays : (s f : Store) → IsStore s → IsLater s f → (a : Ty) (t : ℕ) → IsDefinedTy s a → IsDefined s t →
    coercion f a t ≡ coercion s a t
coercion_stays s f v l a t h k = (growth.verdicts_stay s f l a t (in_store s a h) k.within (are_known s v a t h k)).coercion

pub cast_stays : (s f : Store) → IsStore s → IsLater s f → (a : Ty) (t : ℕ) → IsDefinedTy s a → IsDefined s t
    → is_castable f (value_at f a) (type_at f t) ≡ is_castable s (value_at s a) (type_at s t)
cast_stays s f v l a t h k = (growth.verdicts_stay s f l a t (in_store s a h) k.within (are_known s v a t h k)).cast
