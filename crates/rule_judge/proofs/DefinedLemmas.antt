-- Types that mention no name that is not defined: their parts, and what of them stays as the store grows.
use Rattle.std.proofs.Common.{◌≡◌, ℕ, zero, suc, ◌<◌, List, [], ◌∷◌, length, map, Option, Some, None, IsSome, refl, ap, sym, ◌∙◌, subst, arith}
use Rattle.std.specs.Prelude.{slice_index_or, Contains}
use Rattle.std.specs.List.{cons_option}
use Rattle.std.proofs.lemmas.Option.{slice_get-get_or, slice_get_within}
use Rattle.hare_types.specs.declared.coercion.Ty.{Ty}
use Rattle.hare_types.specs.declared.coercion.Ty.TheVariants as ty
use Rattle.hare_types.specs.declared.coercion.Coercion.{Coercion}
use Rattle.hare_types.specs.declared.lists.Field.{Field}
use Rattle.hare_types.specs.declared.row.Row.{Row}
use Rattle.hare_types.specs.declared.row.Row.TheVariants as row
use Rattle.hare_types.specs.declared.row.Scalar.TheVariants as keyword
use Rattle.hare_types.specs.Assign.{IsIn}
use Rattle.hare_types.specs.Rows.{IsWithin, AllBelow, FieldsBelow}
use Rattle.hare_types.specs.Store.{Store, definition_of}
use Rattle.hare_types.specs.Sound.{IsStore}
use Rattle.hare_types.specs.ByIds.{row_at}
use Rattle.hare_types.specs.Later.{IsLater, KeepsTypes}
use Rattle.hare_types.proofs.LaterLemmas.{types_stay}
use Rattle.hare_typed.specs.Typed.{TypedNode, TypedNodes, marked, typed_none, typed_more}
use Rattle.hare_rules.specs.declared.hint.Hint.{Hint}
use Rattle.hare_rules.specs.declared.hint.Hint.TheVariants as hint
use Rattle.hare_rules.specs.declared.judged.Yielded.{Yielded}
use Rattle.rule_judge.specs.Defined.{made_of, Mentions, itself, through, IsDefined, IsDefinedTy, IsDefinedHint, AreDefinedYields, IsDefinedTree, AreDefinedTrees, HoldsDefined, AreDefinedCoercions}

-- ---- parts

-- the row of a type of the store
pub row_of : (s : Store) (t : ℕ) → t < length s.rows → (r : Row) × (row_at s t ≡ Some r)
row_of s t h = (slice_index_or s.rows t (row.Scalar keyword.Void), slice_get-get_or s.rows t (row.Scalar keyword.Void) h)

below_among : (n : ℕ) (is : List ℕ) (i : ℕ) → AllBelow n is → Contains is i → i < n
below_among n [] i h c = absurd (omega (arith, c.1))
below_among n (j ∷ is) i h (zero, l, e) = subst (λ k. k < n) e h.0
below_among n (j ∷ is) i h (suc k, l, e) = below_among n is i h.1 (k, omega (arith, l), e)

fields_below : (n : ℕ) (fs : List Field) → FieldsBelow n fs → AllBelow n (map (λ f. f.ty) fs)
fields_below n [] h = tt
fields_below n (f ∷ fs) h = (h.0, fields_below n fs h.1)

lone : (n j i : ℕ) → j < n → Contains (j ∷ []) i → i < n
lone n j i h c = below_among n (j ∷ []) i (h, tt) c

named_below : (n : ℕ) (o : Option ℕ) (i : ℕ) → ((j : ℕ) → o ≡ Some j → j < n) → Contains (cons_option o []) i → i < n
named_below n None i h c = absurd (omega (arith, c.1))
named_below n (Some j) i h c = lone n j i (h j refl) c

-- the types of which a row is made are in the store
made_below : (s : Store) → IsStore s → (t : ℕ) (r : Row) → t < length s.rows → IsWithin t r → (i : ℕ) → Contains (made_of s r) i →
    i < length s.rows
made_below s v t (row.Scalar k) w h i c = absurd (omega (arith, c.1))
made_below s v t (row.Pointer j) w h i c = lone (length s.rows) j i (omega arith) c
made_below s v t (row.Nullable j) w h i c = lone (length s.rows) j i (omega arith) c
made_below s v t (row.Slice j) w h i c = lone (length s.rows) j i (omega arith) c
made_below s v t (row.Array n j) w h i c = lone (length s.rows) j i (omega arith) c
made_below s v t (row.Struct fs) w h i c = let k = below_among t (map (λ f. f.ty) fs) i (fields_below t fs h) c in omega (arith, k, w)
made_below s v t (row.Tuple is) w h i c = let k = below_among t is i h c in omega (arith, k, w)
made_below s v t (row.Union is) w h i c = let k = below_among t is i h c in omega (arith, k, w)
made_below s v t (row.Error j) w h i c = lone (length s.rows) j i (omega arith) c
made_below s v t (row.Named d) w h i c = named_below (length s.rows) (definition_of s d) i (v.defined_within d) c

-- what a type is made of is as well defined
pub defined_part : (s : Store) → IsStore s → (t : ℕ) (r : Row) → IsDefined s t → row_at s t ≡ Some r → HoldsDefined s r
defined_part s v t r h e i c = record {
  within = made_below s v t r h.within (v.rows_sound.within t r e) i c;
  names = λ u d m. h.names u d (through r e c m);
}

-- and all that it mentions
pub defined_mentioned : (s : Store) → IsStore s → (t u : ℕ) → IsDefined s t → Mentions s t u → IsDefined s u
defined_mentioned s v t u h m = by h m
  where
    by : {t u : ℕ} → IsDefined s t → Mentions s t u → IsDefined s u
    by h itself = h
    by {t} h (through {u = w} r e c m) = by (defined_part s v t r h e w c) m

-- ---- growth

module _ (now later : Store) (v : IsStore now) (l : IsLater now later) where
  keeps : KeepsTypes now later
  keeps = types_stay now later v l

  -- a type of the store has the same row
  pub row_stays : (t : ℕ) → t < length now.rows → row_at later t ≡ row_at now t
  row_stays t h =
      let r = row_of now t h in
      keeps.row t r.0 r.1 ∙ sym r.1

  pub within_stays : (t : ℕ) → t < length now.rows → t < length later.rows
  within_stays t h = let r = row_of now t h in slice_get_within later.rows t r.0 (keeps.row t r.0 r.1)

  same_name : (d : ℕ) (o : Option ℕ) → definition_of now d ≡ o → IsSome o → definition_of later d ≡ definition_of now d
  same_name d None e k = absurd cc
  same_name d (Some j) e k = l.grows.defined d j e ∙ sym e

  same_made : (t : ℕ) (r : Row) → IsDefined now t → row_at now t ≡ Some r → made_of later r ≡ made_of now r
  same_made t (row.Named d) h e = ap (λ o. cons_option o []) (same_name d (definition_of now d) refl (h.names t d itself e))
  same_made t (row.Scalar k) h e = refl
  same_made t (row.Pointer j) h e = refl
  same_made t (row.Nullable j) h e = refl
  same_made t (row.Slice j) h e = refl
  same_made t (row.Array n j) h e = refl
  same_made t (row.Struct fs) h e = refl
  same_made t (row.Tuple is) h e = refl
  same_made t (row.Union is) h e = refl
  same_made t (row.Error j) h e = refl

  mentioned : {t u : ℕ} → IsDefined now t → Mentions later t u → Mentions now t u
  mentioned h itself = itself
  mentioned {t} h (through {u = w} r e c m) =
      let here : row_at now t ≡ Some r = sym (row_stays t h.within) ∙ e in
      let part : Contains (made_of now r) w = subst (λ is. Contains is w) (same_made t r h here) c in
      through r here part (mentioned (defined_part now v t r h here w part) m)

  known_stays : (d : ℕ) (o : Option ℕ) → definition_of now d ≡ o → IsSome o → IsSome (definition_of later d)
  known_stays d None e k = absurd cc
  known_stays d (Some j) e k = subst IsSome (sym (l.grows.defined d j e)) k

  pub defined_stays : (t : ℕ) → IsDefined now t → IsDefined later t
  defined_stays t h = record {
    within = within_stays t h.within;
    names = λ u d m e.
        let k : Mentions now t u = mentioned h m in
        let there : IsDefined now u = defined_mentioned now v t u h k in
        known_stays d (definition_of now d) refl (h.names u d k (sym (row_stays u there.within) ∙ e));
  }

  pub ty_stays : (a : Ty) → IsDefinedTy now a → IsDefinedTy later a
  ty_stays (ty.Of t) h = defined_stays t h
  ty_stays (ty.Iconst n) h = tt
  ty_stays ty.Null h = tt
  ty_stays ty.Empty h = tt

  pub hint_stays : (g : Hint) → IsDefinedHint now g → IsDefinedHint later g
  hint_stays (hint.Of t) h = defined_stays t h
  hint_stays hint.Drop h = tt
  hint_stays hint.None h = tt

  pub yields_stay : (ys : List Yielded) → AreDefinedYields now ys → AreDefinedYields later ys
  yields_stay [] h = tt
  yields_stay (y ∷ ys) h = (ty_stays y.ty h.0, yields_stay ys h.1)

  mutual
    pub tree_stays : (t : TypedNode) → IsDefinedTree now t → IsDefinedTree later t
    tree_stays (marked g m ts) h = (ty_stays m.ty h.0, ty_stays m.coerce.to h.1, trees_stay ts h.2)

    pub trees_stay : (ts : TypedNodes) → AreDefinedTrees now ts → AreDefinedTrees later ts
    trees_stay typed_none h = tt
    trees_stay (typed_more t ts) h = (tree_stays t h.0, trees_stay ts h.1)

-- ---- values, kids

pub in_store : (s : Store) (a : Ty) → IsDefinedTy s a → IsIn s a
in_store s (ty.Of t) h = h.within
in_store s (ty.Iconst n) h = tt
in_store s ty.Null h = tt
in_store s ty.Empty h = tt

-- ---- types that are made

all_below : (n : ℕ) (is : List ℕ) → ((i : ℕ) → Contains is i → i < n) → AllBelow n is
all_below n [] h = tt
all_below n (i ∷ is) h = (h i (0, omega arith, refl), all_below n is (λ j c. h j (suc c.0, omega (arith, c.1), c.2)))

all_fields_below : (n : ℕ) (fs : List Field) → ((i : ℕ) → Contains (map (λ f. f.ty) fs) i → i < n) → FieldsBelow n fs
all_fields_below n [] h = tt
all_fields_below n (f ∷ fs) h = (h f.ty (0, omega arith, refl), all_fields_below n fs (λ j c. h j (suc c.0, omega (arith, c.1), c.2)))

-- a row may be taken in that is made of types of the store
pub held_within : (s : Store) (r : Row) → HoldsDefined s r → IsWithin (length s.rows) r
held_within s (row.Scalar k) h = tt
held_within s (row.Pointer i) h = (h i (0, omega arith, refl)).within
held_within s (row.Nullable i) h = (h i (0, omega arith, refl)).within
held_within s (row.Slice i) h = (h i (0, omega arith, refl)).within
held_within s (row.Array n i) h = (h i (0, omega arith, refl)).within
held_within s (row.Struct fs) h = all_fields_below (length s.rows) fs (λ i c. (h i c).within)
held_within s (row.Tuple is) h = all_below (length s.rows) is (λ i c. (h i c).within)
held_within s (row.Union is) h = all_below (length s.rows) is (λ i c. (h i c).within)
held_within s (row.Error i) h = (h i (0, omega arith, refl)).within
held_within s (row.Named d) h = tt

-- rows but names are made of the same types in all stores
unnamed_made : (now later : Store) (r : Row) → ((d : ℕ) → ¬ (r ≡ row.Named d)) → made_of later r ≡ made_of now r
unnamed_made now later (row.Named d) h = absurd (h d refl)
unnamed_made now later (row.Scalar k) h = refl
unnamed_made now later (row.Pointer i) h = refl
unnamed_made now later (row.Nullable i) h = refl
unnamed_made now later (row.Slice i) h = refl
unnamed_made now later (row.Array n i) h = refl
unnamed_made now later (row.Struct fs) h = refl
unnamed_made now later (row.Tuple is) h = refl
unnamed_made now later (row.Union is) h = refl
unnamed_made now later (row.Error i) h = refl

-- what stands in a row that is known of the type is what its parts and its own name say
pub defined_by_row : (s : Store) (t : ℕ) (r : Row) → row_at s t ≡ Some r → HoldsDefined s r
    → ((d : ℕ) → r ≡ row.Named d → IsSome (definition_of s d)) → IsDefined s t
defined_by_row s t r e held own = record { within = slice_get_within s.rows t r e; names = λ u d m k. by m k }
  where
    by : {u d : ℕ} → Mentions s t u → row_at s u ≡ Some (row.Named d) → IsSome (definition_of s d)
    by {d = d} itself k = let same : r ≡ row.Named d = cc in own d same
    by {u} {d} (through {u = w} q f c m) k =
        let same : q ≡ r = cc in
        (held w (subst (λ x. Contains (made_of s x) w) same c)).names u d m k

-- a type whose row is new, and no name
pub made_defined : (now new : Store) → IsStore now → IsLater now new → (r : Row) (t : ℕ) → row_at new t ≡ Some r → HoldsDefined now r
    → ((d : ℕ) → ¬ (r ≡ row.Named d)) → IsDefined new t
made_defined now new v l r t e held unnamed =
    defined_by_row new t r e
    (λ i c. defined_stays now new v l i (held i (subst (λ is. Contains is i) (unnamed_made now new r unnamed) c)))
    (λ d h. absurd (unnamed d h))

pub coercions_stay : (now later : Store) → IsStore now → IsLater now later → (rs : List Coercion) → AreDefinedCoercions now rs →
    AreDefinedCoercions later rs
coercions_stay now later v l [] h = tt
coercions_stay now later v l (r ∷ rs) h = (ty_stays now later v l r.to h.0, coercions_stay now later v l rs h.1)
