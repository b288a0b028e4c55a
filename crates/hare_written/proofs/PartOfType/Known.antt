-- What is known of parts of written types.
use Rattle.std.proofs.Common.{◌≡◌, ℕ, ◌<◌, Bool, true, false, ◌&&◌, List, [], ◌∷◌, ◌++◌, length, IsSome, Option, Some, None, refl, ap, sym, subst, ◌⊎◌, inl, inr}
use Rattle.hare_tree.specs.declared.form.Own.TheVariants as ow
use Rattle.hare_tree.specs.declared.form.Sort.{Sort}
use Rattle.hare_tree.specs.declared.kind.Kind.{Kind}
use Rattle.hare_tree.specs.declared.kind.Kind.TheVariants as ki
use Rattle.hare_tree.specs.Levels.{is_type}
use Rattle.hare_tree.specs.Node.{Head, Node, branch, none, more, head}
use Rattle.hare_tree.specs.Shape.{is_shaped, is_leaf, is_none_or_comma, is_own}
use Rattle.hare_types.specs.declared.coercion.Ty.{Ty}
use Rattle.hare_types.specs.declared.coercion.Ty.TheVariants as ty
use Rattle.hare_types.specs.Store.{Store}
use Rattle.hare_types.specs.ByIds.{base_at}
use Rattle.hare_types.specs.Sound.{IsStore}
use Rattle.hare_types.specs.Later.{IsLater}
use Rattle.hare_types.proofs.LaterLemmas.{types_stay}
use Rattle.hare_typed.specs.Typed.{TypedNode, Mark, marked, typed_nodes, listed_nodes}
use Rattle.hare_typed.specs.Numbers.{kind_of}
use Rattle.hare_typed.specs.Order.{kid_from_front, tree_from_front}
use Rattle.hare_rules.specs.declared.declared.DeclType.{DeclType}
use Rattle.hare_rules.specs.Context.{own_type}
use Rattle.hare_find.specs.Lengths.{is_length}
use Rattle.hare_walk.specs.Walks.{Each, IsPart}
use Rattle.rule_judge.proofs.DefinedLemmas.{within_stays, defined_stays}
use Rattle.rule_types.specs.Known.{IsKnownTy, IsBased, IsBasedTy, IsKnownBy, IsKnownPart, AreKnownParts}
use Rattle.rule_types.proofs.KnownLemmas.{known_ty_stays}
use Rattle.hare_written.specs.Nodes.{nodes_in, StandsIn}
use Rattle.hare_written.specs.Program.{AreDefsDefined}
use Rattle.hare_written.proofs.Fitting.NodeLists.{each-head}

-- ---- in later stores

some_of : {A : Type 0} (o : Option A) → IsSome o → (a : A) × (o ≡ Some a)
some_of None h = absurd cc
some_of (Some a) h = (a, refl)

module _ (s r : Store) (v : IsStore s) (l : IsLater s r) where
  based-stays : (t : ℕ) → IsBased s t → IsBased r t
  based-stays t h =
      let b = some_of (base_at s t) h.based in
      record { within = within_stays s r v l t h.within; based = subst IsSome (sym ((types_stay s r v l).base t b.0 b.1)) refl }

  based-ty-stays : (a : Ty) → IsBasedTy s a → IsBasedTy r a
  based-ty-stays (ty.Of t) h = based-stays t h
  based-ty-stays (ty.Iconst n) h = absurd h
  based-ty-stays ty.Null h = absurd h
  based-ty-stays ty.Empty h = absurd h

  by-stays : (k : Kind) (x : TypedNode) → IsKnownBy s k x → IsKnownBy r k x
  by-stays ki.TypeScalar x h = known_ty_stays s r v l (own_type x) h
  by-stays ki.TypePath x h = known_ty_stays s r v l (own_type x) h
  by-stays ki.TypePointer x h = known_ty_stays s r v l (own_type x) h
  by-stays ki.TypeNullable x h = known_ty_stays s r v l (own_type x) h
  by-stays ki.TypeSlice x h = known_ty_stays s r v l (own_type x) h
  by-stays ki.TypeError x h = known_ty_stays s r v l (own_type x) h
  by-stays ki.TypeArray x h = known_ty_stays s r v l (own_type x) h
  by-stays ki.TypeStruct x h = known_ty_stays s r v l (own_type x) h
  by-stays ki.TypeTuple x h = known_ty_stays s r v l (own_type x) h
  by-stays ki.TypeUnion x h = known_ty_stays s r v l (own_type x) h
  by-stays ki.StructField x h = known_ty_stays s r v l (own_type (kid_from_front 0 x)) h
  by-stays ki.Spread x h = based-ty-stays (own_type (kid_from_front 0 x)) h
  by-stays _ x h = tt

  pub part-stays : (x : TypedNode) → IsKnownPart s x → IsKnownPart r x
  part-stays x h = by-stays (kind_of x) x h

  pub parts-stay : (xs : List TypedNode) → AreKnownParts s xs → AreKnownParts r xs
  parts-stay [] h = tt
  parts-stay (x ∷ xs) h = (part-stays x h.0, parts-stay xs h.1)

-- the types of defs are still defined
pub defs-stay : (s r : Store) → IsStore s → IsLater s r → (ds : List DeclType) → AreDefsDefined s ds → AreDefsDefined r ds
defs-stay s r v l ds h n d e k = defined_stays s r v l d.ty (h n d e k)

pub parts-more : (s : Store) (xs : List TypedNode) (x : TypedNode) → AreKnownParts s xs → IsKnownPart s x → AreKnownParts s (xs ++ x ∷ [])
parts-more s [] x h k = (k, tt)
parts-more s (y ∷ ys) x h k = (h.0, parts-more s ys x h.1 k)

-- ---- types

-- what a written type writes is known
pub type-known : (s : Store) (k : Kind) (x : TypedNode) → is_type k ≡ true → IsKnownBy s k x → IsKnownTy s (own_type x)
type-known s ki.TypeScalar x e h = h
type-known s ki.TypePath x e h = h
type-known s ki.TypePointer x e h = h
type-known s ki.TypeNullable x e h = h
type-known s ki.TypeSlice x e h = h
type-known s ki.TypeError x e h = h
type-known s ki.TypeArray x e h = h
type-known s ki.TypeStruct x e h = h
type-known s ki.TypeTuple x e h = h
type-known s ki.TypeUnion x e h = h
type-known s _ x e h = cc

pub known-type : (s : Store) (k : Kind) (x : TypedNode) → is_type k ≡ true → IsKnownTy s (own_type x) → IsKnownBy s k x
known-type s ki.TypeScalar x e h = h
known-type s ki.TypePath x e h = h
known-type s ki.TypePointer x e h = h
known-type s ki.TypeNullable x e h = h
known-type s ki.TypeSlice x e h = h
known-type s ki.TypeError x e h = h
known-type s ki.TypeArray x e h = h
known-type s ki.TypeStruct x e h = h
known-type s ki.TypeTuple x e h = h
known-type s ki.TypeUnion x e h = h
known-type s _ x e h = cc

-- of a length nothing is asked
pub known-length : (s : Store) (k : Kind) (x : TypedNode) → is_length k ≡ true → IsKnownBy s k x
known-length s ki.Number x e = tt
known-length s ki.Path x e = tt
known-length s _ x e = cc

-- what the first kid writes, where it is a type
pub first-known : (s : Store) (xs : List TypedNode) → is_type (kind_of (tree_from_front 0 xs)) ≡ true → AreKnownParts s xs →
    IsKnownTy s (own_type (tree_from_front 0 xs))
first-known s [] e h = cc
first-known s (x ∷ xs) e h = type-known s (kind_of x) x e h.0

listed : (xs : List TypedNode) → listed_nodes (typed_nodes xs) ≡ xs
listed [] = refl
listed (x ∷ xs) = ap (λ ys. x ∷ ys) (listed xs)

-- what the field and the spread over it are
pub field-known : (s : Store) (h : Head) (m : Mark) (xs : List TypedNode) → h.kind ≡ ki.StructField →
    IsKnownTy s (own_type (tree_from_front 0 xs)) →
    IsKnownPart s (marked h m (typed_nodes xs))
field-known s h m xs e k =
    subst (λ q. IsKnownBy s q (marked h m (typed_nodes xs))) (sym e)
    (subst (λ (ys : List TypedNode). IsKnownTy s (own_type (tree_from_front 0 ys))) (sym (listed xs)) k)

pub spread-known : (s : Store) (h : Head) (m : Mark) (xs : List TypedNode) → h.kind ≡ ki.Spread →
    IsBasedTy s (own_type (tree_from_front 0 xs)) →
    IsKnownPart s (marked h m (typed_nodes xs))
spread-known s h m xs e k =
    subst (λ q. IsKnownBy s q (marked h m (typed_nodes xs))) (sym e)
    (subst (λ (ys : List TypedNode). IsBasedTy s (own_type (tree_from_front 0 ys))) (sym (listed xs)) k)

-- it stands in the store
pub first-stands : (s : Store) (xs : List TypedNode) (u : ℕ) → Each (StandsIn s) (nodes_in xs) → own_type (tree_from_front 0 xs) ≡ ty.Of u →
    u < length s.rows
first-stands s [] u h e = cc
first-stands s (x ∷ xs) u h e = each-head (StandsIn s) x xs h u e

-- ---- shapes

and-left : (a b : Bool) → (a && b) ≡ true → a ≡ true
and-left true b e = refl
and-left false b e = cc

leaf-kind : (p : Kind → Bool) (n : Node) → is_leaf p n ≡ true → p (head n).kind ≡ true
leaf-kind p (branch h none) e = and-left (p h.kind) (is_own ow.Nothing h) e
leaf-kind p (branch h (more t ts)) e = cc

no-leaf : (k : Kind) → is_none_or_comma k ≡ true → (is_type k ≡ false) × (is_length k ≡ false)
no-leaf ki.None e = (refl, refl)
no-leaf ki.TrailingComma e = (refl, refl)
no-leaf _ e = cc

-- a written type is shaped, and so is a length
pub type-shaped : (n : Node) → IsPart n → is_type (head n).kind ≡ true → (s : Sort) × (is_shaped s n ≡ true)
type-shaped n (inl q) e = q
type-shaped n (inr q) e = let d = (no-leaf (head n).kind (leaf-kind is_none_or_comma n q)).0 in cc

pub length-shaped : (n : Node) → IsPart n → is_length (head n).kind ≡ true → (s : Sort) × (is_shaped s n ≡ true)
length-shaped n (inl q) e = q
length-shaped n (inr q) e = let d = (no-leaf (head n).kind (leaf-kind is_none_or_comma n q)).1 in cc
