-- What stands in a shaped written type: what its parts write is known.
use Rattle.std.proofs.Common.{◌≡◌, ℕ, Bool, true, false, ◌&&◌, List, [], ◌∷◌, refl, ap, sym, ◌∙◌, subst}
use Rattle.hare_tree.specs.declared.kind.Kind.{Kind}
use Rattle.hare_tree.specs.declared.kind.Kind.TheVariants as ki
use Rattle.hare_tree.specs.declared.form.Sort.{Sort}
use Rattle.hare_tree.specs.declared.form.Sort.TheVariants as so
use Rattle.hare_tree.specs.declared.form.Sign.TheVariants as si
use Rattle.hare_tree.specs.declared.form.Piece.TheVariants as pi
use Rattle.hare_tree.specs.Node.{Head, Node, Nodes, branch, head, kids_of}
use Rattle.hare_tree.specs.Forms.{form_of}
use Rattle.hare_tree.specs.Levels.{level, admits, is_type, is_bare_type}
use Rattle.hare_tree.specs.Shape.{is_shaped, are_kids, kid_pieces, is_own, own_of, scalars}
use Rattle.hare_tree.specs.Words.{is_listed}
use Rattle.hare_tree.proofs.TreeKids.ShapedKids.{shaped_admits}
use Rattle.hare_types.specs.Store.{Store}
use Rattle.hare_typed.specs.Typed.{TypedNode, marked, typed_nodes}
use Rattle.hare_typed.specs.Erased.{erase, erase_each}
use Rattle.hare_typed.specs.Numbers.{kind_of}
use Rattle.hare_typed.specs.Order.{tree_from_front}
use Rattle.hare_rules.specs.Context.{own_type}
use Rattle.hare_rules.specs.Aggregates.{but_last}
use Rattle.hare_rules.specs.Written.{part_type_by, is_spread_kind}
use Rattle.rule_types.specs.Known.{IsKnownTy, IsKnownBy, IsKnownPart, AreKnownParts}
use Rattle.rule_types.specs.Parts.{EachKnown, ArePartsKnown}
use Rattle.rule_types.specs.Members.{IsMemberKnown, IsMemberKnownBy, AreMembersKnown}

and_left : (a b : Bool) → (a && b) ≡ true → a ≡ true
and_left true b e = refl
and_left false b e = absurd cc

and_right : (a b : Bool) → (a && b) ≡ true → b ≡ true
and_right true b e = e
and_right false b e = absurd cc

-- ---- a shaped node

shaped_own : (s : Sort) (h : Head) (ts : Nodes) → is_shaped s (branch h ts) ≡ true → is_own (own_of (form_of h.kind)) h ≡ true
unfolding is_shaped
shaped_own s h ts e = and_right _ _ (and_left _ _ (and_left _ _ (and_left _ _ e)))

shaped_kids : (s : Sort) (h : Head) (ts : Nodes) → is_shaped s (branch h ts) ≡ true →
    are_kids (level h.kind h.text) (kid_pieces (form_of h.kind)) ts ≡ true
unfolding is_shaped
shaped_kids s h ts e = and_right _ _ (and_left _ _ (and_left _ _ e))

-- a word that is a type
pub word_listed : (s : Sort) (n : Node) → is_shaped s n ≡ true → (head n).kind ≡ ki.TypeScalar → is_listed scalars (head n).text ≡ true
word_listed s (branch h ts) e k = and_left _ _ (sym (ap (λ x. is_own (own_of (form_of x)) h) k) ∙ shaped_own s h ts e)

-- ---- parts by their kinds

-- a written type is known
known_type : (s : Store) (k : Kind) (x : TypedNode) → is_type k ≡ true → IsKnownBy s k x → IsKnownTy s (own_type x)
known_type s ki.TypeScalar x e h = h
known_type s ki.TypePath x e h = h
known_type s ki.TypePointer x e h = h
known_type s ki.TypeNullable x e h = h
known_type s ki.TypeSlice x e h = h
known_type s ki.TypeError x e h = h
known_type s ki.TypeArray x e h = h
known_type s ki.TypeStruct x e h = h
known_type s ki.TypeTuple x e h = h
known_type s ki.TypeUnion x e h = h
known_type s _ x e h = absurd cc

-- so is a component
known_component : (s : Store) (k : Kind) (x : TypedNode) → is_type k ≡ true → IsKnownBy s k x → IsKnownTy s (part_type_by k x)
known_component s ki.TypeScalar x e h = h
known_component s ki.TypePath x e h = h
known_component s ki.TypePointer x e h = h
known_component s ki.TypeNullable x e h = h
known_component s ki.TypeSlice x e h = h
known_component s ki.TypeError x e h = h
known_component s ki.TypeArray x e h = h
known_component s ki.TypeStruct x e h = h
known_component s ki.TypeTuple x e h = h
known_component s ki.TypeUnion x e h = h
known_component s _ x e h = absurd cc

known_field : (s : Store) (k : Kind) (x : TypedNode) (text : List ℕ) → admits so.StructField k text ≡ true → IsKnownBy s k x →
    IsKnownTy s (part_type_by k x)
known_field s ki.StructField x text e h = h
known_field s _ x text e h = absurd cc

known_member : (s : Store) (k : Kind) (x : TypedNode) (text : List ℕ) → admits so.Member k text ≡ true → IsKnownBy s k x →
    IsMemberKnownBy s (is_spread_kind k) x
known_member s ki.Spread x text e h = h
known_member s ki.TypeScalar x text e h = h
known_member s ki.TypePath x text e h = h
known_member s ki.TypePointer x text e h = h
known_member s ki.TypeNullable x text e h = h
known_member s ki.TypeSlice x text e h = h
known_member s ki.TypeError x text e h = h
known_member s ki.TypeArray x text e h = h
known_member s ki.TypeStruct x text e h = h
known_member s ki.TypeTuple x text e h = h
known_member s ki.TypeUnion x text e h = h
known_member s _ x text e h = absurd cc

-- ---- parts by their shapes

type_shaped : (s : Store) (x : TypedNode) → is_shaped so.Type (erase x) ≡ true → IsKnownPart s x → IsKnownTy s (own_type x)
type_shaped s (marked h m ts) e k = known_type s h.kind (marked h m ts) (shaped_admits so.Type h (erase_each ts) e) k

bare_shaped : (s : Store) (x : TypedNode) → is_shaped so.BareType (erase x) ≡ true → IsKnownPart s x → IsKnownTy s (own_type x)
bare_shaped s (marked h m ts) e k = known_type s h.kind (marked h m ts) (bare_type h.kind (shaped_admits so.BareType h (erase_each ts) e)) k
  where
    bare_type : (k : Kind) → is_bare_type k ≡ true → is_type k ≡ true
    bare_type ki.TypeError e = refl
    bare_type _ e = e

component_shaped : (s : Store) (x : TypedNode) → is_shaped so.Type (erase x) ≡ true → IsKnownPart s x →
    IsKnownTy s (part_type_by (kind_of x) x)
component_shaped s (marked h m ts) e k = known_component s h.kind (marked h m ts) (shaped_admits so.Type h (erase_each ts) e) k

field_shaped : (s : Store) (x : TypedNode) → is_shaped so.StructField (erase x) ≡ true → IsKnownPart s x →
    IsKnownTy s (part_type_by (kind_of x) x)
field_shaped s (marked h m ts) e k = known_field s h.kind (marked h m ts) h.text (shaped_admits so.StructField h (erase_each ts) e) k

member_shaped : (s : Store) (x : TypedNode) → is_shaped so.Member (erase x) ≡ true → IsKnownPart s x → IsMemberKnown s x
member_shaped s (marked h m ts) e k = known_member s h.kind (marked h m ts) h.text (shaped_admits so.Member h (erase_each ts) e) k

-- ---- lists of parts

one_type : (s : Store) (n : ℕ) (xs : List TypedNode) → are_kids n (pi.Kid so.Type ∷ []) (erase_each (typed_nodes xs)) ≡ true →
    AreKnownParts s xs → IsKnownTy s (own_type (tree_from_front 0 xs))
unfolding is_shaped
one_type s n [] e k = absurd cc
one_type s n (x ∷ xs) e k = type_shaped s x (and_left _ _ e) k.0

one_bare : (s : Store) (n : ℕ) (xs : List TypedNode) → are_kids n (pi.Kid so.BareType ∷ []) (erase_each (typed_nodes xs)) ≡ true →
    AreKnownParts s xs → IsKnownTy s (own_type (tree_from_front 0 xs))
unfolding is_shaped
one_bare s n [] e k = absurd cc
one_bare s n (x ∷ xs) e k = bare_shaped s x (and_left _ _ e) k.0

second_type : (s : Store) (n : ℕ) (xs : List TypedNode) →
    are_kids n (pi.Kid so.Length ∷ pi.Kid so.Type ∷ []) (erase_each (typed_nodes xs)) ≡ true → AreKnownParts s xs
    → IsKnownTy s (own_type (tree_from_front 1 xs))
unfolding is_shaped
second_type s n [] e k = absurd cc
second_type s n (x ∷ []) e k = let f : false ≡ true = and_right _ _ e in absurd cc
second_type s n (x ∷ y ∷ ys) e k = type_shaped s y (and_left _ _ (and_right _ _ e)) k.1.0

more_fields : (s : Store) (n : ℕ) (xs : List TypedNode) → are_kids n (pi.More so.StructField ∷ []) (erase_each (typed_nodes xs)) ≡ true →
    AreKnownParts s xs → EachKnown s (but_last xs)
unfolding is_shaped
more_fields s n [] e k = tt
more_fields s n (x ∷ []) e k = tt
more_fields s n (x ∷ y ∷ ys) e k = (field_shaped s x (and_left _ _ e) k.0, more_fields s n (y ∷ ys) (and_right _ _ e) k.1)

more_types : (s : Store) (n : ℕ) (xs : List TypedNode) → are_kids n (pi.More so.Type ∷ []) (erase_each (typed_nodes xs)) ≡ true →
    AreKnownParts s xs → EachKnown s (but_last xs)
unfolding is_shaped
more_types s n [] e k = tt
more_types s n (x ∷ []) e k = tt
more_types s n (x ∷ y ∷ ys) e k = (component_shaped s x (and_left _ _ e) k.0, more_types s n (y ∷ ys) (and_right _ _ e) k.1)

fields_known : (s : Store) (n : ℕ) (xs : List TypedNode) →
    are_kids n (pi.Kid so.StructField ∷ pi.More so.StructField ∷ []) (erase_each (typed_nodes xs)) ≡ true → AreKnownParts s xs
    → ArePartsKnown s xs
unfolding is_shaped
fields_known s n [] e k = tt
fields_known s n (x ∷ []) e k = tt
fields_known s n (x ∷ y ∷ ys) e k = (field_shaped s x (and_left _ _ e) k.0, more_fields s n (y ∷ ys) (and_right _ _ e) k.1)

components_known : (s : Store) (n : ℕ) (xs : List TypedNode) →
    are_kids n (pi.Kid so.Type ∷ pi.Kid so.Type ∷ pi.More so.Type ∷ []) (erase_each (typed_nodes xs)) ≡ true
    → AreKnownParts s xs → ArePartsKnown s xs
unfolding is_shaped
components_known s n [] e k = tt
components_known s n (x ∷ []) e k = tt
components_known s n (x ∷ y ∷ []) e k = (component_shaped s x (and_left _ _ e) k.0, tt)
components_known s n (x ∷ y ∷ z ∷ zs) e k = (
  component_shaped s x (and_left _ _ e) k.0,
  (component_shaped s y (and_left _ _ (and_right _ _ e)) k.1.0, more_types s n (z ∷ zs) (and_right _ _ (and_right _ _ e)) k.1.1),
)

more_members : (s : Store) (n : ℕ) (xs : List TypedNode) →
    are_kids n (pi.EachLed si.Bar so.Member ∷ []) (erase_each (typed_nodes xs)) ≡ true → AreKnownParts s xs → AreMembersKnown s xs
unfolding is_shaped
more_members s n [] e k = tt
more_members s n (x ∷ xs) e k = (member_shaped s x (and_left _ _ e) k.0, more_members s n xs (and_right _ _ e) k.1)

members_known : (s : Store) (n : ℕ) (xs : List TypedNode) →
    are_kids n (pi.Kid so.Member ∷ pi.Kid so.Member ∷ pi.EachLed si.Bar so.Member ∷ []) (erase_each (typed_nodes xs)) ≡ true
    → AreKnownParts s xs → AreMembersKnown s xs
unfolding is_shaped
members_known s n [] e k = tt
members_known s n (x ∷ []) e k = let f : false ≡ true = and_right _ _ e in absurd cc
members_known s n (x ∷ y ∷ ys) e k = (
  member_shaped s x (and_left _ _ e) k.0,
  (member_shaped s y (and_left _ _ (and_right _ _ e)) k.1.0, more_members s n ys (and_right _ _ (and_right _ _ e)) k.1.1),
)

-- ---- a node by its kind

module _ (s : Store) (so : Sort) (n : Node) (xs : List TypedNode) (e : is_shaped so n ≡ true) (k : erase_each (typed_nodes xs) ≡ kids_of n)
    (p : AreKnownParts s xs) where
  kids_at : (m : Node) → n ≡ m → (j : Kind) → (head n).kind ≡ j → (l : ℕ) ×
      (are_kids l (kid_pieces (form_of j)) (erase_each (typed_nodes xs)) ≡ true)
  kids_at (branch h ts) f j g =
      let w : is_shaped so (branch h ts) ≡ true = subst (λ (m : Node). is_shaped so m ≡ true) f e in
      let here : h.kind ≡ j = sym (ap (λ (m : Node). (head m).kind) f) ∙ g in
      let there : erase_each (typed_nodes xs) ≡ ts = k ∙ ap kids_of f in (
        level h.kind h.text,
        subst (λ (us : Nodes). are_kids (level h.kind h.text) (kid_pieces (form_of j)) us ≡ true) (sym there)
            (subst (λ (i : Kind). are_kids (level h.kind h.text) (kid_pieces (form_of i)) ts ≡ true) here (shaped_kids so h ts w)),
      )

  pub pointer_known : (head n).kind ≡ ki.TypePointer → IsKnownTy s (own_type (tree_from_front 0 xs))
  pointer_known g = let a = kids_at n refl ki.TypePointer g in one_type s a.0 xs a.1 p

  pub nullable_known : (head n).kind ≡ ki.TypeNullable → IsKnownTy s (own_type (tree_from_front 0 xs))
  nullable_known g = let a = kids_at n refl ki.TypeNullable g in one_type s a.0 xs a.1 p

  pub slice_known : (head n).kind ≡ ki.TypeSlice → IsKnownTy s (own_type (tree_from_front 0 xs))
  slice_known g = let a = kids_at n refl ki.TypeSlice g in one_type s a.0 xs a.1 p

  pub error_known : (head n).kind ≡ ki.TypeError → IsKnownTy s (own_type (tree_from_front 0 xs))
  error_known g = let a = kids_at n refl ki.TypeError g in one_bare s a.0 xs a.1 p

  pub array_known : (head n).kind ≡ ki.TypeArray → IsKnownTy s (own_type (tree_from_front 1 xs))
  array_known g = let a = kids_at n refl ki.TypeArray g in second_type s a.0 xs a.1 p

  pub struct_known : (head n).kind ≡ ki.TypeStruct → ArePartsKnown s xs
  struct_known g = let a = kids_at n refl ki.TypeStruct g in fields_known s a.0 xs a.1 p

  pub tuple_known : (head n).kind ≡ ki.TypeTuple → ArePartsKnown s xs
  tuple_known g = let a = kids_at n refl ki.TypeTuple g in components_known s a.0 xs a.1 p

  pub union_known : (head n).kind ≡ ki.TypeUnion → AreMembersKnown s xs
  union_known g = let a = kids_at n refl ki.TypeUnion g in members_known s a.0 xs a.1 p
