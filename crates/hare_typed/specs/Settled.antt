-- What the constant of a typed tree rests on, node by node: each tree that meets its rows has it.
use Rattle.std.specs.List.{All}
use Rattle.std.specs.Prelude.{◌≡◌, ◌≤◌, ◌<◌, ◌^◌, ℕ, false, true, List, [], ◌∷◌, None, IsSome}
use Rattle.hare_tree.specs.declared.kind.Kind.{Kind}
use Rattle.hare_tree.specs.declared.kind.Kind.TheVariants as kind
use Rattle.hare_types.specs.declared.coercion.Ty.{Ty}
use Rattle.hare_types.specs.declared.coercion.Ty.TheVariants as kept
use Rattle.hare_types.specs.Store.{Store}
use Rattle.hare_types.specs.Assign.{IsIn}
use Rattle.hare_types.specs.ByIds.{base_at}
use Rattle.hare_typed.specs.Typed.{TypedNode, TypedNodes, marked, typed_none, typed_more, head_of, mark_of, kids_of}
use Rattle.hare_typed.specs.Order.{kid_from_front}
use Rattle.hare_typed.specs.Constants.{own_kind}
use Rattle.hare_typed.specs.Given.{first_given, is_str}
use Rattle.hare_typed.specs.Constancy.{begins_with_global, first_inconstant_of}
use Rattle.hare_typed.specs.Weight.{items_of}
use Rattle.hare_typed.specs.Followed.{reached_type}
use Rattle.hare_typed.specs.Evaluated.{first_is_place}
use Rattle.hare_typed.specs.ConstantForms.{own_type, type_of_kid, is_iconst, int_in, part_named, counted_from, fields_from}
use Rattle.hare_typed.specs.Sizes.{Fits, HasPart}
use Rattle.hare_typed.specs.Joined.{Joins}
use Rattle.hare_typed.specs.Texts.{AreTexts}
use Rattle.hare_typed.specs.Coherent.{IsCoherent}

-- ---- nodes

-- where a type has a size, it is one that can be told
abbrev pub IsSized : Store → Ty → Type 0
IsSized s (kept.Of t) = Fits s t
IsSized s (kept.Iconst v) = Unit {0}
IsSized s kept.Null = Unit {0}
IsSized s kept.Empty = Unit {0}

-- as many bits as some integer type has
pub record IsWidth (bits : ℕ) : Type 0 where
  pub some : 1 ≤ bits
  pub few : bits ≤ 64

-- an operator on a number gives one of so many bits, and its operand has a type; or it has no type itself, and no cells
abbrev pub HasNumber : Store → TypedNode → Type 0
HasNumber s t = is_iconst (own_type t) ≡ false → IsWidth (int_in s (own_type t)).bits × (is_iconst (type_of_kid 0 t) ≡ false)

-- the same of arithmetic on two numbers; by how much is shifted may be a number without a type
abbrev pub HasNumbers : Store → TypedNode → Type 0
HasNumbers s t = HasNumber s t × (is_iconst (own_type t) ≡ false → is_iconst (type_of_kid 1 t) ≡ false)

-- the texts that an equality compares are told, unless a node of its operands is of no constant kind; and a global whose address is taken
-- is a place
abbrev pub PlainKind : Store → Kind → TypedNodes → Type 0
PlainKind s kind.Equal ts = is_str s (first_given ts) ≡ true → first_inconstant_of s (λ u. false) ts ≡ None → AreTexts s ts
PlainKind s kind.Addr ts = begins_with_global ts ≡ true → first_is_place s ts ≡ true
PlainKind s _ ts = Unit {0}

-- the same of each node of the tree
abbrev mutual
  pub IsPlain : Store → TypedNode → Type 0
  IsPlain s (marked h m ts) = PlainKind s h.kind ts × ArePlain s ts

  pub ArePlain : Store → TypedNodes → Type 0
  ArePlain s typed_none = Unit {0}
  ArePlain s (typed_more t ts) = IsPlain s t × ArePlain s ts

-- the type is a struct or tuple whose size can be told, and has these parts
abbrev pub HasParts : Store → Ty → List ℕ → Type 0
HasParts s (kept.Of f) ns = Fits s f × All (HasPart s f) ns
HasParts s (kept.Iconst v) ns = ⊥
HasParts s kept.Null ns = ⊥
HasParts s kept.Empty ns = ⊥

-- which components a tuple gives, and which fields a struct, in the order in which they are written
abbrev pub components_given : TypedNode → List ℕ
components_given t = counted_from 0 (items_of kind.Tuple (kids_of t))

abbrev pub fields_given : Store → TypedNode → List ℕ
fields_given s t = fields_from s (own_type t) 1 (items_of kind.StructLit (kids_of t)) t

-- the type in which the field stands whose offset is asked for, and which of its parts the field is
abbrev pub type_with_offset : Store → TypedNode → Ty
type_with_offset s t = reached_type s (type_of_kid 0 (kid_from_front 0 t))

abbrev pub part_with_offset : Store → TypedNode → ℕ
part_with_offset s t = part_named s (type_with_offset s t) (head_of (kid_from_front 0 t))

-- what is asked of a node, which each node that meets its rules has
abbrev pub AskedKind : Store → TypedNode → Kind → Type 0
AskedKind s t kind.Number = (head_of t).number < 2 ^ 127
AskedKind s t kind.RuneLit = (head_of t).number < 2 ^ 127
AskedKind s t kind.Neg = HasNumber s t
AskedKind s t kind.Not = HasNumber s t
AskedKind s t kind.Arith = HasNumbers s t
AskedKind s t kind.Shift = HasNumber s t
AskedKind s t kind.Size = IsSized s (type_of_kid 0 t)
AskedKind s t kind.Align = IsSized s (type_of_kid 0 t)
AskedKind s t kind.Tuple = HasParts s (own_type t) (components_given t)
AskedKind s t kind.StructLit = HasParts s (own_type t) (fields_given s t)
AskedKind s t kind.Offset = HasParts s (type_with_offset s t) (part_with_offset s t ∷ [])
AskedKind s t _ = Unit {0}

-- The texts that the tree compares are told; its types are those of the store, and of the unions to which its values go all is known of
-- which these are made.
abbrev mutual
  pub IsSimple : Store → TypedNode → Type 0
  IsSimple s (marked h m ts) =
      AskedKind s (marked h m ts) h.kind × PlainKind s h.kind ts × IsIn s m.ty × Joins s m.ty m.coerce.row m.coerce.to × AreSimple s ts

  pub AreSimple : Store → TypedNodes → Type 0
  AreSimple s typed_none = Unit {0}
  AreSimple s (typed_more t ts) = IsSimple s t × AreSimple s ts

-- ---- types

-- where it has a type, the base of this is known: each name that it comes to is defined
abbrev pub HasBase : Store → Ty → Type 0
HasBase s (kept.Of t) = IsSome (base_at s t)
HasBase s (kept.Iconst v) = Unit {0}
HasBase s kept.Null = Unit {0}
HasBase s kept.Empty = Unit {0}

-- the bases of all types in the tree are known
abbrev mutual
  pub HasBases : Store → TypedNode → Type 0
  HasBases s (marked h m ts) = HasBase s m.ty × HasBase s m.coerce.to × HaveBases s ts

  pub HaveBases : Store → TypedNodes → Type 0
  HaveBases s typed_none = Unit {0}
  HaveBases s (typed_more t ts) = HasBases s t × HaveBases s ts

-- ---- trees

-- its constant can be told, and rests on no name that is not defined yet
pub record IsSettled (s : Store) (t : TypedNode) : Type 0 where
  pub simple : IsSimple s t
  pub bases : HasBases s t

-- the same of a node, but for its kids
pub record IsSettledNode (s : Store) (t : TypedNode) : Type 0 where
  pub simple : AskedKind s t (own_kind t)
  pub plain : PlainKind s (own_kind t) (kids_of t)
  pub own : HasBase s (mark_of t).ty
  pub to : HasBase s (mark_of t).coerce.to
  pub joins : Joins s (mark_of t).ty (mark_of t).coerce.row (mark_of t).coerce.to

abbrev pub AreSettled : Store → TypedNodes → Type 0
AreSettled s typed_none = Unit {0}
AreSettled s (typed_more t ts) = IsSettled s t × AreSettled s ts

-- All is there of a value of the declaration `own` that its constant rests on, but for memory: each of its nodes tells enough, and where it
-- compares texts, these can be looked up by their numbers.
pub record IsReady (s : Store) (own : ℕ) (t : TypedNode) : Type 0 where
  pub settled : IsSettled s t
  pub coherent : IsCoherent s own t
