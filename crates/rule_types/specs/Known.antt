-- What a judge of written types relies on. Names need not be defined, but for those of which a union takes the members.
use Rattle.std.specs.Prelude.{◌≡◌, ℕ, ◌<◌, true, List, [], ◌∷◌, length, IsSome}
use Rattle.hare_tree.specs.declared.form.Sort.{Sort}
use Rattle.hare_tree.specs.declared.kind.Kind.{Kind}
use Rattle.hare_tree.specs.declared.kind.Kind.TheVariants as ki
use Rattle.hare_tree.specs.declared.token.Meaning.{Meaning}
use Rattle.hare_tree.specs.declared.token.Meaning.TheVariants as means
use Rattle.hare_tree.specs.Node.{kids_of}
use Rattle.hare_tree.specs.Shape.{is_shaped}
use Rattle.hare_types.specs.declared.coercion.Ty.{Ty}
use Rattle.hare_types.specs.declared.coercion.Ty.TheVariants as ty
use Rattle.hare_types.specs.Store.{Store, sized_of}
use Rattle.hare_types.specs.ByIds.{sized_at, base_at}
use Rattle.hare_typed.specs.Typed.{TypedNode, typed_nodes}
use Rattle.hare_typed.specs.Erased.{erase_each}
use Rattle.hare_typed.specs.Numbers.{kind_of}
use Rattle.hare_typed.specs.Order.{tree_from_front, kid_from_front}
use Rattle.hare_rules.specs.Context.{own_type}
use Rattle.rule_judge.specs.Defined.{IsDefinedTy, IsDefinedName, AreDefinedTrees}
use Rattle.rule_types.specs.declared.written.Written.{Written}
use Rattle.rule_types.specs.Contexts.{kind_in}

-- The type is in the store, and whether it has a size is known.
pub record IsKnown (s : Store) (t : ℕ) : Type 0 where
  pub within : t < length s.rows
  pub sized : IsSome (sized_at s t)

-- so it is of what a written type writes
abbrev pub IsKnownTy : Store → Ty → Type 0
IsKnownTy s (ty.Of t) = IsKnown s t
IsKnownTy s (ty.Iconst v) = ⊥
IsKnownTy s ty.Null = ⊥
IsKnownTy s ty.Empty = ⊥

-- the type is in the store, and its base is known
pub record IsBased (s : Store) (t : ℕ) : Type 0 where
  pub within : t < length s.rows
  pub based : IsSome (base_at s t)

abbrev pub IsBasedTy : Store → Ty → Type 0
IsBasedTy s (ty.Of t) = IsBased s t
IsBasedTy s (ty.Iconst v) = ⊥
IsBasedTy s ty.Null = ⊥
IsBasedTy s ty.Empty = ⊥

-- ---- what stands in a written type

-- a written type, one behind the name of a field, and one that is spread
abbrev pub IsKnownBy : Store → Kind → TypedNode → Type 0
IsKnownBy s ki.TypeScalar x = IsKnownTy s (own_type x)
IsKnownBy s ki.TypePath x = IsKnownTy s (own_type x)
IsKnownBy s ki.TypePointer x = IsKnownTy s (own_type x)
IsKnownBy s ki.TypeNullable x = IsKnownTy s (own_type x)
IsKnownBy s ki.TypeSlice x = IsKnownTy s (own_type x)
IsKnownBy s ki.TypeError x = IsKnownTy s (own_type x)
IsKnownBy s ki.TypeArray x = IsKnownTy s (own_type x)
IsKnownBy s ki.TypeStruct x = IsKnownTy s (own_type x)
IsKnownBy s ki.TypeTuple x = IsKnownTy s (own_type x)
IsKnownBy s ki.TypeUnion x = IsKnownTy s (own_type x)
IsKnownBy s ki.StructField x = IsKnownTy s (own_type (kid_from_front 0 x))
IsKnownBy s ki.Spread x = IsBasedTy s (own_type (kid_from_front 0 x))
IsKnownBy s _ x = Unit {0}

abbrev pub IsKnownPart : Store → TypedNode → Type 0
IsKnownPart s x = IsKnownBy s (kind_of x) x

-- so it is of each
abbrev pub AreKnownParts : Store → List TypedNode → Type 0
AreKnownParts s [] = Unit {0}
AreKnownParts s (x ∷ xs) = IsKnownPart s x × AreKnownParts s xs

-- The path means a declaration, of which it is known whether its values have a size.
abbrev pub IsTypeMeant : Store → Meaning → Type 0
IsTypeMeant s (means.Decl n) = IsSome (sized_of s n)
IsTypeMeant s (means.Local n) = ⊥
IsTypeMeant s (means.Rt n) = ⊥
IsTypeMeant s means.None = ⊥

-- The node is a shaped type with these kids, which have been judged. What its parts write is known, and so is what a path means; and the
-- type of a length mentions no name that is not defined.
pub record IsToldType (s : Store) (t : Written) : Type 0 where
  pub shaped : (sort : Sort) × (is_shaped sort t.node.now ≡ true)
  pub kids : erase_each (typed_nodes t.kids.now) ≡ kids_of t.node.now
  pub parts : AreKnownParts s t.kids.now
  pub meant : kind_in t ≡ ki.TypePath → IsTypeMeant s t.meaning
  pub length : kind_in t ≡ ki.TypeArray → IsDefinedTy s (own_type (tree_from_front 0 t.kids.now))

-- ---- where each name is defined

-- the declaration that the path means is
abbrev pub IsDefinedMeaning : Store → Meaning → Type 0
IsDefinedMeaning s (means.Decl n) = IsDefinedName s n
IsDefinedMeaning s (means.Local n) = Unit {0}
IsDefinedMeaning s (means.Rt n) = Unit {0}
IsDefinedMeaning s means.None = Unit {0}

-- no type that stands in the node mentions a name that is not defined
pub record IsDefinedWritten (s : Store) (t : Written) : Type 0 where
  pub kids : AreDefinedTrees s (typed_nodes t.kids.now)
  pub meant : IsDefinedMeaning s t.meaning
