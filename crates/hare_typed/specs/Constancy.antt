-- Which values are constant: those whose nodes all are of constant kinds. Only a node whose evaluation would abort is no constant beside.
use Rattle.std.specs.Prelude.{ℕ, Bool, true, false, not, ◌&&◌, ◌||◌, ◌==◌, nat_eq, Option, Some, None, if◌then◌else◌}
use Rattle.hare_tree.specs.declared.kind.Kind.{Kind}
use Rattle.hare_tree.specs.declared.kind.Kind.TheVariants as kind
use Rattle.hare_tree.specs.declared.token.Meaning.{Meaning}
use Rattle.hare_tree.specs.declared.token.Meaning.TheVariants as meant
use Rattle.hare_tree.specs.Levels.{is_type}
use Rattle.hare_types.specs.declared.coercion.Ty.{Ty}
use Rattle.hare_types.specs.declared.coercion.Ty.TheVariants as ty
use Rattle.hare_types.specs.declared.row.Row.{Row}
use Rattle.hare_types.specs.declared.row.Row.TheVariants as row
use Rattle.hare_types.specs.declared.row.Scalar.TheVariants as word
use Rattle.hare_types.specs.Store.{Store}
use Rattle.hare_types.specs.ByIds.{row_at}
use Rattle.hare_typed.specs.Typed.{TypedNode, TypedNodes, Mark, marked, typed_none, typed_more}
use Rattle.hare_typed.specs.Constants.{is_known}
use Rattle.hare_typed.specs.Given.{base_row, first_given}

-- ---- paths

abbrev pub is_name_of : ℕ → Option Row → Bool
is_name_of d (Some (row.Named e)) = nat_eq d e
is_name_of d _ = false

abbrev pub is_void_row : Option Row → Bool
is_void_row (Some (row.Scalar word.Void)) = true
is_void_row _ = false

-- whether a path means the declared type that it has as its type, and whose base is void
abbrev pub names_void : Store → Meaning → Ty → Bool
names_void s (meant.Decl d) (ty.Of t) = is_name_of d (row_at s t) && is_void_row (base_row s (ty.Of t))
names_void s _ _ = false

-- whether a tree is a path to a global: of the values that are declared, no other is a place
abbrev pub is_global_path : Kind → Mark → Bool
is_global_path kind.Path m = is_declared m.meaning && not (is_known m.value)
  where
    is_declared : Meaning → Bool
    is_declared (meant.Decl d) = true
    is_declared _ = false
is_global_path _ m = false

abbrev pub begins_with_global : TypedNodes → Bool
begins_with_global (typed_more (marked h m us) ts) = is_global_path h.kind m
begins_with_global typed_none = false

-- ---- kinds

abbrev pub is_address_row : Option Row → Bool
is_address_row (Some (row.Pointer i)) = true
is_address_row (Some (row.Nullable i)) = true
is_address_row _ = false

abbrev pub is_counted_row : Option Row → Bool
is_counted_row (Some (row.Array n i)) = true
is_counted_row (Some (row.Scalar word.Str)) = true
is_counted_row _ = false

-- what has no value of its own, and only holds others or stands for a token
abbrev pub is_wrapper : Kind → Bool
is_wrapper kind.None = true
is_wrapper kind.TrailingComma = true
is_wrapper kind.Dots = true
is_wrapper kind.ByRef = true
is_wrapper kind.Message = true
is_wrapper kind.Name = true
is_wrapper kind.FieldValue = true
is_wrapper kind.Binding = true
is_wrapper kind.Values = true
is_wrapper kind.Case = true
is_wrapper kind.SwitchCase = true
is_wrapper kind.PatternLet = true
is_wrapper kind.PatternNull = true
is_wrapper _ = false

-- whether a node is of a constant kind: a path is so to a def, which has its constant, or to a type of base void
abbrev pub is_constant_kind : Store → Kind → Mark → TypedNodes → Bool
is_constant_kind s kind.Number m ts = true
is_constant_kind s kind.Str m ts = true
is_constant_kind s kind.RuneLit m ts = true
is_constant_kind s kind.Bool m ts = true
is_constant_kind s kind.Null m ts = true
is_constant_kind s kind.Void m ts = true
is_constant_kind s kind.Paren m ts = true
is_constant_kind s kind.Path m ts = is_known m.value || names_void s m.meaning m.ty
is_constant_kind s kind.Neg m ts = true
is_constant_kind s kind.Not m ts = true
is_constant_kind s kind.Bang m ts = true
is_constant_kind s kind.Arith m ts = true
is_constant_kind s kind.Shift m ts = true
is_constant_kind s kind.Less m ts = not (is_address_row (base_row s (first_given ts)))
is_constant_kind s kind.Equal m ts = not (is_address_row (base_row s (first_given ts)))
is_constant_kind s kind.Logic m ts = true
is_constant_kind s kind.Cast m ts = true
is_constant_kind s kind.Tuple m ts = true
is_constant_kind s kind.Array m ts = true
is_constant_kind s kind.StructLit m ts = true
is_constant_kind s kind.Size m ts = true
is_constant_kind s kind.Align m ts = true
is_constant_kind s kind.Offset m ts = true
is_constant_kind s kind.Len m ts = is_counted_row (base_row s (first_given ts))
is_constant_kind s kind.Addr m ts = begins_with_global ts
is_constant_kind s _ m ts = false

-- a value of type never has no constant, whatever it is coerced to
abbrev pub is_constant : Store → Kind → Mark → TypedNodes → Bool
is_constant s k m ts = is_wrapper k || (is_constant_kind s k m ts && not (m.coerce.row == 2))

-- whether what stands in a node is passed over: the kid of `offset`, which is not evaluated, and the path of the address of a global
abbrev pub hides_kids : Kind → TypedNodes → Bool
hides_kids kind.Offset ts = true
hides_kids kind.Addr ts = begins_with_global ts
hides_kids _ ts = false

-- ---- the first that is not constant

abbrev pub or_else : Option TypedNode → Option TypedNode → Option TypedNode
or_else None b = b
or_else (Some t) b = Some t

-- The first node of a value, in check order, that is not constant or whose evaluation would abort; which ones abort is said by `aborts`.
-- Types are passed over, with all that stands in them.
abbrev mutual
  pub first_inconstant : Store → (TypedNode → Bool) → TypedNode → Option TypedNode
  first_inconstant s aborts (marked h m ts) =
      if is_type h.kind then None
      else or_else (if hides_kids h.kind ts then None else first_inconstant_of s aborts ts)
      (if not (is_constant s h.kind m ts) || aborts (marked h m ts) then Some (marked h m ts) else None)

  pub first_inconstant_of : Store → (TypedNode → Bool) → TypedNodes → Option TypedNode
  first_inconstant_of s aborts typed_none = None
  first_inconstant_of s aborts (typed_more t ts) = or_else (first_inconstant s aborts t) (first_inconstant_of s aborts ts)
