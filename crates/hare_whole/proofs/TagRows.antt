-- Lists of tags, worked out by hand over a store of a few types.
use Rattle.std.proofs.Common.{◌≡◌, ℕ, List, [], ◌∷◌, refl}
use Rattle.hare_tree.specs.declared.kind.Kind.{Kind}
use Rattle.hare_tree.specs.declared.kind.Kind.TheVariants as ki
use Rattle.hare_tree.specs.declared.place.Place.{Place}
use Rattle.hare_tree.specs.declared.token.Meaning.TheVariants as me
use Rattle.hare_tree.specs.declared.token.Suffix.TheVariants as suffix
use Rattle.hare_types.specs.declared.coercion.Ty.TheVariants as ty
use Rattle.hare_types.specs.declared.row.Row.TheVariants as row
use Rattle.hare_types.specs.declared.row.Scalar.TheVariants as keyword
use Rattle.hare_types.specs.Store.{Store}
use Rattle.hare_typed.specs.declared.constant.Const.TheVariants as constant
use Rattle.hare_typed.specs.Typed.{TypedNode, marked, typed_nodes}
use Rattle.hare_rules.specs.Words.{nomem}
use Rattle.hare_whole.specs.Tags.{tag_list, once, allocation_listed}

-- void, i8, u8, str, never, (i8 | u8), *(i8 | u8), (str | *(i8 | u8)), `rt::nomem`, *i8, (nomem | *i8), (void | nomem)
abbrev types : Store
types =
    record {
      names = [];
      rows =
          row.Scalar keyword.Void ∷ row.Scalar keyword.I8 ∷ row.Scalar keyword.U8 ∷ row.Scalar keyword.Str ∷ row.Scalar keyword.Never
          ∷ row.Union (1 ∷ 2 ∷ []) ∷ row.Pointer 5 ∷ row.Union (3 ∷ 6 ∷ []) ∷ row.Named nomem ∷ row.Pointer 1 ∷ row.Union (8 ∷ 9 ∷ [])
          ∷ row.Union (0 ∷ 8 ∷ []) ∷ [];
      declared = [];
      listed = [];
    }

abbrev pub at : Place
at = record { file = 0; line = 1; column = 1 }

abbrev pub tree : Kind → ℕ → List TypedNode → TypedNode
tree k t ts =
    marked (record { kind = k; place = at; text = []; number = 0; suffix = suffix.None })
    (record { node = 0; ty = ty.Of t; coerce = record { row = 1; to = ty.Of t }; meaning = me.None; value = constant.Absent })
    (typed_nodes ts)

abbrev absent : TypedNode
absent = tree ki.None 0 []

abbrev type_decl : TypedNode → TypedNode
type_decl t = tree ki.TypeDecl 0 (absent ∷ absent ∷ t ∷ [])

abbrev function : List TypedNode → TypedNode
function ts = tree ki.Fn 0 (absent ∷ absent ∷ tree ki.Params 0 [] ∷ tree ki.TypeScalar 0 [] ∷ tree ki.Block 0 ts ∷ [])

abbrev i8 : TypedNode
i8 = tree ki.TypeScalar 1 []

abbrev u8 : TypedNode
u8 = tree ki.TypeScalar 2 []

abbrev str : TypedNode
str = tree ki.TypeScalar 3 []

abbrev never : TypedNode
never = tree ki.TypeScalar 4 []

-- `(*(i8 | u8) | str)`: the pointer, then what stands in it, then str
abbrev nested : TypedNode
nested = tree ki.TypeUnion 7 (tree ki.TypePointer 6 (tree ki.TypeUnion 5 (i8 ∷ u8 ∷ []) ∷ []) ∷ str ∷ [])

nested_tags : tag_list types (type_decl nested ∷ []) ≡ 6 ∷ 1 ∷ 2 ∷ 3 ∷ []
nested_tags = refl

-- `((i8 | u8) | str)`: a union in parentheses lists its own members; never lists nothing, and no type is listed twice
inner_tags : tag_list types (type_decl (tree ki.TypeUnion 7 (tree ki.TypeUnion 5 (i8 ∷ u8 ∷ []) ∷ never ∷ str ∷ i8 ∷ [])) ∷ []) ≡
    1 ∷ 2 ∷ 3 ∷ []
inner_tags = refl

-- `(...p | str)`: a spread lists nothing
spread_tags : tag_list types (type_decl (tree ki.TypeUnion 7 (tree ki.Spread 0 (tree ki.TypePath 5 [] ∷ []) ∷ str ∷ [])) ∷ []) ≡ 3 ∷ []
spread_tags = refl

-- of an allocation the other member, and then `rt::nomem`, whichever has the lower id
alloc_listed : allocation_listed types (ty.Of 10) ≡ 9 ∷ 8 ∷ []
alloc_listed = refl

append_listed : allocation_listed types (ty.Of 11) ≡ 0 ∷ 8 ∷ []
append_listed = refl

-- those of two allocations stand behind all written members, also those of later declarations
two_allocations :
    tag_list types (function (tree ki.Append 11 [] ∷ tree ki.Alloc 10 [] ∷ []) ∷ type_decl nested ∷ []) ≡ 6 ∷ 1 ∷ 2 ∷ 3 ∷ 0 ∷ 8 ∷ 9 ∷ []
two_allocations = refl

each_once : once (3 ∷ 1 ∷ 3 ∷ 2 ∷ 1 ∷ []) ≡ 3 ∷ 1 ∷ 2 ∷ []
each_once = refl
