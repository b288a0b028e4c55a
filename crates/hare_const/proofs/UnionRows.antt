-- Values of unions in constants, worked out.
use Rattle.std.proofs.Common.{◌≡◌, refl, ℕ, ◌+◌, ◌^◌, List, [], ◌∷◌, ◌++◌, pos}
use Rattle.hare_tree.specs.declared.kind.Kind.{Kind}
use Rattle.hare_tree.specs.declared.kind.Kind.TheVariants as kind
use Rattle.hare_tree.specs.declared.token.Meaning.TheVariants as meant
use Rattle.hare_tree.specs.declared.token.Suffix.TheVariants as suffix
use Rattle.hare_types.specs.declared.coercion.Ty.{Ty}
use Rattle.hare_types.specs.declared.coercion.Ty.TheVariants as ty
use Rattle.hare_types.specs.declared.row.Row.TheVariants as row
use Rattle.hare_types.specs.declared.row.Scalar.TheVariants as word
use Rattle.hare_types.specs.Store.{Store}
use Rattle.hare_typed.specs.declared.cell.Cell.{Cell}
use Rattle.hare_typed.specs.declared.constant.Const.{Const}
use Rattle.hare_typed.specs.declared.constant.Const.TheVariants as constant
use Rattle.hare_typed.specs.Typed.{TypedNode, TypedNodes, marked, typed_none, typed_more}
use Rattle.hare_typed.specs.Cells.{byte_cells, undefined_cells, fragments}
use Rattle.hare_typed.specs.Folded.{tagged_by_id}
use Rattle.hare_const.specs.declared.outcome.Outcome.TheVariants.{Known}
use Rattle.hare_const.specs.NodeValues.{tree_value}
use Rattle.hare_const.specs.Made.{made_by}

-- 0 is int, 1 str, 2 void, 3 (int | str), 4 nullable *int, 5 (void | nullable *int), 6 [2]int, 7 []int, 8 (void | []int), 9 (int | str |
-- void), and
-- 10 struct { x: (int | str), y: int }
abbrev types : Store
types =
    record {
      names = (120 ∷ []) ∷ (121 ∷ []) ∷ [];
      rows =
          row.Scalar word.Int ∷ row.Scalar word.Str ∷ row.Scalar word.Void ∷ row.Union (0 ∷ 1 ∷ []) ∷ row.Nullable 0 ∷ row.Union
          (2 ∷ 4 ∷ []) ∷ row.Array 2 0
          ∷ row.Slice 0 ∷ row.Union (2 ∷ 7 ∷ []) ∷ row.Union (0 ∷ 1 ∷ 2 ∷ [])
          ∷ row.Struct (record { name = 0; ty = 3 } ∷ record { name = 1; ty = 0 } ∷ []) ∷ [];
      declared = [];
      listed = [];
    }

-- a node of this kind with this text and number, whose value goes from this type by a row to another
abbrev node : Kind → (text : List ℕ) → (number : ℕ) → Ty → (row : ℕ) → (to : Ty) → Const → TypedNodes → TypedNode
node k x n f r t v ts =
    marked (record { kind = k; place = record { file = 0; line = 1; column = 9 }; text = x; number = n; suffix = suffix.None })
    (record { node = 3; ty = f; coerce = record { row = r; to = t }; meaning = meant.None; value = v })
    ts

-- what stands behind the last item or field, where no `...` does
abbrev last : TypedNodes
last = typed_more (node kind.Void [] 0 (ty.Of 2) 1 (ty.Of 2) constant.Absent typed_none) typed_none

abbrev number : ℕ → (row to : ℕ) → TypedNode
number n r t = node kind.Number [] n (ty.Iconst (pos n)) r (ty.Of t) constant.Absent typed_none

-- `5` as a value of (int | str)
abbrev five : List Cell
five = byte_cells (1 ∷ 0 ∷ 0 ∷ 0 ∷ []) ++ undefined_cells 4 ++ byte_cells (5 ∷ 0 ∷ 0 ∷ 0 ∷ []) ++ undefined_cells 20

a_number : tree_value (tagged_by_id types) 0 (number 5 9 3) ≡ Known five
a_number = refl

-- a string leads to its object
a_string : tree_value (tagged_by_id types) 0 (node kind.Str (97 ∷ []) 0 (ty.Of 1) 9 (ty.Of 3) constant.Absent typed_none)
    ≡ Known (byte_cells (2 ∷ 0 ∷ 0 ∷ 0 ∷ []) ++ undefined_cells 4 ++ fragments (2 ^ 32 + 3) 0 0 8 ++ byte_cells
    (1 ∷ 0 ∷ 0 ∷ 0 ∷ 0 ∷ 0 ∷ 0 ∷ 0 ∷ [])
    ++ byte_cells (1 ∷ 0 ∷ 0 ∷ 0 ∷ 0 ∷ 0 ∷ 0 ∷ 0 ∷ []))
a_string = refl

-- of `void` there is the tag alone
a_void : tree_value (tagged_by_id types) 0 (node kind.Cast [] 0 (ty.Of 2) 9 (ty.Of 5) constant.Absent
    (typed_more (node kind.Void [] 0 (ty.Of 2) 1 (ty.Of 2) constant.Absent typed_none) typed_none))
    ≡ Known (byte_cells (3 ∷ 0 ∷ 0 ∷ 0 ∷ []) ++ undefined_cells 12)
a_void = refl

a_null : tree_value (tagged_by_id types) 0 (node kind.Null [] 0 ty.Null 9 (ty.Of 5) constant.Absent typed_none)
    ≡ Known (byte_cells (5 ∷ 0 ∷ 0 ∷ 0 ∷ []) ++ undefined_cells 4 ++ byte_cells (0 ∷ 0 ∷ 0 ∷ 0 ∷ 0 ∷ 0 ∷ 0 ∷ 0 ∷ []))
a_null = refl

-- an array that becomes a slice has its object also where the slice is a member
abbrev items : TypedNode
items = node kind.Array [] 0 (ty.Of 6) 9 (ty.Of 8) constant.Absent
    (typed_more (number 7 3 0) (typed_more (number 9 3 0)
    (typed_more (node kind.Void [] 0 (ty.Of 2) 1 (ty.Of 2) constant.Absent typed_none) last)))

an_array : tree_value (tagged_by_id types) 0 items
    ≡ Known (byte_cells (8 ∷ 0 ∷ 0 ∷ 0 ∷ []) ++ undefined_cells 4 ++ fragments (2 ^ 32 + 3) 0 0 8 ++ byte_cells
    (2 ∷ 0 ∷ 0 ∷ 0 ∷ 0 ∷ 0 ∷ 0 ∷ 0 ∷ [])
    ++ byte_cells (2 ∷ 0 ∷ 0 ∷ 0 ∷ 0 ∷ 0 ∷ 0 ∷ 0 ∷ []))
an_array = refl

its_object : made_by (tagged_by_id types) 0 items ≡
    record { object = 2 ^ 32 + 3; cells = byte_cells (7 ∷ 0 ∷ 0 ∷ 0 ∷ 9 ∷ 0 ∷ 0 ∷ 0 ∷ []) } ∷ []
its_object = refl

-- a value of a union keeps its member in a wider one
a_wider_union : tree_value (tagged_by_id types) 0 (node kind.Path [] 0 (ty.Of 3) 9 (ty.Of 9) (constant.Known five []) typed_none) ≡
    Known five
a_wider_union = refl

-- a field of a union stands among the others
a_field : tree_value (tagged_by_id types) 0
    (node kind.StructLit [] 0 (ty.Of 10) 1 (ty.Of 10) constant.Absent
    (typed_more (node kind.Path [] 0 (ty.Of 10) 1 (ty.Of 10) constant.Absent typed_none)
    (typed_more (node kind.FieldValue (121 ∷ []) 0 (ty.Of 0) 1 (ty.Of 0) constant.Absent (typed_more (number 6 3 0) typed_none))
    (typed_more (node kind.FieldValue (120 ∷ []) 0 (ty.Of 3) 1 (ty.Of 3) constant.Absent (typed_more (number 5 9 3) typed_none)) last))))
    ≡ Known (five ++ byte_cells (6 ∷ 0 ∷ 0 ∷ 0 ∷ []) ++ undefined_cells 4)
a_field = refl
