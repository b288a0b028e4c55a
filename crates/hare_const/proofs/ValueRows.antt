-- The constants of a few values, and the places of those that are none, worked out by evaluation itself.
use Rattle.std.proofs.Common.{pos, ◌≡◌, refl, ℕ, List, [], ◌∷◌, ◌++◌, Some, Option}
use Rattle.std.specs.Prelude.{option_map, codes, ◌+◌, ◌*◌, ◌^◌}
use Rattle.hare_tree.specs.declared.kind.Kind.TheVariants as kind
use Rattle.hare_tree.specs.declared.token.Meaning.TheVariants as meant
use Rattle.hare_types.specs.declared.coercion.Ty.TheVariants as ty
use Rattle.hare_typed.specs.declared.cell.Cell.{Cell}
use Rattle.hare_typed.specs.declared.constant.Const.{Const}
use Rattle.hare_typed.specs.declared.constant.Const.TheVariants as constant
use Rattle.hare_typed.specs.Typed.{TypedNode, head_of}
use Rattle.hare_typed.specs.Cells.{byte_cells, fragments}
use Rattle.hare_typed.specs.Folded.{folded, inconstant}
use Rattle.hare_const.specs.Lengths.{length_of}
use Rattle.hare_const.specs.NodeValues.{cells_in}
use Rattle.hare_const.proofs.ExampleValues.{types, node, plain, number, untyped, between, left_out, thrice, path_to}

-- the cells of a value of declaration 6, and the column of the first node that is no constant
abbrev cells : TypedNode → Option (List Cell)
cells t = cells_in (folded types 6 t)

abbrev refused_at : TypedNode → Option ℕ
refused_at t = option_map (λ u. (head_of u).place.column) (inconstant types 6 t)

-- ---- cells

of_number : cells (number 1 7 0) ≡ Some (byte_cells (7 ∷ []))
of_number = refl

low_byte_first : cells (untyped 1 258 3) ≡ Some (byte_cells (2 ∷ 1 ∷ []))
low_byte_first = refl

sum_wraps : cells (between kind.Arith 2 (codes "+") 0 (number 1 255 0) (number 3 2 0)) ≡ Some (byte_cells (1 ∷ []))
sum_wraps = refl

-- by how much is shifted may be a number without a type
shifted_by_untyped : cells (between kind.Shift 2 (codes "<<") 0 (number 1 1 0)
    (node kind.Number 3 [] 11 (ty.Iconst (pos 11)) 1 (ty.Iconst (pos 11)) meant.None constant.Absent [])) ≡ Some (byte_cells (8 ∷ []))
shifted_by_untyped = refl

negative : cells (plain kind.Neg 1 (codes "-") 0 3 (number 2 2 3 ∷ [])) ≡ Some (byte_cells (254 ∷ 255 ∷ []))
negative = refl

below : cells (between kind.Less 2 (codes "<") 1 (number 1 2 0) (number 3 3 0)) ≡ Some (byte_cells (1 ∷ []))
below = refl

left_alone : cells (between kind.Logic 2 (codes "&&") 1 (plain kind.Bool 1 (codes "false") 0 1 [])
    (plain kind.Bool 3 (codes "true") 0 1 []))
    ≡ Some (byte_cells (0 ∷ []))
left_alone = refl

cut_by_a_cast : cells (plain kind.Cast 2 [] 0 0 (number 1 258 3 ∷ left_out ∷ [])) ≡ Some (byte_cells (2 ∷ []))
cut_by_a_cast = refl

last_item_again : cells (thrice 1 (number 2 9 0)) ≡ Some (byte_cells (9 ∷ 9 ∷ 9 ∷ []))
last_item_again = refl

of_a_def : cells (path_to 1 3 3 (constant.Known (byte_cells (5 ∷ 0 ∷ [])) [])) ≡ Some (byte_cells (5 ∷ 0 ∷ []))
of_a_def = refl

length_of_array : cells (plain kind.Len 1 [] 0 4 (thrice 2 (number 3 9 0) ∷ [])) ≡ Some (byte_cells (3 ∷ 0 ∷ 0 ∷ 0 ∷ 0 ∷ 0 ∷ 0 ∷ 0 ∷ []))
length_of_array = refl

-- the object of a global has the number of its declaration
of_a_global : cells (plain kind.Addr 1 [] 0 7 (path_to 2 4 0 constant.Absent ∷ [])) ≡ Some (fragments 4 0 0 8)
of_a_global = refl

null_is_zero : cells (node kind.Null 1 [] 0 ty.Null 6 (ty.Of 8) meant.None constant.Absent [])
    ≡ Some (byte_cells (0 ∷ 0 ∷ 0 ∷ 0 ∷ 0 ∷ 0 ∷ 0 ∷ 0 ∷ []))
null_is_zero = refl

-- that of a string has the number of its node in declaration 6
of_a_string : cells (plain kind.Str 5 (codes "ab") 0 2 [])
    ≡ Some (fragments (7 * 2 ^ 32 + 5) 0 0 8 ++ byte_cells (2 ∷ 0 ∷ 0 ∷ 0 ∷ 0 ∷ 0 ∷ 0 ∷ 0 ∷ []) ++ byte_cells
    (2 ∷ 0 ∷ 0 ∷ 0 ∷ 0 ∷ 0 ∷ 0 ∷ 0 ∷ []))
of_a_string = refl

-- the length of a text is among its cells
abbrev eight : ℕ → List Cell
eight n = byte_cells (n ∷ 0 ∷ 0 ∷ 0 ∷ 0 ∷ 0 ∷ 0 ∷ 0 ∷ [])

length_of_string : cells (plain kind.Len 1 [] 0 4 (plain kind.Str 5 (codes "abc") 0 2 [] ∷ [])) ≡ Some (eight 3)
length_of_string = refl

length_of_no_bytes : cells (plain kind.Len 1 [] 0 4 (plain kind.Str 5 [] 0 2 [] ∷ [])) ≡ Some (eight 0)
length_of_no_bytes = refl

-- a def of type str: four bytes of an object with room for five
abbrev text : Const
text = constant.Known (fragments (3 * 2 ^ 32 + 1) 0 0 8 ++ eight 4 ++ eight 5) []

length_of_a_text_def : cells (plain kind.Len 1 [] 0 4 (path_to 2 3 2 text ∷ [])) ≡ Some (eight 4)
length_of_a_text_def = refl

-- a def of such a length is the length of an array
counts_items : length_of types (path_to 1 3 4 (folded types 6 (plain kind.Len 1 [] 0 4 (plain kind.Str 5 (codes "abc") 0 2 [] ∷ [])))) ≡
    Some 3
counts_items = refl

-- ---- no constants

by_zero : refused_at (between kind.Arith 2 (codes "/") 0 (number 1 1 0) (number 3 0 0)) ≡ Some 2
by_zero = refl

-- a node within is told before the one round it
within_first : refused_at (between kind.Arith 4 (codes "/") 0 (between kind.Arith 2 (codes "%") 0 (number 1 1 0) (number 3 0 0))
    (number 5 0 0)) ≡ Some 2
within_first = refl

-- also where it would not run
not_run : refused_at (between kind.Logic 2 (codes "&&") 1 (plain kind.Bool 1 (codes "false") 0 1 [])
    (between kind.Less 6 (codes "<") 1 (between kind.Arith 4 (codes "/") 0 (number 3 1 0) (number 5 0 0)) (number 7 1 0))) ≡ Some 4
not_run = refl

global_itself : refused_at (plain kind.Paren 1 [] 0 0 (path_to 2 4 0 constant.Absent ∷ [])) ≡ Some 2
global_itself = refl

address_in_parentheses : refused_at (plain kind.Addr 1 [] 0 7 (plain kind.Paren 2 [] 0 0 (path_to 3 4 0 constant.Absent ∷ []) ∷ []))
    ≡ Some 3
address_in_parentheses = refl
