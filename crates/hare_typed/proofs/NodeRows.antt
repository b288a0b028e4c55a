-- Rows of what all nodes have in common, worked out in a running program.
use Rattle.std.proofs.Common.{◌≡◌, ℕ, ◌++◌, true, List, [], ◌∷◌, codes, refl}
use Rattle.std.specs.Prelude.{map}
use Rattle.hare_tree.specs.declared.kind.Kind.{Kind}
use Rattle.hare_tree.specs.declared.kind.Kind.TheVariants as kind
use Rattle.hare_tree.specs.declared.place.Place.{Place}
use Rattle.hare_tree.specs.declared.token.Meaning.{Meaning}
use Rattle.hare_tree.specs.declared.token.Meaning.TheVariants as meant
use Rattle.hare_tree.specs.declared.token.Suffix.TheVariants as suffix
use Rattle.hare_types.specs.declared.coercion.Ty.TheVariants as kept
use Rattle.hare_typed.specs.declared.cell.Cell.{Cell}
use Rattle.hare_typed.specs.declared.constant.Const.TheVariants as constant
use Rattle.hare_typed.specs.Typed.{TypedNode, marked, typed_nodes}
use Rattle.hare_typed.specs.Scalars.{Address, Pointing, Nullable, cells}
use Rattle.hare_typed.specs.Objects.{Local, Global}
use Rattle.hare_typed.specs.Words.{three}
use Rattle.hare_typed.specs.State.{State, Scope, Mode, AsValue, AsPlace, Value, Reached, Undefined, Result}
use Rattle.hare_typed.specs.World.{World}
use Rattle.hare_typed.specs.Interpreter.{evaluate}
use Rattle.hare_typed.specs.ConstantValues.{constant_forms}
use Rattle.hare_typed.proofs.Samples.{types, bytes, no_cells, void, u8, int, pointer, slice, three_ints, void_or_int, void_or_slice}

-- ---- a program that runs

-- a static object has the number that constants have for it
abbrev world : World
world =
    record { types = types; paths = codes "a.ha" ∷ []; declarations = []; bounds = []; home = λ name. name; arguments = []; runs = true }

-- local 5 is an int, 6 an array of three, and 7 an int that was not set; global 3 is an int
abbrev scope : Scope
scope = record { own = 8; first = 0; locals = (5, 0) ∷ (6, 1) ∷ (7, 2) ∷ [] }

abbrev before : State
before =
    record {
      memory = record {
        objects = record {
          made =
              record { cells = bytes (9 ∷ 0 ∷ 0 ∷ 0 ∷ []); kind = Local; align = 4; alive = true }
              ∷ record { cells = no_cells 12; kind = Local; align = 4; alive = true }
              ∷ record { cells = no_cells 4; kind = Local; align = 4; alive = true }
              ∷ record { cells = bytes (7 ∷ 0 ∷ 0 ∷ 0 ∷ []); kind = Global; align = 4; alive = true }
              ∷ [];
          named = [];
        };
        live = 0;
        taken = 0;
        stack = 0;
      };
      input = [];
      output = [];
      ticks = 100;
    }

-- a node of a kind at this column
abbrev node : (column : ℕ) → Kind → ℕ → ℕ → List TypedNode → TypedNode
node c k n t ts =
    marked record { kind = k; place = record { file = 0; line = 1; column = c }; text = []; number = n; suffix = suffix.None }
    record { node = 0; ty = kept.Of t; coerce = record { row = 1; to = kept.Of t }; meaning = meant.None; value = constant.Absent }
    (typed_nodes ts)

abbrev at_column : ℕ → Place
at_column c = record { file = 0; line = 1; column = c }

abbrev to : ℕ → ℕ → TypedNode → TypedNode
to r t (marked h m ts) = marked h (record m { coerce = record { row = r; to = kept.Of t } }) ts

abbrev path : (column : ℕ) → Meaning → ℕ → TypedNode
path c w t = meaning w (node c kind.Path 0 t [])
  where
    meaning : Meaning → TypedNode → TypedNode
    meaning w (marked h m ts) = marked h (record m { meaning = w }) ts

abbrev none : TypedNode
none = node 1 kind.None 0 void []

abbrev num : ℕ → TypedNode
num n = node 1 kind.Number n int []

abbrev result : Mode → TypedNode → Result
result mode t = evaluate (constant_forms world) 0 t mode scope before

-- ---- places that are used as values

local_is_read : (result AsValue (path 2 (meant.Local 5) int)).0 ≡ Value (bytes (9 ∷ 0 ∷ 0 ∷ 0 ∷ []))
local_is_read = refl

global_is_read : (result AsValue (path 2 (meant.Decl 3) int)).0 ≡ Value (bytes (7 ∷ 0 ∷ 0 ∷ 0 ∷ []))
global_is_read = refl

-- the path reads, so that the undefined act is its own
unset_local : (result AsValue (path 2 (meant.Local 7) int)).0 ≡ Undefined 3 (at_column 2)
unset_local = refl

-- in parentheses the reading is that of what stands in them
unset_in_parentheses : (result AsValue (node 1 kind.Paren 0 int (path 2 (meant.Local 7) int ∷ []))).0 ≡ Undefined 3 (at_column 2)
unset_in_parentheses = refl

-- an aggregate is copied as it is
unset_array : (result AsValue (path 2 (meant.Local 6) three_ints)).0 ≡ Value (no_cells 12)
unset_array = refl

read_then_coerced : (result AsValue (to 9 void_or_int (path 2 (meant.Local 5) int))).0 ≡ Value (bytes (1 ∷ 0 ∷ 0 ∷ 0 ∷ 9 ∷ 0 ∷ 0 ∷ 0 ∷ []))
read_then_coerced = refl

-- ---- places that become slices: nothing is accessed

slice_over_a_local : (result AsValue (to 7 slice (path 2 (meant.Local 6) three_ints))).0
    ≡ Value (three (record { data_at = Address 1 0; length = 3; capacity = 3 }))
slice_over_a_local = refl

slice_over_parentheses : (result AsValue (to 7 slice (node 1 kind.Paren 0 three_ints (path 2 (meant.Local 6) three_ints ∷ [])))).0
    ≡ Value (three (record { data_at = Address 1 0; length = 3; capacity = 3 }))
slice_over_parentheses = refl

slice_as_a_member : (result AsValue (to 9 void_or_slice (path 2 (meant.Local 6) three_ints))).0
    ≡ Value (bytes (5 ∷ 0 ∷ 0 ∷ 0 ∷ []) ++ no_cells 4 ++ three (record { data_at = Address 1 0; length = 3; capacity = 3 }))
slice_as_a_member = refl

-- ---- values that are used as places, or become slices

abbrev three_numbers : TypedNode
three_numbers = node 1 kind.Array 0 three_ints (num 1 ∷ num 2 ∷ num 3 ∷ none ∷ none ∷ [])

-- a new local object holds the array
slice_over_a_value : (result AsValue (to 7 slice three_numbers)).0
    ≡ Value (three (record { data_at = Address 4 0; length = 3; capacity = 3 }))
slice_over_a_value = refl

address_of_a_value : (result AsValue (node 1 kind.Addr 0 pointer (num 1 ∷ []))).0 ≡ Value (cells Nullable (Pointing (Address 4 0)))
address_of_a_value = refl

place_of_a_value : (result AsPlace (to 9 void_or_int (num 1))).0 ≡ Reached (Address 4 0)
place_of_a_value = refl

-- it has the type that the coercion gives
cells_of_that_place : map {B = List Cell} (λ o. o.cells) (result AsPlace (to 9 void_or_int (num 1))).1.memory.objects.made
    ≡ bytes (9 ∷ 0 ∷ 0 ∷ 0 ∷ []) ∷ no_cells 12 ∷ no_cells 4 ∷ bytes (7 ∷ 0 ∷ 0 ∷ 0 ∷ []) ∷ bytes (1 ∷ 0 ∷ 0 ∷ 0 ∷ 1 ∷ 0 ∷ 0 ∷ 0 ∷ []) ∷ []
cells_of_that_place = refl

place_of_a_local : (result AsPlace (path 2 (meant.Local 6) three_ints)).0 ≡ Reached (Address 1 0)
place_of_a_local = refl

place_in_parentheses : (result AsPlace (node 1 kind.Paren 0 three_ints (path 2 (meant.Local 6) three_ints ∷ []))).0 ≡ Reached (Address 1 0)
place_in_parentheses = refl

-- ---- ticks

ticks_of_a_number : (result AsValue (num 1)).1.ticks ≡ 101
ticks_of_a_number = refl

-- the union that it becomes has two members
ticks_of_a_member : (result AsValue (to 9 void_or_int (num 1))).1.ticks ≡ 103
ticks_of_a_member = refl

-- three items, the two parts that are left out, itself, and its kids
ticks_of_an_array : (result AsValue three_numbers).1.ticks ≡ 109
ticks_of_an_array = refl

ticks_of_a_place : (result AsPlace (path 2 (meant.Local 6) three_ints)).1.ticks ≡ 101
ticks_of_a_place = refl

-- a type that stands in a node has none
ticks_of_a_cast : (result AsValue (node 1 kind.Cast 0 u8 (num 1 ∷ node 1 kind.TypeScalar 0 u8 [] ∷ []))).1.ticks ≡ 102
ticks_of_a_cast = refl

types_are_not_evaluated : result AsValue (node 1 kind.TypeScalar 0 u8 []) ≡ (Value [], before)
types_are_not_evaluated = refl
