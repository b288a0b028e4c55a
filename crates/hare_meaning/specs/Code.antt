-- The code that is evaluated: what a program is to evaluation. A program and its unwound bodies are both such, so that one evaluation
-- serves both.
use Rattle.std.specs.Prelude.{ℕ, ◌+◌, ◌*◌, ◌^◌, ◌==◌, Bool, true, false, List, [], ◌∷◌, ◌++◌, map, length, position, nat_eq, flat_map, Option, Some, None, unwrap_or, if◌then◌else◌}
use Rattle.std.specs.List.{enumerate_from}
use Rattle.std.specs.Map.{lookup}
use Rattle.hare_tree.specs.declared.kind.Kind.{Kind}
use Rattle.hare_tree.specs.declared.kind.Kind.TheVariants as kind
use Rattle.hare_types.specs.Store.{Store}
use Rattle.hare_types.specs.ByIds.{align_at}
use Rattle.hare_typed.specs.declared.cell.Cell.{Cell}
use Rattle.hare_typed.specs.declared.constant.Const.{Const}
use Rattle.hare_typed.specs.declared.constant.Const.TheVariants as constant
use Rattle.hare_typed.specs.Typed.{TypedNode, head_of, mark_of}
use Rattle.hare_typed.specs.Order.{kid_from_end, tree_from_front}
use Rattle.hare_typed.specs.Numbers.{kind_of, numbered}
use Rattle.hare_typed.specs.Given.{given, size_in}
use Rattle.hare_typed.specs.Shapes.{align_in}
use Rattle.hare_typed.specs.Cells.{byte_cells, undefined_cells}
use Rattle.hare_typed.specs.Objects.{Object, ObjectKind, Global, Constant}
use Rattle.hare_typed.specs.Coercions.{sliced_element}
use Rattle.hare_typed.specs.Evaluated.{is_place, makes_slice}
use Rattle.hare_typed.specs.ConstantValues.{listed_objects, constant_result}
use Rattle.hare_typed.specs.Folded.{folded_from}
use Rattle.hare_typed.specs.World.{World, homed_cell}

pub record Code : Type 0 where
  pub types : Store
  pub paths : List (List ℕ)  -- of the files, as they were given
  pub declarations : List TypedNode  -- by their numbers; a function's kids are its parameters, its result and its body, among others
  pub bounds : List ℕ  -- what a call of each counts on the stack measure: the frame bound of the function of which it was made
  pub entry : ℕ  -- the declaration with which a run begins
  pub statics : List (ℕ × Object)  -- the objects that stand from the start, each with the number that constants have for it

-- the declaration with this number
abbrev pub declaration : List TypedNode → ℕ → TypedNode
declaration ds n = tree_from_front n ds

-- ---- objects from the start

-- which object has this number in constants: they stand in their order, before all others
abbrev pub home_in : List (ℕ × Object) → ℕ → ℕ
home_in ss name = unwrap_or (position (λ s. s.0 == name) ss) 0

-- the world in which a run goes on: the arguments stand behind the static objects
abbrev pub counted : ℕ → ℕ → List ℕ
counted from ℕ.zero = []
counted from (ℕ.suc n) = from ∷ counted (from + 1) n

abbrev pub world_of : Code → (arguments : ℕ) → World
world_of c n =
    record {
      types = c.types;
      paths = c.paths;
      declarations = c.declarations;
      bounds = c.bounds;
      home = home_in c.statics;
      arguments = counted (length c.statics) n;
      runs = true;
    }

-- ---- the static objects of a program

-- the value of a def or of a global is its last kid
abbrev pub value_of : TypedNode → TypedNode
value_of d = kid_from_end 0 d

abbrev pub cells_of_constant : Const → List Cell
cells_of_constant constant.Absent = []
cells_of_constant (constant.Known cs os) = cs

abbrev pub objects_of_constant : Const → List (ℕ × Object)
objects_of_constant constant.Absent = []
objects_of_constant (constant.Known cs os) = listed_objects os

-- The constant of a global, a declaration with its number: what its value comes to with the tags of the finished program. The one that its
-- tree carries has the tags by id.
abbrev pub constant_of : Store → ℕ × TypedNode → Const
constant_of s d = folded_from (constant_result s d.0 (value_of d.1))

-- an object of a global: the cells of its constant
abbrev pub global_object : Store → ObjectKind → ℕ × TypedNode → Object
global_object s k d = record {
  cells = cells_of_constant (constant_of s d);
  kind = k;
  align = align_in s (given (value_of d.1));
  alive =
      true;
}

abbrev pub global_with : Store → ℕ × TypedNode → Kind → List (ℕ × Object)
global_with s d kind.GlobalLet = (d.0, global_object s Global d) ∷ []
global_with s d kind.GlobalConst = (d.0, global_object s Constant d) ∷ []
global_with s d _ = []

-- the object of a global has the number of its declaration
abbrev pub globals : Store → List TypedNode → List (ℕ × Object)
globals s ds = flat_map (λ d. global_with s d (kind_of d.1)) (enumerate_from 0 ds)

-- the number that constants have for the object of a node of a declaration
abbrev pub number_of_static : ℕ → TypedNode → ℕ
number_of_static d t = (d + 1) * 2 ^ 32 + (mark_of t).node

-- a string is a constant object of its bytes
abbrev pub text_object : TypedNode → Object
text_object t = record { cells = byte_cells (head_of t).text; kind = Constant; align = 1; alive = true }

-- The array of a global's value that becomes a slice may be stored to, also where the global may not. It is aligned as its elements are,
-- also where it is empty, and its cells are those that the global's constant leads to.
abbrev pub array_over : Store → TypedNode → List Cell → Object
array_over s t cs =
    record {
      cells = cs;
      kind = Global;
      align = align_at s (unwrap_or (sliced_element s (mark_of t).ty (mark_of t).coerce) 0);
      alive = true;
    }

abbrev pub array_with : Store → TypedNode → Option Object → Object
array_with s t None = array_over s t (undefined_cells (size_in s (mark_of t).ty))
array_with s t (Some o) = array_over s t o.cells

abbrev pub is_global : Kind → Bool
is_global kind.GlobalLet = true
is_global kind.GlobalConst = true
is_global _ = false

-- an array that is no place and becomes a slice, in the value of a global
abbrev pub is_static_array : Store → TypedNode → TypedNode → Bool
is_static_array s d t = if is_global (kind_of d) then (if is_place s t then false else makes_slice s t) else false

abbrev pub static_of : Store → ℕ × TypedNode → TypedNode → Kind → List (ℕ × Object)
static_of s d t kind.Str = (number_of_static d.0 t, text_object t) ∷ []
static_of s d t _ =
    if is_static_array s d.1 t
    then (
      number_of_static d.0 t,
      array_with s t (lookup (nat_eq (number_of_static d.0 t)) (objects_of_constant (constant_of s d))),
    ) ∷ []
    else []

-- by declaration and node, one for each string of any body or value, and one for each such array
abbrev pub literals : Store → List TypedNode → List (ℕ × Object)
literals s ds = flat_map (λ d. flat_map (λ t. static_of s d t (kind_of t)) (numbered d.1)) (enumerate_from 0 ds)

-- with the objects of the run in place of those that constants name
abbrev pub homed_object : (ℕ → ℕ) → Object → Object
homed_object home o = record o { cells = map (homed_cell home) o.cells }

abbrev pub homed_statics : List (ℕ × Object) → List (ℕ × Object)
homed_statics ss = map (λ s. (s.0, homed_object (home_in ss) s.1)) ss

abbrev pub statics_of : Store → List TypedNode → List (ℕ × Object)
statics_of s ds = homed_statics (globals s ds ++ literals s ds)
