-- The evaluation of constants: the acts of the constant kinds, run where no program runs.
use Rattle.std.specs.Prelude.{ℕ, false, List, [], ◌∷◌, ◌++◌, true}
use Rattle.hare_tree.specs.declared.kind.Kind.{Kind}
use Rattle.hare_tree.specs.declared.kind.Kind.TheVariants as kind
use Rattle.hare_types.specs.Store.{Store}
use Rattle.hare_typed.specs.declared.cell.Cell.{Cell}
use Rattle.hare_typed.specs.declared.constant.Const.{Const}
use Rattle.hare_typed.specs.declared.constant.Const.TheVariants as constant
use Rattle.hare_typed.specs.declared.constant.ConstObject.{ConstObject}
use Rattle.hare_typed.specs.Typed.{TypedNode, TypedNodes, marked, typed_none, typed_more, head_of}
use Rattle.hare_typed.specs.Constants.{own_kind}
use Rattle.hare_typed.specs.Cells.{byte_cells}
use Rattle.hare_typed.specs.Scalars.{Null}
use Rattle.hare_typed.specs.Objects.{Object, Constant}
use Rattle.hare_typed.specs.State.{State, Scope, Mode, AsValue, Spent, Result}
use Rattle.hare_typed.specs.Acts.{Act, end}
use Rattle.hare_typed.specs.Interpreter.{Forms, evaluate}
use Rattle.hare_typed.specs.World.{World, static_number}
use Rattle.hare_typed.specs.Evaluated.{ValueForm, PlaceForm, evaluated}
use Rattle.hare_typed.specs.ConstantForms.{number_form, bool_form, str_form, path_form, paren_form, neg_form, not_form, bang_form, arith_form, shift_form, less_form, equal_form, logic_form, cast_form, struct_form, field_value_form, tuple_form, array_form, size_form, align_form, offset_form, len_form, addr_form, path_place, paren_place}

-- ---- the constant kinds

-- the acts of a kind of which constants are made; no other kind gives cells here
abbrev pub constant_form : World → TypedNode → Scope → Kind → ValueForm
constant_form w t sc kind.Number k = number_form w t k
constant_form w t sc kind.RuneLit k = number_form w t k
constant_form w t sc kind.Bool k = bool_form t k
constant_form w t sc kind.Str k = str_form w t sc k
constant_form w t sc kind.Path k = path_form w t k
constant_form w t sc kind.Paren k = paren_form sc k
constant_form w t sc kind.Neg k = neg_form w t sc k
constant_form w t sc kind.Not k = not_form w t sc k
constant_form w t sc kind.Bang k = bang_form sc k
constant_form w t sc kind.Arith k = arith_form w t sc k
constant_form w t sc kind.Shift k = shift_form w t sc k
constant_form w t sc kind.Less k = less_form w t sc k
constant_form w t sc kind.Equal k = equal_form w t sc k
constant_form w t sc kind.Logic k = logic_form t sc k
constant_form w t sc kind.Cast k = cast_form w t sc k
constant_form w t sc kind.StructLit k = struct_form w t sc k
constant_form w t sc kind.FieldValue k = field_value_form sc k
constant_form w t sc kind.Tuple k = tuple_form w t sc k
constant_form w t sc kind.Array k = array_form w t sc k
constant_form w t sc kind.Size k = size_form w t k
constant_form w t sc kind.Align k = align_form w t k
constant_form w t sc kind.Offset k = offset_form w t k
constant_form w t sc kind.Len k = len_form w t sc k
constant_form w t sc kind.Addr k = addr_form sc k
constant_form w t sc _ k = k []

-- the places of which constants are made: a path to a global, in parentheses or not
abbrev pub constant_place : World → TypedNode → Scope → Kind → PlaceForm
constant_place w t sc kind.Path k = path_place w t sc k
constant_place w t sc kind.Paren k = paren_place sc k
constant_place w t sc _ k = k Null

abbrev pub constant_node : World → TypedNode → Mode → Scope → Act
constant_node w t mode sc = evaluated w t mode sc (constant_form w t sc (own_kind t)) (constant_place w t sc (own_kind t))

-- no loop and no call is constant
abbrev pub constant_forms : World → Forms
constant_forms w = record { node = constant_node w; task = λ k sc. end Spent; kids = λ k. typed_none }

-- ---- where no program runs

-- objects have the numbers that constants have for them
abbrev pub without_run : Store → World
without_run s =
    record { types = s; paths = []; declarations = []; bounds = []; home = λ name. name; arguments = []; runs = false }

abbrev pub constant_object : List Cell → Object
constant_object cs = record { cells = cs; kind = Constant; align = 1; alive = true }

abbrev pub listed_objects : List ConstObject → List (ℕ × Object)
listed_objects [] = []
listed_objects (o ∷ os) = (o.object, constant_object o.cells) ∷ listed_objects os

abbrev pub objects_of : Const → List (ℕ × Object)
objects_of constant.Absent = []
objects_of (constant.Known cs os) = listed_objects os

-- the object of a node that is a string
abbrev pub text_object : Scope → TypedNode → Kind → List (ℕ × Object)
text_object sc t kind.Str = (static_number sc t, constant_object (byte_cells (head_of t).text)) ∷ []
text_object sc t _ = []

-- the static objects that a value leads to before it is evaluated: those of its strings, and those of the constants that it names
abbrev mutual
  pub statics : Scope → TypedNode → List (ℕ × Object)
  statics sc (marked h m ts) = text_object sc (marked h m ts) h.kind ++ objects_of m.value ++ statics_of_each sc ts

  pub statics_of_each : Scope → TypedNodes → List (ℕ × Object)
  statics_of_each sc typed_none = []
  statics_of_each sc (typed_more t ts) = statics sc t ++ statics_of_each sc ts

abbrev pub state_without_run : List (ℕ × Object) → State
state_without_run os =
    record {
      memory = record { objects = record { made = []; named = os }; live = 0; taken = 0; stack = 0 };
      input = [];
      output = [];
      ticks = 0;
    }

-- What the value of a declaration comes to, with the arrays that became slices among the named objects.
abbrev pub constant_result : Store → (own : ℕ) → TypedNode → Result
constant_result s own t =
    let sc : Scope = record { own = own; first = 0; locals = [] } in
    evaluate (constant_forms (without_run s)) 0 t AsValue sc (state_without_run (statics sc t))
