-- A run of a program, within a number of turns.
use Rattle.std.specs.Prelude.{ℕ, List, [], ◌++◌, map, length, slice_index, true}
use Rattle.hare_typed.specs.Typed.{TypedNode}
use Rattle.hare_typed.specs.Order.{kid_from_front}
use Rattle.hare_typed.specs.Numbers.{parameters_of}
use Rattle.hare_typed.specs.Cells.{byte_cells}
use Rattle.hare_typed.specs.Objects.{Object, Constant}
use Rattle.hare_typed.specs.State.{State, Scope, AsValue, Outcome, Value, Reached, Break, Continue, Yield, Return, Exit, Abort, Undefined, Over, Spent, Result}
use Rattle.hare_typed.specs.Interpreter.{evaluate, closed}
use Rattle.hare_meaning.specs.Code.{Code, declaration, world_of}
use Rattle.hare_meaning.specs.Forms.{forms}

-- ---- the start

-- an argument is a constant object of its bytes
abbrev pub argument_object : List ℕ → Object
argument_object bs = record { cells = byte_cells bs; kind = Constant; align = 1; alive = true }

-- the objects that stand from the start: the static ones, and behind them the arguments
abbrev pub first_objects : Code → List (List ℕ) → List Object
first_objects c args = map (λ s. s.1) c.statics ++ map argument_object args

-- Nothing was put out, and nothing taken from the heap; the measure of the stack counts the entry.
abbrev pub start : Code → (args : List (List ℕ)) → (input : List ℕ) → State
start c args input =
    record {
      memory =
          record {
            objects = record { made = first_objects c args; named = [] };
            live = 0;
            taken = 0;
            stack = slice_index c.bounds c.entry;
          };
      input = input;
      output = [];
      ticks = 0;
    }

-- ---- the end

-- a program whose entry returns ends with status 0
abbrev pub ended : Outcome → Outcome
ended (Value cs) = Exit 0
ended (Reached p) = Exit 0
ended (Return cs) = Exit 0
ended (Break l) = Break l
ended (Continue l) = Continue l
ended (Yield l cs) = Yield l cs
ended (Exit k) = Exit k
ended (Abort x) = Abort x
ended (Undefined u p) = Undefined u p
ended Over = Over
ended Spent = Spent

abbrev pub ending : Result → Result
ending r = (ended r.0, r.1)

-- the body of the entry, which uses no turn
abbrev pub entry_of : Code → TypedNode
entry_of c = kid_from_front 4 (declaration c.declarations c.entry)

abbrev pub entry_scope : Code → Scope
entry_scope c = record { own = c.entry; first = length (parameters_of (declaration c.declarations c.entry)); locals = [] }

-- how the program stands after at most so many turns
abbrev pub run : Code → (args : List (List ℕ)) → (input : List ℕ) → (turns : ℕ) → Result
run c args input n =
    ending
    (closed (length (first_objects c args))
    (evaluate (forms (world_of c (length args))) n (entry_of c) AsValue (entry_scope c) (start c args input)))
