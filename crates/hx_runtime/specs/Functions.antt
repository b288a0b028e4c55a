-- The functions of the runtime, in one table: the symbols that code calls them by, the classes of their parameters and results, and what
-- they do. The acts themselves are of hx_base (specs/Runtime).
use Rattle.std.specs.Prelude.{ℕ, ◌%◌, Bool, List, [], ◌∷◌, map, take, bytes_eq, codes, slice_index_or, Option, None, Some}
use Rattle.hx_base.specs.declared.Class.{Class}
use Rattle.hx_base.specs.declared.Class.TheVariants.{W, L}
use Rattle.hx_base.specs.Runtime.{World, Act, Gives, Exits, lookup, put, read, malloc, free, move_bytes, same_bytes, abort, arg}
use Rattle.hx_runtime.specs.declared.runtime.RuntimeFunction.{RuntimeFunction}
use Rattle.hx_runtime.specs.declared.runtime.RuntimeFunction.TheVariants.{Puts, Write, Read, Malloc, Free, Move, Same, Abort, Exit, Nargs, Arg}

-- ---- the table

-- what is told of a function: its symbol, the classes of its parameters, and the class of its result, where it has one
pub record Row : Type 0 where
  pub symbol : List ℕ
  pub params : List Class
  pub result : Option Class

abbrev pub row_of : RuntimeFunction → Row
row_of Puts = record { symbol = codes "rt.puts"; params = L ∷ L ∷ []; result = None }
row_of Write = record { symbol = codes "rt.write"; params = L ∷ L ∷ []; result = None }
row_of Read = record { symbol = codes "rt.read"; params = L ∷ L ∷ []; result = Some L }
row_of Malloc = record { symbol = codes "rt.malloc"; params = L ∷ []; result = Some L }
row_of Free = record { symbol = codes "rt.free"; params = L ∷ []; result = None }
row_of Move = record { symbol = codes "rt.move"; params = L ∷ L ∷ L ∷ []; result = None }
row_of Same = record { symbol = codes "rt.same"; params = L ∷ L ∷ L ∷ []; result = Some W }
row_of Abort = record { symbol = codes "rt.abort"; params = L ∷ L ∷ []; result = None }
row_of Exit = record { symbol = codes "rt.exit"; params = W ∷ []; result = None }
row_of Nargs = record { symbol = codes "rt.nargs"; params = []; result = Some L }
row_of Arg = record { symbol = codes "rt.arg"; params = L ∷ []; result = Some L }

-- the classes of a function's parameters
abbrev pub runtime_params : RuntimeFunction → List Class
runtime_params f = (row_of f).params

-- the class of its result, where it has one
abbrev pub runtime_result : RuntimeFunction → Option Class
runtime_result f = (row_of f).result

-- ---- symbols

-- the functions by their symbols
abbrev pub runtime_names : List (List ℕ × RuntimeFunction)
runtime_names =
    map (λ f. ((row_of f).symbol, f)) (Puts ∷ Write ∷ Read ∷ Malloc ∷ Free ∷ Move ∷ Same ∷ Abort ∷ Exit ∷ Nargs ∷ Arg ∷ [])

-- the function with a symbol
abbrev pub runtime_function : List ℕ → Option RuntimeFunction
runtime_function name = lookup name runtime_names

-- a symbol of the runtime begins with `rt.`
abbrev pub is_reserved : List ℕ → Bool
is_reserved name = bytes_eq (take 3 name) (codes "rt.")

-- ---- what they do

-- what a function does on its arguments, of which one that is missing counts as 0
abbrev pub act : RuntimeFunction → List ℕ → World → Act
act Puts args w = put w (slice_index_or args 0 0) (slice_index_or args 1 0)
act Write args w = put w (slice_index_or args 0 0) (slice_index_or args 1 0)
act Read args w = read w (slice_index_or args 0 0) (slice_index_or args 1 0)
act Malloc args w = malloc w (slice_index_or args 0 0)
act Free args w = free w (slice_index_or args 0 0)
act Move args w = move_bytes w (slice_index_or args 0 0) (slice_index_or args 1 0) (slice_index_or args 2 0)
act Same args w = same_bytes w (slice_index_or args 0 0) (slice_index_or args 1 0) (slice_index_or args 2 0)
act Abort args w = abort w (slice_index_or args 0 0) (slice_index_or args 1 0)
act Exit args w = Exits (slice_index_or args 0 0 % 256)
act Nargs args w = Gives w.arguments 0 w
act Arg args w = arg w (slice_index_or args 0 0)
