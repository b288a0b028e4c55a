-- What evaluation is given beside a tree and a state.
use Rattle.std.specs.Prelude.{ℕ, ◌+◌, ◌*◌, ◌^◌, Bool, List, [], ◌++◌, codes, decimal, map, slice_index_or, Option, Some, None}
use Rattle.hare_tree.specs.declared.place.Place.{Place}
use Rattle.hare_tree.specs.Node.{Head}
use Rattle.hare_types.specs.Store.{Store}
use Rattle.hare_typed.specs.declared.cell.Cell.{Cell}
use Rattle.hare_typed.specs.declared.cell.Cell.TheVariants as cell
use Rattle.hare_typed.specs.Typed.{TypedNode, mark_of}
use Rattle.hare_typed.specs.Answers.{Answer, Gives, Aborts, IsUndefined}
use Rattle.hare_typed.specs.State.{Scope, Abort, Undefined}
use Rattle.hare_typed.specs.Acts.{Act, end}

pub record World : Type 0 where
  pub types : Store
  pub paths : List (List ℕ)  -- of the files, as they were given
  pub declarations : List TypedNode
  pub bounds : List ℕ  -- the frame bound of each declaration
  pub home : ℕ → ℕ  -- which object a static one is, by the number that constants have for it
  pub arguments : List ℕ  -- the objects of the program's arguments
  pub runs : Bool  -- a program runs; else a constant is computed, and numbers of objects are those that constants have

-- ---- static objects

-- the number that constants have for the static object of a node: of a string, or of an array that becomes a slice
abbrev pub static_number : Scope → TypedNode → ℕ
static_number sc t = (sc.own + 1) * 2 ^ 32 + (mark_of t).node

abbrev pub homed_cell : (ℕ → ℕ) → Cell → Cell
homed_cell home (cell.Byte b) = cell.Byte b
homed_cell home (cell.Fragment o d k) = cell.Fragment (home o) d k
homed_cell home cell.Undef = cell.Undef

-- the cells of a constant, with the objects of the run in the place of those that it names
abbrev pub homed : World → List Cell → List Cell
homed w cs = map (homed_cell w.home) cs

-- ---- ends

abbrev pub message_behind : Option (List ℕ) → List ℕ
message_behind None = []
message_behind (Some bs) = codes ": " ++ bs

-- PATH:LINE:COLUMN: abort R, and where a message is written, also an empty one, a colon, a space and the message
abbrev pub abort_text : World → Place → (reason : ℕ) → (message : Option (List ℕ)) → List ℕ
abort_text w p r message =
    slice_index_or w.paths p.file [] ++ codes ":" ++ decimal p.line ++ codes ":" ++ decimal p.column
    ++ codes ": abort " ++ decimal r ++ message_behind message

-- goes on with what an operation gives; an abort and an undefined act have the place of the node that does it
abbrev pub answered : {A : Type 0} → World → Head → Answer A → (A → Act) → Act
answered w h (Gives a) k = k a
answered w h (Aborts r) k = end (Abort (abort_text w h.place r None))
answered w h (IsUndefined u) k = end (Undefined u h.place)
