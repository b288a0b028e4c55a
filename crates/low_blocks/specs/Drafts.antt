-- What the calls of the program's own functions add to the code of a block. No public clause cites it.
use Rattle.std.specs.Prelude.{◌≡◌, ℕ, List, [], ◌++◌, length}
use Rattle.flat_code.specs.declared.op.Op.{Op}
use Rattle.flat_code.specs.declared.op.Op.TheVariants.{Add, Sub}
use Rattle.flat_code.specs.declared.program.Data.{Data}
use Rattle.flat_code.specs.declared.value.Value.{Value}
use Rattle.flat_code.specs.Code.{Code}
use Rattle.hare_blocks.specs.declared.expr.Sign.{Sign}
use Rattle.hare_blocks.specs.declared.expr.Sign.TheVariants.{Plus, Minus}
use Rattle.low_blocks.specs.declared.draft.Draft.{Draft}
use Rattle.low_blocks.specs.declared.last.Last.{Last}
use Rattle.low_blocks.specs.Expressions.{Scope, Steps, Piece}
use Rattle.low_blocks.specs.Statements.{Site, Lowered, outside}
use Rattle.low_blocks.specs.Programs.{text_globals}

-- ---- expressions

-- the operation that joins a term to what stands before it
abbrev pub sign_op : Sign → Op
sign_op Plus = Add
sign_op Minus = Sub

-- the code so far, and behind it a last step
abbrev pub steps_of : Draft → Last → Steps
steps_of d last = record { code = d.code; last = last; next = d.next }

-- steps behind other code
abbrev pub steps_behind : List Code → Steps → Steps
steps_behind cs s = record { code = cs ++ s.code; last = s.last; next = s.next }

-- the code so far as a piece that gives an operand
abbrev pub piece_of : Draft → Value → Piece
piece_of d v = record { code = d.code; value = v; next = d.next }

-- a piece behind other code
abbrev pub behind : List Code → Piece → Piece
behind cs p = record { code = cs ++ p.code; value = p.value; next = p.next }

-- ---- statements

abbrev pub IsEmptyDraft : ℕ → Draft → Type 0
IsEmptyDraft next d = (d.code ≡ []) × (d.next ≡ next)

-- code was put at the end, and this is the next temporary
pub record Grows (old new : Draft) (code : List Code) (next : ℕ) : Type 0 where
  pub code_is : new.code ≡ old.code ++ code
  pub next_is : new.next ≡ next

-- where the end of the code stands
abbrev pub site : Draft → Scope → List Data → Site
site d scope globals = record { scope = scope; next = d.next; texts = length globals }

-- the code of statements with these strings was put at the end
pub record Lowers (old new : Draft) (scope : Scope) (globals globals' : List Data) (scope' : Scope) (low : Lowered)
    (texts : List (List ℕ)) : Type 0 where
  pub code : new.code ≡ old.code ++ low.code
  pub ends : site new scope' globals' ≡ low.behind
  pub texts_are : globals' ≡ globals ++ text_globals (length globals) texts

-- a block was lowered by itself to this code. What it declares has ended.
pub record LowersBlock (old new : Draft) (scope : Scope) (globals globals' : List Data) (scope' : Scope) (code : List Code) (low : Lowered)
    (texts : List (List ℕ)) : Type 0 where
  pub code_is : code ≡ low.code
  pub kept : new.code ≡ old.code
  pub ends : site new scope' globals' ≡ outside (site old scope globals) low.behind
  pub texts_are : globals' ≡ globals ++ text_globals (length globals) texts
