-- The lines of a block: phis and instructions. No public clause cites it.
use Rattle.std.specs.Prelude.{ℕ, zero, suc, List, [], ◌∷◌, Option, Some, None, Bool, not, ◌||◌, ◌&&◌, ◌==◌, if◌then◌else◌, slice_index, length, codes}
use Rattle.il_code.specs.declared.types.IlParam.{IlParam}
use Rattle.il_code.specs.declared.types.IlValue.{IlValue}
use Rattle.il_code.specs.declared.types.Inst.{Inst}
use Rattle.il_code.specs.declared.types.Inst.TheVariants.{Set, Store, Blit, Call}
use Rattle.il_code.specs.declared.types.Phi.{Phi}
use Rattle.il_read.specs.declared.line.Line.{Line}
use Rattle.il_read.specs.declared.line.Line.TheVariants as line
use Rattle.il_read.specs.Front.{◌>>=◌, branch, behind, number_at}
use Rattle.il_read.specs.Lists.{listed, bracketed}
use Rattle.il_read.specs.Values.{symbol_at, value_at, target_at, arg_at, phi_arg_at}
use Rattle.il_read.specs.Ops.{op_at}

-- the second operand of an operation, if there is one
unfoldable pub second_at : List ℕ → Option (Option IlValue × List ℕ)
second_at s = branch (behind (codes ", ") s) (λ rest. value_at rest >>= λ b. Some (Some b.0, b.1)) (Some (None, s))

-- an operation, behind what is set to it
unfoldable pub operation_at : IlParam → List ℕ → Option (Line × List ℕ)
operation_at target s = do
  op ← op_at s
  a ← behind (codes " ") op.1 >>= value_at
  b ← second_at a.1
  Some (line.Inst (Set target.name target.class op.0 a.0 b.0), b.1)

-- a call behind its word, of which the result is given to this, if it is
unfoldable pub call_at : Option IlParam → List ℕ → Option (Line × List ℕ)
call_at result s = do
  target ← symbol_at s
  args ← behind (codes "(") target.1 >>= λ rest. bracketed arg_at (length rest) rest
  Some (line.Inst (Call result target.0 args.0), args.1)

-- a phi, behind its word
unfoldable pub phi_at : IlParam → List ℕ → Option (Line × List ℕ)
phi_at target s = do
  args ← listed phi_arg_at (length s) s
  Some (line.Phi (record { temp = target.name; class = target.class; args = args.0 }), args.1)

-- what sets a temporary
unfoldable pub set_at : List ℕ → Option (Line × List ℕ)
set_at s = target_at s >>= λ target.
    branch (behind (codes "phi ") target.1) (phi_at target.0)
    (branch (behind (codes "call ") target.1) (call_at (Some target.0))
    (operation_at target.0 target.1))

-- the width of a store, behind the word
unfoldable pub store_width_at : List ℕ → Option (ℕ × List ℕ)
store_width_at s =
    branch (behind (codes "b ") s) (λ rest. Some (1, rest))
    (branch (behind (codes "h ") s) (λ rest. Some (2, rest))
    (branch (behind (codes "w ") s) (λ rest. Some (4, rest))
    (behind (codes "l ") s >>= λ rest. Some (8, rest))))

-- a store, behind the letters that all stores begin with
unfoldable pub store_at : List ℕ → Option (Line × List ℕ)
store_at s = do
  width ← store_width_at s
  value ← value_at width.1
  at ← behind (codes ", ") value.1 >>= value_at
  Some (line.Inst (Store width.0 value.0 at.0), at.1)

-- a blit, behind its word
unfoldable pub blit_at : List ℕ → Option (Line × List ℕ)
blit_at s = do
  from ← value_at s
  to ← behind (codes ", ") from.1 >>= value_at
  bytes ← behind (codes ", ") to.1 >>= number_at
  Some (line.Inst (Blit from.0 to.0 bytes.0), bytes.1)

-- a phi or an instruction
unfoldable pub code_at : List ℕ → Option (Line × List ℕ)
code_at s =
    branch (behind (codes "store") s) store_at
    (branch (behind (codes "blit ") s) blit_at
    (branch (behind (codes "call ") s) (call_at None)
    (set_at s)))

-- the same on its line
unfoldable pub line_at : List ℕ → Option (Line × List ℕ)
line_at s = do
  code ← behind (codes "\t") s >>= code_at
  rest ← behind (codes "\n") code.1
  Some (code.0, rest)

-- a line begins that is no jump's
abbrev pub begins_line : List ℕ → Bool
begins_line s = slice_index s 0 == 9 && not (slice_index s 1 == 106 || slice_index s 1 == 114 || slice_index s 1 == 104)

-- one more line in front: a phi or an instruction
abbrev pub in_front : Line → List Phi × List Inst → List Phi × List Inst
in_front (line.Phi p) ls = (p ∷ ls.0, ls.1)
in_front (line.Inst i) ls = (ls.0, i ∷ ls.1)

-- up to n lines
abbrev pub lines : ℕ → List ℕ → Option ((List Phi × List Inst) × List ℕ)
lines zero s = Some (([], []), s)
lines (suc n) s = if begins_line s then (line_at s >>= λ l. lines n l.1 >>= λ more. Some (in_front l.0 more.0, more.1)) else Some
    (([], []), s)
