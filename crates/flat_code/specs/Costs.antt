-- What a call of a function costs the stack.
use Rattle.std.specs.Prelude.{ℕ, ◌+◌, ◌*◌, max, sum_by, Option, None, Some, ◌==◌, if◌then◌else◌}
use Rattle.hx_base.specs.Memory.{round_up}
use Rattle.flat_code.specs.declared.program.FlatFn.{FlatFn}
use Rattle.flat_code.specs.declared.value.Value.{Value}
use Rattle.flat_code.specs.declared.value.Value.TheVariants.{Temp, Number, Symbol, Frame}
use Rattle.flat_code.specs.Code.{Code, Codes, none, more, Seq, Set, Load, Store, Move, If, Loop, Leave, Call, Ret}
use Rattle.flat_code.specs.Shape.{code_of}

-- 1 for an operand whose address has to be computed: a place of the frame, or a symbol with an offset
abbrev pub addressed : Value → ℕ
addressed (Temp t) = 0
addressed (Number n) = 0
addressed (Symbol i offset) = if offset == 0 then 0 else 1
addressed (Frame offset) = 1

-- the same of an operand that may be missing
abbrev pub result_addressed : Option Value → ℕ
result_addressed None = 0
result_addressed (Some v) = addressed v

-- how many such operands stand in code
abbrev mutual
  pub addressed_in : Code → ℕ
  addressed_in (Seq cs) = addressed_in_all cs
  addressed_in (Set temp class op a b) = addressed a + addressed b
  addressed_in (Load temp how at) = addressed at
  addressed_in (Store width value at) = addressed value + addressed at
  addressed_in (Move to from bytes) = addressed to + addressed from
  addressed_in (If cond a b) = addressed cond + addressed_in a + addressed_in b
  addressed_in (Loop c) = addressed_in c
  addressed_in (Leave k) = 0
  addressed_in (Call temp name args) = sum_by addressed args
  addressed_in (Ret value) = result_addressed value

  pub addressed_in_all : Codes → ℕ
  addressed_in_all none = 0
  addressed_in_all (more c cs) = addressed_in c + addressed_in_all cs

-- the cost of a call: 64, 8 for each temporary, each operand whose address has to be computed and the address of the frame, and the frame
-- as a multiple of 16, of at least one byte.
-- Code that is made of the function costs at most this much.
abbrev pub call_cost : FlatFn → ℕ
call_cost f = 64 + 8 * (f.temps + addressed_in (code_of f.body) + 1) + round_up (max 1 f.frame) 16
