-- What code has: how many Loops, and how many Calls of a function.
use Rattle.std.specs.Prelude.{ℕ, suc, ◌+◌, List, bytes_eq, if◌then◌else◌}
use Rattle.flat_code.specs.Code.{Code, Codes, none, more, Seq, Set, Load, Store, Move, If, Loop, Leave, Call, Ret}

-- how many Loops stand in code
abbrev mutual
  pub loops_in : Code → ℕ
  loops_in (Seq cs) = loops_in_all cs
  loops_in (Set temp class op a b) = 0
  loops_in (Load temp how at) = 0
  loops_in (Store width value at) = 0
  loops_in (Move to from bytes) = 0
  loops_in (If cond a b) = loops_in a + loops_in b
  loops_in (Loop c) = suc (loops_in c)
  loops_in (Leave k) = 0
  loops_in (Call temp name args) = 0
  loops_in (Ret value) = 0

  pub loops_in_all : Codes → ℕ
  loops_in_all none = 0
  loops_in_all (more c cs) = loops_in c + loops_in_all cs

-- how many Calls of the function with a name stand in code
abbrev mutual
  pub calls_in : List ℕ → Code → ℕ
  calls_in name (Seq cs) = calls_in_all name cs
  calls_in name (Set temp class op a b) = 0
  calls_in name (Load temp how at) = 0
  calls_in name (Store width value at) = 0
  calls_in name (Move to from bytes) = 0
  calls_in name (If cond a b) = calls_in name a + calls_in name b
  calls_in name (Loop c) = calls_in name c
  calls_in name (Leave k) = 0
  calls_in name (Call temp target args) = if bytes_eq target name then 1 else 0
  calls_in name (Ret value) = 0

  pub calls_in_all : List ℕ → Codes → ℕ
  calls_in_all name none = 0
  calls_in_all name (more c cs) = calls_in name c + calls_in_all name cs
