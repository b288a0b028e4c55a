-- The jumps that end blocks. No public clause cites it.
use Rattle.std.specs.Prelude.{ℕ, List, Option, Some, None, codes}
use Rattle.il_code.specs.declared.types.IlValue.{IlValue}
use Rattle.il_code.specs.declared.types.Jump.{Jump}
use Rattle.il_code.specs.declared.types.Jump.TheVariants.{Fall, Jmp, Jnz, Ret, Hlt}
use Rattle.il_read.specs.Front.{◌>>=◌, branch, behind}
use Rattle.il_read.specs.Values.{label_at, value_at}

unfoldable pub jmp_at : List ℕ → Option (Jump × List ℕ)
jmp_at s = do
  label ← label_at s
  rest ← behind (codes "\n") label.1
  Some (Jmp label.0, rest)

unfoldable pub jnz_at : List ℕ → Option (Jump × List ℕ)
jnz_at s = do
  value ← value_at s
  a ← behind (codes ", ") value.1 >>= label_at
  b ← behind (codes ", ") a.1 >>= label_at
  rest ← behind (codes "\n") b.1
  Some (Jnz value.0 a.0 b.0, rest)

-- the value behind `ret`, if there is one
unfoldable pub returned_at : List ℕ → Option (Option IlValue × List ℕ)
returned_at s = branch (behind (codes " ") s) (λ rest. value_at rest >>= λ v. Some (Some v.0, v.1)) (Some (None, s))

unfoldable pub ret_at : List ℕ → Option (Jump × List ℕ)
ret_at s = do
  value ← returned_at s
  rest ← behind (codes "\n") value.1
  Some (Ret value.0, rest)

-- a jump: a fall where no line of one stands
unfoldable pub jump_at : List ℕ → Option (Jump × List ℕ)
jump_at s =
    branch (behind (codes "\tjmp ") s) jmp_at
    (branch (behind (codes "\tjnz ") s) jnz_at
    (branch (behind (codes "\tret") s) ret_at
    (branch (behind (codes "\thlt\n") s) (λ rest. Some (Hlt, rest))
    (Some (Fall, s)))))
