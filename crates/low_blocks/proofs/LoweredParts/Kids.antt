-- The statements of a block, one after the other.
use Rattle.std.proofs.Common.{◌≡◌, ℕ, zero, suc, ◌≤◌, List, [], ◌∷◌, Some, arith}
use Rattle.std.specs.Prelude.{slice_get}
use Rattle.hare_blocks.specs.declared.program.Statement as read
use Rattle.hare_blocks.specs.declared.program.Statements.TheDeep.{deep-Statement}
use Rattle.hare_blocks.specs.Trees.{Statement}
use Rattle.hare_blocks.specs.Sizes.{statement_size, statements_size, list_of_statements}
use Rattle.hare_blocks.specs.Shape.{statement_of}
use Rattle.hare_blocks.specs.Falls.{deep_le-statement_size}

kid_size : (ss : List Statement) (i : ℕ) (s : Statement) → slice_get ss i ≡ Some s →
    suc (statement_size s) ≤ statements_size (list_of_statements ss)
kid_size [] i s e = cc
kid_size (x ∷ ss) zero s e = let h : x ≡ s = cc in rw (← h) (omega arith)
kid_size (x ∷ ss) (suc i) s e = omega (arith, kid_size ss i s e)

-- a statement is smaller than the block that it stands in
pub kid_deep : (ss : List Statement) (i : ℕ) (s : read.Statement) → slice_get ss i ≡ Some (statement_of s) →
    deep-Statement s ≤ statements_size (list_of_statements ss)
kid_deep ss i s e = omega (arith, kid_size ss i (statement_of s) e, deep_le-statement_size s)
