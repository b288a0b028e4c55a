-- The rules of the statements of a Seq, one after the other.
use Rattle.std.proofs.Common.{◌≡◌, ℕ, suc, ◌+◌, true, List, drop, Some, refl, arith}
use Rattle.std.specs.Prelude.{slice_get}
use Rattle.flat_code.specs.declared.program.FlatFn.{FlatFn}
use Rattle.flat_code.specs.declared.program.FlatProgram.{FlatProgram}
use Rattle.flat_code.specs.Code.{Code, codes_of}
use Rattle.flat_code.specs.WellFormed.{is_right, are_right}
use Rattle.flat_code.proofs.Kids.{drop_kid}

-- where a statement keeps the rules, those from it on do where those behind it do
pub right_more : (p : FlatProgram) (f : FlatFn) (around : ℕ) (cs : List Code) (i : ℕ) (c : Code) → slice_get cs i ≡ Some c →
    is_right p f around c ≡ true → are_right p f around (codes_of (drop i cs)) ≡
    are_right p f around (codes_of (drop (i + 1) cs))
right_more p f around cs i c e r =
    let d = drop_kid cs i c e in
    let n : i + 1 ≡ suc i = omega arith in
    rw (n, d, r) refl
