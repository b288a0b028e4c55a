-- Each instruction of a function passes a test that those of its lines pass.
use Rattle.std.proofs.Common.{◌≡◌, suc, Bool, true, List, [], ◌∷◌, refl, sym, subst, arith}
use Rattle.std.specs.List.{list_all}
use Rattle.std.proofs.lemmas.Bool.{and_parts}
use Rattle.flat_code.specs.declared.program.FlatFn.{FlatFn}
use Rattle.flat_code.specs.declared.program.FlatProgram.{FlatProgram}
use Rattle.flat_code.specs.Shape.{code_of}
use Rattle.flat_code.specs.WellFormed.{is_right}
use Rattle.il_code.specs.declared.types.Block.{Block}
use Rattle.il_code.specs.declared.types.Inst.{Inst}
use Rattle.il_code.specs.declared.types.Jump.TheVariants as jump
use Rattle.il_emit.specs.Lines.{Line, Label, Do, End, end_value, frame_lines, inner_lines, function_lines, labels_in, addresses_in}
use Rattle.il_emit.specs.Emitted.{blocks_of}
use Rattle.il_emit.proofs.Lines.Allowed.{LinesPass, inner_good}
use Rattle.il_emit.proofs.Lines.Blocks.{line_passes}
use Rattle.il_emit.proofs.Lines.Counts.{both_true, all_append}
use Rattle.il_emit.proofs.Lines.Places.{insts_of, line_blocks, function_blocks}

-- a line whose instruction, if it has one, passes
abbrev pub passes : (Inst → Bool) → Line → Bool
passes q = line_passes (λ n. true) q (λ j. true)

-- all instructions of these blocks pass
abbrev pub all_pass : (Inst → Bool) → List Block → Bool
all_pass q bs = list_all (λ (b : Block). list_all q b.insts) bs

-- the instructions of lines, up to the first label or jump and in the blocks behind
pub lines_blocks_pass : (q : Inst → Bool) (ls : List Line) → list_all (passes q) ls ≡ true →
    (list_all q (insts_of ls) ≡ true) × (all_pass q (line_blocks ls) ≡ true)
lines_blocks_pass q [] h = (refl, refl)
lines_blocks_pass q (Label n ∷ ls) h = let on = lines_blocks_pass q ls h in (refl, both_true _ _ on.0 on.1)
lines_blocks_pass q (Do i ∷ ls) h =
    let k = and_parts (q i) (list_all (passes q) ls) h in
    let on = lines_blocks_pass q ls k.1 in
    (both_true _ _ k.0 on.0, on.1)
lines_blocks_pass q (End j ∷ ls) h = (refl, (lines_blocks_pass q ls h).1)

module _ (p : FlatProgram) (f : FlatFn) (q : Inst → Bool)
    (pass : LinesPass p f (passes q) (suc (labels_in (code_of f.body) true)) (addresses_in (code_of f.body)))
    (right : is_right p f 0 (code_of f.body) ≡ true) where
  pub each_inst : list_all (passes q) (frame_lines f.frame) ≡ true → all_pass q (blocks_of p f) ≡ true
  each_inst h =
      let last : List Line = End (jump.Ret (end_value f.result)) ∷ [] in
      let good = inner_good p f (passes q) (suc (labels_in (code_of f.body) true)) (addresses_in (code_of f.body)) pass right (omega arith)
      (omega arith) h in
      subst (λ (bs : List Block). all_pass q bs ≡ true) (sym (function_blocks p f))
      (lines_blocks_pass q (function_lines p f) (all_append (passes q) (inner_lines p f) last good refl)).1
