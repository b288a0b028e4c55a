-- Blocks are read as they are printed.
use Rattle.std.proofs.Common.{◌≡◌, ℕ, ◌+◌, ◌<◌, ◌≤◌, List, ◌∷◌, ◌++◌, Some, true, length, length-append, refl, ap, ◌∙◌, append_assoc, arith, codes, ◌&&◌}
use Rattle.std.specs.List.{flat_map, list_all}
use Rattle.std.proofs.lemmas.Bool.{and_parts}
use Rattle.il_code.specs.declared.types.Block.{Block}
use Rattle.il_code.specs.declared.types.Inst.{Inst}
use Rattle.il_code.specs.declared.types.Phi.{Phi}
use Rattle.il_code.specs.Tokens.{is_identifier}
use Rattle.il_code.specs.Shaped.{is_phi, is_inst, is_jump, is_block}
use Rattle.il_code.specs.Print.{phi_text, inst_text, on_line, jump_text, block_text}
use Rattle.il_read.specs.Blocks.{block_at}
use Rattle.il_read.proofs.ListsAgain.{length-flat_map, length-rest}
use Rattle.il_read.proofs.ValuesAgain.{label_again}
use Rattle.il_read.proofs.LinesAgain.{lines_again}
use Rattle.il_read.proofs.JumpsAgain.{NoTab, jump_again, jump_is_no}

some_line : (text : List ℕ) → 0 < length (on_line text)
some_line text = omega arith

-- a block has no more lines than bytes
few_lines : (ps : List Phi) (is : List Inst) (rest : List ℕ) →
    length ps + length is ≤ length (flat_map (λ p. on_line (phi_text p)) ps ++ (flat_map (λ i. on_line (inst_text i)) is ++ rest))
few_lines ps is rest =
    let phis = flat_map (λ p. on_line (phi_text p)) ps in
    let insts = flat_map (λ i. on_line (inst_text i)) is in
    omega (
      arith,
      length-flat_map (λ p. on_line (phi_text p)) (λ p. some_line (phi_text p)) ps,
      length-rest (λ i. on_line (inst_text i))
          (λ i. some_line (inst_text i)) is rest,
      length-append phis (insts ++ rest),
    )

block_parts : (label phis insts jump rest : List ℕ) →
    (((((codes "@" ++ label) ++ codes "\n") ++ phis) ++ insts) ++ jump) ++ rest ≡ 64 ∷ (label ++ 10 ∷ (phis ++ (insts ++ (jump ++ rest))))
block_parts label phis insts jump rest = simp append_assoc

pub block_again : (b : Block) (rest : List ℕ) → is_block b ≡ true → NoTab rest → block_at (block_text b ++ rest) ≡ Some (b, rest)
unfolding block_at
block_again b rest h k =
    let p = and_parts (is_identifier b.label) (list_all is_phi b.phis && (list_all is_inst b.insts && is_jump b.jump)) h in
    let q = and_parts (list_all is_phi b.phis) (list_all is_inst b.insts && is_jump b.jump) p.1 in
    let r = and_parts (list_all is_inst b.insts) (is_jump b.jump) q.1 in
    let last = jump_text b.jump ++ rest in
    let code = flat_map (λ p. on_line (phi_text p)) b.phis ++ (flat_map (λ i. on_line (inst_text i)) b.insts ++ last) in
    let text : block_text b ++ rest ≡ 64 ∷ (b.label ++ 10 ∷ code) =
    block_parts b.label (flat_map (λ p. on_line (phi_text p)) b.phis) (flat_map (λ i. on_line (inst_text i)) b.insts) (jump_text b.jump)
    rest in
    let label = label_again b.label (10 ∷ code) p.0 refl in
    let all = lines_again b.phis b.insts last (length code) q.0 r.0 (few_lines b.phis b.insts last) (jump_is_no b.jump rest k) in
    let jump = jump_again b.jump rest r.1 k in
    ap block_at text ∙ rw label (rw all (rw jump refl))
