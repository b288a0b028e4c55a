-- The blocks that are kept, each with what control falls into behind it.
use Rattle.std.proofs.Common.{◌≡◌, Bool, true, false, List, [], ◌∷◌, ◌++◌, refl, sym, ap, ◌∙◌, append_assoc, append-nil}
use Rattle.std.specs.Prelude.{ℕ, if◌then◌else◌}
use Rattle.il_code.specs.declared.types.Block.{Block}
use Rattle.il_code.specs.declared.types.IlParam.{IlParam}
use Rattle.il_code.specs.declared.types.Inst.{Inst}
use Rattle.il_code.specs.declared.types.Jump.{Jump}
use Rattle.il_code.specs.declared.types.Phi.{Phi}
use Rattle.il_code.specs.declared.types.Jump.TheVariants.{Fall, Jmp, Jnz, Ret, Hlt}
use Rattle.il_code.specs.Shaped.{falls}
use Rattle.il_tight.specs.Tight.{joined, with_blocks, begins, staying, unset, tight}
use Rattle.il_tight.proofs.KeptBlocks.Lists.{last_joined}
use Rattle.il_tight.proofs.KeptBlocks.Staying.{staying_first}

-- the instructions that control comes to behind a block
abbrev pub into_insts : (List ℕ → Bool) → Bool → List Block → List Inst
into_insts stays false bs = []
into_insts stays true [] = []
into_insts stays true (b ∷ bs) = if stays b.label then [] else b.insts ++ into_insts stays (falls b.jump) bs

-- the jump behind them
abbrev pub into_jump : (List ℕ → Bool) → Jump → List Block → Jump
into_jump stays Fall [] = Fall
into_jump stays Fall (b ∷ bs) = if stays b.label then Fall else into_jump stays b.jump bs
into_jump stays (Jmp l) bs = Jmp l
into_jump stays (Jnz v a b) bs = Jnz v a b
into_jump stays (Ret v) bs = Ret v
into_jump stays Hlt bs = Hlt

-- a block with those, in front of others
abbrev pub whole : (List ℕ → Bool) → Block → List Block → Block
whole stays b bs = record b { insts = b.insts ++ into_insts stays (falls b.jump) bs; jump = into_jump stays b.jump bs }

-- those of some blocks that begin
abbrev pub kept : (List ℕ → Bool) → List Block → List Block
kept stays [] = []
kept stays (b ∷ bs) = if stays b.label then whole stays b bs ∷ kept stays bs else kept stays bs

abbrev pub block : List ℕ → List Phi → List Inst → Jump → Block
block l ps is j = record { label = l; phis = ps; insts = is; jump = j }

module _ (stays : List ℕ → Bool) where
  whole_last : (l : List ℕ) (ps : List Phi) (is : List Inst) (j : Jump) → whole stays (block l ps is j) [] ≡ block l ps is j
  whole_last l ps is Fall = ap (λ (x : List Inst). block l ps x Fall) (append-nil is)
  whole_last l ps is (Jmp t) = ap (λ (x : List Inst). block l ps x (Jmp t)) (append-nil is)
  whole_last l ps is (Jnz v a b) = ap (λ (x : List Inst). block l ps x (Jnz v a b)) (append-nil is)
  whole_last l ps is (Ret v) = ap (λ (x : List Inst). block l ps x (Ret v)) (append-nil is)
  whole_last l ps is Hlt = ap (λ (x : List Inst). block l ps x Hlt) (append-nil is)

  -- in front of a block that begins, a block is whole
  whole_alone : (l : List ℕ) (ps : List Phi) (is : List Inst) (j : Jump) (b : Block) (bs : List Block) → stays b.label ≡ true →
      whole stays (block l ps is j) (b ∷ bs) ≡ block l ps is j
  whole_alone l ps is Fall b bs e = rw e (ap (λ (x : List Inst). block l ps x Fall) (append-nil is))
  whole_alone l ps is (Jmp t) b bs e = ap (λ (x : List Inst). block l ps x (Jmp t)) (append-nil is)
  whole_alone l ps is (Jnz v a c) b bs e = ap (λ (x : List Inst). block l ps x (Jnz v a c)) (append-nil is)
  whole_alone l ps is (Ret v) b bs e = ap (λ (x : List Inst). block l ps x (Ret v)) (append-nil is)
  whole_alone l ps is Hlt b bs e = ap (λ (x : List Inst). block l ps x Hlt) (append-nil is)

  -- in front of one that does not, it has what that has
  whole_joined : (l : List ℕ) (ps : List Phi) (is : List Inst) (j : Jump) (b : Block) (bs : List Block) → stays b.label ≡ false →
      whole stays (if falls j then joined (block l ps is j) b else block l ps is j) bs ≡ whole stays (block l ps is j) (b ∷ bs)
  whole_joined l ps is Fall b bs e =
      rw e (ap (λ (x : List Inst). block l ps x (into_jump stays b.jump bs)) (append_assoc is b.insts (into_insts stays (falls b.jump) bs)))
  whole_joined l ps is (Jmp t) b bs e = refl
  whole_joined l ps is (Jnz v a c) b bs e = refl
  whole_joined l ps is (Ret v) b bs e = refl
  whole_joined l ps is Hlt b bs e = refl

  with_kept : (out : List Block) (a : Block) (bs : List Block) →
      with_blocks (out ++ a ∷ []) (begins stays bs) bs ≡ out ++ whole stays a bs ∷ kept stays bs
  with_kept out a [] = ap (λ (x : Block). out ++ x ∷ []) (sym (whole_last a.label a.phis a.insts a.jump))
  with_kept out a (b ∷ bs) = pick (stays b.label) refl (with_kept (out ++ a ∷ []) b bs)
      (with_kept out (if falls a.jump then joined a b else a) bs)
    where
      pick : (z : Bool) → stays b.label ≡ z →
          with_blocks ((out ++ a ∷ []) ++ b ∷ []) (begins stays bs) bs ≡ (out ++ a ∷ []) ++ whole stays b bs ∷ kept stays bs →
          with_blocks (out ++ (if falls a.jump then joined a b else a) ∷ []) (begins stays bs) bs ≡
          out ++ whole stays (if falls a.jump then joined a b else a) bs ∷ kept stays bs →
          with_blocks (out ++ a ∷ []) (begins stays (b ∷ bs)) (b ∷ bs) ≡ out ++ whole stays a (b ∷ bs) ∷ kept stays (b ∷ bs)
      pick true e on off =
          let one = whole_alone a.label a.phis a.insts a.jump b bs e in
          rw (e, one) (on ∙ append_assoc out (a ∷ []) (whole stays b bs ∷ kept stays bs))
      pick false e on off =
          let one = whole_joined a.label a.phis a.insts a.jump b bs e in
          rw (e, last_joined out a b) (off ∙ ap (λ (x : Block). out ++ x ∷ kept stays bs) one)

  pub blocks_kept : (b : Block) (bs : List Block) → stays b.label ≡ true →
      with_blocks [] (begins stays (b ∷ bs)) (b ∷ bs) ≡ kept stays (b ∷ bs)
  blocks_kept b bs e = rw e (with_kept [] b bs)

-- the blocks of a function: those that stay, and what stands behind them
pub tight_is : (params : List IlParam) (bs : List Block) → tight params bs ≡ kept (staying bs) bs ++ unset params (staying bs) bs
tight_is params [] = refl
tight_is params (b ∷ bs) =
    ap (λ (x : List Block). x ++ unset params (staying (b ∷ bs)) (b ∷ bs))
    (blocks_kept (staying (b ∷ bs)) b bs (staying_first (b ∷ bs)))
