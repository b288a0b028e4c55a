-- Blocks read only temporaries that are known to be read.
use Rattle.std.proofs.Common.{◌≡◌, ℕ, Bool, true, false, ◌&&◌, List, [], ◌∷◌, Option, None, Some, refl}
use Rattle.std.specs.List.{list_all}
use Rattle.std.proofs.lemmas.Bool.{and_parts}
use Rattle.il_code.specs.declared.types.Block.{Block}
use Rattle.il_code.specs.declared.types.IlArg.{IlArg}
use Rattle.il_code.specs.declared.types.IlValue.{IlValue}
use Rattle.il_code.specs.declared.types.IlValue.TheVariants as value
use Rattle.il_code.specs.declared.types.Inst.{Inst}
use Rattle.il_code.specs.declared.types.Inst.TheVariants.{Set, Store, Blit, Call}
use Rattle.il_code.specs.declared.types.Jump.{Jump}
use Rattle.il_code.specs.declared.types.Jump.TheVariants.{Fall, Jmp, Jnz, Ret, Hlt}
use Rattle.il_tight.specs.Tight.{Known, is_known, with_value, with_option, with_args, with_inst, with_insts, with_jump, with_reads, read_by, reached}
use Rattle.il_tight.proofs.TightBlocks.Passing.{both_true, all_more}
use Rattle.il_tight.proofs.KeptBlocks.Staying.{Grows, name_grows, name_known}

-- ---- every temporary that is read passes a test

abbrev pub value_passes : (List ℕ → Bool) → IlValue → Bool
value_passes test (value.Number n) = true
value_passes test (value.Temp t) = test t
value_passes test (value.Symbol s) = true

abbrev pub option_passes : (List ℕ → Bool) → Option IlValue → Bool
option_passes test None = true
option_passes test (Some v) = value_passes test v

abbrev pub args_pass : (List ℕ → Bool) → List IlArg → Bool
args_pass test args = list_all (λ (a : IlArg). value_passes test a.value) args

abbrev pub inst_passes : (List ℕ → Bool) → Inst → Bool
inst_passes test (Set temp class op a b) = value_passes test a && option_passes test b
inst_passes test (Store width v at) = value_passes test v && value_passes test at
inst_passes test (Blit from to bytes) = value_passes test from && value_passes test to
inst_passes test (Call result target args) = args_pass test args

abbrev pub jump_passes : (List ℕ → Bool) → Jump → Bool
jump_passes test Fall = true
jump_passes test (Jmp l) = true
jump_passes test (Jnz v a b) = value_passes test v
jump_passes test (Ret v) = option_passes test v
jump_passes test Hlt = true

abbrev pub block_passes : (List ℕ → Bool) → Block → Bool
block_passes test b = list_all (inst_passes test) b.insts && jump_passes test b.jump

-- ---- what passes a test passes one that more pass

module _ (f g : List ℕ → Bool) (on : (t : List ℕ) → f t ≡ true → g t ≡ true) where
  value_more : (v : IlValue) → value_passes f v ≡ true → value_passes g v ≡ true
  value_more (value.Number n) h = refl
  value_more (value.Temp t) h = on t h
  value_more (value.Symbol s) h = refl

  option_more : (v : Option IlValue) → option_passes f v ≡ true → option_passes g v ≡ true
  option_more None h = refl
  option_more (Some v) h = value_more v h

  inst_more : (i : Inst) → inst_passes f i ≡ true → inst_passes g i ≡ true
  inst_more (Set temp class op a b) h =
      let k = and_parts (value_passes f a) (option_passes f b) h in both_true _ _ (value_more a k.0) (option_more b k.1)
  inst_more (Store width v at) h =
      let k = and_parts (value_passes f v) (value_passes f at) h in both_true _ _ (value_more v k.0) (value_more at k.1)
  inst_more (Blit from to bytes) h =
      let k = and_parts (value_passes f from) (value_passes f to) h in both_true _ _ (value_more from k.0) (value_more to k.1)
  inst_more (Call result target args) h = all_more _ _ (λ (a : IlArg). value_more a.value) args h

  jump_more : (j : Jump) → jump_passes f j ≡ true → jump_passes g j ≡ true
  jump_more Fall h = refl
  jump_more (Jmp l) h = refl
  jump_more (Jnz v a b) h = value_more v h
  jump_more (Ret v) h = option_more v h
  jump_more Hlt h = refl

  block_more : (b : Block) → block_passes f b ≡ true → block_passes g b ≡ true
  block_more b h =
      let k = and_parts (list_all (inst_passes f) b.insts) (jump_passes f b.jump) h in
      both_true _ _ (all_more _ _ inst_more b.insts k.0) (jump_more b.jump k.1)

-- ---- what is known stays known

value_grows : (known : Known) (v : IlValue) → Grows known (with_value known v)
value_grows known (value.Number n) l h = h
value_grows known (value.Temp t) l h = name_grows known t l h
value_grows known (value.Symbol s) l h = h

option_grows : (known : Known) (v : Option IlValue) → Grows known (with_option known v)
option_grows known None l h = h
option_grows known (Some v) l h = value_grows known v l h

args_grow : (known : Known) (args : List IlArg) → Grows known (with_args known args)
args_grow known [] l h = h
args_grow known (a ∷ args) l h = args_grow (with_value known a.value) args l (value_grows known a.value l h)

inst_grows : (known : Known) (i : Inst) → Grows known (with_inst known i)
inst_grows known (Set temp class op a b) l h = option_grows (with_value known a) b l (value_grows known a l h)
inst_grows known (Store width v at) l h = value_grows (with_value known v) at l (value_grows known v l h)
inst_grows known (Blit from to bytes) l h = value_grows (with_value known from) to l (value_grows known from l h)
inst_grows known (Call result target args) l h = args_grow known args l h

insts_grow : (known : Known) (is : List Inst) → Grows known (with_insts known is)
insts_grow known [] l h = h
insts_grow known (i ∷ is) l h = insts_grow (with_inst known i) is l (inst_grows known i l h)

jump_grows : (known : Known) (j : Jump) → Grows known (with_jump known j)
jump_grows known Fall l h = h
jump_grows known (Jmp x) l h = h
jump_grows known (Jnz v a b) l h = value_grows known v l h
jump_grows known (Ret v) l h = option_grows known v l h
jump_grows known Hlt l h = h

reads_grow : (known : Known) (bs : List Block) → Grows known (with_reads known bs)
reads_grow known [] l h = h
reads_grow known (b ∷ bs) l h =
    reads_grow (with_jump (with_insts known b.insts) b.jump) bs l
    (jump_grows (with_insts known b.insts) b.jump l (insts_grow known b.insts l h))

-- ---- what is read is known

value_known : (known : Known) (v : IlValue) → value_passes (is_known (with_value known v)) v ≡ true
value_known known (value.Number n) = refl
value_known known (value.Temp t) = name_known known t
value_known known (value.Symbol s) = refl

option_known : (known : Known) (v : Option IlValue) → option_passes (is_known (with_option known v)) v ≡ true
option_known known None = refl
option_known known (Some v) = value_known known v

args_known : (known : Known) (args : List IlArg) → args_pass (is_known (with_args known args)) args ≡ true
args_known known [] = refl
args_known known (a ∷ args) =
    let next = with_value known a.value in
    both_true _ _
    (value_more (is_known next) (is_known (with_args next args)) (args_grow next args) a.value (value_known known a.value))
    (args_known next args)

two_known : (known : Known) (a b : IlValue) →
    (value_passes (is_known (with_value (with_value known a) b)) a && value_passes (is_known (with_value (with_value known a) b)) b) ≡ true
two_known known a b =
    let next = with_value known a in
    both_true _ _
    (value_more (is_known next) (is_known (with_value next b)) (value_grows next b) a (value_known known a)) (value_known next b)

inst_known : (known : Known) (i : Inst) → inst_passes (is_known (with_inst known i)) i ≡ true
inst_known known (Set temp class op a b) =
    let next = with_value known a in
    both_true _ _
    (value_more (is_known next) (is_known (with_option next b)) (option_grows next b) a (value_known known a)) (option_known next b)
inst_known known (Store width v at) = two_known known v at
inst_known known (Blit from to bytes) = two_known known from to
inst_known known (Call result target args) = args_known known args

insts_known : (known : Known) (is : List Inst) → list_all (inst_passes (is_known (with_insts known is))) is ≡ true
insts_known known [] = refl
insts_known known (i ∷ is) =
    let next = with_inst known i in
    both_true _ _
    (inst_more (is_known next) (is_known (with_insts next is)) (insts_grow next is) i (inst_known known i)) (insts_known next is)

jump_known : (known : Known) (j : Jump) → jump_passes (is_known (with_jump known j)) j ≡ true
jump_known known Fall = refl
jump_known known (Jmp l) = refl
jump_known known (Jnz v a b) = value_known known v
jump_known known (Ret v) = option_known known v
jump_known known Hlt = refl

block_known : (known : Known) (b : Block) → block_passes (is_known (with_jump (with_insts known b.insts) b.jump)) b ≡ true
block_known known b =
    let next = with_insts known b.insts in
    both_true _ _
    (all_more _ _ (inst_more (is_known next) (is_known (with_jump next b.jump)) (jump_grows next b.jump)) b.insts (insts_known known b.insts))
    (jump_known next b.jump)

all_known : (known : Known) (bs : List Block) → list_all (block_passes (is_known (with_reads known bs))) bs ≡ true
all_known known [] = refl
all_known known (b ∷ bs) =
    let next = with_jump (with_insts known b.insts) b.jump in
    both_true _ _
    (block_more (is_known next) (is_known (with_reads next bs)) (reads_grow next bs) b (block_known known b)) (all_known next bs)

pub reads_known : (stays : List ℕ → Bool) (bs : List Block) →
    list_all (block_passes (is_known (read_by stays bs))) (reached stays false bs) ≡ true
reads_known stays bs = all_known [] (reached stays false bs)
