-- The grammar can write exactly the modules that are shaped.
use Rattle.std.proofs.Common.{◌≡◌, ℕ, List, [], ◌∷◌, Bool, true, false, cond, ◌&&◌, ◌||◌, not, eqb, Option, Some, None, refl, ◌∙◌, map}
use Rattle.std.specs.List.{list_all}
use Rattle.std.proofs.Math.Bool.{and-true}
use Rattle.hx_base.specs.declared.Class.{Class}
use Rattle.hx_base.specs.declared.Class.TheVariants.{W, L}
use Rattle.il_code.specs.declared.op.IlOp.{IlOp}
use Rattle.il_code.specs.declared.op.IlOp.TheVariants as op
use Rattle.il_code.specs.declared.types.IlItem.{IlItem}
use Rattle.il_code.specs.declared.types.IlItem.TheVariants.{Data, Function}
use Rattle.il_code.specs.declared.types.Module.{Module}
use Rattle.il_code.specs.declared.types.Part.{Part}
use Rattle.il_code.specs.declared.types.Part.TheVariants.{Values, Zero}
use Rattle.il_code.specs.declared.types.PartValue.{PartValue}
use Rattle.il_code.specs.declared.types.PartValue.TheVariants as part
use Rattle.il_code.specs.declared.types.IlParam.{IlParam}
use Rattle.il_code.specs.declared.types.Block.{Block}
use Rattle.il_code.specs.declared.types.Phi.{Phi}
use Rattle.il_code.specs.declared.types.PhiArg.{PhiArg}
use Rattle.il_code.specs.declared.types.IlValue.{IlValue}
use Rattle.il_code.specs.declared.types.IlValue.TheVariants.{Number, Temp, Symbol}
use Rattle.il_code.specs.declared.types.IlArg.{IlArg}
use Rattle.il_code.specs.declared.types.Inst.{Inst}
use Rattle.il_code.specs.declared.types.Inst.TheVariants.{Set, Store, Blit, Call}
use Rattle.il_code.specs.declared.types.Jump.{Jump}
use Rattle.il_code.specs.declared.types.Jump.TheVariants.{Fall, Jmp, Jnz, Ret, Hlt}
use Rattle.il_code.specs.Tokens.{is_identifier}
use Rattle.il_code.specs.Classes.{op_kind, takes_two}
use Rattle.il_code.specs.Grammar.{Pattern, both, either, usual_lines, row, behind_comma, listed, parts_behind, class_pattern, value_pattern, param_pattern, arg_pattern, op_pattern, second_pattern, result_pattern, store_pattern, inst_pattern, phi_arg_pattern, phi_args_pattern, phi_pattern, on_line, returned_pattern, jump_pattern, block_pattern, blocks_pattern, result_class_pattern, offset_pattern, part_value_pattern, width_pattern, values_pattern, part_pattern, parts_pattern, align_pattern, export_pattern, item_pattern, module_pattern}
use Rattle.il_code.specs.Shaped.{is_bits, is_value, is_param, is_arg, is_width, is_second, is_result, is_inst, is_phi_arg, some, is_phi, is_returned, is_jump, falls, is_block, ends, is_part_value, is_part, is_item, is_shaped}
use Rattle.il_code.proofs.Possible.{can}
use Rattle.std.proofs.Common.{arith, zero, suc}
use Rattle.std.proofs.lemmas.Bool.Decides.{nat_tests}

-- ---- lists

can_row : {A : Type 0} (f : A → Pattern) (g : A → Bool) → ((x : A) → can (f x) ≡ g x) → (xs : List A) → can (row (map f xs)) ≡ list_all g xs
can_row f g h [] = refl
can_row f g h (x ∷ xs) = rw (h x, can_row f g h xs) refl

can_behind_comma : {A : Type 0} (f : A → Pattern) (g : A → Bool) → ((x : A) → can (f x) ≡ g x) → (xs : List A) →
    can (behind_comma (map f xs)) ≡ list_all g xs
can_behind_comma f g h [] = refl
can_behind_comma f g h (x ∷ xs) = rw (h x, can_behind_comma f g h xs) refl

can_parts_behind : {A : Type 0} (f : A → Pattern) (g : A → Bool) → ((x : A) → can (f x) ≡ g x) → (xs : List A) →
    can (parts_behind (map f xs)) ≡ list_all g xs
can_parts_behind f g h [] = refl
can_parts_behind f g h (x ∷ xs) = rw (h x, can_parts_behind f g h xs) refl

can_listed : {A : Type 0} (f : A → Pattern) (g : A → Bool) → ((x : A) → can (f x) ≡ g x) → (xs : List A) →
    can (listed (map f xs)) ≡ list_all g xs
can_listed f g h [] = refl
can_listed f g h (x ∷ xs) = rw (h x, can_behind_comma f g h xs) (and-true _)

-- ---- operands

can_class : (c : Class) → can (class_pattern c) ≡ true
can_class W = refl
can_class L = refl

can_value : (v : IlValue) → can (value_pattern v) ≡ is_value v
can_value (Number n) = refl
can_value (Temp t) = refl
can_value (Symbol s) = refl

can_param : (p : IlParam) → can (param_pattern p) ≡ is_param p
can_param p = rw (can_class p.class) refl

can_arg : (a : IlArg) → can (arg_pattern a) ≡ is_arg a
can_arg a = rw (can_class a.class, can_value a.value) refl

-- ---- instructions

can_op : (o : IlOp) → can (op_pattern o) ≡ true
can_op op.Neg = refl
can_op op.Copy = refl
can_op op.Alloc4 = refl
can_op op.Alloc8 = refl
can_op op.Alloc16 = refl
can_op op.Extsb = refl
can_op op.Extub = refl
can_op op.Extsh = refl
can_op op.Extuh = refl
can_op op.Extsw = refl
can_op op.Extuw = refl
can_op op.Loadsb = refl
can_op op.Loadub = refl
can_op op.Loadsh = refl
can_op op.Loaduh = refl
can_op op.Loadsw = refl
can_op op.Loaduw = refl
can_op op.Loadl = refl
can_op op.Add = refl
can_op op.Sub = refl
can_op op.Mul = refl
can_op op.Div = refl
can_op op.Rem = refl
can_op op.Udiv = refl
can_op op.Urem = refl
can_op op.And = refl
can_op op.Or = refl
can_op op.Xor = refl
can_op op.Shl = refl
can_op op.Shr = refl
can_op op.Sar = refl
can_op op.Ceqw = refl
can_op op.Ceql = refl
can_op op.Cnew = refl
can_op op.Cnel = refl
can_op op.Cslew = refl
can_op op.Cslel = refl
can_op op.Csltw = refl
can_op op.Csltl = refl
can_op op.Csgew = refl
can_op op.Csgel = refl
can_op op.Csgtw = refl
can_op op.Csgtl = refl
can_op op.Culew = refl
can_op op.Culel = refl
can_op op.Cultw = refl
can_op op.Cultl = refl
can_op op.Cugew = refl
can_op op.Cugel = refl
can_op op.Cugtw = refl
can_op op.Cugtl = refl

can_second : (two : Bool) (b : Option IlValue) → can (second_pattern two b) ≡ is_second two b
can_second true None = refl
can_second false None = refl
can_second true (Some b) = can_value b
can_second false (Some b) = refl

can_result : (r : Option IlParam) → can (result_pattern r) ≡ is_result r
can_result None = refl
can_result (Some p) = rw (can_class p.class) (and-true _)

-- one of four patterns, each of which tokens fit, else none
can_choice : (a b c d : Bool) (p q r s never : Pattern) → can p ≡ true → can q ≡ true → can r ≡ true → can s ≡ true → can never ≡ false →
    can (cond a p (cond b q (cond c r (cond d s never)))) ≡ (a || b || c || d)
can_choice true b c d p q r s n hp hq hr hs hn = hp
can_choice false true c d p q r s n hp hq hr hs hn = hq
can_choice false false true d p q r s n hp hq hr hs hn = hr
can_choice false false false true p q r s n hp hq hr hs hn = hs
can_choice false false false false p q r s n hp hq hr hs hn = hn

can_store : (width : ℕ) → can (store_pattern width) ≡ is_width width
can_store width = can_choice (eqb width 1) (eqb width 2) (eqb width 4) (eqb width 8) _ _ _ _ _ refl refl refl refl refl

can_inst : (i : Inst) → can (inst_pattern i) ≡ is_inst i
can_inst (Set temp class o a b) = rw (can_class class, can_op o, can_value a, can_second (takes_two (op_kind o)) b) (simp and-true)
can_inst (Store width value at) = rw (can_store width, can_value value, can_value at) (simp and-true)
can_inst (Blit from to bytes) = rw (can_value from, can_value to) (simp and-true)
can_inst (Call result target args) = rw (can_result result, can_listed arg_pattern is_arg can_arg args) (simp and-true)

-- ---- blocks

can_phi_arg : (a : PhiArg) → can (phi_arg_pattern a) ≡ is_phi_arg a
can_phi_arg a = rw (can_value a.value) refl

can_phi_args : (xs : List PhiArg) → can (phi_args_pattern xs) ≡ (some xs && list_all is_phi_arg xs)
can_phi_args [] = refl
can_phi_args (a ∷ more) = rw (can_phi_arg a, can_behind_comma phi_arg_pattern is_phi_arg can_phi_arg more) refl

can_phi : (p : Phi) → can (phi_pattern p) ≡ is_phi p
can_phi p = rw (can_class p.class, can_phi_args p.args) (simp and-true)

can_returned : (v : Option IlValue) → can (returned_pattern v) ≡ is_returned v
can_returned None = refl
can_returned (Some v) = can_value v

-- what is written behind a label falls nowhere
can_written : (last b : Bool) → b ≡ (b && not (last && false))
can_written true true = refl
can_written true false = refl
can_written false true = refl
can_written false false = refl

can_jump : (last : Bool) (j : Jump) → can (jump_pattern last j) ≡ (is_jump j && not (last && falls j))
can_jump true Fall = refl
can_jump false Fall = refl
can_jump last (Jmp l) = simp and-true (can_written last _)
can_jump last (Jnz v a b) = rw (can_value v) (simp and-true (can_written last _))
can_jump last (Ret v) = rw (can_returned v) (simp and-true (can_written last _))
can_jump last Hlt = can_written last true

-- the parts of a block, and whether it is the last
block_parts : (l p i j f : Bool) → ((l && true) && (p && (i && ((j && f) && true)))) ≡ ((l && (p && (i && j))) && f)
block_parts true true true true f = and-true f
block_parts true true true false f = refl
block_parts true true false j f = refl
block_parts true false i j f = refl
block_parts false p i j f = refl

can_phi_line : (p : Phi) → can (on_line (phi_pattern p)) ≡ is_phi p
can_phi_line p = rw (can_phi p) (and-true _)

can_inst_line : (i : Inst) → can (on_line (inst_pattern i)) ≡ is_inst i
can_inst_line i = rw (can_inst i) (and-true _)

can_block : (last : Bool) (b : Block) → can (block_pattern last b) ≡ (is_block b && not (last && falls b.jump))
can_block last b = rw (
  can_row (λ p. on_line (phi_pattern p)) is_phi can_phi_line b.phis,
  can_row (λ i. on_line (inst_pattern i)) is_inst
      can_inst_line b.insts,
  can_jump last b.jump,
)
    (block_parts (is_identifier b.label) (list_all is_phi b.phis) (list_all is_inst b.insts) (is_jump b.jump) (not (last && falls b.jump)))

last_block : (b f : Bool) → (b && not f) ≡ ((b && true) && not f)
last_block b f = rw (and-true b) refl

more_blocks : (b bs e : Bool) → ((b && true) && (bs && e)) ≡ ((b && bs) && e)
more_blocks true bs e = refl
more_blocks false bs e = refl

can_blocks : (bs : List Block) → can (blocks_pattern bs) ≡ (list_all is_block bs && ends bs)
can_blocks [] = refl
can_blocks (b ∷ []) = can_block true b ∙ last_block (is_block b) (falls b.jump)
can_blocks (b ∷ c ∷ bs) = rw (can_block false b, can_blocks (c ∷ bs)) (more_blocks (is_block b) _ _)

can_result_class : (c : Option Class) → can (result_class_pattern c) ≡ true
can_result_class None = refl
can_result_class (Some c) = can_class c

-- ---- data

can_width : (width : ℕ) → can (width_pattern width) ≡ is_width width
can_width width = can_choice (eqb width 1) (eqb width 2) (eqb width 4) (eqb width 8) _ _ _ _ _ refl refl refl refl refl

can_export : (e : Bool) → can (export_pattern e) ≡ true
can_export true = refl
can_export false = refl

can_offset : (n : ℕ) → can (offset_pattern n) ≡ is_bits n
can_offset zero = refl
can_offset (suc n) = and-true _

can_part_value : (v : PartValue) → can (part_value_pattern v) ≡ is_part_value v
can_part_value (part.Number n) = and-true _
can_part_value (part.Str s) = and-true _
can_part_value (part.Symbol s n) = rw (can_offset n) (simp and-true)

can_values : (vs : List PartValue) → can (values_pattern vs) ≡ (some vs && list_all is_part_value vs)
can_values [] = refl
can_values (v ∷ vs) = can_row part_value_pattern is_part_value can_part_value (v ∷ vs)

can_part : (p : Part) → can (part_pattern p) ≡ is_part p
can_part (Values width values) = rw (can_width width, can_values values) refl
can_part (Zero n) = and-true _

can_parts : (ps : List Part) → can (parts_pattern ps) ≡ list_all is_part ps
can_parts [] = refl
can_parts (p ∷ ps) = rw (can_part p, can_parts_behind part_pattern is_part can_part ps) (and-true _)

eight_is_bits : (n : ℕ) → eqb n 8 ≡ true → is_bits n ≡ true
eight_is_bits n h = grind (arith, nat_tests)

can_align_by : (b : Bool) (n : ℕ) (p q : Pattern) → can p ≡ is_bits n → can q ≡ true → (b ≡ true → is_bits n ≡ true) →
    can (cond b (either p q) p) ≡ is_bits n
can_align_by true n p q hp hq h = rw (hp, hq, h refl) refl
can_align_by false n p q hp hq h = hp

can_align : (n : ℕ) → can (align_pattern n) ≡ is_bits n
can_align n = can_align_by (eqb n 8) n _ _ refl refl (eight_is_bits n)

-- ---- modules

can_item : (i : IlItem) → can (item_pattern i) ≡ is_item i
can_item (Data export name align parts) = rw (can_export export, can_align align, can_parts parts) (simp and-true)
can_item (Function export class name params blocks) =
    rw (can_export export, can_result_class class, can_listed param_pattern is_param can_param params, can_blocks blocks) (simp and-true)

can_item_line : (i : IlItem) → can (both (item_pattern i) usual_lines) ≡ is_item i
can_item_line i = rw (can_item i) (and-true _)

-- the grammar can write exactly the modules that are shaped
pub can_module : (m : Module) → can (module_pattern m) ≡ is_shaped m
unfolding is_shaped
can_module m = can_row (λ i. both (item_pattern i) usual_lines) is_item can_item_line m.items
