-- Which modules the grammar can write, and which of them break no rule: the test that `valid` makes. Of public clauses only those on
-- reading printed text back cite it: they ask that the grammar can write the module.
use Rattle.std.specs.Prelude.{ℕ, ◌^◌, List, [], ◌∷◌, Option, None, Some, Bool, true, false, not, ◌||◌, ◌&&◌, nat_lt, ◌==◌}
use Rattle.std.specs.List.{list_all, list_any}
use Rattle.il_code.specs.declared.types.IlItem.{IlItem}
use Rattle.il_code.specs.declared.types.IlItem.TheVariants.{Data, Function}
use Rattle.il_code.specs.declared.types.Module.{Module}
use Rattle.il_code.specs.declared.types.Part.{Part}
use Rattle.il_code.specs.declared.types.Part.TheVariants.{Values, Zero}
use Rattle.il_code.specs.declared.types.PartValue.{PartValue}
use Rattle.il_code.specs.declared.types.PartValue.TheVariants as part
use Rattle.il_code.specs.declared.types.IlParam.{IlParam}
use Rattle.il_code.specs.declared.types.Block.{Block}
use Rattle.il_code.specs.declared.types.Phi.{Phi}
use Rattle.il_code.specs.declared.types.PhiArg.{PhiArg}
use Rattle.il_code.specs.declared.types.IlValue.{IlValue}
use Rattle.il_code.specs.declared.types.IlValue.TheVariants.{Number, Temp, Symbol}
use Rattle.il_code.specs.declared.types.IlArg.{IlArg}
use Rattle.il_code.specs.declared.types.Inst.{Inst}
use Rattle.il_code.specs.declared.types.Inst.TheVariants.{Set, Store, Blit, Call}
use Rattle.il_code.specs.declared.types.Jump.{Jump}
use Rattle.il_code.specs.declared.types.Jump.TheVariants.{Fall, Jmp, Jnz, Ret, Hlt}
use Rattle.il_code.specs.Classes.{op_kind, takes_two}
use Rattle.il_code.specs.Tokens.{is_identifier, is_string_byte}
use Rattle.il_code.specs.Rules.{item_name, are_distinct, has_own_names, flow_is_right, item_is_right, is_main, item_is_small, is_small}

-- a number of 64 bits
abbrev pub is_bits : ℕ → Bool
is_bits n = nat_lt n (2 ^ 64)

abbrev pub is_value : IlValue → Bool
is_value (Number n) = is_bits n
is_value (Temp t) = is_identifier t
is_value (Symbol s) = is_identifier s

abbrev pub is_param : IlParam → Bool
is_param p = is_identifier p.name

abbrev pub is_arg : IlArg → Bool
is_arg a = is_value a.value

-- a width of 1, 2, 4 or 8 bytes
abbrev pub is_width : ℕ → Bool
is_width width = width == 1 || width == 2 || width == 4 || width == 8

-- a second operand exactly where there are to be two
abbrev pub is_second : Bool → Option IlValue → Bool
is_second two None = not two
is_second two (Some b) = two && is_value b

abbrev pub is_result : Option IlParam → Bool
is_result None = true
is_result (Some p) = is_param p

abbrev pub is_inst : Inst → Bool
is_inst (Set temp class op a b) = is_identifier temp && (is_value a && is_second (takes_two (op_kind op)) b)
is_inst (Store width value at) = is_width width && (is_value value && is_value at)
is_inst (Blit from to bytes) = is_value from && (is_value to && is_bits bytes)
is_inst (Call result target args) = is_result result && (is_identifier target && list_all is_arg args)

abbrev pub is_phi_arg : PhiArg → Bool
is_phi_arg a = is_identifier a.label && is_value a.value

abbrev pub some : {A : Type 0} → List A → Bool
some [] = false
some (x ∷ xs) = true

abbrev pub is_phi : Phi → Bool
is_phi p = is_identifier p.temp && (some p.args && list_all is_phi_arg p.args)

abbrev pub is_returned : Option IlValue → Bool
is_returned None = true
is_returned (Some v) = is_value v

abbrev pub is_jump : Jump → Bool
is_jump Fall = true
is_jump (Jmp l) = is_identifier l
is_jump (Jnz v a b) = is_value v && (is_identifier a && is_identifier b)
is_jump (Ret v) = is_returned v
is_jump Hlt = true

abbrev pub falls : Jump → Bool
falls Fall = true
falls (Jmp l) = false
falls (Jnz v a b) = false
falls (Ret v) = false
falls Hlt = false

abbrev pub is_block : Block → Bool
is_block b = is_identifier b.label && (list_all is_phi b.phis && (list_all is_inst b.insts && is_jump b.jump))

-- there is a last block, and control does not fall out of it
abbrev pub ends : List Block → Bool
ends [] = false
ends (b ∷ []) = not (falls b.jump)
ends (b ∷ c ∷ bs) = ends (c ∷ bs)

abbrev pub is_part_value : PartValue → Bool
is_part_value (part.Number n) = is_bits n
is_part_value (part.Str s) = list_all is_string_byte s
is_part_value (part.Symbol s n) = is_identifier s && is_bits n

abbrev pub is_part : Part → Bool
is_part (Values width values) = is_width width && (some values && list_all is_part_value values)
is_part (Zero n) = is_bits n

abbrev pub is_item : IlItem → Bool
is_item (Data export name align parts) = is_identifier name && (is_bits align && list_all is_part parts)
is_item (Function export class name params blocks) =
    is_identifier name && (list_all is_param params && (list_all is_block blocks && ends blocks))

unfoldable pub is_shaped : Module → Bool
is_shaped m = list_all is_item m.items

-- no rule is broken
unfoldable pub is_lawful : List IlItem → Bool
is_lawful items = are_distinct item_name items &&
    (list_all has_own_names items && (list_all flow_is_right items &&
    (list_all (item_is_right items) items && (list_any is_main items && (list_all item_is_small items && is_small items)))))
