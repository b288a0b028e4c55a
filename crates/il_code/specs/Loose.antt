-- What is read before any rule is looked at: a module whose blocks have phis and instructions in any order, so that a phi behind an
-- instruction is a broken rule and no unreadable text.
use Rattle.std.specs.Prelude.{ℕ, List, [], ◌∷◌, ◌++◌, Option, None, Some, Bool, true, false, codes, map}
use Rattle.std.specs.List.{filter_map}
use Rattle.hx_base.specs.declared.Class.{Class}
use Rattle.il_code.specs.declared.types.IlItem.{IlItem}
use Rattle.il_code.specs.declared.types.IlItem.TheVariants.{Data, Function}
use Rattle.il_code.specs.declared.types.Part.{Part}
use Rattle.il_code.specs.declared.types.IlParam.{IlParam}
use Rattle.il_code.specs.declared.types.Block.{Block}
use Rattle.il_code.specs.declared.types.Phi.{Phi}
use Rattle.il_code.specs.declared.types.Inst.{Inst}
use Rattle.il_code.specs.declared.types.Jump.{Jump}
use Rattle.il_code.specs.Tokens.{SymbolName, LabelName, Mark}
use Rattle.il_code.specs.Grammar.{Pattern, never, token, both, row, word, may_lines, usual_lines, on_line, listed, param_pattern, phi_pattern, inst_pattern, jump_pattern, result_class_pattern, export_pattern, item_pattern}

-- a line of a block in front of its jump
pub data BlockLine : Type 0 where
  PhiLine : (phi : Phi) → BlockLine
  InstLine : (inst : Inst) → BlockLine

pub record LooseBlock : Type 0 where
  pub label : List ℕ
  pub lines : List BlockLine
  pub jump : Jump

pub data LooseItem : Type 0 where
  LooseData : (export : Bool) (name : List ℕ) (align : ℕ) (parts : List Part) → LooseItem
  LooseFunction : (export : Bool) (class : Option Class) (name : List ℕ) (params : List IlParam) (blocks : List LooseBlock) → LooseItem

-- ---- how it is written

abbrev pub line_pattern : BlockLine → Pattern
line_pattern (PhiLine p) = on_line (phi_pattern p)
line_pattern (InstLine i) = on_line (inst_pattern i)

abbrev pub loose_block_pattern : Bool → LooseBlock → Pattern
loose_block_pattern last b = row (on_line (token (LabelName b.label)) ∷ row (map line_pattern b.lines) ∷ jump_pattern last b.jump ∷ [])

abbrev pub loose_blocks_pattern : List LooseBlock → Pattern
loose_blocks_pattern [] = never
loose_blocks_pattern (b ∷ []) = loose_block_pattern true b
loose_blocks_pattern (b ∷ c ∷ bs) = both (loose_block_pattern false b) (loose_blocks_pattern (c ∷ bs))

abbrev pub loose_item_pattern : LooseItem → Pattern
loose_item_pattern (LooseData export name align parts) = item_pattern (Data export name align parts)
loose_item_pattern (LooseFunction export class name params blocks) =
    row (export_pattern export ∷ word (codes "function") ∷ result_class_pattern class ∷ token (SymbolName name) ∷ token (Mark 40) ∷ listed
    (map param_pattern params) ∷ token (Mark 41) ∷ may_lines ∷ token (Mark 123) ∷ usual_lines ∷ loose_blocks_pattern blocks ∷ token
    (Mark 125) ∷ [])

abbrev pub loose_pattern : List LooseItem → Pattern
loose_pattern items = both may_lines (row (map (λ i. both (loose_item_pattern i) usual_lines) items))

-- ---- the module that it is, where its phis stand in front

abbrev pub phi_of : BlockLine → Option Phi
phi_of (PhiLine p) = Some p
phi_of (InstLine i) = None

abbrev pub inst_of : BlockLine → Option Inst
inst_of (PhiLine p) = None
inst_of (InstLine i) = Some i

abbrev pub settled_block : LooseBlock → Block
settled_block b = record { label = b.label; phis = filter_map phi_of b.lines; insts = filter_map inst_of b.lines; jump = b.jump }

abbrev pub settled_item : LooseItem → IlItem
settled_item (LooseData export name align parts) = Data export name align parts
settled_item (LooseFunction export class name params blocks) = Function export class name params (map settled_block blocks)

-- the items with the phis of each block in front of its instructions
abbrev pub settled : List LooseItem → List IlItem
settled items = map settled_item items

-- ---- a module, as it is read

abbrev pub loose_block : Block → LooseBlock
loose_block b = record { label = b.label; lines = map (λ p. PhiLine p) b.phis ++ map (λ i. InstLine i) b.insts; jump = b.jump }

abbrev pub loose_item : IlItem → LooseItem
loose_item (Data export name align parts) = LooseData export name align parts
loose_item (Function export class name params blocks) = LooseFunction export class name params (map loose_block blocks)

abbrev pub loose : List IlItem → List LooseItem
loose items = map loose_item items
