-- Each text of a module has a bearing token for each list of its marks: blocks, data and items.
use Rattle.std.proofs.Common.{◌≡◌, ℕ, zero, suc, List, [], ◌∷◌, ◌++◌, Option, None, Some, Bool, true, false, ◌==◌, length, codes, refl, sym, ap, ◌∙◌, subst, append-nil, append_assoc}
use Rattle.std.specs.Prelude.{map}
use Rattle.std.specs.List.{flat_map}
use Rattle.hx_base.specs.declared.Class.{Class}
use Rattle.il_code.specs.declared.types.IlItem.{IlItem}
use Rattle.il_code.specs.declared.types.IlItem.TheVariants.{Data, Function}
use Rattle.il_code.specs.declared.types.Module.{Module}
use Rattle.il_code.specs.declared.types.Part.{Part}
use Rattle.il_code.specs.declared.types.Part.TheVariants.{Values, Zero}
use Rattle.il_code.specs.declared.types.PartValue.{PartValue}
use Rattle.il_code.specs.declared.types.PartValue.TheVariants as part
use Rattle.il_code.specs.declared.types.IlParam.{IlParam}
use Rattle.il_code.specs.declared.types.Block.{Block}
use Rattle.il_code.specs.Tokens.{Word, SymbolName, LabelName, Numeral, Quoted, Mark}
use Rattle.il_code.specs.Grammar.{Pattern, param_pattern, block_pattern, blocks_pattern, result_class_pattern, offset_pattern, part_value_pattern, width_pattern, values_pattern, part_pattern, parts_behind, parts_pattern, align_pattern, export_pattern, item_pattern, usual_lines, module_pattern, row, both}
use Rattle.il_code.specs.Loose.{PhiLine, InstLine, LooseBlock, LooseItem, settled_block, settled, loose_block, loose_item, loose}
use Rattle.il_code.specs.Marks.{Numbers, each_behind, line_marks, jump_marks, block_marks, param_marks, part_value_marks, part_marks, all_set, loose_item_marks, marks}
use Rattle.il_code.proofs.BearingTokens.{Bears, bears_never, bears_nothing, bearing, plain, bears_both, bears_either, bears_then, bears_many, bears_if, bears_lines, bears_may_lines, bears_usual_lines, bears_row, bears_listed_behind, bears-class, bears-jump, bears_phis, bears_insts}

bears_same : {p : Pattern} {a b : List Numbers} → a ≡ b → Bears p a → Bears p b
bears_same {p = p} e x = subst (λ ms. Bears p ms) e x

-- ---- blocks

each_behind-append : {A B : Type 0} (f : List A → A → List B) (before xs ys : List A) →
    each_behind f before (xs ++ ys) ≡ each_behind f before xs ++ each_behind f (before ++ xs) ys
each_behind-append f before [] ys = rw (append-nil before) refl
each_behind-append f before (x ∷ xs) ys = rw (each_behind-append f (before ++ x ∷ []) xs ys, append_assoc before (x ∷ []) xs)
    (sym (append_assoc (f before x) (each_behind f (before ++ x ∷ []) xs) (each_behind f (before ++ x ∷ xs) ys)))

module _ (items : List IlItem) (params : List IlParam) (blocks : List Block) (sets : List IlParam) (class : Option Class) where
  bears-block : (last : Bool) (before : List LooseBlock) (b : Block) →
      Bears (block_pattern last b) (block_marks items class params blocks sets before (loose_block b))
  bears-block last before b =
      let first = length before == 0 in
      let f = line_marks items params blocks sets first b.label in
      let phis = map (λ p. PhiLine p) b.phis in
      let insts = map (λ i. InstLine i) b.insts in
      let e : each_behind f [] phis ++ (each_behind f phis insts ++ jump_marks items params blocks class b.jump) ≡
      each_behind f [] (phis ++ insts) ++ jump_marks items params blocks class b.jump =
      sym (append_assoc (each_behind f [] phis) (each_behind f phis insts) (jump_marks items params blocks class b.jump)) ∙ ap
      (λ z. z ++ jump_marks items params blocks class b.jump) (sym (each_behind-append f [] phis insts)) in
      bears_both (bears_then (bearing (LabelName b.label) _ refl) bears_lines)
      (bears_same e (bears_both (bears_phis items params blocks sets first b.label [] b.phis)
      (bears_both (bears_insts items params blocks sets first b.label phis b.insts)
      (bears_then (bears-jump items params blocks class last b.jump) bears_nothing))))

  bears_blocks : (before : List LooseBlock) (bs : List Block) →
      Bears (blocks_pattern bs) (each_behind (block_marks items class params blocks sets) before (map loose_block bs))
  bears_blocks before [] = bears_never []
  bears_blocks before (b ∷ []) = subst (λ ms. Bears (block_pattern true b) ms)
      (sym (append-nil (block_marks items class params blocks sets before (loose_block b)))) (bears-block true before b)
  bears_blocks before (b ∷ c ∷ bs) = bears_both (bears-block false before b) (bears_blocks (before ++ loose_block b ∷ []) (c ∷ bs))

-- ---- data

bears-offset : (n : ℕ) → Bears (offset_pattern n) []
bears-offset zero = bears_either bears_nothing
    (bears_both (bears_then (plain (Mark 43) refl) bears_may_lines) (bears_then (plain (Numeral 0) refl) bears_may_lines))
bears-offset (suc n) = bears_both (bears_then (plain (Mark 43) refl) bears_may_lines)
    (bears_then (plain (Numeral (suc n)) refl) bears_may_lines)

module _ (items : List IlItem) where
  bears-part_value : (width : ℕ) (v : PartValue) → Bears (part_value_pattern v) (part_value_marks items width v)
  bears-part_value width (part.Number n) = bears_then (plain (Numeral n) refl) bears_may_lines
  bears-part_value width (part.Str s) = bears_then (bearing (Quoted s) _ refl) bears_may_lines
  bears-part_value width (part.Symbol s n) = bears_then (bears_then (bearing (SymbolName s) _ refl) bears_may_lines) (bears-offset n)

  bears-width : (width : ℕ) → Bears (width_pattern width) []
  bears-width width = bears_if (width == 1) (bears_then (plain (Word (codes "b")) refl) bears_may_lines)
      (bears_if (width == 2) (bears_then (plain (Word (codes "h")) refl) bears_may_lines)
      (bears_if (width == 4) (bears_then (plain (Word (codes "w")) refl) bears_may_lines)
      (bears_if (width == 8) (bears_then (plain (Word (codes "l")) refl) bears_may_lines) (bears_never []))))

  bears-values : (width : ℕ) (vs : List PartValue) → Bears (values_pattern vs) (flat_map (part_value_marks items width) vs)
  bears-values width [] = bears_never []
  bears-values width (v ∷ vs) = bears_row part_value_pattern (part_value_marks items width) (bears-part_value width) (v ∷ vs)

  bears-part : (p : Part) → Bears (part_pattern p) (part_marks items p)
  bears-part (Values width values) = bears_both (bears-width width) (bears-values width values)
  bears-part (Zero n) = bears_both (bears_then (plain (Word (codes "z")) refl) bears_may_lines)
      (bears_then (plain (Numeral n) refl) bears_may_lines)

  bears_parts_behind : (ps : List Part) → Bears (parts_behind (map part_pattern ps)) (flat_map (part_marks items) ps)
  bears_parts_behind [] = bears_nothing
  bears_parts_behind (p ∷ ps) = bears_both (bears_then (plain (Mark 44) refl) bears_may_lines)
      (bears_both (bears-part p) (bears_parts_behind ps))

  bears-parts : (ps : List Part) → Bears (parts_pattern ps) (flat_map (part_marks items) ps)
  bears-parts [] = bears_nothing
  bears-parts (p ∷ ps) = bears_then (bears_both (bears-part p) (bears_parts_behind ps))
      (bears_either bears_nothing (bears_then (plain (Mark 44) refl) bears_may_lines))

-- ---- items

bears-export : (export : Bool) → Bears (export_pattern export) []
bears-export true = bears_both (bears_both (plain (Word (codes "export")) refl) bears_may_lines)
    (bears_many (bears_both (plain (Word (codes "export")) refl) bears_may_lines))
bears-export false = bears_nothing

bears-align : (n : ℕ) → Bears (align_pattern n) []
bears-align n =
    let written = bears_both (plain (Word (codes "align")) refl) (plain (Numeral n) refl) in
    bears_if (n == 8) (bears_either written bears_nothing) written

bears-result_class : (class : Option Class) → Bears (result_class_pattern class) []
bears-result_class None = bears_nothing
bears-result_class (Some c) = bears-class c

bears-param : (all before : List IlParam) (p : IlParam) → Bears (param_pattern p) (param_marks all before p)
bears-param all before p = bears_both (bears-class p.class) (bearing _ _ refl)

bears-item : (items : List IlItem) (before : List LooseItem) (i : IlItem) →
    Bears (item_pattern i) (loose_item_marks items before (loose_item i))
bears-item items before (Data export name align parts) =
    bears_both (bears-export export) (bears_both (bearing (Word (codes "data")) _ refl)
    (bears_both (bearing (SymbolName name) _ refl)
    (bears_both (plain (Mark 61) refl) (bears_both (bears-align align)
    (bears_both (bears_then (plain (Mark 123) refl) bears_may_lines)
    (bears_then (bears-parts items parts) (bears_then (plain (Mark 125) refl) bears_nothing)))))))
bears-item items before (Function export class name params blocks) =
    bears_both (bears-export export) (bears_both (bearing (Word (codes "function")) _ refl)
    (bears_both (bears-result_class class) (bears_both (bearing (SymbolName name) _ refl) (bears_both (plain (Mark 40) refl)
    (bears_both (bears_listed_behind param_pattern (param_marks (all_set params (map loose_block blocks)))
    (bears-param (all_set params (map loose_block blocks))) params)
    (bears_both (plain (Mark 41) refl) (bears_both bears_may_lines
    (bears_both (plain (Mark 123) refl) (bears_both bears_usual_lines
    (bears_then (bears_blocks items params (map settled_block (map loose_block blocks)) (all_set params (map loose_block blocks)) class
    [] blocks) (bears_then (plain (Mark 125) refl) bears_nothing)))))))))))

bears-items : (all : List IlItem) (before : List LooseItem) (items : List IlItem) →
    Bears (row (map (λ i. both (item_pattern i) usual_lines) items)) (each_behind (loose_item_marks all) before (map loose_item items))
bears-items all before [] = bears_nothing
bears-items all before (i ∷ items) = bears_both (bears_then (bears-item all before i) bears_usual_lines)
    (bears-items all (before ++ loose_item i ∷ []) items)

-- the tokens of a module have as many that bear marks as it has marks
pub bears-module : (m : Module) → Bears (module_pattern m) (marks (loose m.items))
bears-module m = bears_both bears_may_lines (bears-items (settled (loose m.items)) [] m.items)
