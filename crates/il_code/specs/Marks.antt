-- Which rules a module breaks, token by token. A name behind its sigil, a string, and each word other than `export`, `align` and those of
-- one letter bears marks: the numbers of the rules (specs/Rules.antt) that are broken there. The marks of a module are one list for each
-- such token, in the order of its text. All texts of a module have the same bearing tokens, but that `loadw` may stand for `loadsw`.
use Rattle.std.specs.Prelude.{ℕ, List, [], ◌∷◌, ◌++◌, Option, None, Some, Bool, true, false, not, length, ◌||◌, ◌&&◌, nat_lt, ◌==◌, codes, bytes_eq, map, is_some, find, if◌then◌else◌}
use Rattle.std.specs.List.{list_any, flat_map}
use Rattle.hx_base.specs.declared.Class.{Class}
use Rattle.hx_base.specs.declared.Class.TheVariants.{W, L}
use Rattle.il_code.specs.declared.types.IlItem.{IlItem}
use Rattle.il_code.specs.declared.types.Part.{Part}
use Rattle.il_code.specs.declared.types.Part.TheVariants.{Values, Zero}
use Rattle.il_code.specs.declared.types.PartValue.{PartValue}
use Rattle.il_code.specs.declared.types.PartValue.TheVariants as part
use Rattle.il_code.specs.declared.types.IlParam.{IlParam}
use Rattle.il_code.specs.declared.types.Block.{Block}
use Rattle.il_code.specs.declared.types.Phi.{Phi}
use Rattle.il_code.specs.declared.types.PhiArg.{PhiArg}
use Rattle.il_code.specs.declared.types.IlValue.{IlValue}
use Rattle.il_code.specs.declared.types.IlValue.TheVariants.{Number, Temp, Symbol}
use Rattle.il_code.specs.declared.types.IlArg.{IlArg}
use Rattle.il_code.specs.declared.types.Inst.{Inst}
use Rattle.il_code.specs.declared.types.Inst.TheVariants.{Set, Store, Blit, Call}
use Rattle.il_code.specs.declared.types.Jump.{Jump}
use Rattle.il_code.specs.declared.types.Jump.TheVariants.{Fall, Jmp, Jnz, Ret, Hlt}
use Rattle.hx_runtime.specs.Functions.{runtime_function}
use Rattle.il_code.specs.Items.{function_named}
use Rattle.il_code.specs.Classes.{op_kind, first_class, second_class, may_give}
use Rattle.il_code.specs.Tokens.{IlToken, Word, TempName, SymbolName, LabelName, Numeral, Quoted, Mark, LineEnd}
use Rattle.il_code.specs.Rules.{item_name, has_named, is_reserved, has_label, phi_is_placed, same_class, is_set, is_long, is_call_right, stored_class, is_main_right}
use Rattle.il_code.specs.Loose.{BlockLine, PhiLine, InstLine, LooseBlock, LooseItem, LooseData, LooseFunction, settled, settled_block}

-- whether a token bears marks
abbrev pub bears : IlToken → Bool
bears (Word w) = nat_lt 1 (length w) && not (bytes_eq w (codes "export") || bytes_eq w (codes "align"))
bears (TempName t) = true
bears (SymbolName s) = true
bears (LabelName l) = true
bears (Numeral n) = false
bears (Quoted b) = true
bears (Mark c) = false
bears LineEnd = false

-- the numbers of the rules that are broken at one token
abbrev pub Numbers : Type 0
Numbers = List ℕ

-- the number, where the rule is broken
abbrev pub when : Bool → ℕ → Numbers
when broken number = if broken then number ∷ [] else []

-- a token at which no rule can be broken
abbrev pub unmarked : List Numbers
unmarked = [] ∷ []

-- what each element is given, where it sees the elements in front of it
abbrev pub each_behind : {A B : Type 0} → (List A → A → List B) → List A → List A → List B
each_behind f before [] = []
each_behind f before (x ∷ xs) = f before x ++ each_behind f (before ++ x ∷ []) xs

-- ---- operands

-- unknown temporary (7); class mismatch (8), at a w temporary where l is wanted
abbrev pub temp_marks : List IlParam → List Block → Class → List ℕ → Numbers
temp_marks params blocks class t = when (not (is_set params blocks t W || is_set params blocks t L)) 7 ++ when
    (is_long class && is_set params blocks t W) 8

-- class mismatch (8), at a symbol where w is wanted; unknown symbol (9)
abbrev pub symbol_marks : List IlItem → Bool → List ℕ → Numbers
symbol_marks items fits s = when (not fits) 8 ++ when (not (has_named item_name s items)) 9

abbrev pub value_marks : List IlItem → List IlParam → List Block → Class → IlValue → List Numbers
value_marks items params blocks class (Number n) = []
value_marks items params blocks class (Temp t) = temp_marks params blocks class t ∷ []
value_marks items params blocks class (Symbol s) = symbol_marks items (is_long class) s ∷ []

abbrev pub maybe_marks : List IlItem → List IlParam → List Block → Class → Option IlValue → List Numbers
maybe_marks items params blocks class None = []
maybe_marks items params blocks class (Some v) = value_marks items params blocks class v

-- unknown label (6)
abbrev pub label_marks : List Block → List ℕ → Numbers
label_marks blocks l = when (not (has_label blocks l)) 6

-- ---- assignments

abbrev pub line_sets : BlockLine → List IlParam
line_sets (PhiLine p) = record { name = p.temp; class = p.class } ∷ []
line_sets (InstLine (Set temp class op a b)) = record { name = temp; class = class } ∷ []
line_sets (InstLine (Store width value at)) = []
line_sets (InstLine (Blit from to bytes)) = []
line_sets (InstLine (Call None target args)) = []
line_sets (InstLine (Call (Some p) target args)) = p ∷ []

-- what a function sets, in the order of its text: parameters, then the results of phis and instructions
abbrev pub all_set : List IlParam → List LooseBlock → List IlParam
all_set params blocks = params ++ flat_map (λ b. flat_map line_sets b.lines) blocks

-- the class at which a temporary is set first, where it is set
abbrev pub is_first_class : Class → Option IlParam → Bool
is_first_class class None = true
is_first_class class (Some p) = same_class p.class class

-- class mismatch (8): the temporary is set at another class than the first time in the text
abbrev pub set_marks : List IlParam → List ℕ → Class → Numbers
set_marks sets name class = when (not (is_first_class class (find (λ p. bytes_eq p.name name) sets))) 8

-- ---- calls

-- a call of this target is of a function of the module or of the runtime
abbrev pub is_callable : List IlItem → List ℕ → Bool
is_callable items target = is_some (function_named items target) || is_some (runtime_function target)

-- class mismatch (8), at the word `call`; unknown symbol (9), at the target
abbrev pub call_marks : List IlItem → Option IlParam → List ℕ → List IlArg → List Numbers
call_marks items result target args = when (is_callable items target && not (is_call_right items result target args)) 8 ∷ when
    (not (is_callable items target)) 9 ∷ []

-- ---- lines and jumps

abbrev pub result_marks : List IlParam → Option IlParam → List Numbers
result_marks sets None = []
result_marks sets (Some p) = set_marks sets p.name p.class ∷ []

abbrev pub inst_marks : List IlItem → List IlParam → List Block → List IlParam → Inst → List Numbers
inst_marks items params blocks sets (Set temp class op a b) =
    set_marks sets temp class ∷ when (not (may_give (op_kind op) class)) 8 ∷ value_marks items params blocks
    (first_class (op_kind op) class) a ++ maybe_marks items params blocks (second_class (op_kind op) class) b
inst_marks items params blocks sets (Store width value at) =
    [] ∷ value_marks items params blocks (stored_class width) value ++ value_marks items params blocks L at
inst_marks items params blocks sets (Blit from to bytes) =
    [] ∷ value_marks items params blocks L from ++ value_marks items params blocks L to
inst_marks items params blocks sets (Call result target args) =
    result_marks sets result ++ call_marks items result target args ++ flat_map
    (λ (a : IlArg). value_marks items params blocks a.class a.value) args

abbrev pub is_inst_line : BlockLine → Bool
is_inst_line (PhiLine p) = false
is_inst_line (InstLine i) = true

-- phi place (10), at the word `phi`, where the block is the first or has another line than a phi in front, or where the labels are not the
-- predecessors
abbrev pub phi_marks : List IlItem → List IlParam → List Block → List IlParam → Bool → List ℕ → Phi → List Numbers
phi_marks items params blocks sets out_of_place label p =
    set_marks sets p.temp p.class ∷ when (out_of_place || not (phi_is_placed blocks label p)) 10 ∷ flat_map
    (λ (a : PhiArg). label_marks blocks a.label ∷ value_marks items params blocks p.class a.value) p.args

abbrev pub line_marks : List IlItem → List IlParam → List Block → List IlParam → Bool → List ℕ → List BlockLine → BlockLine → List Numbers
line_marks items params blocks sets first label before (PhiLine p) =
    phi_marks items params blocks sets (first || list_any is_inst_line before) label p
line_marks items params blocks sets first label before (InstLine i) = inst_marks items params blocks sets i

-- whether this is the label of the first block
abbrev pub is_start : List Block → List ℕ → Bool
is_start [] l = false
is_start (first ∷ rest) l = bytes_eq l first.label

-- class mismatch (8), at the word `ret`; what is returned where nothing is wanted is looked at as a long
abbrev pub return_marks : List IlItem → List IlParam → List Block → Option Class → Option IlValue → List Numbers
return_marks items params blocks None value = when (is_some value) 8 ∷ maybe_marks items params blocks L value
return_marks items params blocks (Some c) value = when (not (is_some value)) 8 ∷ maybe_marks items params blocks c value

-- jump to the start (11), at the words `jmp` and `jnz`
abbrev pub jump_marks : List IlItem → List IlParam → List Block → Option Class → Jump → List Numbers
jump_marks items params blocks class Fall = []
jump_marks items params blocks class (Jmp l) = when (is_start blocks l) 11 ∷ label_marks blocks l ∷ []
jump_marks items params blocks class (Jnz v a b) =
    when (is_start blocks a || is_start blocks b) 11 ∷ value_marks items params blocks W v ++ label_marks blocks a ∷ label_marks blocks b ∷
    []
jump_marks items params blocks class (Ret value) = return_marks items params blocks class value
jump_marks items params blocks class Hlt = unmarked

-- ---- items

-- duplicate (5), at a second equal label
abbrev pub block_marks : List IlItem → Option Class → List IlParam → List Block → List IlParam → List LooseBlock → LooseBlock → List Numbers
block_marks items class params blocks sets before b =
    when (has_named (λ (x : LooseBlock). x.label) b.label before) 5 ∷ each_behind
    (line_marks items params blocks sets (length before == 0) b.label) [] b.lines ++ jump_marks items params blocks class b.jump

-- duplicate (5), at a second equal parameter
abbrev pub param_marks : List IlParam → List IlParam → IlParam → List Numbers
param_marks sets before p = (when (has_named (λ (x : IlParam). x.name) p.name before) 5 ++ set_marks sets p.name p.class) ∷ []

-- class mismatch (8): a string stands behind `b` alone, a symbol behind `l` alone
abbrev pub part_value_marks : List IlItem → ℕ → PartValue → List Numbers
part_value_marks items width (part.Number n) = []
part_value_marks items width (part.Str s) = when (not (width == 1)) 8 ∷ []
part_value_marks items width (part.Symbol s n) = symbol_marks items (width == 8) s ∷ []

abbrev pub part_marks : List IlItem → Part → List Numbers
part_marks items (Values width values) = flat_map (part_value_marks items width) values
part_marks items (Zero n) = []

abbrev pub loose_name : LooseItem → List ℕ
loose_name (LooseData export name align parts) = name
loose_name (LooseFunction export class name params blocks) = name

-- duplicate (5), at the second definition of a symbol and at that of one of the runtime's
abbrev pub definition_marks : List LooseItem → List ℕ → Numbers
definition_marks before name = when (has_named loose_name name before || is_reserved name) 5

abbrev pub loose_item_marks : List IlItem → List LooseItem → LooseItem → List Numbers
loose_item_marks items before (LooseData export name align parts) = [] ∷ definition_marks before name ∷ flat_map (part_marks items) parts
loose_item_marks items before (LooseFunction export class name params blocks) =
    [] ∷ (definition_marks before name ++ when (not (is_main_right name class params)) 8)
    ∷ each_behind (param_marks (all_set params blocks)) [] params
    ++ each_behind (block_marks items class params (map settled_block blocks) (all_set params blocks)) [] blocks

-- the marks of a module's text
abbrev pub marks : List LooseItem → List Numbers
marks items = each_behind (loose_item_marks (settled items)) [] items
