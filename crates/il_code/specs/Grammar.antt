-- The grammar of texts: for each construct of a module the lists of tokens that it may be written with, as the QBE IL reference has them.
use Rattle.std.specs.Prelude.{◌≡◌, ℕ, zero, suc, ◌⊎◌, List, [], ◌∷◌, ◌++◌, Option, None, Some, Bool, true, false, codes, map, if◌then◌else◌, ◌==◌}
use Rattle.std.specs.List.{flat_map, AllByRecursion}
use Rattle.hx_base.specs.declared.Class.{Class}
use Rattle.hx_base.specs.declared.Class.TheVariants.{W, L}
use Rattle.il_code.specs.declared.op.IlOp.{IlOp}
use Rattle.il_code.specs.declared.op.IlOp.TheVariants as op
use Rattle.il_code.specs.declared.types.IlItem.{IlItem}
use Rattle.il_code.specs.declared.types.IlItem.TheVariants.{Data, Function}
use Rattle.il_code.specs.declared.types.Module.{Module}
use Rattle.il_code.specs.declared.types.Part.{Part}
use Rattle.il_code.specs.declared.types.Part.TheVariants.{Values, Zero}
use Rattle.il_code.specs.declared.types.PartValue.{PartValue}
use Rattle.il_code.specs.declared.types.PartValue.TheVariants as part
use Rattle.il_code.specs.declared.types.IlParam.{IlParam}
use Rattle.il_code.specs.declared.types.Block.{Block}
use Rattle.il_code.specs.declared.types.Phi.{Phi}
use Rattle.il_code.specs.declared.types.PhiArg.{PhiArg}
use Rattle.il_code.specs.declared.types.IlValue.{IlValue}
use Rattle.il_code.specs.declared.types.IlValue.TheVariants.{Number, Temp, Symbol}
use Rattle.il_code.specs.declared.types.IlArg.{IlArg}
use Rattle.il_code.specs.declared.types.Inst.{Inst}
use Rattle.il_code.specs.declared.types.Inst.TheVariants.{Set, Store, Blit, Call}
use Rattle.il_code.specs.declared.types.Jump.{Jump}
use Rattle.il_code.specs.declared.types.Jump.TheVariants.{Fall, Jmp, Jnz, Ret, Hlt}
use Rattle.il_code.specs.Words.{op_word}
use Rattle.il_code.specs.Classes.{op_kind, takes_two}
use Rattle.il_code.specs.Tokens.{IlToken, Word, TempName, SymbolName, LabelName, Numeral, Quoted, Mark, LineEnd, Tokens}

-- ---- patterns

-- a pattern of tokens: a regular expression
pub data Pattern : Type 0 where
  -- nothing that is written
  never : Pattern
  -- no token
  nothing : Pattern
  token : (t : IlToken) → Pattern
  -- the one, and then the other
  both : (p q : Pattern) → Pattern
  either : (p q : Pattern) → Pattern
  -- any number of times, also not at all
  many : (p : Pattern) → Pattern

-- the tokens fit the pattern
abbrev pub Fits : Pattern → List IlToken → Type 0
Fits never ts = ⊥
Fits nothing ts = ts ≡ []
Fits (token t) ts = ts ≡ t ∷ []
Fits (both p q) ts = (a b : List IlToken) × (ts ≡ a ++ b) × Fits p a × Fits q b
Fits (either p q) ts = Fits p ts ⊎ Fits q ts
Fits (many p) ts = (parts : List (List IlToken)) × (ts ≡ flat_map (λ part. part) parts) × AllByRecursion (Fits p) parts

abbrev pub row : List Pattern → Pattern
row [] = nothing
row (p ∷ ps) = both p (row ps)

-- what may be left out, and is not printed
abbrev pub optional : Pattern → Pattern
optional p = either nothing p

-- what may be left out, and is printed
abbrev pub usually : Pattern → Pattern
usually p = either p nothing

abbrev pub word : List ℕ → Pattern
word w = token (Word w)

abbrev pub line : Pattern
line = token LineEnd

-- NL: one line feed or more, with blanks and comments between
abbrev pub lines : Pattern
lines = both line (many line)

-- an NL that may be left out, and is not printed
abbrev pub may_lines : Pattern
may_lines = many line

-- an NL that may be left out, and is printed
abbrev pub usual_lines : Pattern
usual_lines = usually lines

abbrev pub comma : Pattern
comma = token (Mark 44)

abbrev pub equals : Pattern
equals = token (Mark 61)

-- each with a comma in front
abbrev pub behind_comma : List Pattern → Pattern
behind_comma [] = nothing
behind_comma (p ∷ ps) = both comma (both p (behind_comma ps))

-- with commas between
abbrev pub commas : List Pattern → Pattern
commas [] = nothing
commas (p ∷ ps) = both p (behind_comma ps)

-- with commas between, and maybe one behind the last
abbrev pub listed : List Pattern → Pattern
listed [] = nothing
listed (p ∷ ps) = both (both p (behind_comma ps)) (optional comma)

-- ---- operands

abbrev pub class_pattern : Class → Pattern
class_pattern W = word (codes "w")
class_pattern L = word (codes "l")

abbrev pub value_pattern : IlValue → Pattern
value_pattern (Number n) = token (Numeral n)
value_pattern (Temp t) = token (TempName t)
value_pattern (Symbol s) = token (SymbolName s)

-- a temporary with its class, in front of what it is set to
abbrev pub target_pattern : List ℕ → Class → Pattern
target_pattern temp class = both (token (TempName temp)) (both equals (class_pattern class))

abbrev pub param_pattern : IlParam → Pattern
param_pattern p = both (class_pattern p.class) (token (TempName p.name))

abbrev pub arg_pattern : IlArg → Pattern
arg_pattern a = both (class_pattern a.class) (value_pattern a.value)

-- ---- instructions

-- `loadw` means `loadsw`
abbrev pub op_pattern : IlOp → Pattern
op_pattern op.Loadsw = either (word (codes "loadsw")) (word (codes "loadw"))
op_pattern o = word (op_word o)

-- the second operand: there exactly where the operation takes two
abbrev pub second_pattern : Bool → Option IlValue → Pattern
second_pattern true (Some b) = both comma (value_pattern b)
second_pattern true None = never
second_pattern false (Some b) = never
second_pattern false None = nothing

abbrev pub result_pattern : Option IlParam → Pattern
result_pattern None = nothing
result_pattern (Some p) = target_pattern p.name p.class

-- a store, by its width in bytes
abbrev pub store_pattern : ℕ → Pattern
store_pattern width = if width == 1 then word (codes "storeb") else if width == 2 then word (codes "storeh") else if width == 4 then word
    (codes "storew") else if width == 8 then word (codes "storel") else never

abbrev pub inst_pattern : Inst → Pattern
inst_pattern (Set temp class op a b) = row (target_pattern temp class ∷ op_pattern op ∷ value_pattern a ∷ second_pattern
    (takes_two (op_kind op)) b ∷ [])
inst_pattern (Store width value at) = row (store_pattern width ∷ value_pattern value ∷ comma ∷ value_pattern at ∷ [])
inst_pattern (Blit from to bytes) = row (word (codes "blit") ∷ value_pattern from ∷ comma ∷ value_pattern to ∷ comma ∷ token (Numeral bytes)
    ∷ [])
inst_pattern (Call result target args) = row
    (result_pattern result ∷ word (codes "call") ∷ token (SymbolName target) ∷ token (Mark 40) ∷ listed (map arg_pattern args) ∷ token
    (Mark 41) ∷ [])

abbrev pub phi_arg_pattern : PhiArg → Pattern
phi_arg_pattern a = both (token (LabelName a.label)) (value_pattern a.value)

-- the arguments of a phi: at least one
abbrev pub phi_args_pattern : List PhiArg → Pattern
phi_args_pattern [] = never
phi_args_pattern (a ∷ more) = commas (map phi_arg_pattern (a ∷ more))

abbrev pub phi_pattern : Phi → Pattern
phi_pattern p = row (target_pattern p.temp p.class ∷ word (codes "phi") ∷ phi_args_pattern p.args ∷ [])

abbrev pub on_line : Pattern → Pattern
on_line p = both p lines

-- the value behind `ret`, if there is one
abbrev pub returned_pattern : Option IlValue → Pattern
returned_pattern None = nothing
returned_pattern (Some v) = value_pattern v

-- what ends a block: nothing is written where control falls to the next block, which is not so in the last one
abbrev pub jump_pattern : Bool → Jump → Pattern
jump_pattern true Fall = never
jump_pattern false Fall = nothing
jump_pattern last (Jmp l) = on_line (row (word (codes "jmp") ∷ token (LabelName l) ∷ []))
jump_pattern last (Jnz v a b) = on_line (row
    (word (codes "jnz") ∷ value_pattern v ∷ comma ∷ token (LabelName a) ∷ comma ∷ token (LabelName b) ∷ []))
jump_pattern last (Ret v) = on_line (row (word (codes "ret") ∷ returned_pattern v ∷ []))
jump_pattern last Hlt = on_line (word (codes "hlt"))

-- ---- blocks and functions

abbrev pub block_pattern : Bool → Block → Pattern
block_pattern last b = row (on_line (token (LabelName b.label)) ∷ row (map (λ p. on_line (phi_pattern p)) b.phis) ∷ row
    (map (λ i. on_line (inst_pattern i)) b.insts) ∷ jump_pattern last b.jump ∷ [])

-- the blocks of a function: at least one
abbrev pub blocks_pattern : List Block → Pattern
blocks_pattern [] = never
blocks_pattern (b ∷ []) = block_pattern true b
blocks_pattern (b ∷ c ∷ bs) = both (block_pattern false b) (blocks_pattern (c ∷ bs))

abbrev pub result_class_pattern : Option Class → Pattern
result_class_pattern None = nothing
result_class_pattern (Some c) = class_pattern c

-- ---- data

-- in the braces of a data item an NL is a blank
abbrev pub spaced : IlToken → Pattern
spaced t = both (token t) may_lines

-- an offset: one of 0 need not be written
abbrev pub offset_pattern : ℕ → Pattern
offset_pattern zero = optional (both (spaced (Mark 43)) (spaced (Numeral 0)))
offset_pattern (suc n) = both (spaced (Mark 43)) (spaced (Numeral (suc n)))

abbrev pub part_value_pattern : PartValue → Pattern
part_value_pattern (part.Number n) = spaced (Numeral n)
part_value_pattern (part.Str s) = spaced (Quoted s)
part_value_pattern (part.Symbol s n) = both (spaced (SymbolName s)) (offset_pattern n)

-- the letter of a part, by the width of its values in bytes
abbrev pub width_pattern : ℕ → Pattern
width_pattern width = if width == 1 then spaced (Word (codes "b")) else if width == 2 then spaced (Word (codes "h")) else if width == 4 then
    spaced (Word (codes "w")) else if width == 8 then spaced (Word (codes "l")) else never

-- the values of a part: at least one
abbrev pub values_pattern : List PartValue → Pattern
values_pattern [] = never
values_pattern (v ∷ vs) = row (map part_value_pattern (v ∷ vs))

abbrev pub part_pattern : Part → Pattern
part_pattern (Values width values) = both (width_pattern width) (values_pattern values)
part_pattern (Zero n) = both (spaced (Word (codes "z"))) (spaced (Numeral n))

-- each part behind a comma
abbrev pub parts_behind : List Pattern → Pattern
parts_behind [] = nothing
parts_behind (p ∷ ps) = both (spaced (Mark 44)) (both p (parts_behind ps))

-- the parts of a data item, and maybe a comma behind the last
abbrev pub parts_pattern : List Part → Pattern
parts_pattern [] = nothing
parts_pattern (p ∷ ps) = both (both (part_pattern p) (parts_behind (map part_pattern ps))) (optional (spaced (Mark 44)))

-- an alignment: one of 8 need not be written
abbrev pub align_pattern : ℕ → Pattern
align_pattern n = if n == 8 then usually (both (word (codes "align")) (token (Numeral n))) else both (word (codes "align"))
    (token (Numeral n))

-- ---- modules

-- `export` before an exported item, once or more
abbrev pub export_word : Pattern
export_word = both (word (codes "export")) may_lines

abbrev pub export_pattern : Bool → Pattern
export_pattern true = both export_word (many export_word)
export_pattern false = nothing

abbrev pub item_pattern : IlItem → Pattern
item_pattern (Data export name align parts) =
    row (export_pattern export ∷ word (codes "data") ∷ token (SymbolName name) ∷ equals ∷ align_pattern align ∷ spaced (Mark 123) ∷
    parts_pattern parts ∷ token (Mark 125) ∷ [])
item_pattern (Function export class name params blocks) =
    row (export_pattern export ∷ word (codes "function") ∷ result_class_pattern class ∷ token (SymbolName name) ∷ token (Mark 40) ∷ listed
    (map param_pattern params) ∷ token (Mark 41) ∷ may_lines ∷ token (Mark 123) ∷ usual_lines ∷ blocks_pattern blocks ∷ token (Mark 125) ∷
    [])

-- the items, with NLs before, between and behind
abbrev pub module_pattern : Module → Pattern
module_pattern m = both may_lines (row (map (λ i. both (item_pattern i) usual_lines) m.items))

-- ---- texts

-- the text is that of the module, in one of the ways to write it
pub record Spells (text : List ℕ) (m : Module) : Type 0 where
  pub tokens : List IlToken
  pub read : Tokens text tokens
  pub fits : Fits (module_pattern m) tokens
