-- The module that is made of a program of flat code.
use Rattle.std.specs.Prelude.{ℕ, suc, List, [], ◌∷◌, ◌++◌, map, false, if◌then◌else◌}
use Rattle.hx_base.specs.declared.Class.{Class}
use Rattle.flat_code.specs.declared.program.Data.{Data}
use Rattle.flat_code.specs.declared.program.FlatFn.{FlatFn}
use Rattle.flat_code.specs.declared.program.FlatProgram.{FlatProgram}
use Rattle.flat_code.specs.declared.program.Item.{Item}
use Rattle.flat_code.specs.declared.program.Item.TheVariants as item
use Rattle.flat_code.specs.WellFormed.{is_main}
use Rattle.il_code.specs.declared.types.Block.{Block}
use Rattle.il_code.specs.declared.types.IlItem.{IlItem}
use Rattle.il_code.specs.declared.types.IlItem.TheVariants as il
use Rattle.il_code.specs.declared.types.IlParam.{IlParam}
use Rattle.il_code.specs.declared.types.Module.{Module}
use Rattle.il_code.specs.declared.types.Part.{Part}
use Rattle.il_code.specs.declared.types.Part.TheVariants as part
use Rattle.il_code.specs.declared.types.PartValue.{PartValue}
use Rattle.il_code.specs.declared.types.PartValue.TheVariants as value
use Rattle.il_code.specs.Tokens.{is_string_byte}
use Rattle.il_emit.specs.declared.draft.Draft.{Draft}
use Rattle.il_emit.specs.Names.{temp_name}
use Rattle.il_emit.specs.Lines.{function_lines}
use Rattle.il_emit.specs.Drafts.{add_all}

-- ---- data

-- a string of these bytes, if there are any
abbrev pub string_of : List ℕ → List PartValue
string_of [] = []
string_of (c ∷ s) = value.Str (c ∷ s) ∷ []

-- bytes as values, behind those of a string that is not ended: strings as long as they can be, and as numbers the bytes that no string may
-- hold
abbrev pub byte_values : List ℕ → List ℕ → List PartValue
byte_values string [] = string_of string
byte_values string (c ∷ bytes) =
    if is_string_byte c then byte_values (string ++ c ∷ []) bytes else string_of string ++ value.Number c ∷ byte_values [] bytes

-- no values are no part
abbrev pub bytes_part : List PartValue → List Part
bytes_part [] = []
bytes_part (v ∷ vs) = part.Values 1 (v ∷ vs) ∷ []

abbrev pub item_parts : Item → List Part
item_parts (item.Number width n) = part.Values width (value.Number n ∷ []) ∷ []
item_parts (item.Bytes bytes) = bytes_part (byte_values [] bytes)
item_parts (item.Symbol name offset) = part.Values 8 (value.Symbol name offset ∷ []) ∷ []
item_parts (item.Zero n) = part.Zero n ∷ []

abbrev pub parts_of : List Item → List Part
parts_of [] = []
parts_of (i ∷ is) = item_parts i ++ parts_of is

abbrev pub data_item : Data → IlItem
data_item d = il.Data false d.name d.align (parts_of d.items)

-- ---- functions

-- parameters are the first temporaries
abbrev pub params_of : ℕ → List Class → List IlParam
params_of t [] = []
params_of t (c ∷ cs) = record { name = temp_name t; class = c } ∷ params_of (suc t) cs

-- nothing is written yet
abbrev pub empty_draft : Draft
empty_draft = record { blocks = []; label = []; insts = []; is_open = false }

-- the blocks of a function
abbrev pub blocks_of : FlatProgram → FlatFn → List Block
blocks_of p f = (add_all empty_draft (function_lines p f)).blocks

-- `main` is seen from outside
abbrev pub function_item : FlatProgram → FlatFn → IlItem
function_item p f = il.Function (is_main f) f.result f.name (params_of 0 f.params) (blocks_of p f)

-- ---- programs

-- the globals, and then the functions
abbrev pub module_of : FlatProgram → Module
module_of p = record { items = map data_item p.globals ++ map (function_item p) p.functions }
