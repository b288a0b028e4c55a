-- The data of a module, put into memory by a table of the addresses of its symbols.
use Rattle.std.specs.Prelude.{◌≡◌, ℕ, ◌+◌, ◌<◌, ◌^◌, List, replicate, flat_map, option_map}
use Rattle.std.specs.Ordering.{nat_cmp}
use Rattle.std.specs.BTreeMap.{insert_entry}
use Rattle.hx_base.specs.Memory.{Memory, le_bytes, write, map_range}
use Rattle.hx_base.specs.Runtime.{lookup, or_zero}
use Rattle.il_code.specs.declared.types.IlItem.{IlItem}
use Rattle.il_code.specs.declared.types.IlItem.TheVariants.{Data, Function}
use Rattle.il_code.specs.declared.types.Module.{Module}
use Rattle.il_code.specs.declared.types.Part.{Part}
use Rattle.il_code.specs.declared.types.Part.TheVariants.{Values, Zero}
use Rattle.il_code.specs.declared.types.PartValue.{PartValue}
use Rattle.il_code.specs.declared.types.PartValue.TheVariants.{Number, Str, Symbol as Address}
use Rattle.il_code.specs.Addresses.{address, data_size, width_bytes}
use Rattle.il_decode.specs.declared.symbols.Symbol.{Symbol}
use Rattle.il_mem.specs.Kept.{Kept, IsBare}
use Rattle.il_load.specs.Puts.{Stands}

-- ---- bytes

-- the address of a symbol
abbrev pub address_in : List (List ℕ × Symbol) → List ℕ → ℕ
address_in table name = or_zero (option_map (λ s. s.address) (lookup name table))

-- a table has the address of each symbol of a module
abbrev pub Knows : Module → List (List ℕ × Symbol) → Type 0
Knows m table = (name : List ℕ) → address_in table name ≡ address m name

-- the bytes of a value and of a part
abbrev pub value_in : List (List ℕ × Symbol) → ℕ → PartValue → List ℕ
value_in table width (Number n) = le_bytes (width_bytes width) n
value_in table width (Str s) = s
value_in table width (Address s offset) = le_bytes (width_bytes width) (address_in table s + offset)

abbrev pub part_in : List (List ℕ × Symbol) → Part → List ℕ
part_in table (Values width values) = flat_map (value_in table width) values
part_in table (Zero n) = replicate n 0

-- ---- items

-- memory with one item more. A function has no bytes.
abbrev pub with_one : List (List ℕ × Symbol) → Memory → IlItem → Memory
with_one table memory (Function export class name params blocks) = memory
with_one table memory (Data export name align parts) =
    map_range (write memory (address_in table name) (flat_map (part_in table) parts)) (address_in table name) (data_size parts)

-- where an item of data is to stand nothing is mapped, and it ends below 2^64
abbrev pub IsFree : List (ℕ × ℕ) → List (List ℕ × Symbol) → IlItem → Type 0
IsFree ranges table (Function export class name params blocks) = Unit {0}
IsFree ranges table (Data export name align parts) =
    (IsBare ranges (address_in table name) (data_size parts)) × (address_in table name + data_size parts < 2 ^ 64)

-- the ranges with that of an item of data
abbrev pub ranges_with : List (ℕ × ℕ) → List (List ℕ × Symbol) → IlItem → List (ℕ × ℕ)
ranges_with ranges table (Function export class name params blocks) = ranges
ranges_with ranges table (Data export name align parts) =
    insert_entry nat_cmp ranges (address_in table name) (address_in table name + data_size parts)

-- an item was put into memory, whatever flat memory it was
abbrev pub PutsItem : List (List ℕ × Symbol) → Kept → Kept → IlItem → Type 0
PutsItem table old new item = (memory : Memory) → Stands old memory → Stands new (with_one table memory item)
