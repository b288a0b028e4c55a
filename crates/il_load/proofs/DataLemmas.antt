-- The bytes of data by a table of addresses are those of the module.
use Rattle.std.proofs.Common.{◌≡◌, ℕ, ◌+◌, ◌^◌, ◌%◌, inl, inr, List, [], ◌∷◌, ◌++◌, length, refl, sym, ap, ◌∙◌, arith}
use Rattle.std.specs.List.{flat_map}
use Rattle.std.proofs.lemmas.List.{length-replicate}
use Rattle.hx_base.specs.Memory.{Memory, le_bytes, write, map_range}
use Rattle.hx_base.specs.Runtime.{or_zero}
use Rattle.hx_base.proofs.Memory.Numbers.{length-le_bytes, le_bytes-cut}
use Rattle.il_code.specs.declared.types.IlItem.{IlItem}
use Rattle.il_code.specs.declared.types.IlItem.TheVariants.{Data, Function}
use Rattle.il_code.specs.declared.types.Module.{Module}
use Rattle.il_code.specs.declared.types.Part.{Part}
use Rattle.il_code.specs.declared.types.Part.TheVariants.{Values, Zero}
use Rattle.il_code.specs.declared.types.PartValue.{PartValue}
use Rattle.il_code.specs.declared.types.PartValue.TheVariants.{Number, Str, Symbol as Address}
use Rattle.il_code.specs.Addresses.{address, width_bytes, value_size, part_size, data_size, value_bytes, part_bytes, with_item, with_data}
use Rattle.il_decode.specs.declared.symbols.Symbol.{Symbol}
use Rattle.il_decode.specs.Symbols.{AreSymbols}
use Rattle.il_mem.specs.Holds.{IsWidth}
use Rattle.il_load.specs.Data.{address_in, Knows, value_in, part_in, with_one}
use Rattle.il_load.proofs.PutLemmas.{length-flat}

-- ---- sizes

pub length-value_in : (table : List (List ℕ × Symbol)) (width : ℕ) (v : PartValue) → length (value_in table width v) ≡ value_size width v
length-value_in table width (Number n) = length-le_bytes (width_bytes width) n
length-value_in table width (Str s) = refl
length-value_in table width (Address s offset) = length-le_bytes (width_bytes width) (address_in table s + offset)

pub length-part_in : (table : List (List ℕ × Symbol)) (p : Part) → length (part_in table p) ≡ part_size p
length-part_in table (Values width values) = length-flat (value_in table width) (value_size width) (length-value_in table width) values
length-part_in table (Zero n) = length-replicate n 0

-- ---- numbers

-- the low bytes of a number of 64 bits are those of the whole number
pub le_bytes-wrapped : (width v : ℕ) → IsWidth width → le_bytes width (v % 2 ^ 64) ≡ le_bytes width v
le_bytes-wrapped width v w = sym (le_bytes-cut width (v % 2 ^ 64)) ∙ ap (le_bytes width) (low w) ∙ le_bytes-cut width v
  where
    low : IsWidth width → v % 2 ^ 64 % 256 ^ width ≡ v % 256 ^ width
    low (inl e) = rw e (let one : v % 2 ^ 64 % 256 ≡ v % 256 = omega arith in one)
    low (inr (inl e)) = rw e (let two : v % 2 ^ 64 % 65536 ≡ v % 65536 = omega arith in two)
    low (inr (inr (inl e))) = rw e (let four : v % 2 ^ 64 % 4294967296 ≡ v % 4294967296 = omega arith in four)
    low (inr (inr (inr e))) = rw e (let eight : v % 2 ^ 64 % 18446744073709551616 ≡ v % 18446744073709551616 = omega arith in eight)

-- ---- of a module

pub table_knows : (m : Module) (table : List (List ℕ × Symbol)) → AreSymbols m.items table → Knows m table
table_knows m table are name = ap or_zero (are.addresses name)

module _ (m : Module) (table : List (List ℕ × Symbol)) (knows : Knows m table) where
  value_is : (width : ℕ) (v : PartValue) → value_in table width v ≡ value_bytes m width v
  value_is width (Number n) = refl
  value_is width (Str s) = refl
  value_is width (Address s offset) = ap (λ (a : ℕ). le_bytes (width_bytes width) (a + offset)) (knows s)

  part_is : (p : Part) → part_in table p ≡ part_bytes m p
  part_is (Values width values) = ap (λ (f : PartValue → List ℕ). flat_map f values) (λ i v. value_is width v i)
  part_is (Zero n) = refl

  parts_are : (parts : List Part) → flat_map (part_in table) parts ≡ flat_map (part_bytes m) parts
  parts_are parts = ap (λ (f : Part → List ℕ). flat_map f parts) (λ i p. part_is p i)

  pub one_is : (memory : Memory) (item : IlItem) → with_one table memory item ≡ with_data m memory (item ∷ [])
  one_is memory (Function export class name params blocks) = refl
  one_is memory (Data export name align parts) =
      let bytes : write memory (address_in table name) (flat_map (part_in table) parts)
      ≡ write memory (address m name) (flat_map (part_bytes m) parts) =
      ap (λ (bs : List ℕ). write memory (address_in table name) bs) (parts_are parts)
      ∙ ap (λ (a : ℕ). write memory a (flat_map (part_bytes m) parts)) (knows name) in
      ap (λ (w : Memory). map_range w (address_in table name) (data_size parts)) bytes
      ∙ ap (λ (a : ℕ). map_range (write memory (address m name) (flat_map (part_bytes m) parts)) a (data_size parts)) (knows name)

  pub data-append : (memory : Memory) (front rest : List IlItem) →
      with_data m memory (front ++ rest) ≡ with_data m (with_data m memory front) rest
  data-append memory [] rest = refl
  data-append memory (Function export class name params blocks ∷ front) rest = data-append memory front rest
  data-append memory (Data export name align parts ∷ front) rest = data-append (with_item m memory (address m name) parts) front rest

-- the fill byte stays
pub fill-with_data : (m : Module) (memory : Memory) (items : List IlItem) → (with_data m memory items).fill ≡ memory.fill
fill-with_data m memory [] = refl
fill-with_data m memory (Function export class name params blocks ∷ items) = fill-with_data m memory items
fill-with_data m memory (Data export name align parts ∷ items) = fill-with_data m (with_item m memory (address m name) parts) items
