-- Data items. No public clause cites it.
use Rattle.std.specs.Prelude.{ℕ, ◌^◌, List, [], Option, Some, None, Bool, not, ◌&&◌, ◌==◌, nat_lt, if◌then◌else◌, slice_index, length, codes}
use Rattle.il_code.specs.declared.types.IlItem.{IlItem}
use Rattle.il_code.specs.declared.types.IlItem.TheVariants.{Data}
use Rattle.il_code.specs.declared.types.Part.{Part}
use Rattle.il_code.specs.declared.types.Part.TheVariants.{Values, Zero}
use Rattle.il_code.specs.declared.types.PartValue.{PartValue}
use Rattle.il_code.specs.declared.types.PartValue.TheVariants as part
use Rattle.il_read.specs.Front.{◌>>=◌, branch, behind, name_at, number_at, string_at}
use Rattle.il_read.specs.Lists.{each, listed}
use Rattle.il_read.specs.Values.{symbol_at}

-- an offset behind a symbol: 0 where none stands
unfoldable pub offset_at : List ℕ → Option (ℕ × List ℕ)
offset_at s = branch (behind (codes " + ") s) number_at (Some (0, s))

-- a symbol behind its sigil, and its offset
unfoldable pub address_at : List ℕ → Option (PartValue × List ℕ)
address_at s = do
  name ← name_at s
  offset ← offset_at name.1
  Some (part.Symbol name.0 offset.0, offset.1)

-- a string behind its first quote
unfoldable pub text_at : List ℕ → Option (PartValue × List ℕ)
text_at s = string_at s >>= λ bytes. Some (part.Str bytes.0, bytes.1)

unfoldable pub amount_at : List ℕ → Option (PartValue × List ℕ)
amount_at s = number_at s >>= λ number. Some (part.Number number.0, number.1)

-- a value of a part, behind its space
unfoldable pub part_value_at : List ℕ → Option (PartValue × List ℕ)
part_value_at s = behind (codes " ") s >>= λ rest. branch (behind (codes "\"") rest) text_at
    (branch (behind (codes "$") rest) address_at (amount_at rest))

-- a value of a part begins, and the braces do not end
abbrev pub begins_value : List ℕ → Bool
begins_value s = slice_index s 0 == 32 && not (slice_index s 1 == 125)

-- the width that the letter of a part says
unfoldable pub width_at : List ℕ → Option (ℕ × List ℕ)
width_at s =
    branch (behind (codes "b") s) (λ rest. Some (1, rest))
    (branch (behind (codes "h") s) (λ rest. Some (2, rest))
    (branch (behind (codes "w") s) (λ rest. Some (4, rest))
    (behind (codes "l") s >>= λ rest. Some (8, rest))))

-- a part with values
unfoldable pub values_at : List ℕ → Option (Part × List ℕ)
values_at s = do
  width ← width_at s
  values ← each part_value_at begins_value (length width.1) width.1
  Some (Values width.0 values.0, values.1)

-- zeros, behind their letter
unfoldable pub zeros_at : List ℕ → Option (Part × List ℕ)
zeros_at s = number_at s >>= λ number. Some (Zero number.0, number.1)

unfoldable pub part_at : List ℕ → Option (Part × List ℕ)
part_at s = branch (behind (codes "z ") s) zeros_at (values_at s)

-- the parts between their braces, behind the first brace
unfoldable pub some_parts_at : List ℕ → Option (List Part × List ℕ)
some_parts_at s = do
  parts ← listed part_at (length s) s
  rest ← behind (codes " }") parts.1
  Some (parts.0, rest)

-- the parts in their braces
unfoldable pub parts_at : List ℕ → Option (List Part × List ℕ)
parts_at s = branch (behind (codes "{ }") s) (λ rest. Some ([], rest)) (behind (codes "{ ") s >>= some_parts_at)

abbrev pub short : ℕ × List ℕ → Option (ℕ × List ℕ)
short number = if nat_lt number.0 (2 ^ 32) then Some number else None

-- a number of 32 bits
unfoldable pub align_at : List ℕ → Option (ℕ × List ℕ)
align_at s = number_at s >>= short

-- a data item behind its word
unfoldable pub data_at : Bool → List ℕ → Option (IlItem × List ℕ)
data_at export s = do
  name ← symbol_at s
  align ← behind (codes " = align ") name.1 >>= align_at
  parts ← behind (codes " ") align.1 >>= parts_at
  rest ← behind (codes "\n") parts.1
  Some (Data export name.0 align.0 parts.0, rest)
