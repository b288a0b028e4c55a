-- When the cases of a `match` or of a `switch` cover the type of their operand. A case without a pattern or without values, the default,
-- covers all that the others do not list.
use Rattle.std.specs.Prelude.{ℕ, ◌-◌, ◌^◌, ℤ, pos, neg_ℤ, ◌≤ℤ◌, Bool, true, false, ◌&&◌, ◌||◌, ◌⊎◌, IsTrue, List, Contains, Option, Some, None, nat_eq}
use Rattle.std.specs.List.{list_all, list_any}
use Rattle.hare_types.specs.declared.row.Row.{Row}
use Rattle.hare_types.specs.declared.row.Row.TheVariants as row
use Rattle.hare_types.specs.declared.row.Scalar.{Scalar as Keyword}
use Rattle.hare_types.specs.declared.row.Scalar.TheVariants as word
use Rattle.hare_types.specs.declared.coercion.Ty.{Ty}
use Rattle.hare_types.specs.Assign.{bits, signed}
use Rattle.hare_types.specs.Store.{Store}
use Rattle.hare_types.specs.ByIds.{row_at}
use Rattle.hare_typed.specs.Given.{base_row}

-- ---- values

-- a least and a greatest value
pub record Range : Type 0 where
  pub least : ℤ
  pub greatest : ℤ

abbrev pub integers : (bits : ℕ) → Option Bool → Option Range
integers n None = None
integers n (Some true) = Some (record { least = neg_ℤ (pos (2 ^ (n - 1))); greatest = pos (2 ^ (n - 1) - 1) })
integers n (Some false) = Some (record { least = pos 0; greatest = pos (2 ^ n - 1) })

-- the values of a type that is one word, where it has such as can be listed: false is 0 and true is 1
abbrev pub range_of_word : Keyword → Option Range
range_of_word word.Bool = Some (record { least = pos 0; greatest = pos 1 })
range_of_word word.Rune = integers 32 (Some false)
range_of_word k = integers (bits k) (signed k)

abbrev pub range_of : Option Row → Option Range
range_of (Some (row.Scalar k)) = range_of_word k
range_of _ = None

-- each value of the range is listed
abbrev pub ListsAll : Option Range → List ℤ → Type 0
ListsAll None vs = ⊥
ListsAll (Some r) vs = (v : ℤ) → r.least ≤ℤ v → v ≤ℤ r.greatest → Contains vs v

-- The values that the cases of a `switch` list, and whether it has a default, cover the base of a type. Of texts there is no end, so that
-- they want a default.
abbrev pub SwitchCovers : Store → Ty → (has_default : Bool) → List ℤ → Type 0
SwitchCovers s t has_default vs = IsTrue has_default ⊎ ListsAll (range_of (base_row s t)) vs

-- ---- members

-- the patterns of a `match`: whether one is left out, whether one is `null`, and the types of the others
pub record Patterns : Type 0 where
  pub has_default : Bool
  pub has_null : Bool
  pub types : List ℕ

abbrev pub is_pointer_to : ℕ → Option Row → Bool
is_pointer_to i (Some (row.Pointer j)) = nat_eq i j
is_pointer_to i _ = false

abbrev pub covers_row : Store → Option Row → Patterns → Bool
covers_row s (Some (row.Union is)) ps = list_all (λ i. list_any (nat_eq i) ps.types) is
covers_row s (Some (row.Nullable i)) ps = ps.has_null && list_any (λ t. is_pointer_to i (row_at s t)) ps.types
covers_row s _ ps = false

-- Whether the patterns cover the base of a type: of a union each member, of a nullable pointer both `null` and the pointer that is not
-- null.
abbrev pub match_covers : Store → Ty → Patterns → Bool
match_covers s t ps = ps.has_default || covers_row s (base_row s t) ps
