-- Optional values in one word each, as they are kept beside the rows of a store.
use Rattle.std.specs.Prelude.{◌≡◌, ℕ, zero, suc, ◌+◌, ◌*◌, ◌/◌, ◌%◌, ◌<◌, Bool, true, false, Some, None, Option, IfSome}
use Rattle.hare_types.specs.Numbering.{most}
use Rattle.hare_types.specs.declared.extent.Extent.{Extent}
use Rattle.hare_types.specs.declared.root.Root.{Root}

-- the extent in a word: none in 0, and else the size above four bits for the alignment
abbrev pub extent_in : ℕ → Option Extent
extent_in zero = None
extent_in (suc n) = Some (record { size = suc n / 16; align = suc n % 16 })

abbrev pub extent_word : Option Extent → ℕ
extent_word None = 0
extent_word (Some x) = 16 * x.size + x.align

-- the id in a word: none in 0, and else the one below
abbrev pub id_in : ℕ → Option ℕ
id_in zero = None
id_in (suc n) = Some n

abbrev pub id_word : Option ℕ → ℕ
id_word None = 0
id_word (Some n) = suc n

-- the root that is kept in two parts: where there is neither a base nor an error mark, there is none
abbrev pub root_in : Option ℕ → Bool → Option Root
root_in (Some b) e = Some (record { base = Some b; is_error = e })
root_in None true = Some (record { base = None; is_error = true })
root_in None false = None

-- the base that is told, where there is one
abbrev pub base_in : Option Root → Option ℕ
base_in None = None
base_in (Some r) = r.base

-- the root tells something: a base, or an error mark
pub record Tells (r : Root) : Type 0 where
  pub something : r.base ≡ None → r.is_error ≡ true
  pub within : IfSome r.base (λ b. b < most)

abbrev pub mark_in : Option Root → Bool
mark_in None = false
mark_in (Some r) = r.is_error
