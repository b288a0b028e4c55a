-- What the cases are for, as the rules have it and as the crate does.
use Rattle.std.specs.Prelude.{◌≡◌, ℕ, ℤ, Bool, true, false, List, ◌++◌, filter, length, map, Option, Some, option_map}
use Rattle.std.specs.Option.{option_or}
use Rattle.hare_tree.specs.declared.place.Place.{Place}
use Rattle.hare_types.specs.Store.{Store}
use Rattle.hare_typed.specs.Cover.{Range}
use Rattle.hare_const.specs.declared.cover.Limits.{Limits}
use Rattle.hare_rules.specs.Constants as rules
use Rattle.rule_switch.specs.declared.labels.Label.{Label}
use Rattle.rule_switch.specs.declared.labels.Label.TheVariants as label

abbrev pub label_told : Label → rules.Label
label_told label.Default = rules.Default
label_told (label.Value v) = rules.Value v
label_told (label.Text bytes) = rules.Text bytes.items
label_told label.Lacking = rules.Lacking

-- a value, or all others; the rest are no constants of the type
abbrev pub is_constant : Label → Bool
is_constant label.Lacking = false
is_constant label.Default = true
is_constant (label.Value v) = true
is_constant (label.Text b) = true

-- a label that stands at a place
abbrev pub told : Place → Label → rules.Labelled
told p l = record { place = p; label = label_told l }

abbrev pub place_in : rules.Labelled → Place
place_in x = x.place

-- ---- repetition

-- those that were met
abbrev pub labels_met : List Label → List rules.Label
labels_met ks = map label_told ks

-- where the first stands that is among those, or among earlier ones
abbrev pub repeated_place : List rules.Label → List rules.Labelled → Option Place
repeated_place ls xs = option_map place_in (rules.repeated_label ls xs)

-- These are met behind those of `old`, and that is where the first of them stands that is repeated. Where none is, whatever follows is met
-- behind those of `new`.
abbrev pub Meets : (old : List rules.Label) → List rules.Labelled → Option Place → (new : List rules.Label) → Type 0
Meets old xs at new = (rest : List rules.Labelled) → repeated_place old (xs ++ rest) ≡ option_or at (repeated_place new rest)

-- ---- cover

abbrev pub range_told : Limits → Range
range_told r = record { least = r.least; greatest = r.greatest }

-- the numbers of the type go from the least to the greatest of these
abbrev pub HasLimits : Store → ℕ → Limits → Type 0
HasLimits s t r = rules.range_at s (Some t) ≡ Some (range_told r)

-- those that are numbers
abbrev pub numbers_in : List rules.Labelled → List ℤ
numbers_in xs = rules.numbers_listed (map (λ x. x.label) xs)

abbrev pub is_number_within : Range → rules.Label → Bool
is_number_within r (rules.Value v) = rules.is_within r v
is_number_within r rules.Default = false
is_number_within r (rules.Text s) = false
is_number_within r rules.Lacking = false

-- how many are numbers within the range
abbrev pub counted : Range → List rules.Labelled → ℕ
counted r xs = length (filter (rules.is_within r) (numbers_in xs))

-- a case for all that no other is for
abbrev pub is_default : rules.Labelled → Bool
is_default x = rules.is_default x.label
