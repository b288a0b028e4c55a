-- Places as keys of a table, and in their order. No public clause cites them.
use Rattle.std.specs.Prelude.{◌≡◌, ℕ, ◌<◌, List, true, map, length, get_or, Option, AllPairs}
use Rattle.hare_tree.specs.declared.place.Place.{Place}
use Rattle.hare_tree.specs.declared.token.Meaning.{Meaning}
use Rattle.hare_lex.specs.Order.{is_before}
use Rattle.hare_names.specs.Tables.{meaning_at}
use Rattle.hare_names.specs.declared.places.Key.{Key}
use Rattle.hare_names.specs.declared.rising.Met.{Met}

abbrev pub place_of : Key → Place
place_of k = record { file = k.file; line = k.line; column = k.column }

-- ---- places in their order

abbrev pub met_of : Met → Place × Meaning
met_of m = (m.place, m.meaning)

-- the meaning at a place
abbrev pub rising_at : Place → List Met → Option Meaning
rising_at p ms = meaning_at p (map met_of ms)

-- each stands before those behind it
abbrev pub IsRising : List Met → Type 0
IsRising ms = AllPairs (λ a b. is_before a.place b.place ≡ true) ms

-- all stand before the place
abbrev pub AreBefore : List Met → Place → Type 0
AreBefore ms p = (k : ℕ) (d : Met) → k < length ms → is_before (get_or ms k d).place p ≡ true
