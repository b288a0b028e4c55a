-- What is found behind the name of a command that runs something. No public clause cites this file.
use Rattle.std.specs.Prelude.{◌≡◌, ℕ, List, length, drop, Some}
use Rattle.harec_words.specs.declared.reading.Parts.{Parts}
use Rattle.harec_words.specs.Reading.{units_in, named_in, args_in}
use Rattle.harec_words.specs.Spans.{words_at, IsWithin}

-- these units, and spans of what is run and of the arguments
pub record ArePartsOf (words : List (List ℕ)) (p : Parts) : Type 0 where
  pub from : ℕ
  pub units_are : units_in words ≡ Some (p.units, from)
  pub named_are : words_at words p.named ≡ named_in (drop from words)
  pub args_are : words_at words p.args ≡ args_in (drop from words)
  pub named_within : IsWithin (length words) p.named
  pub args_within : IsWithin (length words) p.args
