-- What a command that names words by their places means.
use Rattle.std.specs.Prelude.{ℕ, List, ◌≤◌, slice_range}
use Rattle.harec_words.specs.declared.command.Span.{Span}
use Rattle.harec_words.specs.declared.command.Command.{Command}
use Rattle.harec_words.specs.declared.command.Command.TheVariants.{Check, Emit, Run, Exec, Fmt}
use Rattle.harec_words.specs.Commands as spec

-- the words that a span names
abbrev pub words_at : List (List ℕ) → Span → List (List ℕ)
words_at words s = slice_range words s.from s.to

-- the command on the words that are named
abbrev pub meant : List (List ℕ) → Command → spec.Command
meant words (Check files) = spec.Check (words_at words files)
meant words (Emit files) = spec.Emit (words_at words files)
meant words (Run units files args) = spec.Run units (words_at words files) (words_at words args)
meant words (Exec units program args) = spec.Exec units (words_at words program) (words_at words args)
meant words (Fmt file) = spec.Fmt (words_at words file)

-- the span names places of so many words
pub record IsWithin (count : ℕ) (s : Span) : Type 0 where
  pub ordered : s.from ≤ s.to
  pub within : s.to ≤ count

-- each span of the command does
abbrev pub NamesWithin : ℕ → Command → Type 0
NamesWithin count (Check files) = IsWithin count files
NamesWithin count (Emit files) = IsWithin count files
NamesWithin count (Run units files args) = IsWithin count files × IsWithin count args
NamesWithin count (Exec units program args) = IsWithin count program × IsWithin count args
NamesWithin count (Fmt file) = IsWithin count file
