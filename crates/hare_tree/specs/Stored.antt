-- The bytes of a word, wherever they stand. No public clause cites it.
use Rattle.std.specs.Prelude.{ℕ, List}
use Rattle.hare_tree.specs.declared.word.Stored.{Stored}
use Rattle.hare_tree.specs.declared.word.Stored.TheVariants.{Short, Long}

-- ---- words

-- the bytes of a text that stands in the word itself, or in memory
abbrev pub stored_bytes : Stored → List ℕ
stored_bytes (Short bytes) = bytes
stored_bytes (Long bytes) = bytes.value.items
