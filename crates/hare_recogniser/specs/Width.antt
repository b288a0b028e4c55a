-- How many tokens of a list are one to the grammar.
use Rattle.std.specs.Prelude.{ℕ, suc, List, [], ◌∷◌, if◌then◌else◌}
use Rattle.hare_tree.specs.declared.token.Token.{Token}
use Rattle.hare_tree.specs.Grammar.{is_proper_string}

-- how many of the first tokens are strings with nothing beside their text
abbrev pub strings_in_front : List Token → ℕ
strings_in_front [] = 0
strings_in_front (t ∷ ts) = if is_proper_string t then suc (strings_in_front ts) else 0

-- how many tokens the first of the joined tokens is made of
abbrev pub width : List Token → ℕ
width [] = 0
width (t ∷ ts) = if is_proper_string t then suc (strings_in_front ts) else 1
