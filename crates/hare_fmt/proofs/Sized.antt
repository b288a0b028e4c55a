-- How many tokens the tree of a file spells.
use Rattle.std.proofs.Common.{ℕ, ◌+◌, ◌≤◌, List, [], ◌∷◌, ◌++◌, Bool, true, false, length, ap, arith, if◌then◌else◌}
use Rattle.std.proofs.lemmas.List.{length-map}
use Rattle.hare_tree.specs.declared.token.Token.{Token}
use Rattle.hare_tree.specs.declared.tree.FileTree.{FileTree}
use Rattle.hare_tree.specs.Spell.{spell_file}
use Rattle.hare_tree.specs.Grammar.{is_proper_string, string_at, joined_to, joined, unplaced, Spells}
use Rattle.hare_decl.specs.Answers.{IsSource}
use Rattle.hare_lex.proofs.Order.Ordered.{tokens_are_few}

joined_to_length : (t : Token) (us : List Token) → length (joined_to t us) ≤ 1 + length us
joined_to_length t [] = omega arith
joined_to_length t (u ∷ us) = by (is_proper_string t) (is_proper_string u)
  where
    by : (p q : Bool)
        → length (if p then (if q then string_at t.place (t.text ++ u.text) ∷ us else t ∷ u ∷ us) else t ∷ u ∷ us) ≤ 1 + length (u ∷ us)
    by true true = omega arith
    by true false = omega arith
    by false q = omega arith

joined_length : (ts : List Token) → length (joined ts) ≤ length ts
joined_length [] = omega arith
joined_length (t ∷ ts) = omega (arith, joined_to_length t (joined ts), joined_length ts)

spelled_length : (spelled ts : List Token) → Spells spelled ts → length spelled ≤ length ts
spelled_length spelled ts e =
    omega (arith, length-map spelled unplaced, length-map (joined ts) unplaced, ap length e, joined_length ts)

-- the tree of a file spells at most as many tokens as the file has bytes, and one
pub sources_are_short : (text : List ℕ) (tree : FileTree) → IsSource 0 text tree → length (spell_file tree) ≤ length text + 1
sources_are_short text tree s =
    omega (arith, spelled_length (spell_file tree) s.tokens s.file_is.read.spelled, (tokens_are_few 0 text s.tokens s.are).tokens)
