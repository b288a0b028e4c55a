-- How many tokens a file has, and how many bytes their strings.
use Rattle.std.specs.Prelude.{ℕ, ◌+◌, ◌≤◌, List, length}
use Rattle.hare_tree.specs.declared.place.Fault.{Fault}
use Rattle.hare_tree.specs.declared.token.Token.{Token}
use Rattle.hare_tree.specs.Tokens.{IsTokens, IsFirstBreak}
use Rattle.hare_tree.specs.Size.{string_bytes_in}

-- the tokens are at most as many as the bytes of the text and one, and their strings have together at most as many bytes
pub record AreFew (text : List ℕ) (ts : List Token) : Type 0 where
  pub tokens : length ts ≤ length text + 1
  pub strings : string_bytes_in ts ≤ length text

-- the tokens of a file, and those that are kept before its first break
abbrev pub TokensAreFew : Type 0
TokensAreFew = (file : ℕ) (text : List ℕ) (ts : List Token) → IsTokens file text ts → AreFew text ts

abbrev pub KeptAreFew : Type 0
KeptAreFew =
    (file : ℕ) (text : List ℕ) (fault : Fault) (kept : List Token) → IsFirstBreak file text fault kept → AreFew text kept
