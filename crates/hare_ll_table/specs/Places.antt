-- Places in a list of tokens at which a run stands.
use Rattle.std.specs.Prelude.{◌≡◌, ℕ, ◌-◌, ◌≤◌, ◌⊎◌, List, drop, length}
use Rattle.hare_tree.specs.declared.token.Token.{Token}
use Rattle.hare_tree.specs.Grammar.{joined, StandsAt}

-- The place is that of a token behind `from`, or behind all tokens, or `from` itself, and no strings are joined across it.
pub record IsPlace (ts : List Token) (from n : ℕ) : Type 0 where
  pub behind : from ≤ n
  pub within : (n ≡ from) ⊎ (n ≤ length ts)
  pub stands : StandsAt (drop from ts) (n - from) (joined (drop n ts))
