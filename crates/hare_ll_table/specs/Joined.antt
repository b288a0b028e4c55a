-- Strings side by side as the program reads them: one token, up to the next token that is no string with nothing beside its text.
use Rattle.std.specs.Prelude.{◌≡◌, ℕ, ◌-◌, ◌<◌, ◌≤◌, List, ◌∷◌, drop, length}
use Rattle.hare_tree.specs.declared.token.Token.{Token}
use Rattle.hare_tree.specs.Grammar.{joined, StandsAt}

-- The first of the joined tokens from a place of the list on is this one. The others are those from the next place on, where no strings are
-- joined across that place.
pub record BeginsWith (ts : List Token) (at : ℕ) (t : Token) (next : ℕ) : Type 0 where
  pub joins : joined (drop at ts) ≡ t ∷ joined (drop next ts)
  pub further : at < next
  pub within : next ≤ length ts
  pub stands : StandsAt (drop at ts) (next - at) (joined (drop next ts))
