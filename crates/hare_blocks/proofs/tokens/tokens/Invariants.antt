use Rattle.std.proofs.Common.{◌≡◌, ◌++◌, List, length}
use Rattle.hare_blocks.specs.declared.token.Token.{Token}
use Rattle.hare_blocks.specs.Tokens.{Spells}
use Rattle.hare_blocks.proofs.tokens.tokens.Given as goal

-- tokens that spell the rest go on with those so far to the tokens of the text, and the tokens of the text begin so
abbrev pub invariant-rest : goal.invariant-rest
invariant-rest l = record {
  sound : (us : List Token) → Spells us l.rest → Spells (l.tokens.items ++ us) l.fn.text;
  whole : (ts : List Token) → Spells ts l.fn.text → (us : List Token) × (ts ≡ l.tokens.items ++ us) × Spells us l.rest;
}

abbrev pub decreases-rest : goal.decreases-rest
decreases-rest l = length l.rest
