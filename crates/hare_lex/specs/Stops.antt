-- Why the lexer stops.
use Rattle.std.specs.Prelude.{◌≡◌, ℕ, List, [], ◌∷◌, ◌++◌, ◌⊎◌, Result, MatchResult}
use Rattle.hare_tree.specs.declared.place.Fault as fault
use Rattle.hare_tree.specs.declared.place.Place.{Place}
use Rattle.hare_tree.specs.declared.token.Token.{Token}
use Rattle.hare_tree.specs.Tokens.{IsFirstBreak, end_at}
use Rattle.hare_lex.specs.declared.stop.LexStop.{LexStop}
use Rattle.hare_lex.specs.declared.stop.LexStop.TheVariants.{Fault, Memory}

-- the stop is the file's first break with the tokens before it, or there was not enough memory
abbrev pub Stops : ℕ → List ℕ → LexStop → Type 0
Stops file text (Fault fault kept) = IsFirstBreak file text fault kept
Stops file text Memory = Unit {0}

-- the stop is this fault behind these tokens, or there was not enough memory
abbrev pub Stopped : List Token → ℕ → Place → LexStop → Type 0
Stopped tokens number place (Fault fault kept) = (fault ≡ record { number = number; place = place }) × (kept ≡ tokens ++ end_at place ∷ [])
Stopped tokens number place Memory = Unit {0}

-- the call gave these tokens, or there was not enough memory
abbrev pub GivesTokens : List Token → Result (List Token) LexStop → Type 0
GivesTokens tokens result = MatchResult result (λ found. found ≡ tokens) (λ e. e ≡ Memory)

-- the call stopped at this fault with these kept tokens, or there was not enough memory
abbrev pub GivesFault : fault.Fault → List Token → Result (List Token) LexStop → Type 0
GivesFault f kept result = MatchResult result (λ found. ⊥) (λ e. (e ≡ Memory) ⊎ (e ≡ Fault f kept))
