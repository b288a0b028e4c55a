use Rattle.std.proofs.Common.{◌≡◌, ◌++◌, ◌↔◌, List, drop, map}
use Rattle.hare_blocks.specs.declared.token.Token.{Token}
use Rattle.hare_blocks.specs.Parsing.{fixed_token}
use Rattle.hare_blocks.proofs.cursor.Cursor.takes_all.Given as goal

-- the tokens that are left begin with the pieces that are left as the tokens begin with all
abbrev pub invariant-loop-piece : goal.invariant-loop-piece
invariant-loop-piece l = (rest : List Token) →
    (l.self ≡ map fixed_token (drop l.piece-index l.fixed) ++ rest) ↔ (l.initial.self ≡ map fixed_token l.fixed ++ rest)
