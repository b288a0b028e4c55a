use Rattle.std.proofs.Common.{[], ◌∷◌, ◌++◌, List, refl}
use Rattle.hare_blocks.specs.declared.token.Token.{Token}
use Rattle.hare_blocks.specs.declared.token.Token.TheVariants as token
use Rattle.hare_blocks.specs.Trees.{expr_tokens}
use Rattle.hare_blocks.specs.Grammar.{IsLimited}
use Rattle.hare_blocks.specs.Parsing.{IsNoTerm}
use Rattle.hare_blocks.proofs.ReadExpressions.Conditions.{closes, not_around, none_around, unclosed_around, around_read}
use Rattle.hare_blocks.proofs.read_condition.status.Goals as goal

abbrev opening : List Token
opening = token.OpenParen ∷ token.OpenParen ∷ []

abbrev closing : List Token
closing = token.CloseParen ∷ token.Colon ∷ token.U8 ∷ token.CloseParen ∷ []

ends : (rest : List Token) → IsNoTerm (closing ++ rest)
ends rest = closes (token.Colon ∷ token.U8 ∷ token.CloseParen ∷ rest)

pub returns-then-not-takes_all : goal.returns-then-not-takes_all
returns-then-not-takes_all c = not_around expr_tokens IsLimited opening closing ends c.args.tokens.now c.takes_all.new.self
    (c.if-not-takes_all.ensures.absent refl)

pub returns-in_default : goal.returns-in_default
returns-in_default c = none_around expr_tokens IsLimited opening closing ends c.args.tokens.now c.takes_all.new.self c.outer_expr.new.tokens
    c.outer_expr.new.tokens (c.if-not-takes_all.ensures.taken refl) (rw c.in_default.is at c.in_ok-found.ensures)

pub returns-then-not-takes_all-2 : goal.returns-then-not-takes_all-2
returns-then-not-takes_all-2 c = unclosed_around expr_tokens IsLimited opening closing ends c.in-Some.found c.args.tokens.now
    c.takes_all.new.self c.outer_expr.new.tokens c.takes_all-2.new.self (c.if-not-takes_all.ensures.taken refl)
    (rw c.in-Some.is at c.in_ok-found.ensures) (c.if-not-takes_all-2.ensures.absent refl)

pub returns : goal.returns
returns c = around_read expr_tokens IsLimited opening closing ends c.in-Some.found c.args.tokens.now c.takes_all.new.self
    c.outer_expr.new.tokens c.takes_all-2.new.self (c.if-not-takes_all.ensures.taken refl) (rw c.in-Some.is at c.in_ok-found.ensures)
    (c.if-not-takes_all-2.ensures.taken refl)
