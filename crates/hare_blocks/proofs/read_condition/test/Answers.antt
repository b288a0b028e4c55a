use Rattle.std.proofs.Common.{[], ◌∷◌, refl}
use Rattle.hare_blocks.specs.declared.token.Token.TheVariants as token
use Rattle.hare_blocks.specs.Trees.{condition_tokens}
use Rattle.hare_blocks.specs.Shape.{condition_of}
use Rattle.hare_blocks.specs.Grammar.{ConditionFits}
use Rattle.hare_blocks.proofs.ReadExpressions.Conditions.{closes, not_around, none_around, unclosed_around, around_read}
use Rattle.hare_blocks.proofs.read_condition.test.Goals as goal

pub returns-then-not-takes : goal.returns-then-not-takes
returns-then-not-takes c = not_around condition_tokens ConditionFits (token.OpenParen ∷ []) (token.CloseParen ∷ []) closes c.args.tokens.now
    c.takes.new.self (c.if-not-takes.ensures.absent refl)

pub returns-in_default : goal.returns-in_default
returns-in_default c = none_around condition_tokens ConditionFits (token.OpenParen ∷ []) (token.CloseParen ∷ []) closes c.args.tokens.now
    c.takes.new.self c.condition.new.tokens c.condition.new.tokens (c.if-not-takes.ensures.taken refl)
    (rw c.in_default.is at c.in_ok-found.ensures)

pub returns-then-not-takes-2 : goal.returns-then-not-takes-2
returns-then-not-takes-2 c = unclosed_around condition_tokens ConditionFits (token.OpenParen ∷ []) (token.CloseParen ∷ []) closes
    (condition_of c.in-Some.found) c.args.tokens.now c.takes.new.self c.condition.new.tokens c.takes-2.new.self
    (c.if-not-takes.ensures.taken refl) (rw c.in-Some.is at c.in_ok-found.ensures) (c.if-not-takes-2.ensures.absent refl)

pub returns : goal.returns
returns c = around_read condition_tokens ConditionFits (token.OpenParen ∷ []) (token.CloseParen ∷ []) closes (condition_of c.in-Some.found)
    c.args.tokens.now c.takes.new.self c.condition.new.tokens c.takes-2.new.self (c.if-not-takes.ensures.taken refl)
    (rw c.in-Some.is at c.in_ok-found.ensures) (c.if-not-takes-2.ensures.taken refl)
