-- What is left holds where the whole does.
use Rattle.std.proofs.Common.{◌≡◌, drop}
use Rattle.hare_blocks.specs.Names as names
use Rattle.hare_blocks.specs.Names.{names_of}
use Rattle.hare_blocks.specs.Shape.{terms_of, factors_of}
use Rattle.hare_blocks.proofs.names.+names.Given as goal

abbrev pub invariant-expr_holds-loop-signed : goal.invariant-expr_holds-loop-signed
invariant-expr_holds-loop-signed l = names.expr_holds (names_of l.scope) l.e ≡
    names.terms_hold (names_of l.scope) (terms_of (drop l.signed-index l.signed-items))

abbrev pub invariant-term_holds-loop-factor : goal.invariant-term_holds-loop-factor
invariant-term_holds-loop-factor l = names.term_holds (names_of l.scope) l.t ≡
    names.factors_hold (names_of l.scope) (factors_of (drop l.factor-index l.factor-items))
