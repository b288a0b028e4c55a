use Rattle.std.proofs.Common.{◌+◌, ◌-◌, ◌*◌, length}
use Rattle.hare_blocks.proofs.ReadExpressions.Expressions.{TermsSoFar}
use Rattle.hare_blocks.proofs.ReadExpressions.Products.{FactorsSoFar}
use Rattle.hare_blocks.proofs.read_expr.+expr.Given as goal

-- each parenthesis that opens takes 6
abbrev pub decreases-expr : goal.decreases-expr
decreases-expr l = 6 * (64 - l.depth) + 5

abbrev pub decreases-further_terms : goal.decreases-further_terms
decreases-further_terms l = 6 * (64 - l.depth) + 4

abbrev pub decreases-term : goal.decreases-term
decreases-term l = 6 * (64 - l.depth) + 3

abbrev pub decreases-further_factors : goal.decreases-further_factors
decreases-further_factors l = 6 * (64 - l.depth) + 2

abbrev pub decreases-factor : goal.decreases-factor
decreases-factor l = 6 * (64 - l.depth) + 1

abbrev pub decreases-group : goal.decreases-group
decreases-group l = 6 * (64 - l.depth)

abbrev pub invariant-further_terms-terms : goal.invariant-further_terms-terms
invariant-further_terms-terms l = TermsSoFar l.depth l.terms.items l.fn.tokens l.tokens

abbrev pub decreases-further_terms-terms : goal.decreases-further_terms-terms
decreases-further_terms-terms l = length l.tokens

abbrev pub invariant-further_factors-factors : goal.invariant-further_factors-factors
invariant-further_factors-factors l = FactorsSoFar l.depth l.factors.items l.fn.tokens l.tokens

abbrev pub decreases-further_factors-factors : goal.decreases-further_factors-factors
decreases-further_factors-factors l = length l.tokens
