use Rattle.std.proofs.Common.{refl, arith}
use Rattle.hare_blocks.specs.Shape.{terms_of, factor_of, factors_of}
use Rattle.hare_blocks.proofs.ReadExpressions.Expressions.{terms_more, terms_break, terms_end, no_head_term, no_further_terms, expr_read}
use Rattle.hare_blocks.proofs.ReadExpressions.Products.{factors_more, factors_break, factors_end, no_head_factor, no_further_factors}
use Rattle.hare_blocks.proofs.ReadExpressions.Products.{term_read}
use Rattle.hare_blocks.proofs.ReadExpressions.Factored.{other_factor, factor_of_nothing, number_read, group_too_deep, group_of_nothing}
use Rattle.hare_blocks.proofs.ReadExpressions.Factored.{group_open, group_read}
use Rattle.hare_blocks.proofs.read_expr.+expr.Goals as goal

-- ---- expressions

pub expr-returns-in_default : goal.expr-returns-in_default
expr-returns-in_default t c = no_head_term c.args.depth c.args.tokens.now c.term.new.tokens c.term.new.tokens
    (rw c.in_default.is at c.in_ok-head.ensures)

pub expr-returns-in_default-2 : goal.expr-returns-in_default-2
expr-returns-in_default-2 t c = no_further_terms c.args.depth c.in-Some.head c.args.tokens.now c.term.new.tokens c.further_terms.new.tokens
    c.further_terms.new.tokens (rw c.in-Some.is at c.in_ok-head.ensures) (rw c.in_default-2.is at c.in_ok-rest.ensures)

pub expr-returns : goal.expr-returns
expr-returns t c = expr_read c.args.depth c.in-Some.head (terms_of c.in-Some-2.rest.items) c.args.tokens.now c.term.new.tokens
    c.further_terms.new.tokens (rw c.in-Some.is at c.in_ok-head.ensures) (rw c.in-Some-2.is at c.in_ok-rest.ensures)

pub further_terms-returns-in_default-2 : goal.further_terms-returns-in_default-2
further_terms-returns-in_default-2 t c = terms_break c.args.depth c.terms.terms.items c.in-Some.sign c.args.tokens.now c.terms.tokens
    c.takes_sign.new.self c.term.new.tokens c.term.new.tokens c.terms.invariant c.in-Some.ensures.some
    (rw c.in_default-2.is at c.in_ok-term.ensures)

pub further_terms-terms-preserved : goal.further_terms-terms-preserved
further_terms-terms-preserved t c = rw c.in_ok-push.ensures.items
    (terms_more c.args.depth c.terms.terms.items c.in-Some.sign c.in-Some-2.term c.args.tokens.now c.terms.tokens c.takes_sign.new.self
    c.term.new.tokens c.terms.invariant c.in-Some.ensures.some (rw c.in-Some-2.is at c.in_ok-term.ensures))

pub further_terms-returns : goal.further_terms-returns
further_terms-returns t c = rw c.in_default.ensures.kept
    (terms_end c.args.depth c.terms.terms.items c.args.tokens.now c.terms.tokens c.requires c.terms.invariant c.in_default.ensures.none)

-- ---- terms

pub term-returns-in_default : goal.term-returns-in_default
term-returns-in_default t c = no_head_factor c.args.depth c.args.tokens.now c.factor.new.tokens c.factor.new.tokens
    (rw c.in_default.is at c.in_ok-head.ensures)

pub term-returns-in_default-2 : goal.term-returns-in_default-2
term-returns-in_default-2 t c = no_further_factors c.args.depth (factor_of c.in-Some.head) c.args.tokens.now c.factor.new.tokens
    c.further_factors.new.tokens c.further_factors.new.tokens (rw c.in-Some.is at c.in_ok-head.ensures)
    (rw c.in_default-2.is at c.in_ok-rest.ensures)

pub term-returns : goal.term-returns
term-returns t c = term_read c.args.depth (factor_of c.in-Some.head) (factors_of c.in-Some-2.rest.items) c.args.tokens.now
    c.factor.new.tokens c.further_factors.new.tokens (rw c.in-Some.is at c.in_ok-head.ensures) (rw c.in-Some-2.is at c.in_ok-rest.ensures)

pub further_factors-returns-in_default : goal.further_factors-returns-in_default
further_factors-returns-in_default t c = factors_break c.args.depth c.factors.factors.items c.args.tokens.now c.factors.tokens
    c.takes.new.self c.factor.new.tokens c.factor.new.tokens c.factors.invariant (c.factors-test.ensures.taken refl)
    (rw c.in_default.is at c.in_ok-factor.ensures)

pub further_factors-factors-preserved : goal.further_factors-factors-preserved
further_factors-factors-preserved t c = rw c.in_ok-push.ensures.items
    (factors_more c.args.depth c.factors.factors.items c.in-Some.factor c.args.tokens.now c.factors.tokens c.takes.new.self
    c.factor.new.tokens c.factors.invariant (c.factors-test.ensures.taken refl) (rw c.in-Some.is at c.in_ok-factor.ensures))

pub further_factors-returns : goal.further_factors-returns
further_factors-returns t c = rw (c.factors-test.ensures.kept refl)
    (factors_end c.args.depth c.factors.factors.items c.args.tokens.now c.factors.tokens c.requires c.factors.invariant
    (c.factors-test.ensures.absent refl))

-- ---- factors

pub factor-returns-in_default : goal.factor-returns-in_default
factor-returns-in_default t c = factor_of_nothing c.args.depth c.args.tokens.now c.next.new.self c.in_default.ensures.none

pub factor-returns-in-Number : goal.factor-returns-in-Number
factor-returns-in-Number t c = number_read c.args.depth c.in-Number.n c.args.tokens.now c.next.new.self c.requires
    (rw c.in-Number.is at c.in-Some.ensures.some)

pub factor-returns-in-OpenParen : goal.factor-returns-in-OpenParen
factor-returns-in-OpenParen t c = let front = rw c.in-OpenParen.is at c.in-Some.ensures.some in rw front c.group.ensures

pub factor-returns-in-Name : goal.factor-returns-in-Name
factor-returns-in-Name t c = let front = rw c.in-Name.is at c.in-Some.ensures.some in rw front c.named.ensures

pub factor-returns-in_default-first : goal.factor-returns-in_default-first
factor-returns-in_default-first t c = other_factor c.args.depth c.in-Some.first.now c.args.tokens.now c.next.new.self c.next.new.self
    c.in-Some.ensures.some c.in_default-first.not-Number c.in_default-first.not-OpenParen c.in_default-first.not-Name

pub group-returns-then-depth-ge-DEEPEST : goal.group-returns-then-depth-ge-DEEPEST
group-returns-then-depth-ge-DEEPEST t c = group_too_deep c.args.depth c.args.tokens.now c.args.tokens.now (omega arith)

pub group-returns-in_default : goal.group-returns-in_default
group-returns-in_default t c = group_of_nothing c.args.depth c.args.tokens.now c.expr.new.tokens c.expr.new.tokens
    (rw c.in_default.is at c.in_ok-inner.ensures)

pub group-returns-then-not-takes : goal.group-returns-then-not-takes
group-returns-then-not-takes t c = group_open c.args.depth c.in-Some.inner c.args.tokens.now c.expr.new.tokens c.takes.new.self
    (rw c.in-Some.is at c.in_ok-inner.ensures) (c.if-not-takes.ensures.absent refl)

pub group-returns : goal.group-returns
group-returns t c = rw c.in_ok-boxed.ensures.ok
    (group_read c.args.depth c.in-Some.inner c.args.tokens.now c.expr.new.tokens c.takes.new.self (rw c.in-Some.is at c.in_ok-inner.ensures)
    (c.if-not-takes.ensures.taken refl))
