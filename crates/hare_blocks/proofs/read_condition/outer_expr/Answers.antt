use Rattle.std.proofs.Common.{◌≡◌, sym, refl, subst}
use Rattle.hare_blocks.specs.Trees.{expr_tokens}
use Rattle.hare_blocks.specs.Class.{AreLimited}
use Rattle.hare_blocks.proofs.ReadExpressions.Conditions.{outer_none, outer_unlimited, outer_read, taken}
use Rattle.hare_blocks.proofs.read_condition.outer_expr.Goals as goal

pub returns-in_default : goal.returns-in_default
returns-in_default c = outer_none c.args.tokens.now c.expr.new.tokens c.expr.new.tokens (rw c.in_default.is at c.in_ok-found.ensures)

pub returns-then-not-is_limited : goal.returns-then-not-is_limited
returns-then-not-is_limited c =
    let r = rw c.in-Some.is at c.in_ok-found.ensures in
    let span = taken c.in-Some.found c.args.tokens.now c.expr.new.tokens r.sound.spelled in
    let front : c.split_at.result.0.now ≡ expr_tokens c.in-Some.found = cc (c.split_at.ensures.front, span) in
    outer_unlimited c.in-Some.found c.args.tokens.now c.expr.new.tokens c.expr.new.tokens r
    (λ l. let k = c.if-not-is_limited.ensures.1 (subst AreLimited (sym front) l) in cc)

pub returns : goal.returns
returns c =
    let r = rw c.in-Some.is at c.in_ok-found.ensures in
    let span = taken c.in-Some.found c.args.tokens.now c.expr.new.tokens r.sound.spelled in
    let front : c.split_at.result.0.now ≡ expr_tokens c.in-Some.found = cc (c.split_at.ensures.front, span) in
    outer_read c.in-Some.found c.args.tokens.now c.expr.new.tokens r (subst AreLimited front (c.if-not-is_limited.ensures.0 refl))
