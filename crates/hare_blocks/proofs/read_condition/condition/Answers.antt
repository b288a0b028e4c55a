use Rattle.std.proofs.Common.{refl}
use Rattle.hare_blocks.specs.Shape.{relation_of}
use Rattle.hare_blocks.proofs.ReadExpressions.Conditions.{always_read, no_left, no_relation, no_right, compares_read}
use Rattle.hare_blocks.proofs.read_condition.condition.Goals as goal

pub returns-then-takes : goal.returns-then-takes
returns-then-takes c = always_read c.args.tokens.now c.takes.new.self (c.if-takes.ensures.taken refl)

pub returns-in_default : goal.returns-in_default
returns-in_default c =
    let left = rw (c.if-takes.ensures.kept refl) at (rw c.in_default.is at c.in_ok-left.ensures) in
    no_left c.args.tokens.now c.outer_expr.new.tokens (c.if-takes.ensures.absent refl) c.outer_expr.new.tokens left

pub returns-in_default-takes_relation : goal.returns-in_default-takes_relation
returns-in_default-takes_relation c =
    let left = rw (c.if-takes.ensures.kept refl) at (rw c.in-Some.is at c.in_ok-left.ensures) in
    no_relation c.args.tokens.now c.takes_relation.new.self (c.if-takes.ensures.absent refl) c.in-Some.left c.outer_expr.new.tokens left
    c.in_default-takes_relation.ensures.none

pub returns-in_default-2 : goal.returns-in_default-2
returns-in_default-2 c =
    let left = rw (c.if-takes.ensures.kept refl) at (rw c.in-Some.is at c.in_ok-left.ensures) in
    no_right c.args.tokens.now c.outer_expr-2.new.tokens (c.if-takes.ensures.absent refl) c.in-Some.left
    (relation_of c.in-Some-takes_relation.relation) c.outer_expr.new.tokens c.takes_relation.new.self c.outer_expr-2.new.tokens left
    c.in-Some-takes_relation.ensures.some (rw c.in_default-2.is at c.in_ok-right.ensures)

pub returns : goal.returns
returns c =
    let left = rw (c.if-takes.ensures.kept refl) at (rw c.in-Some.is at c.in_ok-left.ensures) in
    compares_read c.args.tokens.now c.outer_expr-2.new.tokens (c.if-takes.ensures.absent refl) c.in-Some.left
    (relation_of c.in-Some-takes_relation.relation) c.in-Some-2.right c.outer_expr.new.tokens c.takes_relation.new.self left
    c.in-Some-takes_relation.ensures.some (rw c.in-Some-2.is at c.in_ok-right.ensures)
