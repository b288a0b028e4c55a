use Rattle.std.proofs.Common.{refl, arith}
use Rattle.std.proofs.lemmas.Result.{on_ok_weaker}
use Rattle.hare_tree.proofs.Spelling.Spelled.{one_led-past}
use Rattle.hare_tree.proofs.Spelling.Stack.{one-left, one-weight, past-weight}
use Rattle.hare_tree.specs.Left.{left_weight}
use Rattle.hare_tree.proofs.unparse.left.leave_one.Goals as goal

pub returns-in-Some-clause-tokens : goal.returns-in-Some-clause-tokens
returns-in-Some-clause-tokens c =
    on_ok_weaker c.leave_tree.result
    (one-left c.args.kids.now c.args.i c.in-Some.t.now c.args.lead c.args.left.now.items c.leave_tree.new.left.items
    c.in-Some.ensures.found) c.leave_tree.ensures.tokens

pub returns-in-Some-clause-weight : goal.returns-in-Some-clause-weight
returns-in-Some-clause-weight c =
    let lighter = one-weight c.args.kids.now c.args.i c.in-Some.t.now (left_weight c.args.left.now.items)
    (left_weight c.leave_tree.new.left.items) c.in-Some.ensures.found in
    on_ok_weaker c.leave_tree.result (λ h. let below = lighter h in omega arith) c.leave_tree.ensures.weight

pub returns-in-Some-clause-lighter : goal.returns-in-Some-clause-lighter
returns-in-Some-clause-lighter c =
    let lighter = one-weight c.args.kids.now c.args.i c.in-Some.t.now (left_weight c.args.left.now.items)
    (left_weight c.leave_tree.new.left.items) c.in-Some.ensures.found in
    on_ok_weaker c.leave_tree.result (λ h within. lighter h) c.leave_tree.ensures.weight

pub returns-in-None-clause-tokens : goal.returns-in-None-clause-tokens
returns-in-None-clause-tokens c = λ f.
    rw (one_led-past f c.args.lead c.args.kids.now c.args.i c.in-None.ensures.none) refl

pub returns-in-None-clause-weight : goal.returns-in-None-clause-weight
returns-in-None-clause-weight c = past-weight c.args.kids.now c.args.i (left_weight c.args.left.now.items) c.in-None.ensures.none
