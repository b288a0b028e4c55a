use Rattle.std.proofs.Common.{◌<◌, ◌+◌, length, refl, arith}
use Rattle.std.proofs.lemmas.Result.{on_ok_weaker}
use Rattle.hare_tree.specs.declared.unparse.left.Row.{Row}
use Rattle.hare_tree.specs.Left.{left_weight}
use Rattle.hare_tree.proofs.Spelling.Spelled.{all_led-past}
use Rattle.hare_tree.proofs.Spelling.Stack.{row-left, row-weight}
use Rattle.hare_tree.proofs.unparse.left.leave_row.Goals as goal

pub returns-then-len-from-clause-tokens : goal.returns-then-len-from-clause-tokens
returns-then-len-from-clause-tokens c = λ f.
    rw (all_led-past f c.args.lead c.args.kids.now c.args.from (omega arith)) refl

pub returns-clause-tokens : goal.returns-clause-tokens
returns-clause-tokens c =
    let r : Row = record { kids = c.args.kids; from = c.args.from + 1; lead = c.args.lead } in
    on_ok_weaker c.leave_one.result (row-left r c.args.from _ _ c.leave_one.new.left.items refl c.in_ok-push.ensures.items)
    c.leave_one.ensures.tokens

pub returns-clause-weight : goal.returns-clause-weight
returns-clause-weight c =
    let r : Row = record { kids = c.args.kids; from = c.args.from + 1; lead = c.args.lead } in
    let within : c.args.from < length c.args.kids.now = omega arith in
    let lighter = row-weight r c.args.from (left_weight c.leave_one.new.left.items) _ _ refl c.in_ok-push.ensures.items in
    on_ok_weaker c.leave_one.result (λ h. lighter (h within)) c.leave_one.ensures.lighter
