use Rattle.std.proofs.Common.{◌<◌, ◌+◌, length, refl, arith}
use Rattle.std.proofs.lemmas.Result.{on_ok_weaker}
use Rattle.hare_tree.specs.declared.form.Sign.TheVariants as si
use Rattle.hare_tree.specs.declared.form.Lead.TheVariants as le
use Rattle.hare_tree.specs.declared.unparse.left.Row.{Row}
use Rattle.hare_tree.specs.Left.{left_weight}
use Rattle.hare_tree.proofs.Spelling.Spelled.{listed-past}
use Rattle.hare_tree.proofs.Spelling.Stack.{rows-left, row-weight}
use Rattle.hare_tree.proofs.unparse.left.leave_listed.Goals as goal

pub returns-then-len-from-clause-tokens : goal.returns-then-len-from-clause-tokens
returns-then-len-from-clause-tokens c = λ f.
    rw (listed-past f c.args.kids.now c.args.from (omega arith)) refl

pub returns-clause-tokens : goal.returns-clause-tokens
returns-clause-tokens c =
    let r : Row = record { kids = c.args.kids; from = c.args.from + 1; lead = le.Before si.Comma } in
    on_ok_weaker c.leave_one.result (rows-left r c.args.from _ _ c.leave_one.new.left.items refl refl c.in_ok-push.ensures.items)
    c.leave_one.ensures.tokens

pub returns-clause-weight : goal.returns-clause-weight
returns-clause-weight c =
    let r : Row = record { kids = c.args.kids; from = c.args.from + 1; lead = le.Before si.Comma } in
    let within : c.args.from < length c.args.kids.now = omega arith in
    let lighter = row-weight r c.args.from (left_weight c.leave_one.new.left.items) _ _ refl c.in_ok-push.ensures.items in
    on_ok_weaker c.leave_one.result (λ h. lighter (h within)) c.leave_one.ensures.lighter
