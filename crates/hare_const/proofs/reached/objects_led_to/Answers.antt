use Rattle.std.proofs.Common.{◌≡◌, ◌∙◌, subst, arith}
use Rattle.std.specs.Prelude.{IfOk}
use Rattle.std.proofs.lemmas.Grind.{common_steps}
use Rattle.hare_const.proofs.StaticLemmas.{led_by_table}
use Rattle.hare_const.proofs.reached.objects_led_to.Goals as goal

pub returns : goal.returns
returns c =
    let numbers : c.as_slice.result.now ≡ c.in_ok-reached.reached.keys = grind (arith, common_steps) in
    let all =
    led_by_table c.args.objects c.in_ok-table.table c.args.cells.now c.len-count.result c.as_slice.result.now c.in_ok-table.ensures
    c.len-count.ensures (numbers ∙ c.in_ok-reached.ensures) in
    subst (λ x. IfOk c.listed.result (λ os. os ≡ x)) all c.listed.ensures
