use Rattle.std.proofs.Common.{length, ap, ◌∙◌, ◌≡◌, arith}
use Rattle.hare_rules.specs.Above.{hint_to}
use Rattle.hare_above.proofs.BareLemmas.{seen-second}
use Rattle.hare_above.proofs.values.assigned_hint.Goals as goal

pub returns-clause-value : goal.returns-clause-value
returns-clause-value c w =
    let one : length c.args.q.now.done.now ≡ 1 = omega arith in
    seen-second c.args.q.now.done.now c.hint_to.result one (c.hint_to.ensures.value ∙ ap hint_to c.id_at.ensures.value)
