use Rattle.std.proofs.Common.{sym, ◌∙◌, arith}
use Rattle.hare_types.proofs.LaterLemmas.{later_trans}
use Rattle.rule_judge.proofs.KidLemmas.{own_defined}
use Rattle.rule_ctl.proofs.TryLemmas.{no_type}
use Rattle.hare_above.proofs.BareLemmas.{default-later}
use Rattle.hare_above.proofs.values.item_hint.Goals as goal

pub default_in-requires : goal.default_in-requires
default_in-requires c = rw c.type_at-first.ensures (own_defined c.args.s.now c.args.q.now.done.now 0 c.requires.done)

pub returns-clause-value : goal.returns-clause-value
returns-clause-value c w l =
    let before = later_trans c.args.s.now c.default_in.new.s w.store c.default_in.ensures.grown.later l in
    default-later w c.args.q.now.done.now _ c.in_ok-o.o c.hint_to.result (λ e. omega (arith, e))
    (no_type c.hinted_element.result c.in_default.not-Some ∙ c.hinted_element.ensures.value w.store before)
    (rw (sym c.type_at-first.ensures) (c.in_ok-o.ensures.value w.store l)) c.hint_to.ensures.value
