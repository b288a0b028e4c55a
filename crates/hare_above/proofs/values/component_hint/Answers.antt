use Rattle.std.proofs.Common.{refl, ap, ◌∙◌, Some, None, ◌-◌}
use Rattle.hare_rules.specs.Above.{hint_to, component_at}
use Rattle.rule_judge.specs.Defined.{IsDefined}
use Rattle.hare_above.proofs.BareLemmas.{component-next, component-held}
use Rattle.hare_above.proofs.values.component_hint.Goals as goal

pub returns-in-Some-clause-value : goal.returns-in-Some-clause-value
returns-in-Some-clause-value c w l =
    component-next w c.args.q.now.own c.hint_to.result (Some c.in-Some.types.now) c.args.q.now.done.now c.args.q.now.kids.now
    c.args.q.now.kid.now
    c.saturating_sub-items.result c.requires.next (c.saturating_sub-items.ensures ∙ ap (λ n. n - 1) c.len.ensures)
    (c.in-Some.ensures.value w.store l)
    (c.hint_to.ensures.value ∙ ap hint_to (c.component.ensures ∙ ap (component_at (Some c.in-Some.types.now)) c.len-in-Some.ensures))

pub returns-in-Some-clause-defined : goal.returns-in-Some-clause-defined
returns-in-Some-clause-defined c =
    c.hint_to.ensures.defined c.args.s.now
    (component-held (IsDefined c.args.s.now) c.in-Some.types.now c.len-in-Some.result c.component.result c.in-Some.ensures.defined
    c.component.ensures)

pub returns-in-None-clause-value : goal.returns-in-None-clause-value
returns-in-None-clause-value c w l =
    component-next w c.args.q.now.own _ None c.args.q.now.done.now c.args.q.now.kids.now c.args.q.now.kid.now
    c.saturating_sub-items.result c.requires.next (c.saturating_sub-items.ensures ∙ ap (λ n. n - 1) c.len.ensures)
    (c.in-None.ensures.value w.store l)
    (refl)
