use Rattle.std.proofs.Common.{◌≡◌, ap, ◌∙◌, length, arith}
use Rattle.hare_types.specs.declared.coercion.Ty.{Ty}
use Rattle.hare_typed.specs.Coercions.{element_of_slice}
use Rattle.hare_typed.specs.Given.{base_row}
use Rattle.hare_rules.specs.Above.{hint_to}
use Rattle.hare_above.specs.Asked.{rest_in}
use Rattle.rule_judge.proofs.KidLemmas.{own_defined}
use Rattle.hare_above.proofs.BareLemmas.{appended-nothing, appended-element, appended-slice}
use Rattle.hare_above.proofs.heap.appended_hint.Goals as goal

pub slice_element-requires : goal.slice_element-requires
slice_element-requires c = rw c.type_at-slice.ensures (own_defined c.args.s.now c.args.q.now.done.now 0 c.requires.done)

pub returns-in_default-clause-value : goal.returns-in_default-clause-value
returns-in_default-clause-value c w l =
    let one : length c.args.q.now.done.now ≡ 1 = omega arith in
    appended-nothing w c.args.q.now.done.now (rest_in c.args.q.now) one
    (c.in_default.ensures.value w.store l ∙ ap (λ (a : Ty). element_of_slice (base_row w.store a)) c.type_at-slice.ensures)

pub returns-in-None-clause-value : goal.returns-in-None-clause-value
returns-in-None-clause-value c w l =
    let one : length c.args.q.now.done.now ≡ 1 = omega arith in
    appended-element w c.args.q.now.done.now (rest_in c.args.q.now) c.in-Some.element one
    (c.in-Some.ensures.value w.store l ∙ ap (λ (a : Ty). element_of_slice (base_row w.store a)) c.type_at-slice.ensures) c.in-None.ensures

pub returns-in_default-kind_behind-clause-value : goal.returns-in_default-kind_behind-clause-value
returns-in_default-kind_behind-clause-value c w l =
    let one : length c.args.q.now.done.now ≡ 1 = omega arith in
    appended-slice w c.args.q.now.done.now (rest_in c.args.q.now) c.in-Some.element c.hint_to.result one
    (c.in-Some.ensures.value w.store l ∙ ap (λ (a : Ty). element_of_slice (base_row w.store a)) c.type_at-slice.ensures)
    (λ e. c.in_default-kind_behind.not-None (c.kind_behind.ensures ∙ e)) (c.hint_to.ensures.value ∙ ap hint_to c.id_at.ensures.value)

pub returns-in_default-kind_behind-clause-defined : goal.returns-in_default-kind_behind-clause-defined
returns-in_default-kind_behind-clause-defined c =
    c.hint_to.ensures.defined c.args.s.now (c.id_at.ensures.defined c.args.s.now c.requires.done)
