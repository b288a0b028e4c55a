use Rattle.std.proofs.Common.{◌∙◌}
use Rattle.hare_types.proofs.LaterLemmas.{later_here, later_trans}
use Rattle.rule_judge.proofs.RefusableLemmas.{refusable_pointer, refusable_slice}
use Rattle.rule_ctl.proofs.TryLemmas.{made_pointer, made_slice, no_type}
use Rattle.rule_ctl.proofs.tries.made.Goals as goal

pub returns-in-Some-clause-value : goal.returns-in-Some-clause-value
returns-in-Some-clause-value c f l =
    made_pointer f c.args.t c.in-Some.u c.in_ok-p.p
    (c.in-Some.ensures.value f (later_trans c.args.s.now c.pointer_to.new.s f c.pointer_to.ensures.grown.later l))
    (c.in_ok-p.ensures.id f l)

pub returns-in-Some-clause-refusable : goal.returns-in-Some-clause-refusable
returns-in-Some-clause-refusable c =
    let sound = c.pointer_to.ensures.grown.later.sound in
    refusable_pointer c.pointer_to.new.s sound c.in-Some.u c.in_ok-p.p c.in_ok-p.ensures.defined
    (c.in_ok-p.ensures.id c.pointer_to.new.s (later_here c.pointer_to.new.s sound))

pub returns-in_ok-p-in-Some-element-clause-value : goal.returns-in_ok-p-in-Some-element-clause-value
returns-in_ok-p-in-Some-element-clause-value c f l =
    let before = later_trans c.args.s.now c.slice_of.new.s f c.slice_of.ensures.grown.later l in
    made_slice f c.args.t c.in-Some-element.u c.in_ok-p-in-Some-element.p
    (no_type c.pointee.result c.in_default.not-Some ∙ c.pointee.ensures.value f before)
    (c.in-Some-element.ensures.value f before) (c.in_ok-p-in-Some-element.ensures.id f l)

pub returns-in_ok-p-in-Some-element-clause-refusable : goal.returns-in_ok-p-in-Some-element-clause-refusable
returns-in_ok-p-in-Some-element-clause-refusable c =
    let sound = c.slice_of.ensures.grown.later.sound in
    refusable_slice c.slice_of.new.s sound c.in-Some-element.u c.in_ok-p-in-Some-element.p c.in_ok-p-in-Some-element.ensures.defined
    (c.in_ok-p-in-Some-element.ensures.id c.slice_of.new.s (later_here c.slice_of.new.s sound))
