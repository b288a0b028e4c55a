use Rattle.std.proofs.Common.{◌≡◌, true, ap, sym, ◌∙◌}
use Rattle.hare_types.specs.declared.coercion.Ty.{Ty}
use Rattle.hare_types.proofs.LaterLemmas.{later_here, later_trans}
use Rattle.hare_rules.specs.Aggregates.{pointer_to, refusable}
use Rattle.hare_rules.specs.Words.{typed_as, default_in, has_default, nomem}
use Rattle.rule_judge.proofs.MeantLemmas.{name_stays}
use Rattle.rule_judge.proofs.RefusableLemmas.{refusable_pointer}
use Rattle.rule_mem.proofs.types.object_pointer.Goals as goal

pub refusable-requires-clause-kept : goal.refusable-requires-clause-kept
refusable-requires-clause-kept c =
    let sound = c.pointer_to.ensures.grown.later.sound in
    refusable_pointer c.pointer_to.new.s sound c.in_ok-u.u c.in_ok-made.made c.in_ok-made.ensures.defined
    (c.in_ok-made.ensures.id c.pointer_to.new.s (later_here c.pointer_to.new.s sound))

pub refusable-requires-clause-nomem : goal.refusable-requires-clause-nomem
refusable-requires-clause-nomem c =
    name_stays c.args.s.now c.pointer_to.new.s c.declarations-law.ensures.sound
    (later_trans c.args.s.now c.default_of.new.s c.pointer_to.new.s c.default_of.ensures.grown.later c.pointer_to.ensures.grown.later)
    nomem
    c.requires.nomem

pub returns-clause-value : goal.returns-clause-value
returns-clause-value c f l =
    let made = later_trans c.pointer_to.new.s c.refusable.new.s f c.refusable.ensures.grown.later l in
    let found = later_trans c.default_of.new.s c.pointer_to.new.s f c.pointer_to.ensures.grown.later made in
    ap (λ (a : Ty). refusable f (pointer_to f (default_in f a))) (sym c.seen-operand.ensures.value)
    ∙ ap (λ o. refusable f (pointer_to f o)) (c.in_ok-u.ensures.value f found)
    ∙ ap (refusable f) (c.in_ok-made.ensures.id f made) ∙ ap typed_as (c.in_ok-whole.ensures.id f l)
