use Rattle.std.proofs.Common.{◌≡◌, true, false, ap, sym, ◌∙◌, is_some}
use Rattle.std.specs.Prelude.{option_and_then}
use Rattle.hare_types.specs.declared.coercion.Ty.{Ty}
use Rattle.hare_types.proofs.LaterLemmas.{later_here, later_trans}
use Rattle.hare_typed.specs.Given.{base_row, element_in}
use Rattle.hare_rules.specs.Aggregates.{slice_of, refusable}
use Rattle.hare_rules.specs.Words.{typed_as, with_refusal, nomem}
use Rattle.rule_judge.proofs.MeantLemmas.{name_stays}
use Rattle.rule_judge.proofs.RefusableLemmas.{refusable_slice}
use Rattle.rule_mem.proofs.types.sequence_type.Goals as goal

pub refusable-requires-clause-kept : goal.refusable-requires-clause-kept
refusable-requires-clause-kept c =
    let sound = c.slice_of.ensures.grown.later.sound in
    refusable_slice c.slice_of.new.s sound c.in-Some.u c.in_ok-made.made c.in_ok-made.ensures.defined
    (c.in_ok-made.ensures.id c.slice_of.new.s (later_here c.slice_of.new.s sound))

pub refusable-requires-clause-nomem : goal.refusable-requires-clause-nomem
refusable-requires-clause-nomem c = name_stays c.args.s.now c.slice_of.new.s c.declarations-law.ensures.sound c.slice_of.ensures.grown.later
    nomem c.requires.nomem

pub returns-clause-value : goal.returns-clause-value
returns-clause-value c f l =
    let made = later_trans c.slice_of.new.s c.refusable.new.s f c.refusable.ensures.grown.later l in
    let before = later_trans c.args.s.now c.slice_of.new.s f c.slice_of.ensures.grown.later made in
    ap (λ o. refusable f (slice_of f o)) (sym
    (c.in-Some.ensures.value f before ∙ ap (λ (a : Ty). element_in (base_row f a)) c.seen-operand.ensures.value))
    ∙ ap (refusable f) (c.in_ok-made.ensures.id f made) ∙ ap typed_as (c.in_ok-whole.ensures.id f l)
