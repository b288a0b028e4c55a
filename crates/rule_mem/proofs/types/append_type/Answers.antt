use Rattle.std.proofs.Common.{ap, sym, ◌∙◌}
use Rattle.std.specs.Prelude.{option_and_then}
use Rattle.hare_types.proofs.LaterLemmas.{later_here, later_trans}
use Rattle.hare_rules.specs.Words.{typed_as, with_refusal, nomem}
use Rattle.rule_judge.proofs.MeantLemmas.{name_stays}
use Rattle.rule_judge.proofs.RefusableLemmas.{refusable_void}
use Rattle.rule_mem.proofs.types.append_type.Goals as goal

pub refusable-requires-clause-kept : goal.refusable-requires-clause-kept
refusable-requires-clause-kept c =
    let sound = c.word.ensures.grown.later.sound in
    refusable_void c.word.new.s sound c.in_ok-void.void c.in_ok-void.ensures.defined
    (c.in_ok-void.ensures.id c.word.new.s (later_here c.word.new.s sound))

pub refusable-requires-clause-nomem : goal.refusable-requires-clause-nomem
refusable-requires-clause-nomem c = name_stays c.args.s.now c.word.new.s c.declarations-law.ensures.sound c.word.ensures.grown.later nomem
    c.requires

pub returns-clause-value : goal.returns-clause-value
returns-clause-value c f l =
    ap (λ o. typed_as (option_and_then (with_refusal f) o))
    (c.in_ok-void.ensures.id f (later_trans c.word.new.s c.refusable.new.s f c.refusable.ensures.grown.later l))
    ∙ ap typed_as (c.in_ok-whole.ensures.id f l)
