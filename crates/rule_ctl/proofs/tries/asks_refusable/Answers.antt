use Rattle.std.proofs.Common.{sym, ◌∙◌}
use Rattle.hare_types.proofs.LaterLemmas.{later_trans}
use Rattle.hare_rules.specs.Words.{nomem}
use Rattle.rule_judge.proofs.MeantLemmas.{name_stays}
use Rattle.rule_ctl.proofs.TryLemmas.{no_type, asked_none, asked_some}
use Rattle.rule_ctl.proofs.tries.asks_refusable.Goals as goal

pub returns-in_default-2-clause-value : goal.returns-in_default-2-clause-value
returns-in_default-2-clause-value c f l =
    asked_none f c.args.hint.now c.in-Some.t
    (c.in-Some.ensures.value f (later_trans c.args.s.now c.made.new.s f c.made.ensures.grown.later l))
    (no_type c.in_ok-p.field-0 c.in_default-2.not-Some ∙ c.in_ok-p.ensures.value f l)

pub refusable-requires-clause-nomem : goal.refusable-requires-clause-nomem
refusable-requires-clause-nomem c = name_stays c.args.s.now c.made.new.s c.declarations-law.ensures.sound c.made.ensures.grown.later nomem
    c.requires.nomem

pub returns-clause-value : goal.returns-clause-value
returns-clause-value c f l =
    let made = later_trans c.made.new.s c.refusable.new.s f c.refusable.ensures.grown.later l in
    asked_some f c.args.hint.now c.in-Some.t
    (c.in-Some.ensures.value f (later_trans c.args.s.now c.made.new.s f c.made.ensures.grown.later made)) c.in-Some-2.p
    c.in_ok-refusable.field-0 (sym c.in-Some-2.is ∙ c.in_ok-p.ensures.value f made) (c.in_ok-refusable.ensures.id f l)
