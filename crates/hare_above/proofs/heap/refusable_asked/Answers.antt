use Rattle.std.proofs.Common.{sym, ◌∙◌}
use Rattle.hare_types.proofs.LaterLemmas.{later_trans}
use Rattle.hare_rules.specs.Words.{nomem}
use Rattle.rule_judge.proofs.MeantLemmas.{name_stays}
use Rattle.rule_ctl.proofs.TryLemmas.{no_type}
use Rattle.hare_above.proofs.BareLemmas.{refusable-none, refusable-some}
use Rattle.hare_above.proofs.heap.refusable_asked.Goals as goal

pub returns-in_default-2-clause-value : goal.returns-in_default-2-clause-value
returns-in_default-2-clause-value c w l =
    refusable-none w c.args.hint.now c.in-Some.t (c.in-Some.ensures.value w.store
    (later_trans c.args.s.now c.made.new.s w.store c.made.ensures.grown.later l))
    (no_type c.in_ok-p.field-0 c.in_default-2.not-Some ∙ c.in_ok-p.ensures.value w.store l)

pub refusable-requires-clause-nomem : goal.refusable-requires-clause-nomem
refusable-requires-clause-nomem c = name_stays c.args.s.now c.made.new.s c.declarations-law.ensures.sound c.made.ensures.grown.later nomem
    c.requires.nomem

pub returns-clause-value : goal.returns-clause-value
returns-clause-value c w l =
    let made = later_trans c.made.new.s c.refusable.new.s w.store c.refusable.ensures.grown.later l in
    refusable-some w c.args.hint.now c.in-Some.t (c.in-Some.ensures.value w.store
    (later_trans c.args.s.now c.made.new.s w.store c.made.ensures.grown.later made))
    c.in-Some-2.p c.in_ok-refusable.field-0 (sym c.in-Some-2.is ∙ c.in_ok-p.ensures.value w.store made)
    (c.in_ok-refusable.ensures.id w.store l)
