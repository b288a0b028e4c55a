use Rattle.std.proofs.Common.{sym, ◌∙◌}
use Rattle.rule_types.proofs.LengthLemmas.{length_stays, length_none}
use Rattle.rule_types.proofs.arrays.length_of.Goals as goal

pub returns-then-not-may_count : goal.returns-then-not-may_count
returns-then-not-may_count c f l =
    sym (length_none c.args.s.now f c.declarations-law.ensures.sound l c.args.decls.now c.args.kid.now
    (sym (c.may_count.ensures f) ∙ c.if-not-may_count.true))

pub returns-in-Ok : goal.returns-in-Ok
returns-in-Ok c f l =
    sym c.in-Ok.ensures ∙ length_stays c.args.s.now f c.declarations-law.ensures.sound l c.args.decls.now c.args.kid.now c.requires
    (sym (c.may_count.ensures f) ∙ c.if-not-may_count.false)

pub returns-in-Err : goal.returns-in-Err
returns-in-Err c f l =
    sym c.in-Err.ensures.0 ∙ length_stays c.args.s.now f c.declarations-law.ensures.sound l c.args.decls.now c.args.kid.now c.requires
    (sym (c.may_count.ensures f) ∙ c.if-not-may_count.false)
