use Rattle.std.proofs.Common.{sym, ◌∙◌, arith}
use Rattle.il_mem.proofs.RangeLists.{last_range, no_range}
use Rattle.il_mem.proofs.ranges.range_of.Goals as goal

pub returns-in-Some-clause-found : goal.returns-in-Some-clause-found
returns-in-Some-clause-found c =
    let last = last_range c.args.at c.in-Some.start.now c.in-Some.end.now c.args.ends.now.entries c.next_back.new.self c.requires
    (sym (c.range-below.ensures.between tt) ∙ c.in-Some.ensures.steps) in
    (last.begins, omega (arith, c.if-end-at.true), last.covered)

pub returns-in_default-clause-none : goal.returns-in_default-clause-none
returns-in_default-clause-none c =
    let last = last_range c.args.at c.in-Some.start.now c.in-Some.end.now c.args.ends.now.entries c.next_back.new.self c.requires
    (sym (c.range-below.ensures.between tt) ∙ c.in-Some.ensures.steps) in
    last.bare c.if-end-at.false

pub returns-in_default-2-clause-none : goal.returns-in_default-2-clause-none
returns-in_default-2-clause-none c =
    let h = rw c.in_default.is at c.next_back.ensures.steps in
    no_range c.args.at c.args.ends.now.entries (sym (c.range-below.ensures.between tt) ∙ h.0)
