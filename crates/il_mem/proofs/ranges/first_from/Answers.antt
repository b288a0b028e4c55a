use Rattle.std.proofs.Common.{sym, ◌∙◌}
use Rattle.il_mem.proofs.RangeLists.{first_range, no_range_from}
use Rattle.il_mem.proofs.ranges.first_from.Goals as goal

pub returns-in-Some : goal.returns-in-Some
returns-in-Some c =
    let f = first_range c.args.at c.in-Some.start.now c.in-Some.field-0-1.now c.args.ends.now.entries c.next.new.self c.requires
    (sym (c.range-from.ensures.between tt) ∙ c.in-Some.ensures.steps) in
    record { found = (f.from, f.found); first = f.first; none = tt }

pub returns-in-None-clause-none : goal.returns-in-None-clause-none
returns-in-None-clause-none c =
    no_range_from c.args.at c.args.ends.now.entries (sym (c.range-from.ensures.between tt) ∙ c.in-None.ensures.steps.0)
