use Rattle.std.proofs.Common.{arith, ◌∙◌}
use Rattle.rule_judge.specs.Settings.{setting_of}
use Rattle.rule_mem.proofs.ItemLemmas.{component_asked, component_unasked}
use Rattle.rule_mem.proofs.tuples.item_asks.Goals as goal

pub returns-then-item_count-i : goal.returns-then-item_count-i
returns-then-item_count-i c f l =
    component_unasked (setting_of f c.args.t.now.decls.now) c.args.t.now.case.now.hint c.args.t.now.kids.now c.args.i
    (omega (arith, c.item_count.ensures))

pub returns : goal.returns
returns c f l =
    c.is_hinted.ensures f l
    ∙ component_asked (setting_of f c.args.t.now.decls.now) c.args.t.now.case.now.hint c.args.t.now.kids.now c.args.i
    (omega (arith, c.item_count.ensures))
