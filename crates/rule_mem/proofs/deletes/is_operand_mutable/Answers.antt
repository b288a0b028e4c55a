use Rattle.std.proofs.Common.{ap, ◌∙◌}
use Rattle.hare_rules.specs.Places.{is_mutable}
use Rattle.rule_judge.specs.Settings.{setting_of, entries}
use Rattle.rule_judge.proofs.KidLemmas.{kid_defined, front_found}
use Rattle.rule_mem.proofs.DeleteLemmas.{kid-front, kids_defined}
use Rattle.rule_mem.proofs.deletes.is_operand_mutable.Goals as goal

pub is_mutable-requires : goal.is_mutable-requires
is_mutable-requires c =
    kid_defined c.args.s.now c.tree.inside.kids 0 c.in-Some.operand.now
    (kids_defined c.args.s.now _ _ c.tree.inside.kids c.args.tree.now c.tree.view_is c.requires) c.in-Some.ensures.found

pub returns-in-Some : goal.returns-in-Some
returns-in-Some c f l =
    c.is_mutable.ensures f l
    ∙ ap (is_mutable (setting_of f c.args.t.now.decls.now) (entries c.args.t.now.locals.now))
    (front_found c.tree.inside.kids 0 c.in-Some.operand.now c.in-Some.ensures.found ∙ kid-front 0 _ _ c.tree.inside.kids c.args.tree.now
    c.tree.view_is)
