use Rattle.std.proofs.Common.{ap, ◌∙◌}
use Rattle.hare_rules.specs.Places.{is_place}
use Rattle.rule_judge.specs.Settings.{setting_of, entries}
use Rattle.rule_judge.proofs.KidLemmas.{kid_defined, front_found}
use Rattle.rule_mem.proofs.rows.is_first_place.Goals as goal

pub is_place-requires : goal.is_place-requires
is_place-requires c = kid_defined c.args.s.now c.args.t.now.kids.now 0 c.in-Some.kid.now c.requires.types c.in-Some.ensures.found

pub returns-in-Some : goal.returns-in-Some
returns-in-Some c f l = c.is_place.ensures f l ∙ ap (is_place (setting_of f c.args.t.now.decls.now))
    (front_found c.args.t.now.kids.now 0 c.in-Some.kid.now c.in-Some.ensures.found)
