use Rattle.std.proofs.Common.{◌∙◌, ap}
use Rattle.hare_typed.specs.Followed.{reached_within, reached_type}
use Rattle.hare_typed.specs.ConstantForms.{type_of_kid}
use Rattle.hare_const.proofs.PartLemmas.{kid_there, kid_absent}
use Rattle.hare_const.proofs.measures.type_with_offset.Goals as goal

pub returns-in-Some : goal.returns-in-Some
returns-in-Some c =
    c.reached_within.ensures
    ∙ ap (reached_within 16 c.args.s.now) (c.type_of_kid.ensures
    ∙ ap (type_of_kid 0) (kid_there c.args.t.now c.in-Some.field.now _ _ c.t.inside.kids 0 c.t.view_is c.in-Some.ensures.found))

pub returns-in-None : goal.returns-in-None
returns-in-None c =
    ap (λ u. reached_type c.args.s.now (type_of_kid 0 u)) (kid_absent c.args.t.now _ _ c.t.inside.kids 0 c.t.view_is c.in-None.ensures.none)
