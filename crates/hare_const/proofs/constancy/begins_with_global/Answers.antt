use Rattle.std.proofs.Common.{◌∙◌}
use Rattle.hare_const.proofs.NodeLemmas.{begins-found}
use Rattle.hare_const.proofs.constancy.begins_with_global.Goals as goal

pub returns-in-Some : goal.returns-in-Some
returns-in-Some c =
    c.is_global_path.ensures ∙ begins-found c.args.t.now c.in-Some.kid.now _ _ c.t.inside.kids c.t.view_is c.in-Some.ensures.found
