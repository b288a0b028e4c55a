use Rattle.std.proofs.Common.{◌∙◌}
use Rattle.hare_typed.proofs.ParameterLemmas.{third-get, third-past}
use Rattle.hare_typed.proofs.copied.times_as_parameter.Goals as goal

pub returns-in-Some : goal.returns-in-Some
returns-in-Some c =
    c.times_among_parameters.ensures
    ∙ third-get c.args.node _ _ c.f.inside.kids c.args.f.now _ _ c.params.inside.kids c.in-Some.params.now c.f.view_is
    c.in-Some.ensures.found c.params.view_is

pub returns-in-None : goal.returns-in-None
returns-in-None c = third-past c.args.node _ _ c.f.inside.kids c.args.f.now c.f.view_is c.in-None.ensures.none
