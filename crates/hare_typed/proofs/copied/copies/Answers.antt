use Rattle.std.proofs.Common.{ap, sym, ◌∙◌}
use Rattle.hare_typed.specs.Numbers.{kind_of}
use Rattle.hare_typed.proofs.ParameterLemmas.{copies-body, copies-parameter}
use Rattle.hare_typed.proofs.copied.copies.Goals as goal

pub returns-in-Some : goal.returns-in-Some
returns-in-Some c = copies-body c.args.node c.in-Some.times c.args.f.now (sym (ap kind_of c.f.view_is) ∙ c.in-Fn.is) c.in-Some.ensures

pub returns-in-None : goal.returns-in-None
returns-in-None c =
    copies-parameter c.args.node c.times_as_parameter.result c.args.f.now (sym (ap kind_of c.f.view_is) ∙ c.in-Fn.is) c.in-None.ensures
    c.times_as_parameter.ensures
