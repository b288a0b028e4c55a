use Rattle.std.proofs.Common.{ap, ◌∙◌}
use Rattle.hare_costs.specs.Sizes.{is_reference}
use Rattle.hare_costs.proofs.SizeLemmas.{by_reference-get}
use Rattle.hare_costs.proofs.sizes.is_by_reference.Goals as goal

pub returns-in-Some : goal.returns-in-Some
returns-in-Some c =
    c.is_reference.ensures
    ∙ ap is_reference (by_reference-get c.args.kids.now c.binding.inside.kids _ _ c.in-Some.binding.now c.first_kind.result
    c.in-Some.ensures.found c.binding.view_is c.first_kind.ensures)
