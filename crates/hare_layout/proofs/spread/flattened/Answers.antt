use Rattle.std.proofs.Common.{false, Some, ap, sym, ◌∙◌, subst}
use Rattle.hare_types.specs.Rows.{tree_in, trees}
use Rattle.hare_layout.specs.Ids.{AreBrought}
use Rattle.hare_layout.proofs.SpreadLemmas.{brought-union, brought-alone}
use Rattle.hare_layout.proofs.spread.flattened.Goals as goal

pub returns-in-Union : goal.returns-in-Union
returns-in-Union c =
    subst (λ js. AreBrought c.args.s.now false (tree_in (trees c.args.s.now.rows) c.args.t) js) (sym c.as_slice.ensures)
    (brought-union c.args.s.now c.row.ensures.sound c.args.t c.in-Union.types (c.row.ensures.row ∙ ap Some c.in-Union.is))

pub returns-in_default : goal.returns-in_default
returns-in_default c =
    subst (λ js. AreBrought c.args.s.now false (tree_in (trees c.args.s.now.rows) c.args.t) js) (sym c.requires.alone)
    (brought-alone c.args.s.now c.row.ensures.sound c.args.t c.row.result.now c.requires.within c.row.ensures.row c.in_default.not-Union)
