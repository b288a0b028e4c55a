use Rattle.std.proofs.Common.{Some, ap, ◌∙◌}
use Rattle.hare_types.specs.declared.row.Row.TheVariants as row
use Rattle.hare_types.proofs.CallerLemmas.{tree_at_row}
use Rattle.type_table.proofs.answer.is_union.Goals as goal

pub returns-in-Union : goal.returns-in-Union
returns-in-Union c = λ _. (
  _,
  tree_at_row c.args.store.now c.row.ensures.sound c.args.t (row.Union c.in-Union.field-0)
      (c.row.ensures.row ∙ ap Some c.in-Union.is),
)
