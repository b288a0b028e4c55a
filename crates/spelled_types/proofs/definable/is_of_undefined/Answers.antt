use Rattle.std.proofs.Common.{◌<◌, Some, ap, sym, ◌∙◌, arith}
use Rattle.hare_types.specs.declared.row.Row.TheVariants as row
use Rattle.hare_types.specs.Trees.{Array}
use Rattle.hare_types.proofs.CallerLemmas.{tree_at_row}
use Rattle.hare_layout.proofs.SpreadLemmas.{tree_in-row}
use Rattle.spelled_types.proofs.definable.is_of_undefined.Goals as goal

pub row-requires-in-Array : goal.row-requires-in-Array
row-requires-in-Array c =
    let below : c.in-Array.item < c.args.t =
    c.row.ensures.sound.rows_sound.within c.args.t (row.Array c.in-Array.field-0 c.in-Array.item)
    (c.row.ensures.row ∙ ap Some c.in-Array.is) in
    omega (arith, below, c.requires)

pub returns-in-None : goal.returns-in-None
returns-in-None c =
    let outer = tree_at_row c.args.store.now c.row.ensures.sound c.args.t (row.Array c.in-Array.field-0 c.in-Array.item)
    (c.row.ensures.row ∙ ap Some c.in-Array.is) in
    let inner = tree_in-row c.args.store.now c.row.ensures.sound c.in-Array.item (row.Named c.in-Named.other)
    (c.row-in-Array.ensures.row ∙ ap Some c.in-Named.is) in
    λ _. (
      c.in-Array.field-0,
      c.in-Named.other,
      outer ∙ ap (λ u. Some (Array c.in-Array.field-0 u)) inner,
      sym c.in-None.ensures.value,
      λ same. c.if-other-decl.false (sym same),
    )
