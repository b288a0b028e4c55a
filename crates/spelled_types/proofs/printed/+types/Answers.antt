-- Each type is written by those that came before it.
use Rattle.std.proofs.Common.{◌<◌, Some, ap, ◌∙◌, arith}
use Rattle.hare_types.specs.declared.row.Row.TheVariants as row
use Rattle.spelled_types.proofs.BelowLemmas.{AllBelow-item, FieldsBelow-item}
use Rattle.spelled_types.proofs.printed.+types.Goals as goal

pub put_type-put_behind-requires : goal.put_type-put_behind-requires
put_type-put_behind-requires t c =
    let below : c.in-Pointer.to < c.args.t =
    c.row.ensures.sound.rows_sound.within c.args.t (row.Pointer c.in-Pointer.to) (c.row.ensures.row ∙ ap Some c.in-Pointer.is) in
    (omega (arith, below, c.decreases), (c.requires, below))

pub put_type-put_behind-requires-in-Nullable : goal.put_type-put_behind-requires-in-Nullable
put_type-put_behind-requires-in-Nullable t c =
    let below : c.in-Nullable.to < c.args.t =
    c.row.ensures.sound.rows_sound.within c.args.t (row.Nullable c.in-Nullable.to) (c.row.ensures.row ∙ ap Some c.in-Nullable.is) in
    (omega (arith, below, c.decreases), (c.requires, below))

pub put_type-put_behind-requires-in-Slice : goal.put_type-put_behind-requires-in-Slice
put_type-put_behind-requires-in-Slice t c =
    let below : c.in-Slice.item < c.args.t =
    c.row.ensures.sound.rows_sound.within c.args.t (row.Slice c.in-Slice.item) (c.row.ensures.row ∙ ap Some c.in-Slice.is) in
    (omega (arith, below, c.decreases), (c.requires, below))

pub put_type-put_behind-requires-in-Error : goal.put_type-put_behind-requires-in-Error
put_type-put_behind-requires-in-Error t c =
    let below : c.in-Error.inner < c.args.t =
    c.row.ensures.sound.rows_sound.within c.args.t (row.Error c.in-Error.inner) (c.row.ensures.row ∙ ap Some c.in-Error.is) in
    (omega (arith, below, c.decreases), (c.requires, below))

pub put_type-put_behind-requires-in-Array : goal.put_type-put_behind-requires-in-Array
put_type-put_behind-requires-in-Array t c =
    let below : c.in-Array.item < c.args.t =
    c.row.ensures.sound.rows_sound.within c.args.t (row.Array c.in-Array.n c.in-Array.item)
    (c.row.ensures.row ∙ ap Some c.in-Array.is) in
    (omega (arith, below, c.decreases), (c.requires, below))

pub put_type-put_fields-requires : goal.put_type-put_fields-requires
put_type-put_fields-requires t c = (
  omega (arith, c.decreases),
  (
    c.requires,
    rw c.as_slice.ensures
        (c.row.ensures.sound.rows_sound.within c.args.t (row.Struct c.in-Struct.fields) (c.row.ensures.row ∙ ap Some c.in-Struct.is)),
  ),
)

pub put_type-put_types-requires : goal.put_type-put_types-requires
put_type-put_types-requires t c = (
  omega (arith, c.decreases),
  (
    c.requires,
    rw c.as_slice-in-Tuple.ensures
        (c.row.ensures.sound.rows_sound.within c.args.t (row.Tuple c.in-Tuple.types) (c.row.ensures.row ∙ ap Some c.in-Tuple.is)),
  ),
)

pub put_type-put_types-requires-in-Union : goal.put_type-put_types-requires-in-Union
put_type-put_types-requires-in-Union t c = (
  omega (arith, c.decreases),
  (
    c.requires,
    rw c.as_slice-in-Union.ensures
        (c.row.ensures.sound.rows_sound.within c.args.t (row.Union c.in-Union.types) (c.row.ensures.row ∙ ap Some c.in-Union.is)),
  ),
)

pub put_fields-put_behind-requires : goal.put_fields-put_behind-requires
put_fields-put_behind-requires t c =
    let below = FieldsBelow-item c.args.t c.args.fields.now c.requires.before c.loop-field.field-index c.field-item.result
    c.loop-field-test.true c.field-item.is in
    (omega (arith, below, c.decreases), (c.requires.within, below))

pub put_types-put_behind-requires : goal.put_types-put_behind-requires
put_types-put_behind-requires t c =
    let below = AllBelow-item c.args.t c.args.types.now c.requires.1.1.1 c.loop-inner.inner-index c.inner-item.result c.loop-inner-test.true
    c.inner-item.is in
    (omega (arith, below, c.requires.1.0), (c.requires.1.1.0, below))
