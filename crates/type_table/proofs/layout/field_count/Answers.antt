use Rattle.std.proofs.Common.{Some, ap, ◌∙◌, arith}
use Rattle.hare_layout.proofs.SpreadLemmas.{id-tree_at}
use Rattle.type_table.proofs.FieldLemmas.{struct-field, tuple-field}
use Rattle.type_table.proofs.layout.field_count.Goals as goal

pub row-requires : goal.row-requires
row-requires c = (id-tree_at c.args.store.now c.in-Some.base c.in-Some.ensures.some.1 c.in-Some.ensures.some.3).0

pub returns-in-Struct : goal.returns-in-Struct
returns-in-Struct c = λ k less.
    struct-field c.args.store.now c.row.ensures.sound c.args.t c.in-Some.base c.in-Struct.fields
    (c.row.ensures.row ∙ ap Some c.in-Struct.is) c.in-Some.ensures.some k (omega (arith, less, c.narrowed.ensures, c.len.ensures))

pub returns-in-Tuple : goal.returns-in-Tuple
returns-in-Tuple c = λ k less.
    tuple-field c.args.store.now c.row.ensures.sound c.args.t c.in-Some.base c.in-Tuple.types (c.row.ensures.row ∙ ap Some c.in-Tuple.is)
    c.in-Some.ensures.some k (omega (arith, less, c.narrowed-in-Tuple.ensures, c.len-in-Tuple.ensures))
