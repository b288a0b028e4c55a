use Rattle.std.proofs.Common.{length, subst, sym}
use Rattle.hare_types.specs.Rows.{FieldsBelow}
use Rattle.type_bench.proofs.fields.structure.Goals as goal

pub intern-requires-2-clause-within : goal.intern-requires-2-clause-within
intern-requires-2-clause-within c =
    subst (λ rows. FieldsBelow (length rows) c.in_ok-fields.fields) (sym c.in_ok-fields.ensures.rows)
    (c.in_ok-fields.ensures.within (length c.intern.new.self.rows) c.in_ok-byte.ensures.within)
