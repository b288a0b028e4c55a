use Rattle.std.proofs.Common.{sym, ◌∙◌}
use Rattle.hare_layout.proofs.SizedLemmas.{field-id, field-unsized, field-sized}
use Rattle.hare_layout.proofs.sized.any_field_unsized.Goals as goal

pub is_unsized-requires : goal.is_unsized-requires
is_unsized-requires c = field-id c.args.s.now c.args.fields.now c.loop-field.field-index c.field-item.result c.loop-field-test.true
    c.field-item.is c.requires

pub returns-then-is_unsized : goal.returns-then-is_unsized
returns-then-is_unsized c =
    field-unsized c.args.s.now c.args.fields.now c.loop-field.field-index c.field-item.result c.loop-field-test.true c.field-item.is
    (sym c.is_unsized.ensures ∙ c.if-is_unsized.true)

pub loop-field-preserved : goal.loop-field-preserved
loop-field-preserved c =
    field-sized c.args.s.now c.args.fields.now c.loop-field.field-index c.field-item.result c.loop-field-test.true c.field-item.is
    c.loop-field.invariant (sym c.is_unsized.ensures ∙ c.if-is_unsized.false)
