use Rattle.std.proofs.Common.{◌∙◌}
use Rattle.rule_types.proofs.PartLemmas.{field_part}
use Rattle.rule_types.proofs.parts.part_type.Goals as goal

pub returns-in-StructField : goal.returns-in-StructField
returns-in-StructField c = c.type_at.ensures ∙ field_part c.args.kid.now _ _ _ c.kid.view_is c.in-StructField.is
