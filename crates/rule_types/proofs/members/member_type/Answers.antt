use Rattle.std.proofs.Common.{◌∙◌}
use Rattle.rule_types.proofs.PartLemmas.{spread_part}
use Rattle.rule_types.proofs.members.member_type.Goals as goal

pub returns-in-Spread : goal.returns-in-Spread
returns-in-Spread c = c.type_at.ensures ∙ spread_part c.args.kid.now _ _ _ c.kid.view_is c.in-Spread.is
