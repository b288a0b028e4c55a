use Rattle.std.proofs.Common.{drop}
use Rattle.rule_join.proofs.CaseLemmas.{cases_default}
use Rattle.rule_join.proofs.cases.cases_type.Goals as goal

pub type_together-requires-clause-defaults : goal.type_together-requires-clause-defaults
type_together-requires-clause-defaults c f l = cases_default f c.args.t.now.case.now.hint (drop 1 c.args.t.now.kids.now) c.requires.typed
