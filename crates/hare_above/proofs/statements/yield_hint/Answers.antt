use Rattle.std.proofs.Common.{sym, subst}
use Rattle.rule_judge.specs.Defined.{IsDefinedHint}
use Rattle.hare_rules.specs.Control.{takes_yield}
use Rattle.hare_above.specs.Asked.{labels_in}
use Rattle.hare_above.proofs.JumpLemmas.{meant-defined}
use Rattle.hare_above.proofs.statements.yield_hint.Goals as goal

pub returns-clause-defined : goal.returns-clause-defined
returns-clause-defined c s k =
    subst (IsDefinedHint s) (sym c.yielded_hint.ensures) (meant-defined s (takes_yield c.bytes.result.now) (labels_in c.args.q.now) k)
