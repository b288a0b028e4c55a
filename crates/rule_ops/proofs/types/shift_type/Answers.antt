use Rattle.rule_judge.specs.Turns.{kind_in}
use Rattle.rule_ops.specs.Typed.{text_in}
use Rattle.rule_ops.proofs.TypeLemmas.{exact_there}
use Rattle.rule_ops.proofs.types.shift_type.Goals as goal

pub returns-then-are_iconsts-clause-there : goal.returns-then-are_iconsts-clause-there
returns-then-are_iconsts-clause-there c =
    exact_there (kind_in c.args.t.now) (text_in c.args.t.now) c.args.a.now c.args.b.now c.exact_type.result c.if-are_iconsts.ensures
    c.exact_type.ensures.value

pub returns-then-are_iconsts-clause-defined : goal.returns-then-are_iconsts-clause-defined
returns-then-are_iconsts-clause-defined c = c.exact_type.ensures.defined c.args.s.now
