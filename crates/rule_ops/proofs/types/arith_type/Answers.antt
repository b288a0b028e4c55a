use Rattle.rule_ops.proofs.types.arith_type.Goals as goal

pub returns-then-are_iconsts-clause-defined : goal.returns-then-are_iconsts-clause-defined
returns-then-are_iconsts-clause-defined c = c.exact_type.ensures.defined c.args.s.now
