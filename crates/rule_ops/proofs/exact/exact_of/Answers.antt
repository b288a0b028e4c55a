use Rattle.std.proofs.Common.{rules}
use Rattle.rule_ops.proofs.SignLemmas.{some_operator, no_operator}
use Rattle.rule_ops.proofs.exact.exact_of.Goals as goal

pub returns-in-Some : goal.returns-in-Some
returns-in-Some c =
    some_operator c.args.k c.args.sign.now c.args.a.now c.args.b.now c.in-Iconst.x c.in-Iconst-b.y c.in-Some.operator c.applied.result
    c.in-Iconst.is c.in-Iconst-b.is
    c.in-Some.ensures (search rules)

pub returns-in-None : goal.returns-in-None
returns-in-None c =
    no_operator c.args.k c.args.sign.now c.args.a.now c.args.b.now c.in-Iconst.x c.in-Iconst-b.y c.in-Iconst.is c.in-Iconst-b.is
    c.in-None.ensures
