use Rattle.rule_join.proofs.ValueLemmas.{ends_open}
use Rattle.rule_join.proofs.values.ends.Goals as goal

pub returns-then-not-is_empty : goal.returns-then-not-is_empty
returns-then-not-is_empty c f l =
    ends_open f c.args.v c.args.t.now c.in-Yields.is c.is_open.result c.if-not-is_empty.ensures (c.is_open.ensures f l)
