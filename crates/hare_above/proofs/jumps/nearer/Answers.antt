use Rattle.std.proofs.Common.{cond, Some, ap, sym, ◌∙◌}
use Rattle.hare_above.proofs.jumps.nearer.Goals as goal

pub returns-then-takes_yield : goal.returns-then-takes_yield
returns-then-takes_yield c h = ap (λ b. cond b (Some c.args.i) c.args.nearest) (sym c.if-takes_yield.true ∙ c.takes_yield.ensures h)

pub returns-else-takes_yield : goal.returns-else-takes_yield
returns-else-takes_yield c h = ap (λ b. cond b (Some c.args.i) c.args.nearest) (sym c.if-takes_yield.false ∙ c.takes_yield.ensures h)
