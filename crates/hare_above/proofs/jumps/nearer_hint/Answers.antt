use Rattle.std.proofs.Common.{cond, ap, sym, ◌∙◌}
use Rattle.hare_above.proofs.jumps.nearer_hint.Goals as goal

pub returns-then-takes_yield : goal.returns-then-takes_yield
returns-then-takes_yield c = ap (λ b. cond b c.args.h.now c.args.nearest.now)
    (sym c.if-takes_yield.true ∙ c.takes_yield.ensures c.args.h.now)

pub returns-else-takes_yield : goal.returns-else-takes_yield
returns-else-takes_yield c = ap (λ b. cond b c.args.h.now c.args.nearest.now)
    (sym c.if-takes_yield.false ∙ c.takes_yield.ensures c.args.h.now)
