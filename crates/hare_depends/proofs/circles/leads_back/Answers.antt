use Rattle.std.proofs.Common.{◌≡◌, true, false, sym, ◌∙◌}
use Rattle.hare_graph.proofs.RankLemmas.{no-way-up}
use Rattle.hare_depends.proofs.circles.leads_back.Goals as goal

pub returns-then-leads_up : goal.returns-then-leads_up
returns-then-leads_up c = (
  λ t. let e : false ≡ true = t in absurd cc,
  λ r. absurd (no-way-up c.args.forward.now c.args.ranks.now c.args.node c.args.target c.requires.ranks
      (sym c.leads_up.ensures ∙ c.if-leads_up.true) r),
)
