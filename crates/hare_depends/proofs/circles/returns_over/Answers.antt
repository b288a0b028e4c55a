use Rattle.std.proofs.Common.{◌≡◌, true, false, get_or, arith}
use Rattle.hare_graph.specs.Graphs.{Reached}
use Rattle.hare_depends.proofs.FindLemmas.{Contains-index, none-at-all}
use Rattle.hare_depends.proofs.circles.returns_over.Goals as goal

pub leads_back-requires-clause-there : goal.leads_back-requires-clause-there
leads_back-requires-clause-there c =
    let t = get_or c.args.targets.now c.loop-target.target-index 0 in
    c.requires.stays c.args.node t (c.requires.edges t
    (Contains-index c.args.targets.now c.loop-target.target-index c.loop-target-test.true))

pub returns : goal.returns
returns c = (
  λ t. let e : false ≡ true = t in absurd cc,
  λ s. absurd (none-at-all (λ x. Reached c.args.forward.now x c.args.node) c.args.targets.now c.loop-target.target-index (omega arith)
      c.loop-target.invariant s.0 s.1 s.2),
)
