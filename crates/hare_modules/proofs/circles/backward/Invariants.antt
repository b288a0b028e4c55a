use Rattle.std.proofs.Common.{◌≡◌, fold, map, drop}
use Rattle.hare_modules.specs.Takings.{using}
use Rattle.hare_modules.specs.CirclesIn.{with_import_back, imports_graph_back}
use Rattle.hare_modules.proofs.circles.backward.Given as goal

-- what is left is put into the graph so far
abbrev pub invariant-loop-used : goal.invariant-loop-used
invariant-loop-used l = fold with_import_back l.graph (map using (drop l.used-index l.uses)) ≡
    imports_graph_back l.modules (map using l.uses)
