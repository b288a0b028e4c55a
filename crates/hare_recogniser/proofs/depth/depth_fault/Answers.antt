use Rattle.std.proofs.Common.{[], ◌∷◌, drop, subst}
use Rattle.hare_tree.specs.Grammar.{trees_of}
use Rattle.hare_nesting.specs.Depth.{gauged}
use Rattle.hare_nesting.proofs.LeastFault.Gauges.{gauges_tell}
use Rattle.hare_ll_table.specs.Seen.{waited}
use Rattle.hare_recogniser.specs.Gauged.{IsLeastOf, gauged_from}
use Rattle.hare_recogniser.proofs.GaugedRun.Depths.{first_told, trees_fit}
use Rattle.hare_recogniser.proofs.depth.depth_fault.Goals as goal

pub returns-clause-value : goal.returns-clause-value
returns-clause-value c =
    let ts = drop c.args.at c.args.tokens.now in
    first_told (trees_of c.args.sort) ts (gauged c.args.sort ts) (gauges_tell c.args.sort c.requires ts) c.args.at
    c.in_ok-gauged.gauged.fault (subst (λ w. IsLeastOf (gauged_from c.args.tokens.now c.args.at (waited (w ∷ []))).faults c.args.at
    c.in_ok-gauged.gauged.fault) c.of.ensures c.in_ok-gauged.ensures.fault)

pub returns-clause-shallow : goal.returns-clause-shallow
returns-clause-shallow c =
    trees_fit c.args.sort c.requires (drop c.args.at c.args.tokens.now) c.args.at c.in_ok-gauged.gauged.fault
    (subst (λ w. IsLeastOf (gauged_from c.args.tokens.now c.args.at (waited (w ∷ []))).faults c.args.at c.in_ok-gauged.gauged.fault)
    c.of.ensures c.in_ok-gauged.ensures.fault)
