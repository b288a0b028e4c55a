use Rattle.std.proofs.Common.{ap}
use Rattle.hare_tree.specs.Node.{head}
use Rattle.hare_ways.proofs.Breaking.{breaks-parts}
use Rattle.hare_ways.proofs.breaks.breaks_of.Goals as goal

pub returns : goal.returns
returns c =
    breaks-parts c.args.comments.now c.args.n c.args.t.now _ _ _ _ (ap (λ u. (head u).kind) c.t.view_is) c.is_broken-brackets.ensures
    c.begins_statements.ensures c.adds_comma.ensures
