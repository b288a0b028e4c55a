use Rattle.std.proofs.Common.{◌+◌, ap, sym, ◌∙◌, arith}
use Rattle.hare_tree.specs.Node.{nodes_of}
use Rattle.hare_tree.specs.Judged.{nodes_from}
use Rattle.hare_tree.proofs.TreeKids.KidsFrom.{nodes_from-one, nodes_from-past}
use Rattle.hare_ways.specs.Breaks.{wants_comma}
use Rattle.hare_ways.specs.Parts.{items_of}
use Rattle.hare_ways.proofs.FormSteps.{wants-next}
use Rattle.hare_ways.proofs.inside.wants_comma.Goals as goal

pub loop-i-preserved : goal.loop-i-preserved
loop-i-preserved c =
    let one = nodes_from-one c.args.kids.now c.loop-i.i (omega arith) in
    wants-next (nodes_from c.loop-i.i (nodes_of c.args.kids.now)) (nodes_from (c.loop-i.i + 1) (nodes_of c.args.kids.now)) one.0
    c.loop-i.wants c.wants_behind-wants.result one.1 c.wants_behind-wants.ensures
    ∙ c.loop-i.invariant

pub returns : goal.returns
returns c =
    ap (λ ts. wants_comma c.loop-i.wants (items_of ts)) (sym (nodes_from-past c.args.kids.now c.loop-i.i (omega arith)))
    ∙ c.loop-i.invariant
