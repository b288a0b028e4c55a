use Rattle.std.proofs.Common.{◌+◌, ap, sym, ◌∙◌, arith}
use Rattle.hare_tree.specs.Node.{nodes_of}
use Rattle.hare_tree.specs.Judged.{nodes_from}
use Rattle.hare_tree.proofs.TreeKids.KidsFrom.{nodes_from-one, nodes_from-past}
use Rattle.hare_ways.specs.Breaks.{ends_in_comma}
use Rattle.hare_ways.specs.Parts.{items_of}
use Rattle.hare_ways.proofs.FormSteps.{comma-found, comma-next}
use Rattle.hare_ways.proofs.inside.ends_in_comma.Goals as goal

pub returns-then-is_comma : goal.returns-then-is_comma
returns-then-is_comma c =
    let one = nodes_from-one c.args.kids.now c.loop-i.i (omega arith) in
    comma-found (nodes_from c.loop-i.i (nodes_of c.args.kids.now)) (nodes_from (c.loop-i.i + 1) (nodes_of c.args.kids.now)) one.0
    c.kind_at.result one.1 c.kind_at.ensures (sym c.is_comma.ensures ∙ c.if-is_comma.true)
    ∙ c.loop-i.invariant

pub loop-i-preserved : goal.loop-i-preserved
loop-i-preserved c =
    let one = nodes_from-one c.args.kids.now c.loop-i.i (omega arith) in
    comma-next (nodes_from c.loop-i.i (nodes_of c.args.kids.now)) (nodes_from (c.loop-i.i + 1) (nodes_of c.args.kids.now)) one.0
    c.kind_at.result one.1 c.kind_at.ensures (sym c.is_comma.ensures ∙ c.if-is_comma.false)
    ∙ c.loop-i.invariant

pub returns : goal.returns
returns c =
    ap (λ ts. ends_in_comma (items_of ts)) (sym (nodes_from-past c.args.kids.now c.loop-i.i (omega arith))) ∙ c.loop-i.invariant
