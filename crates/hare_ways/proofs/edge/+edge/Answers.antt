use Rattle.std.proofs.Common.{◌<◌, ap, sym, ◌∙◌, arith}
use Rattle.hare_tree.specs.Node.{nodes_of, size_of, sizes_of}
use Rattle.hare_tree.proofs.TreeKids.KidsFrom.{nodes_from-get, nodes_from-past}
use Rattle.hare_ways.specs.Edges.{first_ends}
use Rattle.hare_ways.proofs.edge.+edge.Goals as goal

pub kid_ends-ends_before_comma-requires : goal.kid_ends-ends_before_comma-requires
kid_ends-ends_before_comma-requires t c =
    let h : size_of c.in-Some.kid.now < sizes_of (nodes_of c.args.kids.now) =
    c.in-Some.ensures.smaller in
    (omega arith, tt)

pub kid_ends-returns-in-Some : goal.kid_ends-returns-in-Some
kid_ends-returns-in-Some t c =
    c.ends_before_comma.ensures
    ∙ ap first_ends (sym (nodes_from-get c.args.kids.now c.args.i c.in-Some.kid.now c.in-Some.ensures.found))

pub kid_ends-returns-in-None : goal.kid_ends-returns-in-None
kid_ends-returns-in-None t c = ap first_ends (sym (nodes_from-past c.args.kids.now c.args.i c.in-None.ensures.none))
