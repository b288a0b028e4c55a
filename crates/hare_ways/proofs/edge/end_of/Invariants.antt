use Rattle.std.proofs.Common.{◌≡◌, drop}
use Rattle.hare_tree.specs.declared.form.Sign.TheVariants as si
use Rattle.hare_tree.specs.Node.{head, kids_of}
use Rattle.hare_tree.specs.Forms.{form_of}
use Rattle.hare_tree.specs.Shape.{stops, stops_each, form_stops}
use Rattle.hare_tree.specs.Judged.{nodes_from}
use Rattle.hare_ways.specs.Edges.{end_told}
use Rattle.hare_ways.proofs.edge.end_of.Given as goal

-- what is told from here on is what is told of the tree
abbrev pub invariant-loop-j : goal.invariant-loop-j
invariant-loop-j l =
    form_stops si.Comma (head l.t) (end_told l.seen.end (kids_of l.t)) (drop l.j (form_of (head l.t).kind))
    (stops_each si.Comma (nodes_from l.seen.kid (kids_of l.t)))
    ≡ stops si.Comma l.t
