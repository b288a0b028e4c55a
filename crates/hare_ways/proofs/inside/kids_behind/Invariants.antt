use Rattle.std.proofs.Common.{◌≡◌, drop}
use Rattle.hare_tree.specs.Node.{head, kids_of}
use Rattle.hare_tree.specs.Forms.{form_of}
use Rattle.hare_tree.specs.Judged.{nodes_from}
use Rattle.hare_ways.specs.Breaks.{kids_behind}
use Rattle.hare_ways.specs.Parts.{items_of}
use Rattle.hare_ways.proofs.inside.kids_behind.Given as goal

-- the kids behind the sign are those among what is left
abbrev pub invariant-loop-j : goal.invariant-loop-j
invariant-loop-j l =
    kids_behind l.s (drop l.j (form_of (head l.t).kind)) (items_of (nodes_from l.kid (kids_of l.t)))
    ≡ kids_behind l.s (form_of (head l.t).kind) (items_of (kids_of l.t))
