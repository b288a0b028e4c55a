use Rattle.std.proofs.Common.{◌≡◌, drop}
use Rattle.hare_tree.specs.Node.{head, nodes_of, kids_of}
use Rattle.hare_tree.specs.Forms.{form_of}
use Rattle.hare_tree.specs.Judged.{nodes_from, all_low, more_low, more_elements_low, judged, both}
use Rattle.hare_tree.proofs.shape.+shape.Given as goal

-- the kids from here on are low as all are
abbrev pub invariant-all_low-loop-i : goal.invariant-all_low-loop-i
invariant-all_low-loop-i l =
    all_low l.room l.sort (nodes_from l.i (nodes_of l.kids)) ≡ all_low l.room l.sort (nodes_from l.from (nodes_of l.kids))

abbrev pub invariant-more_low-loop-i : goal.invariant-more_low-loop-i
invariant-more_low-loop-i l =
    more_low l.room l.sort (nodes_from l.i (nodes_of l.kids)) ≡ more_low l.room l.sort (nodes_from l.from (nodes_of l.kids))

abbrev pub invariant-more_elements_low-loop-i : goal.invariant-more_elements_low-loop-i
invariant-more_elements_low-loop-i l =
    more_elements_low l.room l.sort (nodes_from l.i (nodes_of l.kids)) ≡ more_elements_low l.room l.sort
    (nodes_from l.from (nodes_of l.kids))

-- the pieces and the kids from here on are judged as all are
abbrev pub invariant-judged_kids-loop-j : goal.invariant-judged_kids-loop-j
invariant-judged_kids-loop-j l =
    judged l.room (head l.t) l.at.ends (drop l.j (form_of (head l.t).kind)) (nodes_from l.at.kid (kids_of l.t)) ≡ judged l.room (head l.t)
    both (form_of (head l.t).kind) (kids_of l.t)
