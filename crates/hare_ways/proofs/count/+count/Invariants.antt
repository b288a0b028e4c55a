use Rattle.std.proofs.Common.{◌≡◌, ◌+◌, length, drop}
use Rattle.hare_tree.specs.Node.{head, kids_of, nodes_of}
use Rattle.hare_tree.specs.Forms.{form_of}
use Rattle.hare_tree.specs.Spell.{spell, spells, all_led, pieces_tokens}
use Rattle.hare_tree.specs.Judged.{nodes_from}
use Rattle.hare_ways.proofs.count.+count.Given as goal

-- what is counted and what is left are the whole
abbrev pub invariant-count_tree-loop-j : goal.invariant-count_tree-loop-j
invariant-count_tree-loop-j l =
    l.count + length (pieces_tokens 0 (head l.t) (drop l.j (form_of (head l.t).kind)) (spells 0 (nodes_from l.kid (kids_of l.t))))
    ≡ length (spell 0 l.t)

abbrev pub invariant-count_row-loop-i : goal.invariant-count_row-loop-i
invariant-count_row-loop-i l =
    l.count + length (all_led 0 l.lead (spells 0 (nodes_from l.i (nodes_of l.kids))))
    ≡ length (all_led 0 l.lead (spells 0 (nodes_from l.from (nodes_of l.kids))))
