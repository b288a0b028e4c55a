use Rattle.std.proofs.Common.{◌≡◌, ◌+◌, length, drop}
use Rattle.hare_tree.specs.Node.{head, kids_of}
use Rattle.hare_tree.specs.Forms.{form_of}
use Rattle.hare_tree.specs.Spell.{spell, spells, kids_spelled, pieces_tokens}
use Rattle.hare_tree.specs.Judged.{nodes_from}
use Rattle.hare_ways.specs.Breaks.{sign_at}
use Rattle.hare_ways.proofs.count.sign_at.Given as goal

-- the sign stands where it does among the pieces from here on, and what is counted and what is left are the whole
abbrev pub invariant-loop-j : goal.invariant-loop-j
invariant-loop-j l = record {
  place : sign_at l.s (head l.t) (drop l.j (form_of (head l.t).kind)) l.count (spells 0 (nodes_from l.kid (kids_of l.t)))
      ≡ sign_at l.s (head l.t) (form_of (head l.t).kind) l.n (kids_spelled 0 l.t);
  whole : l.count + length (pieces_tokens 0 (head l.t) (drop l.j (form_of (head l.t).kind)) (spells 0 (nodes_from l.kid (kids_of l.t))))
      ≡ l.n + length (spell 0 l.t);
}
