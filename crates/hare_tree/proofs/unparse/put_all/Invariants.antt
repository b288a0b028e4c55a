use Rattle.std.proofs.Common.{◌≡◌, ◌++◌}
use Rattle.hare_tree.specs.Spell.{spell_all}
use Rattle.hare_tree.specs.Left.{left_tokens, left_weight}
use Rattle.hare_tree.proofs.unparse.put_all.Given as goal

-- what is put so far and what is left are what all trees are spelled by
abbrev pub invariant-loop-entry : goal.invariant-loop-entry
invariant-loop-entry l =
    l.out ++ left_tokens l.file l.left.items ≡ l.fn.out ++ spell_all l.file l.trees

abbrev pub decreases-loop-entry : goal.decreases-loop-entry
decreases-loop-entry l = left_weight l.left.items
