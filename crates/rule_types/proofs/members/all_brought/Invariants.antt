use Rattle.std.proofs.Common.{◌≡◌, ◌++◌, drop}
use Rattle.hare_types.specs.Store.{Store}
use Rattle.hare_types.specs.Later.{IsLater}
use Rattle.hare_rules.specs.Written.{all_brought}
use Rattle.rule_types.proofs.members.all_brought.Given as goal

-- what has been brought so far, and what is brought by those that are left
abbrev pub invariant-loop-i : goal.invariant-loop-i
invariant-loop-i l = (f : Store) → IsLater l.s f → l.ids.items ++ all_brought f (drop l.i l.kids) ≡ all_brought f l.kids
