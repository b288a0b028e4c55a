use Rattle.std.proofs.Common.{◌≡◌, drop}
use Rattle.std.specs.Prelude.{find}
use Rattle.hare_types.specs.Store.{Store}
use Rattle.hare_types.specs.Later.{IsLater}
use Rattle.hare_rules.specs.Written.{odd_spread}
use Rattle.rule_types.specs.Members.{is_odd_spread}
use Rattle.rule_types.proofs.members.odd_spread.Given as goal

-- none was found so far
abbrev pub invariant-loop-i : goal.invariant-loop-i
invariant-loop-i l = (f : Store) → IsLater l.s f → find (is_odd_spread f) (drop l.i l.kids) ≡ odd_spread f l.kids
