use Rattle.std.proofs.Common.{◌≡◌, drop, not}
use Rattle.std.specs.List.{list_any}
use Rattle.hare_types.specs.Store.{Store}
use Rattle.hare_types.specs.Later.{IsLater}
use Rattle.hare_rules.specs.Written.{is_member_sized}
use Rattle.rule_types.proofs.members.are_sized.Given as goal

-- those so far are sized
abbrev pub invariant-loop-i : goal.invariant-loop-i
invariant-loop-i l = (f : Store) → IsLater l.s f →
    list_any (λ x. not (is_member_sized f x)) (drop l.i l.kids) ≡ list_any (λ x. not (is_member_sized f x)) l.kids
