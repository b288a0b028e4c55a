use Rattle.std.proofs.Common.{◌≡◌, drop, Some}
use Rattle.std.specs.Prelude.{filter}
use Rattle.hare_types.specs.ByIds.{is_error_at}
use Rattle.hare_types.specs.Store.{Store}
use Rattle.hare_types.specs.Later.{IsLater}
use Rattle.hare_rules.specs.Words.{is_not_empty, has_error_member}
use Rattle.rule_judge.proofs.errors.has_error_member.Given as goal

abbrev pub invariant-loop-member : goal.invariant-loop-member
invariant-loop-member l = (f : Store) → IsLater l.s f →
    has_error_member f l.a ≡ is_not_empty (Some (filter (is_error_at f) (drop l.member-index l.member-items)))
