use Rattle.std.proofs.Common.{◌≡◌, not, take, filter}
use Rattle.hare_types.specs.ByIds.{is_error_at}
use Rattle.hare_types.specs.Store.{Store}
use Rattle.hare_types.specs.Later.{IsLater}
use Rattle.rule_judge.proofs.members.values.Given as goal

-- those of the first ones
abbrev pub invariant-loop-member : goal.invariant-loop-member
invariant-loop-member l = (f : Store) → IsLater l.s f → l.left ≡ filter (λ i. not (is_error_at f i)) (take l.member-index l.members)
