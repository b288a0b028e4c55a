use Rattle.std.proofs.Common.{◌≡◌, drop, fold, map}
use Rattle.std.specs.List.{filter_map}
use Rattle.hare_modules.specs.Order.{earlier, first_in}
use Rattle.hare_modules.specs.Takings.{taking}
use Rattle.hare_modules.specs.Taken.{member_fault}
use Rattle.hare_modules.proofs.looks.unknown_member.Given as goal

abbrev pub invariant-loop-claim : goal.invariant-loop-claim
invariant-loop-claim l =
    fold earlier l.first (filter_map (member_fault l.items) (map taking (drop l.claim-index l.claims)))
    ≡ first_in (filter_map (member_fault l.items) (map taking l.claims))
