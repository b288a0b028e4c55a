use Rattle.std.proofs.Common.{◌≡◌, ◌≤◌, length, map, take}
use Rattle.hare_rules.specs.Control.{nearest}
use Rattle.hare_rules.specs.Judged.{open_of}
use Rattle.rule_ctl.specs.Jumps.{may_mean}
use Rattle.rule_ctl.proofs.jumps.meant.Given as goal

-- it stands among those that are left, or nowhere
abbrev pub invariant-loop-left : goal.invariant-loop-left
invariant-loop-left l = record {
  within : l.left ≤ length l.labels;
  rest : nearest (may_mean l.wanted l.name) (map open_of l.labels) ≡
      nearest (may_mean l.wanted l.name) (map open_of (take l.left l.labels));
}

abbrev pub decreases-loop-left : goal.decreases-loop-left
decreases-loop-left l = l.left
