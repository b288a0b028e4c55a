use Rattle.std.proofs.Common.{◌≡◌, [], drop}
use Rattle.hare_types.specs.Store.{Store}
use Rattle.hare_types.specs.Later.{IsLater}
use Rattle.hare_rules.specs.Constants.{each_label}
use Rattle.rule_switch.specs.Labels.{labels_met, repeated_place}
use Rattle.rule_switch.proofs.repeated.repeated_among.Given as goal

-- none was met before so far
abbrev pub invariant-loop-i : goal.invariant-loop-i
invariant-loop-i l =
    (f : Store) → IsLater l.s f → repeated_place [] (each_label f l.to (drop 1 l.kids)) ≡
    repeated_place (labels_met l.met.keys) (each_label f l.to (drop l.i l.kids))
