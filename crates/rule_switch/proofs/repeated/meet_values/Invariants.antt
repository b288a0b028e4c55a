use Rattle.std.proofs.Common.{◌≡◌, List, ◌++◌, drop, map}
use Rattle.hare_types.specs.Store.{Store}
use Rattle.hare_types.specs.Later.{IsLater}
use Rattle.hare_rules.specs.Aggregates.{but_last}
use Rattle.hare_rules.specs.Constants.{Labelled, labelled}
use Rattle.rule_switch.specs.Labels.{labels_met, repeated_place}
use Rattle.rule_switch.proofs.repeated.meet_values.Given as goal

-- none was met before so far
abbrev pub invariant-loop-i : goal.invariant-loop-i
invariant-loop-i l =
    (f : Store) → IsLater l.s f → (rest : List Labelled) →
    repeated_place (labels_met l.fn.met.keys) (map (labelled f l.to) (but_last l.values) ++ rest) ≡
    repeated_place (labels_met l.met.keys) (map (labelled f l.to) (but_last (drop l.i l.values)) ++ rest)
