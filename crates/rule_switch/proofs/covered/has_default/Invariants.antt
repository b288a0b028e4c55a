use Rattle.std.proofs.Common.{◌≡◌, ℕ, drop, Option}
use Rattle.std.specs.List.{list_any}
use Rattle.hare_types.specs.Store.{Store}
use Rattle.hare_rules.specs.Constants.{each_label}
use Rattle.rule_switch.specs.Labels.{is_default}
use Rattle.rule_switch.proofs.covered.has_default.Given as goal

-- none was found so far
abbrev pub invariant-loop-i : goal.invariant-loop-i
invariant-loop-i l =
    (f : Store) (o : Option ℕ) → list_any is_default (each_label f o (drop 1 l.kids)) ≡
    list_any is_default (each_label f o (drop l.i l.kids))
