use Rattle.std.proofs.Common.{◌≡◌, drop}
use Rattle.hare_types.specs.Store.{Store}
use Rattle.hare_types.specs.Later.{IsLater}
use Rattle.hare_rules.specs.Aggregates.{all_sized}
use Rattle.rule_types.proofs.fields.all_sized.Given as goal

-- those so far have a size
abbrev pub invariant-loop-t : goal.invariant-loop-t
invariant-loop-t l = (f : Store) → IsLater l.s f → all_sized f (drop l.t-index l.types) ≡ all_sized f l.types
