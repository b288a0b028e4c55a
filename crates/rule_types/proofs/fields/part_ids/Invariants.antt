use Rattle.std.proofs.Common.{◌≡◌, ◌++◌, drop}
use Rattle.std.specs.Prelude.{option_map}
use Rattle.hare_rules.specs.Aggregates.{but_last}
use Rattle.hare_rules.specs.Written.{part_ids}
use Rattle.rule_types.proofs.fields.part_ids.Given as goal

-- the types so far, and those that are left
abbrev pub invariant-loop-i : goal.invariant-loop-i
invariant-loop-i l = option_map (λ us. l.types ++ us) (part_ids (but_last (drop l.i l.kids))) ≡ part_ids (but_last l.kids)
