use Rattle.std.proofs.Common.{◌≡◌, ◌++◌, drop}
use Rattle.std.specs.Prelude.{option_map}
use Rattle.hare_types.specs.Store.{Store}
use Rattle.hare_types.specs.Later.{IsLater}
use Rattle.hare_rules.specs.Aggregates.{but_last, field_types}
use Rattle.hare_rules.specs.Written.{part_ids, fields}
use Rattle.rule_types.specs.Grown.{IsGrown}
use Rattle.rule_types.proofs.fields.fields.Given as goal

-- the fields so far, and those that are left
abbrev pub invariant-loop-i : goal.invariant-loop-i
invariant-loop-i l = record {
  grown : IsGrown l.fn.s l.s;
  types : option_map (λ us. field_types l.fields ++ us) (part_ids (but_last (drop l.i l.kids))) ≡ part_ids (but_last l.kids);
  rest : (f : Store) → IsLater l.s f → option_map (λ us. l.fields ++ us) (fields f (but_last (drop l.i l.kids))) ≡
      fields f (but_last l.kids);
}
