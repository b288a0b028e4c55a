use Rattle.std.proofs.Common.{◌≡◌, ℕ, ◌++◌, drop}
use Rattle.std.specs.Prelude.{Contains, find, option_map}
use Rattle.hare_types.specs.Store.{Store}
use Rattle.hare_types.specs.Later.{IsLater}
use Rattle.hare_rules.specs.Aggregates.{but_last, defaults, lacks_default}
use Rattle.rule_judge.specs.Defined.{IsDefined}
use Rattle.rule_judge.specs.Grown.{IsGrown}
use Rattle.rule_mem.proofs.tuples.defaults.Given as goal

-- the defaults so far, and those that are left
abbrev pub invariant-loop-i : goal.invariant-loop-i
invariant-loop-i l = record {
  grown : IsGrown l.fn.s l.s;
  defined : (k : ℕ) → Contains l.types k → IsDefined l.s k;
  rest : (f : Store) → IsLater l.s f → option_map (λ us. l.types ++ us) (defaults f (but_last (drop l.i l.t.kids.now))) ≡
      defaults f (but_last l.t.kids.now);
  lacking : find lacks_default (but_last (drop l.i l.t.kids.now)) ≡ find lacks_default (but_last l.t.kids.now);
}
