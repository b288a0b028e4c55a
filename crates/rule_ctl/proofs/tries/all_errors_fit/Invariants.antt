use Rattle.std.proofs.Common.{◌≡◌, drop, filter}
use Rattle.hare_types.specs.ByIds.{is_error_at}
use Rattle.hare_types.specs.Store.{Store}
use Rattle.hare_types.specs.Later.{IsLater}
use Rattle.hare_rules.specs.Aggregates.{all_fit}
use Rattle.rule_ctl.proofs.tries.all_errors_fit.Given as goal

-- those that are left decide
abbrev pub invariant-loop-u : goal.invariant-loop-u
invariant-loop-u l = (f : Store) → IsLater l.s f →
    all_fit f (filter (is_error_at f) l.types) l.to ≡ all_fit f (filter (is_error_at f) (drop l.u-index l.types)) l.to
