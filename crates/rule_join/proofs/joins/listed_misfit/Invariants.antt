use Rattle.std.proofs.Common.{◌≡◌, not, drop}
use Rattle.std.specs.Prelude.{find}
use Rattle.hare_types.specs.Store.{Store}
use Rattle.hare_types.specs.Later.{IsLater}
use Rattle.hare_rules.specs.Words.{fits}
use Rattle.rule_join.specs.Together.{listed_in}
use Rattle.rule_join.proofs.joins.listed_misfit.Given as goal

abbrev pub invariant-loop-i : goal.invariant-loop-i
invariant-loop-i l =
    (f : Store) → IsLater l.s f → find (λ y. not (fits f y.ty l.to)) (listed_in l.v l.t) ≡
    find (λ y. not (fits f y.ty l.to)) (drop l.i (listed_in l.v l.t))
