-- A `match` and a `switch` ask the same of their cases.
use Rattle.std.proofs.Common.{◌≡◌, ℕ, true, refl}
use Rattle.hare_tree.specs.declared.kind.Kind.{Kind}
use Rattle.hare_tree.specs.declared.kind.Kind.TheVariants as ki
use Rattle.hare_rules.specs.Context.{Context}
use Rattle.rule_judge.specs.Asked.{asks_as}
use Rattle.hare_judge.specs.Kinds.{has_cases}

pub asked-cases : (c : Context) (i : ℕ) (k : Kind) → has_cases k ≡ true → asks_as c i ki.Match ≡ asks_as c i k
asked-cases c i ki.Match e = refl
asked-cases c i ki.Switch e = refl
asked-cases c i _ e = cc
