-- What is known before a body.
use Rattle.std.specs.Prelude.{ℕ, true, List, map}
use Rattle.hare_rules.specs.declared.declared.Local.{Local}
use Rattle.hare_rules.specs.Context.{Entry, Known}

-- what judges are told of parameters with these types, which may be assigned to
abbrev pub told_params : List ℕ → List Local
told_params ts = map (λ t. record { ty = t; mutable = true }) ts

-- and what is known of them
abbrev pub known_params : List ℕ → List Entry
known_params ts = map (λ t. Known (record { ty = t; mutable = true })) ts
