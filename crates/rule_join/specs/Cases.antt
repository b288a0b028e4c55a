-- What is relied on of the cases of a `match` or a `switch`.
use Rattle.std.specs.Prelude.{List, [], ◌∷◌, IsSome}
use Rattle.hare_typed.specs.Typed.{TypedNode}
use Rattle.hare_rules.specs.Context.{own_type}
use Rattle.hare_rules.specs.Words.{id_in}

-- Each has a type with an id, as a case has that has been judged.
abbrev pub AreTyped : List TypedNode → Type 0
AreTyped [] = Unit {0}
AreTyped (x ∷ xs) = IsSome (id_in (own_type x)) × AreTyped xs
