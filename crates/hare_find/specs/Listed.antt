-- What is settled of kids, by a list that has for each kid its coercion, or none where the kid was asked for a type.
use Rattle.std.specs.Prelude.{ℕ, suc, List, [], ◌∷◌, ◌++◌, Option, Some, None, drop}
use Rattle.hare_types.specs.declared.coercion.Coercion.{Coercion}
use Rattle.hare_typed.specs.Typed.{TypedNode}
use Rattle.hare_typed.specs.Coats.{with_coercion, settled_at}
use Rattle.hare_typed.specs.Numbers.{number_of}
use Rattle.hare_rules.specs.declared.judged.Yielded.{Yielded}
use Rattle.hare_rules.specs.Context.{Context, store_of}
use Rattle.hare_rules.specs.Control.{block_values}
use Rattle.hare_rules.specs.Settles.{Settled, joined_target}
use Rattle.hare_rules.specs.Judged.{coercions_from, yield_coercions}
use Rattle.rule_judge.specs.Asked.{listed}

-- the coercion that is listed for each kid, from number i on
abbrev pub listed_each : Context → ℕ → List TypedNode → List (Option Coercion)
listed_each c i [] = []
listed_each c i (x ∷ xs) = listed c i ∷ listed_each c (suc i) xs

-- the coercions that are listed for what was yielded, behind those of the kids
abbrev pub yields_listed : Context → List Yielded → List Coercion
yields_listed c ys = yield_coercions (store_of c) c.hint (joined_target (store_of c) c.hint (block_values c)) ys

-- what is listed for the kids from number i on, and behind them for what was yielded
abbrev pub listed_behind : Context → ℕ → List Yielded → List Coercion
listed_behind c i ys = coercions_from c i (drop i c.kids) ++ yields_listed c ys

-- what is written of one kid, under its number, and of each
abbrev pub written_one : TypedNode → Option Coercion → List Settled
written_one x None = []
written_one x (Some r) = record { node = number_of x; coercion = r } ∷ []

abbrev pub written_each : List TypedNode → List (Option Coercion) → List Settled
written_each (x ∷ xs) (o ∷ os) = written_one x o ++ written_each xs os
written_each _ _ = []

-- the kids behind that
abbrev pub coated_one : TypedNode → Option Coercion → TypedNode
coated_one x None = x
coated_one x (Some r) = with_coercion r x

-- so it is of the kid with so many before it alone
abbrev pub coated_at : ℕ → Option Coercion → List TypedNode → List TypedNode
coated_at i None xs = xs
coated_at i (Some r) xs = settled_at i r xs

abbrev pub coated_each : List TypedNode → List (Option Coercion) → List TypedNode
coated_each (x ∷ xs) (o ∷ os) = coated_one x o ∷ coated_each xs os
coated_each xs _ = xs
