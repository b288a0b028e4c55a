-- The first case that goes on has a default.
use Rattle.std.proofs.Common.{◌≡◌, Bool, true, false, cond, List, [], ◌∷◌, map, Some, None, refl, ap}
use Rattle.std.specs.Prelude.{find, IsSome}
use Rattle.hare_types.specs.declared.coercion.Ty.{Ty}
use Rattle.hare_types.specs.declared.coercion.Ty.TheVariants as ty
use Rattle.hare_types.specs.Store.{Store}
use Rattle.hare_typed.specs.Typed.{TypedNode}
use Rattle.hare_rules.specs.declared.hint.Hint.{Hint}
use Rattle.hare_rules.specs.declared.hint.Hint.TheVariants as hint
use Rattle.hare_rules.specs.Context.{own_type}
use Rattle.hare_rules.specs.Joined.{given_by, goes_on, first_lacking, without_default, if_lacking}
use Rattle.hare_rules.specs.Words.{id_in, has_default}
use Rattle.rule_join.specs.Cases.{AreTyped}

has_one : (a : Ty) → IsSome (id_in a) → has_default a ≡ true
has_one (ty.Of t) h = refl
has_one (ty.Iconst v) h = cc
has_one ty.Null h = cc
has_one ty.Empty h = cc

none_lacks : (f : Store) (xs : List TypedNode) → AreTyped xs → without_default (find (goes_on f) (map given_by xs)) ≡ None
none_lacks f [] h = refl
none_lacks f (x ∷ xs) h = by (none_lacks f xs h.1) (goes_on f (given_by x))
  where
    by : without_default (find (goes_on f) (map given_by xs)) ≡ None → (b : Bool)
        → without_default (cond b (Some (given_by x)) (find (goes_on f) (map given_by xs))) ≡ None
    by ih true = ap (λ d. if_lacking d (given_by x)) (has_one (own_type x) h.0)
    by ih false = ih

pub cases_default : (f : Store) (h : Hint) (xs : List TypedNode) → AreTyped xs → first_lacking f h (map given_by xs) ≡ None
cases_default f (hint.Of t) xs a = refl
cases_default f hint.Drop xs a = refl
cases_default f hint.None xs a = none_lacks f xs a
