-- What a walk relies on of each tree that it has judged.
use Rattle.std.specs.Prelude.{◌≡◌, Bool, true, false, List, [], ◌∷◌, IsSome}
use Rattle.hare_tree.specs.declared.kind.Kind.{Kind}
use Rattle.hare_tree.specs.declared.kind.Kind.TheVariants as ki
use Rattle.hare_types.specs.Store.{Store}
use Rattle.hare_typed.specs.Typed.{TypedNode}
use Rattle.hare_typed.specs.Given.{given}
use Rattle.hare_typed.specs.Numbers.{kind_of}
use Rattle.hare_rules.specs.Context.{own_type}
use Rattle.hare_rules.specs.Words.{id_in}
use Rattle.rule_judge.specs.Defined.{IsDefinedTree}
use Rattle.rule_mem.specs.Needs.{has_place_form}
use Rattle.rule_types.specs.Known.{IsKnownPart}

abbrev pub is_case : Kind → Bool
is_case ki.Case = true
is_case ki.SwitchCase = true
is_case _ = false

-- Each type that stands in it is in the store, and mentions no name that is not defined; what can be a place has a type, before and behind
-- its coercion, and so has a case; and of what a written type writes it is known whether it has a size.
pub record IsKeptTree (s : Store) (x : TypedNode) : Type 0 where
  pub types : IsDefinedTree s x
  pub place : has_place_form x ≡ true → IsSome (id_in (given x))
  pub case : is_case (kind_of x) ≡ true → IsSome (id_in (own_type x))
  pub part : IsKnownPart s x

abbrev pub AreKeptTrees : Store → List TypedNode → Type 0
AreKeptTrees s [] = Unit {0}
AreKeptTrees s (x ∷ xs) = IsKeptTree s x × AreKeptTrees s xs
