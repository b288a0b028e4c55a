-- What is told of a node, where each type that stands in it is defined.
use Rattle.std.specs.Prelude.{◌≡◌, ℕ, ◌<◌, true, List, length, slice_get, Some, IsSome}
use Rattle.hare_types.specs.Store.{Store}
use Rattle.hare_typed.specs.Typed.{TypedNode}
use Rattle.hare_typed.specs.Given.{given}
use Rattle.hare_typed.specs.Order.{tree_from_front}
use Rattle.hare_rules.specs.declared.judged.Yielded.{Yielded}
use Rattle.hare_rules.specs.Context.{own_type}
use Rattle.hare_rules.specs.Words.{id_in, nomem}
use Rattle.rule_judge.specs.declared.turn.Turn.{Turn}
use Rattle.rule_judge.specs.Defined.{IsDefined, IsDefinedTy, IsDefinedHint, IsDefinedTree, IsDefinedName}
use Rattle.rule_judge.specs.Meant.{IsMeant}
use Rattle.rule_mem.specs.Needs.{has_place_form}

-- the type of each value that is yielded is
abbrev pub AreYieldsDefined : Store → List Yielded → Type 0
AreYieldsDefined s ys = (k : ℕ) (y : Yielded) → slice_get ys k ≡ Some y → IsDefinedTy s y.ty

-- and so is each type that stands in one of these trees
abbrev pub AreTreesDefined : Store → List TypedNode → Type 0
AreTreesDefined s xs = (k : ℕ) (x : TypedNode) → slice_get xs k ≡ Some x → IsDefinedTree s x

-- each tree behind the first has a type
abbrev pub AreBehindTyped : List TypedNode → Type 0
AreBehindTyped xs = (k : ℕ) → 0 < k → k < length xs → IsSome (id_in (own_type (tree_from_front k xs)))

-- where the tree can be a place, it has one
abbrev pub IsFirstTyped : TypedNode → Type 0
IsFirstTyped x = has_place_form x ≡ true → IsSome (id_in (given x))

-- the types of the hint, of the values that are yielded, of the kids, of the refusal of memory, of what a path means and of the result
pub record AreTold (s : Store) (t : Turn) : Type 0 where
  pub hint : IsDefinedHint s t.case.now.hint
  pub yields : AreYieldsDefined s t.case.now.yields
  pub kids : AreTreesDefined s t.kids.now
  pub nomem : IsDefinedName s nomem
  pub meant : IsMeant s t.decls.now t.locals.now t.case.now.meaning
  pub result : IsDefined s t.case.now.inside.result
