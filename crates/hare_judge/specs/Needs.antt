-- What the judge of any node relies on beside what each judge relies on.
use Rattle.std.specs.Prelude.{◌≡◌, true, List, drop, IsSome}
use Rattle.hare_tree.specs.declared.kind.Kind.{Kind}
use Rattle.hare_types.specs.Store.{Store}
use Rattle.hare_typed.specs.Typed.{TypedNode}
use Rattle.hare_typed.specs.Given.{given}
use Rattle.hare_typed.specs.Order.{tree_from_front}
use Rattle.hare_rules.specs.declared.declared.Local.{Local}
use Rattle.hare_rules.specs.declared.declared.DeclType.{DeclType}
use Rattle.hare_rules.specs.declared.judged.Case.{Case}
use Rattle.hare_rules.specs.Words.{id_in, nomem}
use Rattle.rule_judge.specs.declared.turn.Turn.{Turn}
use Rattle.rule_judge.specs.Defined.{IsDefined, IsDefinedName}
use Rattle.rule_judge.specs.Meant.{IsMeant}
use Rattle.rule_judge.specs.Turns.{kind_in, IsTurn}
use Rattle.rule_join.specs.Cases.{AreTyped}
use Rattle.rule_mem.specs.Needs.{has_place_form}
use Rattle.hare_judge.specs.Kinds.{has_cases}

-- The refusal of memory is defined; what a path means is known; the result of the function mentions no name that is not defined; where the
-- first kid can be a place, it has a type; and each case of a `match` or a `switch` has one.
pub record IsReadyNode (s : Store) (decls : List DeclType) (locals : List Local) (c : Case) (k : Kind) (xs : List TypedNode) : Type 0 where
  pub nomem : IsDefinedName s nomem
  pub meant : IsMeant s decls locals c.meaning
  pub result : IsDefined s c.inside.result
  pub typed : has_place_form (tree_from_front 0 xs) ≡ true → IsSome (id_in (given (tree_from_front 0 xs)))
  pub cases : has_cases k ≡ true → AreTyped (drop 1 xs)

abbrev pub IsReady : Store → Turn → Type 0
IsReady s t = IsReadyNode s t.decls.now t.locals.now t.case.now (kind_in t) t.kids.now

-- a node whose turn has come, over a sound store
pub record IsReadyTurn (s : Store) (t : Turn) : Type 0 where
  pub turn : IsTurn s t
  pub ready : IsReady s t
