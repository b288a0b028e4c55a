-- What the judge relies on beside what each judge relies on.
use Rattle.std.specs.Prelude.{◌≡◌, ℕ, Bool, true, false, ◌||◌, List, Some, Option, is_some, IsSome}
use Rattle.hare_tree.specs.declared.kind.Kind.{Kind}
use Rattle.hare_tree.specs.declared.kind.Kind.TheVariants as ki
use Rattle.hare_types.specs.Store.{Store}
use Rattle.hare_types.specs.Sound.{IsStore}
use Rattle.hare_rules.specs.declared.declared.Local.{Local}
use Rattle.hare_rules.specs.declared.declared.DeclType.{DeclType}
use Rattle.hare_rules.specs.declared.judged.Case.{Case}
use Rattle.hare_typed.specs.Typed.{TypedNode, TypedNodes, marked, typed_none, typed_more}
use Rattle.hare_typed.specs.Given.{given}
use Rattle.hare_typed.specs.Order.{tree_from_front}
use Rattle.hare_rules.specs.Words.{id_in, nomem}
use Rattle.rule_judge.specs.declared.turn.Turn.{Turn}
use Rattle.rule_judge.specs.Defined.{IsDefinedName}
use Rattle.rule_judge.specs.Meant.{IsMeant}

-- the kinds of trees that can be places
abbrev pub leads_by : Kind → Bool → Bool
leads_by ki.Path inner = true
leads_by ki.Deref inner = true
leads_by ki.Index inner = true
leads_by ki.Field inner = true
leads_by ki.Paren inner = inner
leads_by _ inner = false

-- a path, what a pointer leads to, an element, a member, and each of these in parentheses
abbrev mutual
  pub has_place_form : TypedNode → Bool
  has_place_form (marked h m ts) = leads_by h.kind (has_first_form ts)

  pub has_first_form : TypedNodes → Bool
  has_first_form typed_none = false
  has_first_form (typed_more t ts) = has_place_form t

-- The refusal of memory is defined; what a path means is known; and where the first kid can be a place, it has a type.
pub record IsReadyNode (s : Store) (decls : List DeclType) (locals : List Local) (c : Case) (xs : List TypedNode) : Type 0 where
  pub nomem : IsDefinedName s nomem
  pub meant : IsMeant s decls locals c.meaning
  pub typed : has_place_form (tree_from_front 0 xs) ≡ true → IsSome (id_in (given (tree_from_front 0 xs)))

abbrev pub IsReady : Store → Turn → Type 0
IsReady s t = IsReadyNode s t.decls.now t.locals.now t.case.now t.kids.now

-- the same, of a store
pub record IsSoundReady (s : Store) (t : Turn) : Type 0 where
  pub sound : IsStore s
  pub ready : IsReady s t
