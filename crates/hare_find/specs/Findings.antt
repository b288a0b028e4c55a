-- What is found of a node at its turn, and what a judge may be asked with.
use Rattle.std.specs.Prelude.{◌≡◌, Bool, true, false, List, [], ◌∷◌, ◌++◌, map, length, Option, Some, None}
use Rattle.hare_tree.specs.declared.kind.Kind.{Kind}
use Rattle.hare_tree.specs.declared.kind.Kind.TheVariants as ki
use Rattle.hare_tree.specs.Node.{Head, kids_of}
use Rattle.hare_types.specs.declared.coercion.Coercion.{Coercion}
use Rattle.hare_types.specs.Store.{Store}
use Rattle.hare_types.specs.Later.{IsLater}
use Rattle.hare_typed.specs.Typed.{TypedNode}
use Rattle.hare_rules.specs.Context.{Setting, Context, Given}
use Rattle.hare_rules.specs.Above.{Above}
use Rattle.hare_rules.specs.Settles.{settles_kids, settled_kids, settles_late}
use Rattle.hare_rules.specs.Flow.{Flow, yields_to, context, path_meaning, own_settled, write_each}
use Rattle.hare_rules.specs.Types.{type_of}
use Rattle.hare_rules.specs.Rows.{first_failing}
use Rattle.hare_rules.specs.Finished.{bare}
use Rattle.hare_told.specs.Told.{AreToldEntries, AreToldYields, IsLookedAt, told_label, has_judge}
use Rattle.hare_walk.specs.Walks.{AreInHand, AreInferred}
use Rattle.rule_judge.specs.declared.turn.Turn.{Turn}
use Rattle.rule_judge.specs.Defined.{IsDefinedTy}
use Rattle.rule_judge.specs.Turns.{head_in, kind_in}
use Rattle.hare_find.specs.declared.finding.Finding.{Finding}
use Rattle.hare_find.specs.Listed.{written_each, coated_each}
use Rattle.hare_find.specs.Late.{settled_in}
use Rattle.hare_find.specs.Settling.{option_in}

-- What a verdict lists for kids is what the node settles of them, but of a `yield`, whose judge is not told what its label asks for, and of
-- a case of a `switch`, whose values hand on what they are asked for: these settle nothing.
abbrev pub lists : Kind → Bool
lists ki.Yield = false
lists ki.SwitchCase = false
lists _ = true

-- The turn of a node has come. Its kids have been judged and are in hand; its judge is told of what stands over it, of the bindings that
-- have been seen, and of what was yielded to it; and the walk has looked at the rest.
pub record IsAtTurn (w : Store → Setting) (s : Store) (a : Above) (f : Flow) (t : Turn) (gs : List Given) : Type 0 where
  pub store : (l : Store) → (w l).store ≡ l
  pub decls : (l : Store) → (w l).decls ≡ t.decls.now
  pub inferred : AreInferred w s a (head_in t) (kids_of t.node.now) t.kids.now f
  pub hand : AreInHand f t.kids.now
  pub locals : AreToldEntries f.locals t.locals.now
  pub hint : t.case.now.hint ≡ a.hint
  pub own : t.case.now.inside.own ≡ a.inside.own
  pub result : t.case.now.inside.result ≡ a.inside.result
  pub deferred : t.case.now.inside.deferred ≡ a.inside.deferred
  pub body : t.case.now.inside.body ≡ a.inside.body
  pub labels : t.case.now.inside.labels ≡ map told_label a.inside.labels
  pub role : has_judge a.inside.role ≡ true
  pub meaning : (l : Store) → IsLater s l → t.case.now.meaning ≡ path_meaning (w l) (head_in t) (kind_in t) (map bare t.kids.now)
  pub yields : yields_to (kind_in t) (length a.inside.labels) f.yields ≡ gs
  pub given : (l : Store) → IsLater s l → AreToldYields l gs t.case.now.yields
  pub looked : (l : Store) → IsLater s l → IsLookedAt (context (w l) a (head_in t) (map bare t.kids.now) f)

-- The node of this context, with these kids, behind nodes with these coercions, meets its list, and this is what is found of it.
pub record IsFoundAt (c : Context) (xs : List TypedNode) (cs : List Coercion) (x : Finding) : Type 0 where
  pub failing : first_failing c ≡ None
  pub type : type_of c ≡ Some x.ty
  pub own : own_settled c x.ty ≡ x.own
  pub kids : (r : Coercion) → write_each (settles_kids c) (cs ++ r ∷ []) ≡
      write_each (written_each xs (map option_in x.kids)) (cs ++ r ∷ [])
  pub coated : settled_kids c ≡ coated_each xs (map option_in x.kids)
  pub late : settles_late c c.head.kind ≡ map settled_in x.late

-- in each later store
abbrev pub IsFound : (Store → Setting) → Store → Above → Head → List TypedNode → Flow → Finding → Type 0
IsFound w s a h xs f x = (l : Store) → IsLater s l → IsFoundAt (context (w l) a h (map bare xs) f) xs f.coercions x

-- what is settled of each kid leads to a type that is in the store, and mentions no name that is not defined
abbrev pub IsDefinedSettling : Store → Option Coercion → Type 0
IsDefinedSettling s None = Unit {0}
IsDefinedSettling s (Some r) = IsDefinedTy s r.to

abbrev pub AreDefinedSettlings : Store → List (Option Coercion) → Type 0
AreDefinedSettlings s [] = Unit {0}
AreDefinedSettlings s (o ∷ os) = IsDefinedSettling s o × AreDefinedSettlings s os

-- the types of the node, and those to which its kids go, are in the store, and mention no name that is not defined
pub record IsDefinedFinding (s : Store) (x : Finding) : Type 0 where
  pub ty : IsDefinedTy s x.ty
  pub own : IsDefinedTy s x.own.to
  pub kids : AreDefinedSettlings s (map option_in x.kids)
