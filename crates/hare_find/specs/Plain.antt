-- Nodes whose type is void, and that no judge is asked of: those of kinds without rows, and a path that is called.
use Rattle.std.specs.Prelude.{◌≡◌, Bool, true, false, List, nat_eq, length}
use Rattle.hare_tree.specs.declared.kind.Kind.{Kind}
use Rattle.hare_types.specs.Store.{Store}
use Rattle.hare_typed.specs.Typed.{TypedNode}
use Rattle.hare_rules.specs.Context.{Setting, Role, Ordinary, Callee, Length, BindingType, CaseValue, DeclaredValue}
use Rattle.hare_rules.specs.Above.{Above}
use Rattle.hare_rules.specs.Flow.{Flow}
use Rattle.hare_rules.specs.Table.{rows_of}
use Rattle.hare_walk.specs.Walks.{AreInHand}

-- Nothing is asked of a node of this kind: it is a part that is left out, a name, or what stands round other trees.
abbrev pub is_plain : Kind → Bool
is_plain k = nat_eq (length (rows_of k)) 0

-- the rows and the type of a node with this role are those of its kind
abbrev pub goes_by_kind : Role → Bool
goes_by_kind Ordinary = true
goes_by_kind BindingType = true
goes_by_kind CaseValue = true
goes_by_kind DeclaredValue = true
goes_by_kind Callee = false
goes_by_kind Length = false

-- The turn of a node with these kids has come, which is judged by its kind.
pub record IsAtPlain (w : Store → Setting) (a : Above) (f : Flow) (xs : List TypedNode) : Type 0 where
  pub store : (l : Store) → (w l).store ≡ l
  pub hand : AreInHand f xs
  pub role : goes_by_kind a.inside.role ≡ true

-- that of what is called
pub record IsAtCallee (w : Store → Setting) (a : Above) (f : Flow) (xs : List TypedNode) : Type 0 where
  pub store : (l : Store) → (w l).store ≡ l
  pub hand : AreInHand f xs
  pub role : a.inside.role ≡ Callee
