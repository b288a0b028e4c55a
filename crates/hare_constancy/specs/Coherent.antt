-- That the objects agree which stand in a well-typed value: those of its strings, and those of the defs that it names.
use Rattle.std.specs.Prelude.{◌≡◌, ◌≢◌, ◌⊎◌, ◌<◌, ◌≤◌, ◌+◌, ◌*◌, ◌^◌, ℕ, Bool, true, false, List, [], Contains, Some}
use Rattle.hare_tree.specs.declared.kind.Kind.{Kind}
use Rattle.hare_tree.specs.declared.kind.Kind.TheVariants as kind
use Rattle.hare_types.specs.declared.coercion.Coercion.{Coercion}
use Rattle.hare_typed.specs.declared.constant.Const.{Const}
use Rattle.hare_typed.specs.declared.constant.Const.TheVariants as constant
use Rattle.hare_typed.specs.declared.constant.ConstObject.{ConstObject}
use Rattle.hare_typed.specs.Typed.{TypedNode, TypedNodes, marked, typed_none, typed_more, mark_of}
use Rattle.hare_typed.specs.Cells.{byte_cells}
use Rattle.hare_typed.specs.Erased.{erase}
use Rattle.hare_typed.specs.Coherent.{IsCoherent}
use Rattle.hare_rules.specs.declared.declared.DeclType.{DeclType}
use Rattle.hare_rules.specs.Above.{Above, trees_in}
use Rattle.hare_rules.specs.Context.{Setting, Entry, declaration}
use Rattle.hare_rules.specs.Finished.{AllCarry}
use Rattle.hare_rules.specs.Flow.{flow_at}
use Rattle.hare_constancy.specs.Well.{asked}

-- ---- defs

-- the objects that a constant lists
abbrev pub listed : Const → List ConstObject
listed constant.Absent = []
listed (constant.Known cs os) = os

-- What is known of declarations lists objects of one number with the same cells, and none of the nodes of this declaration.
pub record DefsAgree (w : Setting) (own : ℕ) : Type 0 where
  pub one : (n k : ℕ) (d e : DeclType) (o p : ConstObject) → declaration w n ≡ Some d → declaration w k ≡ Some e →
      Contains (listed d.value) o → Contains (listed e.value) p → o.object ≡ p.object → o.cells ≡ p.cells
  pub others : (n i : ℕ) (d : DeclType) (o : ConstObject) → declaration w n ≡ Some d → Contains (listed d.value) o → i < 2 ^ 32 →
      o.object ≢ (own + 1) * 2 ^ 32 + i

-- ---- the objects that a tree has

-- the node with this number is a string of the tree, with this text
abbrev mutual
  pub HasString : ℕ → List ℕ → TypedNode → Type 0
  HasString n x (marked h m ts) = ((h.kind ≡ kind.Str) × (m.node ≡ n) × (h.text ≡ x)) ⊎ HaveString n x ts

  pub HaveString : ℕ → List ℕ → TypedNodes → Type 0
  HaveString n x typed_none = ⊥
  HaveString n x (typed_more t ts) = HasString n x t ⊎ HaveString n x ts

-- The object is that of a string of the value of this declaration, with its bytes; or the constant of a def lists it.
abbrev pub IsStatic : Setting → (own : ℕ) → TypedNode → ConstObject → Type 0
IsStatic w own t o =
    ((n : ℕ) × (x : List ℕ) × HasString n x t × (o.object ≡ (own + 1) * 2 ^ 32 + n) × (o.cells ≡ byte_cells x))
    ⊎ ((n : ℕ) × (d : DeclType) × (declaration w n ≡ Some d) × Contains (listed d.value) o)

-- ---- values of cases

-- a node of the kind asks for constants of its kids: the values of a case, and a declaration
abbrev pub asks_constants : Kind → Bool
asks_constants kind.Values = true
asks_constants kind.Def = true
asks_constants kind.GlobalLet = true
asks_constants kind.GlobalConst = true
asks_constants _ = false

-- the constant lists such objects alone
abbrev pub ListsOnly : (ConstObject → Type 0) → Const → Type 0
ListsOnly P v = (o : ConstObject) → Contains (listed v) o → P o

-- so do all that such nodes ask for
abbrev mutual
  pub CasesList : (ConstObject → Type 0) → TypedNode → Type 0
  CasesList P (marked h m ts) = EachCaseLists P h.kind ts

  pub EachCaseLists : (ConstObject → Type 0) → Kind → TypedNodes → Type 0
  EachCaseLists P k typed_none = Unit {0}
  EachCaseLists P k (typed_more t ts) = (asks_constants k ≡ true → ListsOnly P (mark_of t).value) × CasesList P t × EachCaseLists P k ts

-- ---- the law

-- The objects of the strings and of the constants in a tree agree when its constant is asked for, where the values of cases that stand in it
-- list no others, and it has no more than 2^32 nodes.
abbrev pub AskedTreesAreCoherent : Type 0
AskedTreesAreCoherent =
    (w : Setting) (a : Above) (ls : List Entry) (t : TypedNode) (r : Coercion) → AllCarry w a t (flow_at ls) →
    DefsAgree w a.inside.own → CasesList (IsStatic w a.inside.own t) t → trees_in (erase t) ≤ 2 ^ 32 →
    IsCoherent w.store a.inside.own (asked w a (flow_at ls) r t)
