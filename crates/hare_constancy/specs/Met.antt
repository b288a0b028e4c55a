-- Trees of which each node meets its rows. A well-typed tree is such, and so is the value of a declaration when its constant is asked for,
-- before the tree round it is done.
use Rattle.std.specs.Prelude.{◌≡◌, ◌≢◌, ℕ, Bool, true, false, ◌||◌, map, Option, Some, None}
use Rattle.hare_tree.specs.declared.kind.Kind.{Kind}
use Rattle.hare_tree.specs.declared.kind.Kind.TheVariants as kind
use Rattle.hare_tree.specs.Node.{Head}
use Rattle.hare_types.specs.declared.coercion.Ty.{Ty}
use Rattle.hare_types.specs.declared.coercion.Coercion.{Coercion}
use Rattle.hare_types.specs.Store.{Store}
use Rattle.hare_typed.specs.Typed.{TypedNode, TypedNodes, Mark, marked, typed_none, typed_more, head_of, mark_of, kids_of, listed_nodes}
use Rattle.hare_typed.specs.Given.{given}
use Rattle.hare_typed.specs.Constants.{own_kind}
use Rattle.hare_typed.specs.ConstantForms.{own_type}
use Rattle.hare_rules.specs.Aggregates.{is_path}
use Rattle.hare_rules.specs.Context.{Setting, Context, Role, Ordinary, Callee, Length, BindingType, CaseValue, DeclaredValue, store_of, kid}
use Rattle.hare_rules.specs.Rows.{first_failing}
use Rattle.hare_rules.specs.Settles.{to_type, settled_kids}
use Rattle.hare_rules.specs.Types.{type_of}

abbrev pub is_number : Kind → Bool
is_number kind.Number = true
is_number _ = false

-- what stands in the role: what is called and not judged is a path, and the length of an array a path or a number
abbrev pub is_in_role : Role → Kind → Bool
is_in_role Callee k = is_path k
is_in_role Length k = is_path k || is_number k
is_in_role Ordinary k = true
is_in_role BindingType k = true
is_in_role CaseValue k = true
is_in_role DeclaredValue k = true

-- what is said of a node itself
abbrev pub shown : TypedNode → Head × Mark
shown t = (head_of t, mark_of t)

-- it goes to a type, if there is one and it may be assigned to it, or stays as it is
abbrev pub GoesTo : Store → Ty → Coercion → Type 0
GoesTo s a r = (o : Option ℕ) × (r ≡ to_type s a o)

-- what asks its kids for no type: they stay as they are until its own turn
abbrev pub asks_nothing : Kind → Bool
asks_nothing kind.Neg = true
asks_nothing kind.Not = true
asks_nothing kind.Arith = true
asks_nothing kind.Shift = true
asks_nothing kind.Size = true
asks_nothing kind.Align = true
asks_nothing _ = false

-- The node, whose context this is, meets its whole list, and has the type that follows. Its kids are those of the context, as they are
-- behind the node's turn; but the kid of a `yield` goes where the tree says that it leaves.
pub record IsJudged (c : Context) (t : TypedNode) : Type 0 where
  pub head : c.head ≡ head_of t
  pub role : is_in_role c.inside.role (own_kind t) ≡ true
  pub rows : first_failing c ≡ None
  pub type : type_of c ≡ Some (own_type t)
  pub kids : own_kind t ≢ kind.Yield → map shown (listed_nodes (kids_of t)) ≡ map shown (settled_kids c)
  pub goes : GoesTo (store_of c) (own_type t) (mark_of t).coerce
  pub unasked : (i : ℕ) → asks_nothing (own_kind t) ≡ true → given (kid c i) ≡ own_type (kid c i)

-- each node of the tree is so, over this setting
abbrev mutual
  pub IsMet : Setting → TypedNode → Type 0
  IsMet w (marked h m ts) = ((c : Context) × (c.setting ≡ w) × IsJudged c (marked h m ts)) × AreMet w ts

  pub AreMet : Setting → TypedNodes → Type 0
  AreMet w typed_none = Unit {0}
  AreMet w (typed_more t ts) = IsMet w t × AreMet w ts
