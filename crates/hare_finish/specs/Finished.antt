-- The finished tree of a declaration, and the parts that it is made of.
use Rattle.std.specs.Prelude.{◌≡◌, ℕ, true, List, [], ◌++◌, length, Option, Some, None, Contains}
use Rattle.hare_tree.specs.Node.{Node, head}
use Rattle.hare_types.specs.Store.{Store}
use Rattle.hare_types.specs.Later.{IsLater}
use Rattle.hare_typed.specs.Typed.{TypedNode}
use Rattle.hare_typed.specs.Erased.{erase}
use Rattle.hare_typed.specs.Numbers.{kind_of}
use Rattle.hare_typed.specs.Order.{tree_from_front, backwards}
use Rattle.hare_rules.specs.declared.declared.DeclType.{DeclType}
use Rattle.hare_rules.specs.Aggregates.{but_last}
use Rattle.hare_rules.specs.Context.{Setting}
use Rattle.hare_rules.specs.Rows.{first_failing}
use Rattle.hare_rules.specs.Finished.{IsWell}
use Rattle.hare_modules.specs.Uses.{kid}
use Rattle.hare_depends.specs.declared.said.Sort.TheVariants as so
use Rattle.hare_depends.specs.Sorts.{sort_of, has_value}
use Rattle.hare_whole.specs.Listing.{written_types}
use Rattle.hare_whole.specs.Parts.{function_known, known_by}
use Rattle.hare_whole.specs.Declared.{over_body, before_body, IsWellDecl}
use Rattle.hare_whole.specs.Turns.{AreTyped, IsTypedValue, context_of, type_or_plain, known_by_types, known_by_value}

-- ---- the parts

-- the value is well typed, and the declaration meets its rows with it
abbrev pub IsValued : Setting → ℕ → Node → List TypedNode → Option TypedNode → Type 0
IsValued w n t ts None = ⊥
IsValued w n t ts (Some v) = IsTypedValue w n t ts v × (first_failing (context_of w n t ts v) ≡ None)

-- the body is well typed, where this is known of its function
abbrev pub IsBodyBy : Setting → ℕ → Node → DeclType → TypedNode → Type 0
IsBodyBy w n t d b = (erase b ≡ kid t 4) × IsWell w (over_body n d.ty (length d.params)) (before_body d.params (kid t 4)) b

abbrev pub HasBody : Setting → ℕ → Node → List TypedNode → Option TypedNode → Type 0
HasBody w n t ts None = ⊥
HasBody w n t ts (Some b) = IsBodyBy w n t (function_known n (but_last ts) (tree_from_front 0 (backwards ts))) b

-- these are the parts of the declaration, well typed
pub record ArePartsOf (w : Setting) (n : ℕ) (t : Node) (ts : List TypedNode) (v b : Option TypedNode) : Type 0 where
  pub types : AreTyped w n (written_types t) ts
  pub value : has_value (sort_of t) ≡ true → IsValued w n t ts v
  pub body : sort_of t ≡ so.Function → HasBody w n t ts b

-- ---- the whole

-- what the parts say of the declaration
abbrev pub said_by_value : Setting → ℕ → Node → List TypedNode → Option TypedNode → List DeclType
said_by_value w n t ts None = []
said_by_value w n t ts (Some v) = known_by_value w.store n (head t).kind (sort_of t) (type_or_plain w (kid t 2) ts) v

abbrev pub said_by_parts : Setting → ℕ → Node → List TypedNode → Option TypedNode → List DeclType
said_by_parts w n t ts v = known_by_types w.store n (head t).kind (sort_of t) ts ++ said_by_value w n t ts v

-- The tree is that of the declaration, it is well typed, and what is known by it is what its parts say.
pub record IsFinishedIn (w : Setting) (n : ℕ) (t : Node) (ts : List TypedNode) (v : Option TypedNode) (d : TypedNode) : Type 0 where
  pub erases : erase d ≡ t
  pub well : IsWellDecl w n d
  pub known : Contains (said_by_parts w n t ts v) (known_by w.store n (kind_of d) d)

-- It is so over each later store, whatever is known of declarations, where these are the parts of declaration number n.
abbrev pub IsFinished : Store → Node → List TypedNode → Option TypedNode → Option TypedNode → TypedNode → Type 0
IsFinished s t ts v b d = (w : Setting) (n : ℕ) → IsLater s w.store → ArePartsOf w n t ts v b → IsFinishedIn w n t ts v d
