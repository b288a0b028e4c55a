-- What is entered of a declaration, part by part. No public clause cites this.
use Rattle.std.specs.Prelude.{◌≡◌, ℕ, false, cond, List, [], slice_get, Option, Some, option_to_list}
use Rattle.hare_tree.specs.declared.kind.Kind.{Kind}
use Rattle.hare_tree.specs.declared.kind.Kind.TheVariants as ki
use Rattle.hare_tree.specs.Node.{Node, head}
use Rattle.hare_types.specs.Store.{Store}
use Rattle.hare_types.specs.Later.{IsLater}
use Rattle.hare_typed.specs.declared.constant.Const.TheVariants as constant
use Rattle.hare_typed.specs.Typed.{TypedNode, mark_of}
use Rattle.hare_rules.specs.declared.declared.DeclType.{DeclType}
use Rattle.hare_rules.specs.Context.{Setting}
use Rattle.hare_modules.specs.Uses.{kid}
use Rattle.hare_depends.specs.Sorts.{sort_of}
use Rattle.hare_whole.specs.Parts.{written_id, declared_id, known_as, is_mutable}
use Rattle.hare_whole.specs.Turns.{is_def, known_by_types, type_or_plain}

-- the type with so many before it is there, and writes the type with this id
abbrev pub IsWrittenAt : List TypedNode → ℕ → ℕ → Type 0
IsWrittenAt ts i u = (t : TypedNode) × (slice_get ts i ≡ Some t) × (u ≡ written_id t)

-- in each store that comes behind this one, this is what is known of the declaration by its types
abbrev pub IsKnownByTypes : Store → ℕ → Node → List TypedNode → Option DeclType → Type 0
IsKnownByTypes s n t ts o = (l : Store) → IsLater s l → known_by_types l n (head t).kind (sort_of t) ts ≡ option_to_list o

-- in each store that comes behind this one, the def or global has the type with this id
abbrev pub IsDeclaredAs : Store → Node → List TypedNode → TypedNode → ℕ → Type 0
IsDeclaredAs s t ts v u = (l : Store) (w : Setting) → IsLater s l → u ≡ declared_id l (type_or_plain w (kid t 2) ts) v

-- what is known of a def or of a global, where its type has this id
abbrev pub constant_known : ℕ → Kind → ℕ → TypedNode → DeclType
constant_known n k u v = cond (is_def k) (known_as n ki.Def u [] false (mark_of v).value) (known_as n k u [] (is_mutable k) constant.Absent)
