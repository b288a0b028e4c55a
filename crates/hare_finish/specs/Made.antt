-- What the finished trees of declarations are put together from. No public clause cites this.
use Rattle.std.specs.Prelude.{◌≡◌, ℕ, ◌+◌, Bool, true, false, cond, List, [], ◌∷◌, length, drop, slice_get, Some}
use Rattle.hare_tree.specs.declared.kind.Kind.{Kind}
use Rattle.hare_tree.specs.declared.kind.Kind.TheVariants as ki
use Rattle.hare_tree.specs.declared.token.Meaning.TheVariants as means
use Rattle.hare_tree.specs.Node.{Node, head}
use Rattle.hare_types.specs.declared.coercion.Coercion.{Coercion}
use Rattle.hare_types.specs.declared.coercion.Ty.TheVariants as ty
use Rattle.hare_types.specs.declared.row.Scalar.TheVariants as keyword
use Rattle.hare_types.specs.Store.{Store}
use Rattle.hare_types.specs.Later.{IsLater}
use Rattle.hare_typed.specs.declared.constant.Const.TheVariants as constant
use Rattle.hare_typed.specs.Typed.{TypedNode, Mark, marked, typed_none, typed_nodes}
use Rattle.hare_typed.specs.Coats.{with_coercion}
use Rattle.hare_typed.specs.Erased.{erase}
use Rattle.hare_typed.specs.Order.{tree_from_front, backwards}
use Rattle.hare_typed.specs.Numbers.{is_param}
use Rattle.hare_rules.specs.Context.{own_type}
use Rattle.hare_rules.specs.Words.{word_id}
use Rattle.hare_rules.specs.Above.{trees_in}
use Rattle.hare_rules.specs.Settles.{same}
use Rattle.hare_rules.specs.Values.{declared_coercion}
use Rattle.hare_modules.specs.Uses.{kid, kids}
use Rattle.hare_whole.specs.Declared.{unnumbered}
use Rattle.hare_whole.specs.Turns.{hint_by}

-- ---- nodes of which nothing is asked

-- what they carry, with this id of void
abbrev pub void_mark : (void node : ℕ) → Mark
void_mark v k = record { node = k; ty = ty.Of v; coerce = same (ty.Of v); meaning = means.None; value = constant.Absent }

abbrev pub plain_as : (void : ℕ) → Node → TypedNode
plain_as v t = marked (head t) (void_mark v 0) typed_none

-- the id is that of void, in each later store too
abbrev pub IsVoid : Store → ℕ → Type 0
IsVoid s v = (f : Store) → IsLater s f → word_id f keyword.Void ≡ Some v

-- nothing stands in the tree
abbrev pub IsLeaf : Node → Type 0
IsLeaf t = length (kids t) ≡ 0

-- `export` and the name of a declaration, which are plain
pub record IsFront (v : ℕ) (t : Node) (xs : List TypedNode) : Type 0 where
  pub is : xs ≡ plain_as v (kid t 0) ∷ plain_as v (kid t 1) ∷ []
  pub export_leaf : IsLeaf (kid t 0)
  pub name_leaf : IsLeaf (kid t 1)

-- the tree of a declaration with `export`, a name and these parts
pub record IsDeclaration (v : ℕ) (t : Node) (xs : List TypedNode) (d : TypedNode) : Type 0 where
  pub count : length (kids t) ≡ length xs + 2
  pub export_leaf : IsLeaf (kid t 0)
  pub name_leaf : IsLeaf (kid t 1)
  pub is : d ≡ marked (head t) (void_mark v 0) (typed_nodes (plain_as v (kid t 0) ∷ plain_as v (kid t 1) ∷ xs))

-- ---- types

-- the tree of a type declaration
abbrev pub IsTypeMade : (void : ℕ) → Node → List TypedNode → TypedNode → Type 0
IsTypeMade v t ts d = IsDeclaration v t (unnumbered (tree_from_front 0 ts) ∷ []) d

-- ---- defs and globals

abbrev pub is_binding : Kind → Bool
is_binding ki.Def = true
is_binding ki.GlobalLet = true
is_binding ki.GlobalConst = true
is_binding _ = false

-- the written type of a def or a global, or what stands where it is left out
abbrev pub type_as : (void : ℕ) → Node → List TypedNode → TypedNode
type_as v t [] = plain_as v t
type_as v t (x ∷ xs) = unnumbered x

abbrev pub IsLeafOrWritten : Node → List TypedNode → Type 0
IsLeafOrWritten t [] = IsLeaf t
IsLeafOrWritten t (x ∷ xs) = Unit {0}

-- what the value goes to, in each later store
abbrev pub IsDeclaredCoercion : Store → List TypedNode → TypedNode → Coercion → Type 0
IsDeclaredCoercion s ts x r = (f : Store) → IsLater s f → r ≡ declared_coercion f (hint_by ts) (own_type x)

-- the tree of a def or a global whose value has this coercion
pub record IsBindingMade (v : ℕ) (t : Node) (ts : List TypedNode) (x : TypedNode) (r : Coercion) (d : TypedNode) : Type 0 where
  pub declaration : IsDeclaration v t (type_as v (kid t 2) ts ∷ with_coercion r x ∷ []) d
  pub leaf : IsLeafOrWritten (kid t 2) ts

-- ---- functions

-- how many types stand in a part of the parameters: one in a parameter, and none in a comma
abbrev pub taken_by : Kind → ℕ
taken_by k = cond (is_param k) 1 0

abbrev pub IsPartShaped : Node → Type 0
IsPartShaped t = length (kids t) ≡ taken_by (head t).kind

abbrev pub ArePartsShaped : List Node → Type 0
ArePartsShaped ns = (i : ℕ) (t : Node) → slice_get ns i ≡ Some t → IsPartShaped t

-- a part of the parameters: a parameter gets this number, and the first of these types
abbrev pub part_as : (void number : ℕ) → Node → List TypedNode → TypedNode
part_as v k t ts =
    cond (is_param (head t).kind) (marked (head t) (void_mark v k) (typed_nodes (unnumbered (tree_from_front 0 ts) ∷ []))) (plain_as v t)

-- all parts, where the first parameter gets this number, and each the next of these types
abbrev pub parts_as : (void number : ℕ) → List Node → List TypedNode → List TypedNode
parts_as v k [] ts = []
parts_as v k (t ∷ us) ts = part_as v k t ts ∷ parts_as v (k + taken_by (head t).kind) us (drop (taken_by (head t).kind) ts)

abbrev pub params_as : (void number : ℕ) → Node → List TypedNode → TypedNode
params_as v k t ts = marked (head t) (void_mark v 0) (typed_nodes (parts_as v k (kids t) ts))

-- the last of some trees
abbrev pub last_tree : List TypedNode → TypedNode
last_tree ts = tree_from_front 0 (backwards ts)

-- the tree of a function with this body
pub record IsFunctionMade (v : ℕ) (t : Node) (ts : List TypedNode) (b d : TypedNode) : Type 0 where
  pub declaration : IsDeclaration v t (params_as v (trees_in (erase b)) (kid t 2) ts ∷ unnumbered (last_tree ts) ∷ b ∷ []) d
  pub shaped : ArePartsShaped (kids (kid t 2))
