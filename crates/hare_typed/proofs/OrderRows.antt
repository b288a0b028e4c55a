-- Check order, numbers and kids by number, worked out.
use Rattle.std.proofs.Common.{◌≡◌, ℕ, List, [], ◌∷◌, Bool, true, false, codes, map, nat_eq, refl}
use Rattle.hare_tree.specs.declared.kind.Kind.{Kind}
use Rattle.hare_tree.specs.declared.kind.Kind.TheVariants as kind
use Rattle.hare_tree.specs.declared.token.Meaning.TheVariants as meant
use Rattle.hare_tree.specs.Node as untyped
use Rattle.hare_typed.specs.declared.constant.Const.TheVariants as constant
use Rattle.hare_typed.specs.Typed.{TypedNode, marked, typed_nodes}
use Rattle.hare_typed.specs.Erased.{erase}
use Rattle.hare_typed.specs.Order.{check_order, missing, kid_from_front, kid_from_end}
use Rattle.hare_typed.specs.Numbers.{kind_of, number_of, numbered, unnumbered}
use Rattle.hare_typed.specs.Constants.{constants_stand}
use Rattle.hare_typed.proofs.ExampleTrees.{tree, called, at, none, head, mark, path, call, when, block, returning, param, function, name, type_node, void, int, bool}

abbrev kinds : List TypedNode → List Kind
kinds ts = map kind_of ts

-- `{ f(); if (a) return; }`: the kids come from left to right, and each node behind what stands in it
abbrev body : TypedNode
body = block (call ∷ when returning ∷ [])

in_order : kinds (check_order body)
    ≡ kind.Path ∷ kind.None ∷ kind.Call ∷ kind.Path ∷ kind.None ∷ kind.Return ∷ kind.None ∷ kind.If ∷ kind.Block ∷ []
in_order = refl

-- parameters are numbered behind the body
numbered_last : kinds (numbered (function (param int ∷ param bool ∷ []) (block []))) ≡ kind.Block ∷ kind.Param ∷ kind.Param ∷ []
numbered_last = refl

-- all else in a function is not: its name, its parameters' types, the type of its result, and itself
not_numbered : kinds (unnumbered (function (param int ∷ []) (block [])))
    ≡ kind.None ∷ kind.Name ∷ kind.TypeScalar ∷ kind.None ∷ kind.Params ∷ kind.TypeScalar ∷ kind.Fn ∷ []
not_numbered = refl

-- `def x: int = y;`
def_value : kinds (numbered (tree kind.Def void (none ∷ name ∷ type_node int ∷ path int ∷ []))) ≡ kind.Path ∷ []
def_value = refl

-- a type has no number in it
no_number : numbered (tree kind.TypeDecl void (none ∷ name ∷ type_node int ∷ [])) ≡ []
no_number = refl

counting : map number_of (numbered (function (at 2 (param int) ∷ []) (at 1 (block (at 0 (path void) ∷ []))))) ≡ 0 ∷ 1 ∷ 2 ∷ []
counting = refl

-- ---- kids

first_kid : kind_of (kid_from_front 0 call) ≡ kind.Path
first_kid = refl

last_kid : kind_of (kid_from_end 0 call) ≡ kind.None
last_kid = refl

one_before_last : kind_of (kid_from_end 1 call) ≡ kind.Path
one_before_last = refl

past_the_last : kid_from_front 2 call ≡ missing
past_the_last = refl

before_the_first : kid_from_end 2 call ≡ missing
before_the_first = refl

-- ---- erased

erased : erase (called kind.Break (codes "a") int (at 7 none ∷ []))
    ≡ untyped.branch (head kind.Break (codes "a")) (untyped.more (untyped.branch (head kind.None []) untyped.none) untyped.none)
erased = refl

-- ---- constants

abbrev one : TypedNode → TypedNode
one (marked h m ts) = marked h (record m { value = constant.Known [] [] }) ts

-- a path that means the declaration with this number
abbrev to_decl : ℕ → TypedNode
to_decl d = marked (head kind.Path (codes "x")) (record (mark int) { meaning = meant.Decl d }) (typed_nodes [])

abbrev global : TypedNode → TypedNode
global t = tree kind.GlobalLet void (none ∷ name ∷ none ∷ t ∷ [])

-- declaration 3 is a def, and no other
abbrev stand : TypedNode → Bool
stand t = constants_stand (nat_eq 3) false t

value_of_global : stand (global (one (path int))) ≡ true
value_of_global = refl

value_without : stand (global (path int)) ≡ false
value_without = refl

path_to_def : stand (block (one (to_decl 3) ∷ to_decl 4 ∷ [])) ≡ true
path_to_def = refl

path_to_def_without : stand (block (to_decl 3 ∷ [])) ≡ false
path_to_def_without = refl

path_to_global : stand (block (one (to_decl 4) ∷ [])) ≡ false
path_to_global = refl

-- `case 1, 2, => f();`
abbrev values : TypedNode → TypedNode
values t = tree kind.SwitchCase void (tree kind.Values void (one (path int) ∷ t ∷ tree kind.TrailingComma void [] ∷ []) ∷ call ∷ [])

case_values : stand (values (one (path int))) ≡ true
case_values = refl

case_value_without : stand (values (path int)) ≡ false
case_value_without = refl
