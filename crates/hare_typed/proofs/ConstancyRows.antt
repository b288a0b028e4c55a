-- The first node of a value that is no constant, worked out.
use Rattle.std.proofs.Common.{◌≡◌, [], ◌∷◌, Some, None, Option, refl}
use Rattle.std.specs.Prelude.{option_map, ◌==◌}
use Rattle.hare_tree.specs.declared.kind.Kind.{Kind}
use Rattle.hare_tree.specs.declared.kind.Kind.TheVariants as kind
use Rattle.hare_tree.specs.declared.token.Meaning.{Meaning}
use Rattle.hare_tree.specs.declared.token.Meaning.TheVariants as meant
use Rattle.hare_types.specs.declared.coercion.Ty.{Ty}
use Rattle.hare_typed.specs.declared.constant.Const.TheVariants as constant
use Rattle.hare_typed.specs.Typed.{TypedNode, marked}
use Rattle.hare_typed.specs.Numbers.{kind_of, number_of}
use Rattle.hare_typed.specs.Constancy.{first_inconstant}
use Rattle.hare_typed.proofs.ExampleTrees.{types, tree, made, at, path, call, block, type_node, switch_case, void, int, str, bool, bytes, nullable, ints, pair, nothing, never}

-- the kind of the first that is no constant, where nothing aborts but the node with the number 7
abbrev first : TypedNode → Option Kind
first t = option_map kind_of (first_inconstant types (λ u. number_of u == 7) t)

abbrev number : TypedNode
number = tree kind.Number int []

-- a path with this meaning and type
abbrev to : Meaning → Ty → TypedNode
to w t = meaning w (path t)
  where
    meaning : Meaning → TypedNode → TypedNode
    meaning w (marked h m ts) = marked h (record m { meaning = w }) ts

-- a path to a def has its constant
abbrev to_def : TypedNode
to_def = known (to (meant.Decl 3) int)
  where
    known : TypedNode → TypedNode
    known (marked h m ts) = marked h (record m { value = constant.Known [] [] }) ts

abbrev to_global : TypedNode
to_global = to (meant.Decl 4) int

abbrev plus : TypedNode → TypedNode → TypedNode
plus x y = tree kind.Arith int (x ∷ y ∷ [])

-- ---- constant

literal : first number ≡ None
literal = refl

sum : first (plus number (tree kind.Paren int (to_def ∷ []))) ≡ None
sum = refl

-- `type nothing = void;`: its name is a value
void_type : first (to (meant.Decl 9) nothing) ≡ None
void_type = refl

address_of_global : first (tree kind.Addr nullable (to_global ∷ [])) ≡ None
address_of_global = refl

-- what stands in `offset` is not evaluated
offset : first (tree kind.Offset int (tree kind.Field int (call ∷ []) ∷ [])) ≡ None
offset = refl

-- the length of an array type is no part of the value
size_of_type : first (tree kind.Size int (tree kind.TypeArray ints (call ∷ type_node int ∷ []) ∷ [])) ≡ None
size_of_type = refl

len_of_text : first (tree kind.Len int (tree kind.Str str [] ∷ [])) ≡ None
len_of_text = refl

struct : first (tree kind.StructLit pair (tree kind.TypePath pair [] ∷ tree kind.FieldValue void (number ∷ []) ∷ tree kind.TrailingComma
    void [] ∷ [])) ≡ None
struct = refl

-- ---- not constant

local : first (plus number (to (meant.Local 0) int)) ≡ Some kind.Path
local = refl

global : first to_global ≡ Some kind.Path
global = refl

-- a type that is no void, as a value
other_type : first (to (meant.Decl 8) int) ≡ Some kind.Path
other_type = refl

-- `f()`: the callee comes before the call
callee : first call ≡ Some kind.Path
callee = refl

address_of_parens : first (tree kind.Addr nullable (tree kind.Paren int (to_global ∷ []) ∷ [])) ≡ Some kind.Path
address_of_parens = refl

-- the left operand comes first, and both before the sum
left_first : first (plus (block []) call) ≡ Some kind.Block
left_first = refl

equal_on_pointers : first (tree kind.Equal bool (made 6 nullable (tree kind.Null void []) ∷ tree kind.Null void [] ∷ [])) ≡ Some kind.Equal
equal_on_pointers = refl

len_of_slice : first (tree kind.Len int (tree kind.Paren bytes (number ∷ []) ∷ [])) ≡ Some kind.Len
len_of_slice = refl

of_never : first (made 2 int (tree kind.Paren never (number ∷ []))) ≡ Some kind.Paren
of_never = refl

-- `switch (1) { case => void; }`: a case by itself is passed
switch : first (tree kind.Switch void (number ∷ switch_case (tree kind.Void void [] ∷ []) ∷ [])) ≡ Some kind.Switch
switch = refl

-- `abort("x")`: so is a message
abort : first (tree kind.Abort never (tree kind.Message void [] ∷ [])) ≡ Some kind.Abort
abort = refl

-- ---- what aborts

division : first (plus number (at 7 (plus number number))) ≡ Some kind.Arith
division = refl

-- also in an operand that would not run
not_run : first (tree kind.Logic bool (number ∷ at 7 (plus number number) ∷ [])) ≡ Some kind.Arith
not_run = refl
