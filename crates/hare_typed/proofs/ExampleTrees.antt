-- Typed trees in few words, over a small store.
use Rattle.std.proofs.Common.{ℕ, List, [], ◌∷◌, ◌++◌, codes, true, Some}
use Rattle.hare_tree.specs.declared.kind.Kind.{Kind}
use Rattle.hare_tree.specs.declared.kind.Kind.TheVariants as kind
use Rattle.hare_tree.specs.declared.token.Meaning.TheVariants as meant
use Rattle.hare_tree.specs.declared.token.Suffix.TheVariants as suffix
use Rattle.hare_tree.specs.Node.{Head}
use Rattle.hare_types.specs.declared.coercion.Ty.{Ty}
use Rattle.hare_types.specs.declared.coercion.Ty.TheVariants as ty
use Rattle.hare_types.specs.declared.row.Row.TheVariants as row
use Rattle.hare_types.specs.declared.row.Scalar.TheVariants as word
use Rattle.hare_types.specs.Store.{Store}
use Rattle.hare_typed.specs.declared.constant.Const.TheVariants as constant
use Rattle.hare_typed.specs.Typed.{TypedNode, Mark, marked, typed_nodes}

-- ---- types

abbrev pub void : Ty
void = ty.Of 0

abbrev pub int : Ty
int = ty.Of 1

abbrev pub str : Ty
str = ty.Of 2

abbrev pub u8 : Ty
u8 = ty.Of 3

abbrev pub size : Ty
size = ty.Of 4

abbrev pub bool : Ty
bool = ty.Of 5

-- `!void`
abbrev pub error_void : Ty
error_void = ty.Of 6

-- `(void | int)`
abbrev pub two : Ty
two = ty.Of 7

-- `(int | str | !void)`
abbrev pub three : Ty
three = ty.Of 8

-- `[]u8`
abbrev pub bytes : Ty
bytes = ty.Of 9

-- `*[]u8`, `**[]u8`
abbrev pub to_bytes : Ty
to_bytes = ty.Of 10

abbrev pub to_to_bytes : Ty
to_to_bytes = ty.Of 11

-- `nullable *u8`
abbrev pub nullable : Ty
nullable = ty.Of 12

-- `[3]int`
abbrev pub ints : Ty
ints = ty.Of 13

-- `struct { a: int, b: u8 }`, where the names have the numbers 0 and 1
abbrev pub pair : Ty
pair = ty.Of 14

-- `type loop = *loop;`
abbrev pub endless : Ty
endless = ty.Of 15

-- `type e = (int | str | !void);`
abbrev pub named_three : Ty
named_three = ty.Of 17

-- a type of rt without a size, `never`
abbrev pub never : Ty
never = ty.Of 18

-- `type nothing = void;`
abbrev pub nothing : Ty
nothing = ty.Of 19

abbrev pub types : Store
types = record {
  names = codes "a" ∷ codes "b" ∷ [];
  rows = row.Scalar word.Void ∷ row.Scalar word.Int ∷ row.Scalar word.Str ∷ row.Scalar word.U8 ∷ row.Scalar word.Size ∷ row.Scalar word.Bool
      ∷ row.Error 0 ∷ row.Union (0 ∷ 1 ∷ []) ∷ row.Union (1 ∷ 2 ∷ 6 ∷ []) ∷ row.Slice 3 ∷ row.Pointer 9 ∷ row.Pointer 10 ∷ row.Nullable 3
      ∷ row.Array 3 1 ∷ row.Struct (record { name = 0; ty = 1 } ∷ record { name = 1; ty = 3 } ∷ []) ∷ row.Named 7 ∷ row.Pointer 15 ∷
      row.Named 8
      ∷ row.Scalar word.Never ∷ row.Named 9 ∷ [];
  declared = (7, record { sized = true; definition = Some 16 }) ∷ (8, record { sized = true; definition = Some 8 })
      ∷ (9, record { sized = true; definition = Some 0 }) ∷ [];
  listed = [];
}

-- ---- trees

abbrev pub head : Kind → List ℕ → Head
head k x = record { kind = k; place = record { file = 0; line = 1; column = 1 }; text = x; number = 0; suffix = suffix.None }

-- what has this type and keeps it, with the number 0
abbrev pub mark : Ty → Mark
mark t = record { node = 0; ty = t; coerce = record { row = 1; to = t }; meaning = meant.None; value = constant.Absent }

-- a tree of a kind and a type, with its kids
abbrev pub tree : Kind → Ty → List TypedNode → TypedNode
tree k t ts = marked (head k []) (mark t) (typed_nodes ts)

-- the same with a label or a name
abbrev pub called : Kind → List ℕ → Ty → List TypedNode → TypedNode
called k x t ts = marked (head k x) (mark t) (typed_nodes ts)

-- the tree with another coercion
abbrev pub made : ℕ → Ty → TypedNode → TypedNode
made n t (marked h m ts) = marked h (record m { coerce = record { row = n; to = t } }) ts

-- the tree with another number
abbrev pub at : ℕ → TypedNode → TypedNode
at n (marked h m ts) = marked h (record m { node = n }) ts

-- a part that is left out
abbrev pub none : TypedNode
none = tree kind.None void []

-- ---- statements and what stands in them

abbrev pub path : Ty → TypedNode
path t = called kind.Path (codes "x") t []

abbrev pub call : TypedNode
call = tree kind.Call void (path void ∷ none ∷ [])

abbrev pub when : TypedNode → TypedNode
when t = tree kind.If void (path bool ∷ t ∷ none ∷ [])

abbrev pub defer : TypedNode → TypedNode
defer t = tree kind.Defer void (t ∷ [])

abbrev pub block : List TypedNode → TypedNode
block ts = tree kind.Block void ts

abbrev pub block_called : List ℕ → List TypedNode → TypedNode
block_called x ts = called kind.Block x void ts

abbrev pub loop : TypedNode → TypedNode
loop t = tree kind.For void (none ∷ path bool ∷ none ∷ t ∷ [])

abbrev pub loop_called : List ℕ → TypedNode → TypedNode
loop_called x t = called kind.For x void (none ∷ path bool ∷ none ∷ t ∷ [])

abbrev pub each : TypedNode → TypedNode
each t = tree kind.ForEach void (called kind.Binding (codes "e") void (none ∷ []) ∷ path bytes ∷ t ∷ [])

abbrev pub returning : TypedNode
returning = tree kind.Return never (none ∷ [])

abbrev pub trying : TypedNode
trying = tree kind.Try int (path three ∷ [])

abbrev pub breaking : List ℕ → TypedNode
breaking x = called kind.Break x never []

abbrev pub continuing : List ℕ → TypedNode
continuing x = called kind.Continue x never []

abbrev pub yielding : List ℕ → TypedNode
yielding x = called kind.Yield x never (none ∷ [])

abbrev pub case : List TypedNode → TypedNode
case ts = tree kind.Case void (none ∷ ts)

abbrev pub matching : List TypedNode → TypedNode
matching ts = tree kind.Match void (path three ∷ ts)

abbrev pub switch_case : List TypedNode → TypedNode
switch_case ts = tree kind.SwitchCase void (none ∷ ts)

abbrev pub switching : List TypedNode → TypedNode
switching ts = tree kind.Switch void (path int ∷ ts)

-- ---- declarations

abbrev pub type_node : Ty → TypedNode
type_node t = tree kind.TypeScalar t []

abbrev pub name : TypedNode
name = called kind.Name (codes "f") void []

abbrev pub param : Ty → TypedNode
param t = called kind.Param (codes "a") void (type_node t ∷ [])

-- a function with these parameters and this body
abbrev pub function : List TypedNode → TypedNode → TypedNode
function ps t = tree kind.Fn void (none ∷ name ∷ tree kind.Params void (ps ++ none ∷ []) ∷ type_node void ∷ t ∷ [])
