-- Typed trees in few words, and the programs that are made of them.
use Rattle.std.proofs.Common.{ℕ, List, [], ◌∷◌, ◌++◌, codes, map}
use Rattle.hare_tree.specs.declared.kind.Kind.{Kind}
use Rattle.hare_tree.specs.declared.kind.Kind.TheVariants as kind
use Rattle.hare_tree.specs.declared.place.Place.{Place}
use Rattle.hare_tree.specs.declared.token.Meaning.{Meaning}
use Rattle.hare_tree.specs.declared.token.Meaning.TheVariants as meant
use Rattle.hare_tree.specs.declared.token.Suffix.TheVariants as suffix
use Rattle.hare_types.specs.declared.coercion.Ty.{Ty}
use Rattle.hare_types.specs.declared.coercion.Ty.TheVariants as kept
use Rattle.hare_typed.specs.declared.constant.Const.TheVariants as constant
use Rattle.hare_typed.specs.declared.cell.Cell.{Cell}
use Rattle.hare_typed.specs.Typed.{TypedNode, marked, typed_nodes}
use Rattle.hare_typed.specs.State.{AsValue, Outcome, Result}
use Rattle.hare_typed.specs.Interpreter.{evaluate}
use Rattle.hare_meaning.specs.Code.{Code, statics_of, world_of}
use Rattle.hare_meaning.specs.Forms.{forms}
use Rattle.hare_meaning.specs.Run.{run, start, ending, entry_of, entry_scope}
use Rattle.hare_meaning.proofs.Samples.{types, void, never, bool, str, u8, size, added}

-- ---- nodes

abbrev pub place : ℕ → Place
place column = record { file = 0; line = 1; column = column }

-- a node with a text and a number, in column 1, of a type that it keeps
abbrev pub of_type : Kind → List ℕ → ℕ → Ty → List TypedNode → TypedNode
of_type k x n f ts =
    marked record { kind = k; place = place 1; text = x; number = n; suffix = suffix.None }
    record { node = 0; ty = f; coerce = record { row = 1; to = f }; meaning = meant.None; value = constant.Absent } (typed_nodes ts)

abbrev pub node : Kind → List ℕ → ℕ → ℕ → List TypedNode → TypedNode
node k x n t ts = of_type k x n (kept.Of t) ts

-- in a column, with a coercion, a node number, a meaning, a constant
abbrev pub at : ℕ → TypedNode → TypedNode
at c (marked h m ts) = marked (record h { place = place c }) m ts

abbrev pub to : (row type : ℕ) → TypedNode → TypedNode
to r t (marked h m ts) = marked h (record m { coerce = record { row = r; to = kept.Of t } }) ts

abbrev pub numbered : ℕ → TypedNode → TypedNode
numbered n (marked h m ts) = marked h (record m { node = n }) ts

abbrev pub means : Meaning → TypedNode → TypedNode
means w (marked h m ts) = marked h (record m { meaning = w }) ts

abbrev pub known : List Cell → TypedNode → TypedNode
known cs (marked h m ts) = marked h (record m { value = constant.Known cs [] }) ts

abbrev pub absent : TypedNode
absent = of_type kind.None [] 0 kept.Empty []

-- ---- values

abbrev pub num : ℕ → ℕ → TypedNode
num t n = node kind.Number [] n t []

abbrev pub yes : TypedNode
yes = node kind.Bool (codes "true") 0 bool []

abbrev pub no : TypedNode
no = node kind.Bool (codes "false") 0 bool []

-- a string, whose node has a number among those of its declaration
abbrev pub text : ℕ → List ℕ → TypedNode
text n bs = numbered n (node kind.Str bs 0 str [])

abbrev pub local : ℕ → ℕ → TypedNode
local x t = means (meant.Local x) (node kind.Path [] 0 t [])

abbrev pub global : ℕ → ℕ → TypedNode
global d t = means (meant.Decl d) (node kind.Path [] 0 t [])

abbrev pub one : Kind → ℕ → TypedNode → TypedNode
one k t a = node k [] 0 t (a ∷ [])

abbrev pub two : Kind → List ℕ → ℕ → TypedNode → TypedNode → TypedNode
two k x t a b = node k x 0 t (a ∷ b ∷ [])

abbrev pub arith : List ℕ → ℕ → TypedNode → TypedNode → TypedNode
arith x t a b = two kind.Arith x t a b

abbrev pub less : List ℕ → TypedNode → TypedNode → TypedNode
less x a b = two kind.Less x bool a b

abbrev pub equal : TypedNode → TypedNode → TypedNode
equal a b = two kind.Equal (codes "==") bool a b

abbrev pub index : ℕ → TypedNode → TypedNode → TypedNode
index t a i = two kind.Index [] t a i

abbrev pub part : ℕ → TypedNode → TypedNode → TypedNode → TypedNode
part t a x y = node kind.Slice [] 0 t (a ∷ x ∷ y ∷ [])

abbrev pub field : ℕ → List ℕ → TypedNode → TypedNode
field t x a = node kind.Field x 0 t (a ∷ [])

abbrev pub type_node : ℕ → TypedNode
type_node t = node kind.TypeScalar [] 0 t []

abbrev pub array : ℕ → List TypedNode → TypedNode
array t ts = node kind.Array [] 0 t (ts ++ absent ∷ absent ∷ [])

-- ---- statements

abbrev pub set : TypedNode → TypedNode → TypedNode
set a b = two kind.Assign [] void a b

abbrev pub set_by : List ℕ → TypedNode → TypedNode → TypedNode
set_by x a b = two kind.OpAssign x void a b

abbrev pub bind : TypedNode → TypedNode
bind v = node kind.Let [] 0 void (absent ∷ v ∷ [])

abbrev pub block : List TypedNode → TypedNode
block ts = node kind.Block [] 0 void ts

abbrev pub giving : ℕ → List TypedNode → TypedNode
giving t ts = node kind.Block [] 0 t ts

abbrev pub labelled : List ℕ → TypedNode → TypedNode
labelled l (marked h m ts) = marked (record h { text = l }) m ts

abbrev pub later : TypedNode → TypedNode
later e = one kind.Defer void e

abbrev pub when : TypedNode → TypedNode → TypedNode → TypedNode
when c a b = node kind.If [] 0 void (c ∷ a ∷ b ∷ [])

abbrev pub either : ℕ → TypedNode → TypedNode → TypedNode → TypedNode
either t c a b = node kind.If [] 0 t (c ∷ a ∷ b ∷ [])

abbrev pub loop : TypedNode → TypedNode → TypedNode → TypedNode → TypedNode
loop l c a b = node kind.For [] 0 void (l ∷ c ∷ a ∷ b ∷ [])

abbrev pub each : TypedNode → TypedNode → TypedNode → TypedNode
each b o s = node kind.ForEach [] 0 void (b ∷ o ∷ s ∷ [])

abbrev pub element : TypedNode
element = node kind.Binding [] 0 void (absent ∷ [])

abbrev pub element_address : TypedNode
element_address = node kind.Binding [] 0 void (node kind.ByRef [] 0 void [] ∷ [])

abbrev pub leave : TypedNode
leave = node kind.Break [] 0 never []

abbrev pub again : TypedNode
again = node kind.Continue [] 0 never []

abbrev pub hand : TypedNode → TypedNode
hand v = one kind.Yield never v

abbrev pub give : TypedNode → TypedNode
give v = one kind.Return never v

-- ---- calls

abbrev pub call : ℕ → ℕ → List TypedNode → TypedNode
call d t ts = node kind.Call [] 0 t (means (meant.Decl d) (node kind.Path [] 0 void []) ∷ ts ++ absent ∷ [])

abbrev pub rt : ℕ → ℕ → List TypedNode → TypedNode
rt f t ts = node kind.Call [] 0 t (means (meant.Rt f) (node kind.Path [] 0 void []) ∷ ts ++ absent ∷ [])

-- puts out a text, whose node has a number
abbrev pub puts : ℕ → List ℕ → TypedNode
puts n bs = rt 0 void (text n bs ∷ [])

abbrev pub exit : TypedNode → TypedNode
exit v = rt 6 never (v ∷ [])

-- ---- programs

abbrev pub parameter : ℕ → TypedNode
parameter t = node kind.Param [] 0 t (type_node t ∷ [])

abbrev pub function : List ℕ → ℕ → TypedNode → TypedNode
function ps r b =
    node kind.Fn [] 0 void
    (absent ∷ node kind.Name [] 0 void [] ∷ node kind.Params [] 0 void (map parameter ps ++ absent ∷ []) ∷ type_node r ∷ b ∷ [])

abbrev pub main : List TypedNode → TypedNode
main ts = function [] void (block ts)

-- each call counts 100 bytes on the stack measure
abbrev pub program : List TypedNode → Code
program ds = record {
  types = types;
  paths = codes "m.ha" ∷ [];
  declarations = ds;
  bounds = map (λ d. 100) ds;
  entry = 0;
  statics = statics_of types ds;
}

abbrev pub result : List TypedNode → ℕ → Result
result ds n = run (program ds) [] [] n

-- how a program of one function, or of several, ends within so many turns, and what it puts out
abbrev pub outcome : List TypedNode → ℕ → Outcome
outcome ds n = (result ds n).0

abbrev pub output : List TypedNode → ℕ → List ℕ
output ds n = (result ds n).1.output

abbrev pub byte_of : TypedNode → TypedNode
byte_of e = node kind.Cast [] 0 u8 (e ∷ type_node u8 ∷ [])

-- gives the status of the program
abbrev pub tell : TypedNode → TypedNode
tell e = exit (byte_of e)

abbrev pub plus : TypedNode → TypedNode → TypedNode
plus a b = arith (codes "+") u8 a b

abbrev pub times : TypedNode → TypedNode → TypedNode
times a b = arith (codes "*") u8 a b

-- a `u8` literal
abbrev pub n8 : ℕ → TypedNode
n8 n = num u8 n

-- the program with other bounds, in which each call counts so many bytes
abbrev pub counting_calls : ℕ → List TypedNode → Code
counting_calls n ds = record (program ds) { bounds = map (λ d. n) ds }

-- run with arguments and an input
abbrev pub result_of : List TypedNode → List (List ℕ) → List ℕ → ℕ → Result
result_of ds args input n = run (program ds) args input n

-- the same of a program that is its entry alone
abbrev pub ends : List TypedNode → ℕ → Outcome
ends ts n = outcome (main ts ∷ []) n

abbrev pub shows : List TypedNode → ℕ → List ℕ
shows ts n = output (main ts ∷ []) n

-- run where so many bytes of the heap live, or were ever taken, already
abbrev pub begun : Code → (live taken turns : ℕ) → Result
begun c live taken n =
    let s = start c [] [] in
    ending (evaluate (forms (world_of c 0)) n (entry_of c) AsValue (entry_scope c)
    (record s { memory = record s.memory { live = live; taken = taken } }))

-- ---- allocations

-- `alloc(e)`, `alloc(e, capacity)`, `append(s, v)`, `append(s, v...)` and `delete(e)`
abbrev pub alloc : ℕ → TypedNode → TypedNode
alloc t e = node kind.Alloc [] 0 t (e ∷ absent ∷ [])

abbrev pub alloc_for : ℕ → TypedNode → ℕ → TypedNode
alloc_for t e n = node kind.Alloc [] 0 t (e ∷ num size n ∷ [])

abbrev pub append : TypedNode → TypedNode → TypedNode
append s v = node kind.Append [] 0 added (s ∷ v ∷ absent ∷ [])

abbrev pub append_all : TypedNode → TypedNode → TypedNode
append_all s v = node kind.Append [] 0 added (s ∷ v ∷ node kind.Dots [] 0 void [] ∷ [])

abbrev pub delete : TypedNode → TypedNode
delete e = one kind.Delete void e

abbrev pub free : TypedNode → TypedNode
free e = one kind.Free void e

-- the member that is no error
abbrev pub sure : ℕ → TypedNode → TypedNode
sure t e = one kind.Force t e
