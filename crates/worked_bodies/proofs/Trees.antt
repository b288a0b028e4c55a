-- How worked bodies are written and what is said of them. Each tree is written with its kind, the column at which it stands, its text and
-- its parts; a path also with what the names say of it.
use Rattle.std.specs.Prelude.{ℕ, ℤ, Bool, true, false, cond, ◌&&◌, nat_eq, List, [], ◌∷◌, length, replicate, codes}
use Prim.Native.String.{String}
use Rattle.hare_tree.specs.declared.kind.Kind.{Kind}
use Rattle.hare_tree.specs.declared.kind.Kind.TheVariants as ki
use Rattle.hare_tree.specs.declared.token.Meaning.{Meaning}
use Rattle.hare_tree.specs.declared.token.Meaning.TheVariants as means
use Rattle.hare_tree.specs.declared.token.Suffix.TheVariants as suffix
use Rattle.hare_tree.specs.Shape.{is_none}
use Rattle.hare_types.specs.declared.coercion.Ty.{Ty}
use Rattle.hare_types.specs.declared.coercion.Ty.TheVariants as ty
use Rattle.hare_types.specs.declared.coercion.Coercion.{Coercion}
use Rattle.hare_types.specs.Store.{Store}
use Rattle.hare_typed.specs.declared.constant.Const.TheVariants as constant
use Rattle.hare_typed.specs.Typed.{TypedNode, marked, typed_nodes, head_of, mark_of}
use Rattle.hare_typed.specs.Order.{check_order}
use Rattle.hare_typed.specs.Erased.{erase}
use Rattle.hare_typed.specs.Numbers.{kind_of}
use Rattle.hare_rules.specs.declared.hint.Hint.TheVariants as hint
use Rattle.hare_rules.specs.Context.{Setting, Entry, Later, Known, Ordinary}
use Rattle.hare_rules.specs.Above.{Above}
use Rattle.hare_rules.specs.Settles.{same}
use Rattle.worked_bodies.specs.Finding.{Finding, Well, Faulty, Odd, finding}
use Rattle.worked_bodies.proofs.Store.{store, decls, void}

-- ---- trees

abbrev tree : Kind → (column : ℕ) → List ℕ → (number : ℕ) → Meaning → List TypedNode → TypedNode
tree k c text n m xs =
    marked
    (record { kind = k; place = record { file = 0; line = 1; column = c }; text = text; number = n; suffix = suffix.None })
    (record { node = 0; ty = ty.Of void; coerce = same (ty.Of void); meaning = m; value = constant.Absent })
    (typed_nodes xs)

-- a tree without a text
abbrev pub form : Kind → (column : ℕ) → List TypedNode → TypedNode
form k c xs = tree k c [] 0 means.None xs

-- a tree with its text: an operator, a name, a label, a keyword or a string
abbrev pub named : Kind → (column : ℕ) → (text : String) → List TypedNode → TypedNode
named k c text xs = tree k c (codes text) 0 means.None xs

abbrev pub number : (column : ℕ) → (text : String) → (value : ℕ) → TypedNode
number c text n = tree ki.Number c (codes text) n means.None []

abbrev pub character : (column : ℕ) → (text : String) → (value : ℕ) → TypedNode
character c text n = tree ki.RuneLit c (codes text) n means.None []

-- a path to the binding with this number
abbrev pub local : (column : ℕ) → (text : String) → ℕ → TypedNode
local c text n = tree ki.Path c (codes text) 0 (means.Local n) []

-- a path to the declaration with this number
abbrev pub declared : (column : ℕ) → (text : String) → ℕ → TypedNode
declared c text n = tree ki.Path c (codes text) 0 (means.Decl n) []

-- a type named by a path to the declaration with this number
abbrev pub type_named : (column : ℕ) → (text : String) → ℕ → TypedNode
type_named c text n = tree ki.TypePath c (codes text) 0 (means.Decl n) []

-- a type that is one keyword
abbrev pub word : (column : ℕ) → (text : String) → TypedNode
word c text = named ki.TypeScalar c text []

-- a tree with one part, and with two
abbrev pub unary : Kind → (column : ℕ) → TypedNode → TypedNode
unary k c x = form k c (x ∷ [])

abbrev pub binary : Kind → (column : ℕ) → TypedNode → TypedNode → TypedNode
binary k c x y = form k c (x ∷ y ∷ [])

-- an operator between two operands
abbrev pub operator : Kind → (column : ℕ) → (text : String) → TypedNode → TypedNode → TypedNode
operator k c text x y = named k c text (x ∷ y ∷ [])

-- the component with this number, counted from 0
abbrev pub component : (column : ℕ) → (text : String) → ℕ → TypedNode → TypedNode
component c text n x = tree ki.Field c (codes text) n means.None (x ∷ [])

-- a part that is left out
abbrev pub absent : TypedNode
absent = form ki.None 1 []

-- ---- bodies

-- a function with this result, with parameters of these types, with so many bindings in its body, and with this body
pub record Function : Type 0 where
  pub result : ℕ
  pub params : List ℕ
  pub bindings : ℕ
  pub body : TypedNode

abbrev pub function : (result : ℕ) → (params : List ℕ) → (bindings : ℕ) → TypedNode → Function
function t ps n x = record { result = t; params = ps; bindings = n; body = x }

-- its parameters are known, and what its body binds is later
abbrev entries : List ℕ → ℕ → List Entry
entries (t ∷ ts) n = Known (record { ty = t; mutable = true }) ∷ entries ts n
entries [] n = replicate n Later

abbrev says_something : Meaning → Bool
says_something means.None = false
says_something _ = true

-- what the names say of the path at a column
abbrev meaning_at : List TypedNode → (column : ℕ) → Meaning
meaning_at [] c = means.None
meaning_at (t ∷ ts) c = cond (nat_eq (head_of t).place.column c && says_something (mark_of t).meaning) (mark_of t).meaning (meaning_at ts c)

abbrev names_in : Store → TypedNode → Setting
names_in s t = record { store = s; decls = decls; means = λ p. meaning_at (check_order t) p.column }

abbrev over_body : Function → Above
over_body f =
    record {
      hint = hint.Of f.result;
      values = hint.None;
      inside = record { own = 1; result = f.result; labels = []; deferred = false; body = true; role = Ordinary };
      first = length f.params;
      begins = 0;
    }

-- ---- what is said of them

-- A node of a typed tree: its type, and what it is coerced to, where it is, by which row of the table of assignability.
pub data Part : Type 0 where
  Is : Ty → Part
  Goes : Ty → (row : ℕ) → Ty → Part

abbrev part_of : Ty → Coercion → Part
part_of a r = cond (nat_eq r.row 1) (Is a) (Goes a r.row r.to)

abbrev parts_of : List TypedNode → List Part
parts_of [] = []
parts_of (t ∷ ts) = cond (is_none (kind_of t)) (parts_of ts) (part_of (mark_of t).ty (mark_of t).coerce ∷ parts_of ts)

pub data Saying : Type 0 where
  Types : List Part → Saying  -- it is well typed, and these are its nodes in check order, without those that are left out
  Fault : (number column : ℕ) → Saying  -- its first fault, and where it stands
  Unfit : Saying  -- it is no expression, or the store lacks a type of it

abbrev saying_of : Finding → Saying
saying_of (Well t) = Types (parts_of (check_order t))
saying_of (Faulty e) = Fault e.number e.place.column
saying_of Odd = Unfit

-- what the typing rules say of the body of a function over a store
abbrev pub rules_say_over : Store → Function → Saying
rules_say_over s f = saying_of (finding (names_in s f.body) (over_body f) (entries f.params f.bindings) (erase f.body))

-- and over the store of all types that the worked bodies speak of
abbrev pub rules_say : Function → Saying
rules_say = rules_say_over store

-- a node of a type that stays as it is
abbrev pub is : ℕ → Part
is t = Is (ty.Of t)

-- a node of one type that goes to another
abbrev pub goes : ℕ → (row : ℕ) → ℕ → Part
goes t r u = Goes (ty.Of t) r (ty.Of u)

-- a whole number without a suffix that stays as it is
abbrev pub exact : ℤ → Part
exact n = Is (ty.Iconst n)

-- a whole number without a suffix that goes to a type
abbrev pub number_to : ℤ → ℕ → Part
number_to n t = Goes (ty.Iconst n) 3 (ty.Of t)
