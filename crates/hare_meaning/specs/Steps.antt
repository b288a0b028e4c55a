-- What several kinds of node do: scopes, bindings, stores, aborts with a message, and the void that no node gives.
use Rattle.std.specs.Prelude.{ℕ, zero, suc, ◌+◌, ◌-◌, Bool, true, false, not, ◌||◌, nat_eq, bytes_eq, List, [], ◌∷◌, length, position, Option, Some, None, unwrap_or, if◌then◌else◌}
use Rattle.hare_tree.specs.declared.kind.Kind.{Kind}
use Rattle.hare_tree.specs.declared.kind.Kind.TheVariants as kind
use Rattle.hare_tree.specs.Node.{Head}
use Rattle.hare_types.specs.declared.row.Row.{Row}
use Rattle.hare_types.specs.declared.row.Row.TheVariants as row
use Rattle.hare_types.specs.declared.coercion.Ty.{Ty}
use Rattle.hare_types.specs.declared.coercion.Ty.TheVariants as kept
use Rattle.hare_types.specs.Store.{Store}
use Rattle.hare_typed.specs.declared.cell.Cell.{Cell}
use Rattle.hare_typed.specs.Typed.{TypedNode, TypedNodes, typed_none, typed_more, head_of}
use Rattle.hare_typed.specs.Order.{kid_from_front}
use Rattle.hare_typed.specs.Constants.{own_kind}
use Rattle.hare_typed.specs.Constancy.{is_void_row}
use Rattle.hare_typed.specs.Bindings.{bindings_in}
use Rattle.hare_typed.specs.Given.{base_row}
use Rattle.hare_typed.specs.Scalars.{Pointer}
use Rattle.hare_typed.specs.Objects.{Object, Local, Objects, store_cells}
use Rattle.hare_typed.specs.Shapes.{align_in}
use Rattle.hare_typed.specs.Coercions.{assigned}
use Rattle.hare_typed.specs.State.{Memory, Scope, AsValue, Label, Outcome, Abort}
use Rattle.hare_typed.specs.Acts.{Act, end, look, put, make, kid, within}
use Rattle.hare_typed.specs.World.{World, abort_text, answered}

-- ---- scopes and bindings

-- a kid in a scope of its own
abbrev pub scoped : ℕ → Scope → (Outcome → Act) → Act
scoped i sc f = within (kid i AsValue sc end) f

-- the bindings that begin in the first kids of a node, so many of them
abbrev pub bindings_before : ℕ → TypedNodes → ℕ
bindings_before zero ts = 0
bindings_before (suc i) typed_none = 0
bindings_before (suc i) (typed_more t ts) = bindings_in t + bindings_before i ts

-- the binding with this number is an object
abbrev pub with_local : Scope → (binding object : ℕ) → Scope
with_local sc x o = record sc { locals = (x, o) ∷ sc.locals }

-- the object that was made last
abbrev pub newest : Memory → ℕ
newest m = length m.objects.made - 1

-- behind a `let` or `const`, which makes its object last of all it does, its binding is in scope
abbrev pub bound : ℕ → Scope → (Scope → Act) → Act
bound x sc k = look λ m. k (with_local sc x (newest m))

-- a local object of a type
abbrev pub local_object : Store → Ty → List Cell → Object
local_object s f cs = record { cells = cs; kind = Local; align = align_in s f; alive = true }

-- makes one, as what a binding stands for
abbrev pub binding : World → Scope → ℕ → Ty → List Cell → (Scope → Act) → Act
binding w sc x f cs k = make None (local_object w.types f cs) λ o. k (with_local sc x o)

-- ---- labels

-- a jump goes to what it names: to the nearest without a label, and to what has its label
abbrev pub is_meant : (own jump : Label) → Bool
is_meant own l = nat_eq (length l) 0 || bytes_eq own l

-- ---- parts that may be left out

abbrev pub is_absent : Kind → Bool
is_absent kind.None = true
is_absent _ = false

-- whether the kid with so many before it was written
abbrev pub is_written : ℕ → TypedNode → Bool
is_written i t = not (is_absent (own_kind (kid_from_front i t)))

-- ---- stores

abbrev pub with_objects : Memory → Objects → Memory
with_objects m os = record m { objects = os }

-- stores cells at a place: U1, U4, U2
abbrev pub storing : World → Head → Pointer → (align : ℕ) → List Cell → Act → Act
storing w h p a cs k = look λ m. answered w h (store_cells m.objects p a cs) λ os. put (with_objects m os) k

-- ---- ends

-- the bytes of a message, where one is written
abbrev pub message_of : Kind → TypedNode → Option (List ℕ)
message_of kind.Message t = Some (head_of t).text
message_of _ t = None

abbrev pub message_in : ℕ → TypedNode → Option (List ℕ)
message_in i t = message_of (own_kind (kid_from_front i t)) (kid_from_front i t)

-- an abort at a node, with the message that is its kid
abbrev pub aborting : World → TypedNode → (reason message : ℕ) → Act
aborting w t r i = end (Abort (abort_text w (head_of t).place r (message_in i t)))

-- ---- void that stands in no node

abbrev pub is_void : Store → Ty → Bool
is_void s f = is_void_row (base_row s f)

-- the id of void
abbrev pub void_type : Store → ℕ
void_type s = unwrap_or (position (λ r. is_void_row (Some r)) s.rows) 0

-- void as a value of the type, by the first row that admits it: of an end that is reached, and of a jump without a value
abbrev pub void_at : World → Head → Ty → (List Cell → Act) → Act
void_at w h (kept.Of t) k = answered w h (assigned w.types (kept.Of (void_type w.types)) t []) k
void_at w h (kept.Iconst v) k = k []
void_at w h kept.Null k = k []
void_at w h kept.Empty k = k []

-- a form whose own type is void gives no cells, whatever came of what stands in it
abbrev pub unless_void : World → Ty → List Cell → List Cell
unless_void w f cs = if is_void w.types f then [] else cs

-- ---- types

abbrev pub is_slice_row : Option Row → Bool
is_slice_row (Some (row.Slice x)) = true
is_slice_row _ = false

abbrev pub is_nullable_row : Option Row → Bool
is_nullable_row (Some (row.Nullable x)) = true
is_nullable_row _ = false
