-- The heap: `alloc`, `free`, `append` and `delete`.
use Rattle.std.specs.Prelude.{ℕ, ◌+◌, ◌-◌, ◌*◌, ◌/◌, ◌^◌, max, Bool, true, false, not, ◌||◌, ◌&&◌, nat_eq, nat_lt, nat_le, List, [], ◌++◌, find, length, Option, Some, None, unwrap_or, if◌then◌else◌}
use Rattle.hare_tree.specs.declared.kind.Kind.{Kind}
use Rattle.hare_tree.specs.declared.kind.Kind.TheVariants as kind
use Rattle.hare_types.specs.declared.row.Row.{Row}
use Rattle.hare_types.specs.declared.row.Row.TheVariants as row
use Rattle.hare_types.specs.declared.coercion.Ty.{Ty}
use Rattle.hare_types.specs.Store.{Store}
use Rattle.hare_types.specs.Layout.{round_up}
use Rattle.hare_types.specs.ByIds.{row_at, size_at, align_at}
use Rattle.hare_typed.specs.declared.cell.Cell.{Cell}
use Rattle.hare_typed.specs.Cells.{undefined_cells}
use Rattle.hare_typed.specs.Typed.{TypedNode, head_of}
use Rattle.hare_typed.specs.Order.{kid_from_front}
use Rattle.hare_typed.specs.Constants.{own_kind}
use Rattle.hare_typed.specs.Given.{base_row, element}
use Rattle.hare_typed.specs.Shapes.{align_in}
use Rattle.hare_typed.specs.Answers.{Answer, Gives, Aborts, IsUndefined, ◌then◌}
use Rattle.hare_typed.specs.Scalars.{Pointer, Null, Address, Pointing, Reference, cells}
use Rattle.hare_typed.specs.Objects.{Object, ObjectKind, Local, Heap, Global, Constant, Reading, reading, read_cells, kill}
use Rattle.hare_typed.specs.Pointers.{move}
use Rattle.hare_typed.specs.Words.{Words, three, words, natural_of, within_length}
use Rattle.hare_typed.specs.Unions.{union_members, union_cells}
use Rattle.hare_typed.specs.Coercions.{pointer_of, length_of_row}
use Rattle.hare_typed.specs.Followed.{reached_type}
use Rattle.hare_typed.specs.State.{Memory, Scope, AsValue, AsPlace, Over}
use Rattle.hare_typed.specs.Acts.{Act, end, look, put, make, tick, part}
use Rattle.hare_typed.specs.World.{World, answered}
use Rattle.hare_typed.specs.Sequence.{value, place, on_value, on_place}
use Rattle.hare_typed.specs.Evaluated.{ValueForm, read_type, read_value}
use Rattle.hare_typed.specs.ConstantForms.{own_type, type_of_kid, number_of_kid, id_in, is_array_row}
use Rattle.hare_meaning.specs.Steps.{storing, is_slice_row, is_written}
use Rattle.hare_meaning.specs.Places.{Operand, Gave, Stands, gives_value, reached_place}

-- ---- what the heap takes

abbrev pub most_live : ℕ
most_live = 67108864

abbrev pub most_taken : ℕ
most_taken = 2 ^ 62

-- the bytes that an object of so many takes
abbrev pub cost : ℕ → ℕ
cost s = round_up (max 1 s) 16

-- more than this many bytes may not live at once
abbrev pub is_refused : Memory → ℕ → Bool
is_refused m s = nat_lt most_live (m.live + cost s)

abbrev pub heap_object : ℕ → List Cell → Object
heap_object s cs = record { cells = cs ++ undefined_cells (s - length cs); kind = Heap; align = 16; alive = true }

abbrev pub taking : Memory → ℕ → Memory
taking m s = record m { live = m.live + cost s; taken = m.taken + cost s }

-- A new object of so many bytes, of which the first are given; Over where all that was ever taken would pass its limit.
abbrev pub take_object : ℕ → List Cell → (ℕ → Act) → Act
take_object s cs k =
    look λ m. if nat_lt most_taken (m.taken + cost s) then end Over else put (taking m s) (make None (heap_object s cs) k)

abbrev pub freed : Memory → ℕ → Option Object → Memory
freed m o None = m
freed m o (Some b) = record m { objects = kill m.objects o; live = m.live - cost (length b.cells) }

-- the object dies, and what it took is given back
abbrev pub free_object : Memory → ℕ → Memory
free_object m o = freed m o (reading m.objects o)

abbrev pub is_heap : ObjectKind → Bool
is_heap Heap = true
is_heap Local = false
is_heap Global = false
is_heap Constant = false

abbrev pub is_live_heap : Option Object → Bool
is_live_heap None = false
is_live_heap (Some b) = is_heap b.kind && b.alive

-- whether it leads to the start of a live heap object
abbrev pub is_allocation : Memory → Pointer → Bool
is_allocation m Null = false
is_allocation m (Address o d) = nat_eq d 0 && is_live_heap (reading m.objects o)

abbrev pub object_in : Pointer → ℕ
object_in Null = 0
object_in (Address o d) = o

-- ---- what an allocation gives: a union of a refusal, and of what was asked for

-- the number of the type `rt::nomem` among declarations
abbrev pub nomem : ℕ
nomem = 4294967295

abbrev pub is_nomem_row : Option Row → Bool
is_nomem_row (Some (row.Named d)) = nat_eq d nomem
is_nomem_row _ = false

abbrev pub is_nomem : Store → ℕ → Bool
is_nomem s m = is_nomem_row (row_at s m)

abbrev pub refusal_member : Store → ℕ → ℕ
refusal_member s u = unwrap_or (find (is_nomem s) (union_members s u)) 0

abbrev pub given_member : Store → ℕ → ℕ
given_member s u = unwrap_or (find (λ m. not (is_nomem s m)) (union_members s u)) 0

abbrev pub own_union : TypedNode → ℕ
own_union t = id_in (own_type t)

abbrev pub refusal : World → TypedNode → List Cell
refusal w t = union_cells w.types (own_union t) (refusal_member w.types (own_union t)) []

abbrev pub allocated : World → TypedNode → List Cell → List Cell
allocated w t cs = union_cells w.types (own_union t) (given_member w.types (own_union t)) cs

-- ---- alloc

-- one value
abbrev pub alloc_one : World → TypedNode → Scope → ValueForm
alloc_one w t sc k =
    let s = size_at w.types (id_in (type_of_kid 0 t)) in
    value 0 sc λ cs.
    look λ m.
    if is_refused m s then k (refusal w t) else take_object s cs λ o. k (allocated w t (cells Reference (Pointing (Address o 0))))

-- the elements of an array are its cells, and those of a slice are read where they are
pub data Source : Type 0 where
  Here : List Cell → Source
  There : Pointer → Source

abbrev pub source_cells : Store → Reading → Source → (element n : ℕ) → Answer (List Cell)
source_cells s r (Here cs) x n = Gives cs
source_cells s r (There p) x n = read_cells r p (n * size_at s x) (align_at s x)

-- where they are, and how many
abbrev pub source_of : World → Ty → List Cell → Answer (Source × ℕ)
source_of w f cs =
    if is_array_row (base_row w.types f) then Gives (Here cs, length_of_row (base_row w.types f))
    else words cs then λ v. Gives (There v.data_at, v.length)

abbrev pub most_elements : ℕ
most_elements = 2 ^ 63

abbrev pub alloc_filled : World → TypedNode → Source → (n capacity : ℕ) → ValueForm
alloc_filled w t source n c k =
    let x = unwrap_or (element w.types (type_of_kid 0 t)) 0 in
    tick (n * size_at w.types x / 64) (look λ m.
    answered w (head_of t) (source_cells w.types (reading m.objects) source x n) λ cs.
    take_object (c * size_at w.types x) cs λ o.
    k (allocated w t (three (record { data_at = Address o 0; length = n; capacity = c }))))

abbrev pub alloc_elements : World → TypedNode → Source → (n capacity : ℕ) → ValueForm
alloc_elements w t source n c k =
    let s = size_at w.types (unwrap_or (element w.types (type_of_kid 0 t)) 0) in
    if nat_lt most_elements c then k (refusal w t)
    else (if nat_eq c 0 then k (allocated w t (three (record { data_at = Null; length = 0; capacity = 0 })))
    else look λ m. if is_refused m (c * s) then k (refusal w t) else alloc_filled w t source n c k)

abbrev pub capacity_for : ℕ → ℕ → Answer ℕ
capacity_for n c = if nat_lt c n then Aborts 5 else Gives c

-- elements, with room for more: abort 5 where there is room for fewer
abbrev pub alloc_more : World → TypedNode → Scope → ValueForm
alloc_more w t sc k =
    value 0 sc λ cs.
    value 1 sc λ d.
    answered w (head_of t) (source_of w (type_of_kid 0 t) cs) λ a.
    answered w (head_of t) (capacity_for a.1 (natural_of (number_of_kid w t 1 d))) λ c.
    alloc_elements w t a.0 a.1 c k

abbrev pub alloc_form : World → TypedNode → Scope → ValueForm
alloc_form w t sc k = if is_written 1 t then alloc_more w t sc k else alloc_one w t sc k

-- ---- free

-- null is left alone; U5 for what is no start of a live allocation
abbrev pub free_at : World → TypedNode → Pointer → Act → Act
free_at w t Null k = k
free_at w t (Address o d) k =
    look λ m. answered w (head_of t) (if is_allocation m (Address o d) then Gives o else IsUndefined 5) λ b. put (free_object m b) k

-- a slice without capacity has nothing to be freed
abbrev pub free_words : World → TypedNode → Words → Act → Act
free_words w t v k = if nat_eq v.capacity 0 then k else free_at w t v.data_at k

abbrev pub free_form : World → TypedNode → Scope → ValueForm
free_form w t sc k =
    value 0 sc λ cs.
    if is_slice_row (base_row w.types (type_of_kid 0 t)) then (answered w (head_of t) (words cs) λ v. free_words w t v (k []))
    else free_at w t (pointer_of cs) (k [])

-- ---- append

-- what is appended to: where the words stand, and what they are
pub record Target : Type 0 where
  pub at : Pointer
  pub words : Words

-- so many bytes on, wherever that is
abbrev pub plus : Pointer → ℕ → Pointer
plus Null n = Null
plus (Address o d) n = Address o (d + n)

abbrev pub appended_element : World → TypedNode → ℕ
appended_element w t = unwrap_or (element w.types (type_of_kid 0 t)) 0

abbrev pub storing_words : World → TypedNode → Pointer → Words → Act → Act
storing_words w t p v k = storing w (head_of t) p (align_in w.types (type_of_kid 0 t)) (three v) k

abbrev pub in_place : World → TypedNode → Target → Source → ℕ → ValueForm
in_place w t a source n k =
    let x = appended_element w t in
    if nat_eq n 0 then k (allocated w t [])
    else tick (n * size_at w.types x / 64) (look λ m.
    answered w (head_of t) (source_cells w.types (reading m.objects) source x n) λ cs.
    storing w (head_of t) (plus a.words.data_at (a.words.length * size_at w.types x)) (align_at w.types x) cs
    (storing_words w t a.at (record { data_at = a.words.data_at; length = a.words.length + n; capacity = a.words.capacity })
    (k (allocated w t []))))

-- the old object is freed, where there was one
abbrev pub giving_up : Target → Act → Act
giving_up a k = if nat_eq a.words.capacity 0 then k else look λ m. put (free_object m (object_in a.words.data_at)) k

abbrev pub grown : World → TypedNode → Target → Source → (n room : ℕ) → ValueForm
grown w t a source n room k =
    let x = appended_element w t in
    let s = size_at w.types x in
    tick ((a.words.length + n) * s / 64) (look λ m.
    answered w (head_of t) (source_cells w.types (reading m.objects) source x n) λ new.
    answered w (head_of t) (read_cells (reading m.objects) a.words.data_at (a.words.length * s) (align_at w.types x)) λ old.
    take_object (room * s) (old ++ new) λ o.
    giving_up a (storing_words w t a.at (record { data_at = Address o 0; length = a.words.length + n; capacity = room })
    (k (allocated w t []))))

-- U7 where the old elements are in no allocation; then the refusal
abbrev pub has_allocation : Memory → Words → Answer ℕ
has_allocation m v = if nat_eq v.capacity 0 || is_allocation m v.data_at then Gives 0 else IsUndefined 7

abbrev pub growing : World → TypedNode → Target → Source → ℕ → ValueForm
growing w t a source n k =
    let room = max (2 * a.words.capacity) (a.words.length + n) in
    look λ m. answered w (head_of t) (has_allocation m a.words) λ fine.
    if nat_lt most_elements room || is_refused m (room * size_at w.types (appended_element w t)) then k (refusal w t)
    else grown w t a source n room k

abbrev pub appending : World → TypedNode → Target → Source → ℕ → ValueForm
appending w t a source n k =
    if nat_le (a.words.length + n) a.words.capacity then in_place w t a source n k else growing w t a source n k

-- one value, or with `...` the elements of a slice
abbrev pub appended_from : World → TypedNode → List Cell → Answer (Source × ℕ)
appended_from w t cs = if is_written 2 t then (words cs then λ v. Gives (There v.data_at, v.length)) else Gives (Here cs, 1)

abbrev pub append_form : World → TypedNode → Scope → ValueForm
append_form w t sc k =
    place 0 sc λ p.
    value 1 sc λ cs.
    look λ m. answered w (head_of t) (read_value w.types (reading m.objects) p (type_of_kid 0 t) then λ c. words c) λ v.
    answered w (head_of t) (appended_from w t cs) λ a.
    appending w t (record { at = p; words = v }) a.0 a.1 k

-- ---- delete

-- the Index or Slice that says what is deleted; it is not evaluated, and its kids are
abbrev pub deleted : TypedNode → TypedNode
deleted t = kid_from_front 0 t

-- its operand
abbrev pub deleted_operand : World → TypedNode → Scope → (Operand → Act) → Act
deleted_operand w t sc k =
    if gives_value w.types (type_of_kid 0 (deleted t)) && not (is_slice_row (base_row w.types (type_of_kid 0 (deleted t))))
    then part 0 0 AsValue sc (on_value λ cs. k (Gave cs))
    else part 0 0 AsPlace sc (on_place λ p. k (Stands p))

-- from which element up to which: one, or a range, whose bounds may be left out
pub record Range : Type 0 where
  pub from : ℕ
  pub to : ℕ

abbrev pub range_within : (from to length : ℕ) → Answer Range
range_within x y n = if nat_le x y && nat_le y n then Gives (record { from = x; to = y }) else Aborts 0

abbrev pub bound_or : World → TypedNode → ℕ → List Cell → ℕ → ℕ
bound_or w d i cs absent = if is_written i d then natural_of (number_of_kid w d i cs) else absent

abbrev pub range_of : World → TypedNode → List Cell → List Cell → (length : ℕ) → Kind → Answer Range
range_of w d a b n kind.Slice = range_within (bound_or w d 1 a 0) (bound_or w d 2 b n) n
range_of w d a b n _ = within_length (natural_of (number_of_kid w d 1 a)) n then λ i. Gives (record { from = i; to = i + 1 })

-- where the words stand, and what they are: of a slice that is no pointer they are read behind the index
abbrev pub target_at : Store → Reading → Ty → Operand → Answer Target
target_at s r f op =
    reached_place s r f op then λ p.
    read_type s r p (id_in (reached_type s f)) then λ cs.
    words cs then λ v.
    Gives (record { at = p; words = v })

-- the later elements move down, and the length is less by what was deleted
abbrev pub shortening : World → TypedNode → Target → Range → ValueForm
shortening w t a r k =
    let f = type_of_kid 0 (deleted t) in
    let x = unwrap_or (element w.types (reached_type w.types f)) 0 in
    let s = size_at w.types x in
    let later = a.words.length - r.to in
    look λ m. answered w (head_of t) (move (reading m.objects) a.words.data_at (r.from * s)) λ p.
    tick (later * s / 64)
    (answered w (head_of t) (read_cells (reading m.objects) (plus a.words.data_at (r.to * s)) (later * s) (align_at w.types x)) λ cs.
    storing w (head_of t) p (align_at w.types x) (if nat_lt r.from r.to then cs else [])
    (storing w (head_of t) a.at 8
    (three (record { data_at = a.words.data_at; length = a.words.length - (r.to - r.from); capacity = a.words.capacity }))
    (k [])))

abbrev pub delete_form : World → TypedNode → Scope → ValueForm
delete_form w t sc k =
    let d = deleted t in
    deleted_operand w t sc λ op.
    part 0 1 AsValue sc (on_value λ a.
    part 0 2 AsValue sc (on_value λ b.
    look λ m. answered w (head_of t) (target_at w.types (reading m.objects) (type_of_kid 0 d) op) λ v.
    answered w (head_of t) (range_of w d a b v.words.length (own_kind d)) λ r.
    shortening w t v r k))
