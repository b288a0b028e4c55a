-- Places behind pointers, elements, fields and slices.
use Rattle.std.specs.Prelude.{ℕ, Bool, true, false, List, is_some, unwrap_or, if◌then◌else◌}
use Rattle.hare_types.specs.declared.coercion.Ty.{Ty}
use Rattle.hare_types.specs.Store.{Store}
use Rattle.hare_types.specs.ByIds.{size_at}
use Rattle.hare_typed.specs.declared.cell.Cell.{Cell}
use Rattle.hare_typed.specs.Typed.{TypedNode, head_of}
use Rattle.hare_typed.specs.Given.{base_row, pointee, element}
use Rattle.hare_typed.specs.Answers.{Answer, ◌then◌}
use Rattle.hare_typed.specs.Scalars.{Pointer}
use Rattle.hare_typed.specs.Objects.{Reading, reading}
use Rattle.hare_typed.specs.Pointers.{move}
use Rattle.hare_typed.specs.Words.{Words, three, words, natural_of, element_at, sliced}
use Rattle.hare_typed.specs.Followed.{reached_type, followed_place, words_at}
use Rattle.hare_typed.specs.Coercions.{pointer_of}
use Rattle.hare_typed.specs.State.{Scope}
use Rattle.hare_typed.specs.Acts.{Act, look}
use Rattle.hare_typed.specs.World.{World, answered}
use Rattle.hare_typed.specs.Sequence.{value, place}
use Rattle.hare_typed.specs.Evaluated.{ValueForm, PlaceForm, read_value}
use Rattle.hare_typed.specs.ConstantForms.{own_type, type_of_kid, number_of_kid, id_in, offset_in, part_named}
use Rattle.hare_meaning.specs.Steps.{is_slice_row, is_written}

-- ---- operands

-- what the operand of an element, a field or a slice gives: the cells of a pointer or slice, or the place of anything else
pub data Operand : Type 0 where
  Gave : List Cell → Operand
  Stands : Pointer → Operand

-- whether it is asked for a value: where its base is a pointer or a slice
abbrev pub gives_value : Store → Ty → Bool
gives_value s f = if is_some (pointee s f) then true else is_slice_row (base_row s f)

-- where it leads before any further pointer is read: its place, or the address that it is
abbrev pub first_place : Operand → Pointer
first_place (Gave cs) = pointer_of cs
first_place (Stands p) = p

-- The place that is reached through its pointers: U1, U4 and U3 of each that is read.
abbrev pub reached_place : Store → Reading → Ty → Operand → Answer Pointer
reached_place s r f op = followed_place s r f (first_place op)

-- the words of a slice that is no pointer were given with its value; others are read where they are reached
abbrev pub words_of : Store → Reading → Ty → Operand → Bool → Answer Words
words_of s r f (Gave cs) true = words cs
words_of s r f (Stands p) true = words_at s r (id_in f) p
words_of s r f op false = reached_place s r f op then λ p. words_at s r (id_in (reached_type s f)) p

-- the words of the array or slice that is reached from an operand of the type
abbrev pub words_reached : Store → Reading → Ty → Operand → Answer Words
words_reached s r f op = words_of s r f op (is_slice_row (base_row s f))

-- the type of the elements that are reached
abbrev pub element_type : Store → Ty → ℕ
element_type s f = unwrap_or (element s (reached_type s f)) 0

abbrev pub element_size : Store → Ty → ℕ
element_size s f = size_at s (element_type s f)

-- the first kid as an operand
abbrev pub operand : World → TypedNode → Scope → (Operand → Act) → Act
operand w t sc k = if gives_value w.types (type_of_kid 0 t) then (value 0 sc λ cs. k (Gave cs)) else (place 0 sc λ p. k (Stands p))

-- ---- places

abbrev pub deref_place : Scope → PlaceForm
deref_place sc k = value 0 sc λ cs. k (pointer_of cs)

-- the operand, then the index; then pointers are followed and words read, abort 0 for an element that is not there, and U1 where its place
-- is past the end of what is pointed to
abbrev pub index_place : World → TypedNode → Scope → PlaceForm
index_place w t sc k =
    let f = type_of_kid 0 t in
    operand w t sc λ op.
    value 1 sc λ i.
    look λ m. answered w (head_of t)
    (words_reached w.types (reading m.objects) f op then λ v.
    element_at (reading m.objects) v (element_size w.types f) (natural_of (number_of_kid w t 1 i)))
    k

abbrev pub field_place : World → TypedNode → Scope → PlaceForm
field_place w t sc k =
    let f = type_of_kid 0 t in
    let whole = reached_type w.types f in
    operand w t sc λ op.
    look λ m. answered w (head_of t)
    (reached_place w.types (reading m.objects) f op then λ p.
    move (reading m.objects) p (offset_in w.types whole (part_named w.types whole (head_of t))))
    k

-- A place as a value: it is read at the type of its node. What stands behind a value that is no place is read from the object that holds
-- this.
abbrev pub reading_form : World → TypedNode → PlaceForm → ValueForm
reading_form w t form k =
    form λ p. look λ m. answered w (head_of t) (read_value w.types (reading m.objects) p (own_type t)) k

-- ---- slices

-- a bound of a slice, where it is written
abbrev pub bound_of : World → TypedNode → ℕ → List Cell → ℕ → ℕ
bound_of w t i cs absent = if is_written i t then natural_of (number_of_kid w t i cs) else absent

-- the operand, then the bounds; without a lower bound from 0 on, and without an upper one up to the length
abbrev pub slice_form : World → TypedNode → Scope → ValueForm
slice_form w t sc k =
    let f = type_of_kid 0 t in
    operand w t sc λ op.
    value 1 sc λ a.
    value 2 sc λ b.
    look λ m. answered w (head_of t)
    (words_reached w.types (reading m.objects) f op then λ v.
    sliced (reading m.objects) v (element_size w.types f) (bound_of w t 1 a 0) (bound_of w t 2 b v.length))
    λ v. k (three v)
