-- Loops: `for` with a condition, and `for` over the elements of an array or a slice.
--
-- A turn is a task of its own, with one turn less than the loop: its condition, body, afterthought and the next turn all have that.
-- What stands behind the loop has the loop's turns.
use Rattle.std.specs.Prelude.{ℕ, ◌+◌, ◌*◌, ◌/◌, Bool, true, false, nat_eq, List, [], None, unwrap_or, if◌then◌else◌}
use Rattle.hare_tree.specs.declared.kind.Kind.{Kind}
use Rattle.hare_tree.specs.declared.kind.Kind.TheVariants as kind
use Rattle.hare_types.specs.declared.coercion.Ty.TheVariants as kept
use Rattle.hare_types.specs.ByIds.{size_at}
use Rattle.hare_typed.specs.declared.cell.Cell.{Cell}
use Rattle.hare_typed.specs.Cells.{undefined_cells}
use Rattle.hare_typed.specs.Typed.{TypedNode, head_of}
use Rattle.hare_typed.specs.Order.{kid_from_front}
use Rattle.hare_typed.specs.Constants.{own_kind}
use Rattle.hare_typed.specs.Given.{given, base_row, element, size_in}
use Rattle.hare_typed.specs.Scalars.{Pointer, Null, Pointing, Nullable, cells}
use Rattle.hare_typed.specs.Objects.{Object, Local, Reading, reading}
use Rattle.hare_typed.specs.Pointers.{move}
use Rattle.hare_typed.specs.Words.{Words, words}
use Rattle.hare_typed.specs.Coercions.{length_of_row}
use Rattle.hare_typed.specs.State.{Scope, AsValue, AsPlace, Label, Outcome, Value, Reached, Break, Continue, Yield, Return, Exit, Abort, Undefined, Over, Spent}
use Rattle.hare_typed.specs.Acts.{Act, Round, end, look, make, tick, kid, within, turn}
use Rattle.hare_typed.specs.World.{World, answered}
use Rattle.hare_typed.specs.Sequence.{on_value}
use Rattle.hare_typed.specs.Evaluated.{ValueForm, gives, read_type}
use Rattle.hare_typed.specs.ConstantForms.{type_of_kid, truth, is_array_row}
use Rattle.hare_meaning.specs.Steps.{scoped, bound, with_local, local_object, binding, is_meant}

-- ---- what leaves a step of a loop

-- goes on with a value; a `break` of the loop ends it, and a `continue` of the loop goes on elsewhere
abbrev pub in_loop : Label → (List Cell → Act) → Act → Outcome → Act
in_loop own go again (Value cs) = go cs
in_loop own go again (Reached p) = go []
in_loop own go again (Break l) = if is_meant own l then gives [] else end (Break l)
in_loop own go again (Continue l) = if is_meant own l then again else end (Continue l)
in_loop own go again (Yield l cs) = end (Yield l cs)
in_loop own go again (Return cs) = end (Return cs)
in_loop own go again (Exit k) = end (Exit k)
in_loop own go again (Abort x) = end (Abort x)
in_loop own go again (Undefined u p) = end (Undefined u p)
in_loop own go again Over = end Over
in_loop own go again Spent = end Spent

abbrev pub label_of : TypedNode → Label
label_of t = (head_of t).text

-- ---- for with a condition

-- a loop without elements hands nothing to its next turn
abbrev pub no_round : Round
no_round = record { data_at = Null; length = 0; next = 0 }

abbrev pub next_turn : TypedNode → Scope → Act
next_turn t sc = turn t no_round sc end

-- the binding of the head, where it has one; a `continue` in it goes on with a binding that has no value
abbrev pub head_of_loop : World → TypedNode → Scope → Kind → Act
head_of_loop w t sc kind.Let =
    let f = given (kid_from_front 1 (kid_from_front 0 t)) in
    kid 0 AsValue sc
    (in_loop (label_of t) (λ cs. bound sc.first sc (next_turn t))
    (binding w sc sc.first f (undefined_cells (size_in w.types f)) (next_turn t)))
head_of_loop w t sc _ = next_turn t sc

abbrev pub for_form : World → TypedNode → Scope → ValueForm
for_form w t sc k = within (head_of_loop w t sc (own_kind (kid_from_front 0 t))) (on_value λ cs. k [])

-- the afterthought, and then the next turn
abbrev pub afterthought : TypedNode → Scope → Act
afterthought t sc = scoped 2 sc (in_loop (label_of t) (λ cs. next_turn t sc) (next_turn t sc))

abbrev pub body : TypedNode → Scope → Act
body t sc = scoped 3 sc (in_loop (label_of t) (λ cs. afterthought t sc) (afterthought t sc))

-- the condition, then the body, each in a scope of its own; false ends the loop
abbrev pub for_turn : TypedNode → Scope → Act
for_turn t sc = scoped 1 sc (in_loop (label_of t) (λ c. if truth c then body t sc else gives []) (afterthought t sc))

-- ---- for over elements

-- the type of the elements
abbrev pub gone_over : World → TypedNode → ℕ
gone_over w t = unwrap_or (element w.types (type_of_kid 1 t)) 0

abbrev pub gone_over_size : World → TypedNode → ℕ
gone_over_size w t = size_at w.types (gone_over w t)

-- the next turn, and the last one too, in which no element is left
abbrev pub next_element : World → TypedNode → Round → Scope → Act
next_element w t r sc = tick (4 + gone_over_size w t / 64) (turn t r sc end)

-- the words are taken once: a slice's as its value, an array's as where it stands
abbrev pub first_round : Words → Round
first_round v = record { data_at = v.data_at; length = v.length; next = 0 }

abbrev pub over_slice : World → TypedNode → Scope → List Cell → Act
over_slice w t sc cs = answered w (head_of t) (words cs) λ v. next_element w t (first_round v) sc

abbrev pub over_array : World → TypedNode → Scope → Pointer → Act
over_array w t sc p =
    let n = length_of_row (base_row w.types (type_of_kid 1 t)) in
    next_element w t (record { data_at = p; length = n; next = 0 }) sc

-- what the operand comes to; a jump of the loop in it ends the loop
abbrev pub over_operand : World → TypedNode → Scope → Outcome → Act
over_operand w t sc (Value cs) = over_slice w t sc cs
over_operand w t sc (Reached p) = over_array w t sc p
over_operand w t sc (Break l) = if is_meant (label_of t) l then gives [] else end (Break l)
over_operand w t sc (Continue l) = if is_meant (label_of t) l then gives [] else end (Continue l)
over_operand w t sc (Yield l cs) = end (Yield l cs)
over_operand w t sc (Return cs) = end (Return cs)
over_operand w t sc (Exit k) = end (Exit k)
over_operand w t sc (Abort x) = end (Abort x)
over_operand w t sc (Undefined u p) = end (Undefined u p)
over_operand w t sc Over = end Over
over_operand w t sc Spent = end Spent

abbrev pub each_form : World → TypedNode → Scope → ValueForm
each_form w t sc k =
    within
    (if is_array_row (base_row w.types (type_of_kid 1 t))
    then kid 1 AsPlace sc (over_operand w t sc)
    else kid 1 AsValue sc (over_operand w t sc))
    (on_value λ cs. k [])

-- whether the binding is the element's address
abbrev pub is_by_reference : Kind → Bool
is_by_reference kind.ByRef = true
is_by_reference _ = false

abbrev pub binds_address : TypedNode → Bool
binds_address t = is_by_reference (own_kind (kid_from_front 0 (kid_from_front 0 t)))

abbrev pub address_object : List Cell → Object
address_object cs = record { cells = cs; kind = Local; align = 8; alive = true }

-- what an element is bound as: its address, or its value, which is read
abbrev pub element_object : World → TypedNode → Reading → Pointer → (Object → Act) → Act
element_object w t r p go =
    if binds_address t then go (address_object (cells Nullable (Pointing p)))
    else answered w (head_of t) (read_type w.types r p (gone_over w t)) λ cs. go (local_object w.types (kept.Of (gone_over w t)) cs)

-- the body, with the element bound
abbrev pub with_element : World → TypedNode → Round → Scope → Act
with_element w t r sc =
    look λ m. answered w (head_of t) (move (reading m.objects) r.data_at (r.next * gone_over_size w t)) λ p.
    element_object w t (reading m.objects) p λ o.
    make None o λ n. kid 2 AsValue (with_local sc sc.first n) end

abbrev pub further : Round → Round
further r = record r { next = r.next + 1 }

-- an element, where one is left, and then the next turn
abbrev pub each_turn : World → TypedNode → Round → Scope → Act
each_turn w t r sc =
    if nat_eq r.next r.length then gives []
    else within (with_element w t r sc) (in_loop (label_of t) (λ cs. next_element w t (further r) sc) (next_element w t (further r) sc))
