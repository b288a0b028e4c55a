-- `if`, `match` and `switch`.
use Rattle.std.specs.Prelude.{ℕ, suc, ◌+◌, Bool, true, false, nat_eq, List, [], ◌∷◌, map, filter, position, Option, Some, None, if◌then◌else◌}
use Rattle.std.specs.Option.{option_or}
use Rattle.std.specs.List.{flat_map, enumerate_from}
use Rattle.hare_tree.specs.declared.kind.Kind.{Kind}
use Rattle.hare_tree.specs.declared.kind.Kind.TheVariants as kind
use Rattle.hare_types.specs.declared.coercion.Ty.{Ty}
use Rattle.hare_typed.specs.declared.cell.Cell.{Cell}
use Rattle.hare_typed.specs.Typed.{TypedNode, head_of, mark_of, kids_of, listed_nodes}
use Rattle.hare_typed.specs.Order.{kid_from_front}
use Rattle.hare_typed.specs.Constants.{own_kind}
use Rattle.hare_typed.specs.Given.{given, base_row, is_str}
use Rattle.hare_typed.specs.Answers.{◌then◌}
use Rattle.hare_typed.specs.Scalars.{Pointer, Null, Address}
use Rattle.hare_typed.specs.Words.{Words, words}
use Rattle.hare_typed.specs.Arithmetic.{same_number}
use Rattle.hare_typed.specs.Unions.{member_by_tag, payload}
use Rattle.hare_typed.specs.Coercions.{number_of_value, pointer_of}
use Rattle.hare_typed.specs.State.{Scope, AsValue, Outcome}
use Rattle.hare_typed.specs.Acts.{Act, end, tick, kid, within}
use Rattle.hare_typed.specs.World.{World, answered}
use Rattle.hare_typed.specs.Sequence.{value, on_value}
use Rattle.hare_typed.specs.Evaluated.{ValueForm, as_coerced}
use Rattle.hare_typed.specs.ConstantForms.{own_type, type_of_kid, number_of_kid, truth, id_in, constant_cells, with_texts}
use Rattle.hare_meaning.specs.Steps.{is_absent, scoped, bindings_before, binding, unless_void, is_nullable_row}

-- ---- if

-- without an `else` there is nothing to run where the condition is false
abbrev pub if_form : World → TypedNode → Scope → ValueForm
if_form w t sc k = value 0 sc λ c. scoped (if truth c then 1 else 2) sc (on_value λ cs. k (unless_void w (own_type t) cs))

-- ---- cases

abbrev pub rest_of : List TypedNode → List TypedNode
rest_of [] = []
rest_of (t ∷ ts) = ts

-- the cases of a `match` or `switch`, which stand behind its operand
abbrev pub cases_of : TypedNode → List TypedNode
cases_of t = rest_of (listed_nodes (kids_of t))

-- what stands at the head of a case: a pattern, or values; nothing in the one that stands for all others
abbrev pub head_of_case : TypedNode → TypedNode
head_of_case c = kid_from_front 0 c

-- the case that stands for all others, by how many cases stand before it
abbrev pub other_case : List TypedNode → Option ℕ
other_case cs = position (λ c. is_absent (own_kind (head_of_case c))) cs

-- what a case gives is coerced behind the end of its scope
abbrev pub of_case : World → TypedNode → Scope → ℕ → (List Cell → Act) → Outcome → Act
of_case w t sc i k = on_value λ cs. as_coerced w (kid_from_front (suc i) t) sc cs λ ds. k (unless_void w (own_type t) ds)

abbrev pub plain_case : World → TypedNode → Scope → ℕ → ValueForm
plain_case w t sc i k = within (kid (suc i) AsValue sc end) (of_case w t sc i k)

-- with what its pattern binds
abbrev pub binding_case : World → TypedNode → Scope → ℕ → Ty → List Cell → ValueForm
binding_case w t sc i f cs k =
    within (binding w sc (sc.first + bindings_before (suc i) (kids_of t)) f cs λ inner. kid (suc i) AsValue inner end) (of_case w t sc i k)

-- no case: a checked `match` or `switch` covers each value
abbrev pub chosen : Option ℕ → (ℕ → Act) → Act → Act
chosen None go otherwise = otherwise
chosen (Some i) go otherwise = go i

-- ---- match

-- the type of a pattern: what is bound, or the type itself
abbrev pub type_of_pattern : TypedNode → Kind → Ty
type_of_pattern p kind.PatternLet = given (kid_from_front 0 p)
type_of_pattern p _ = given p

abbrev pub pattern_type : TypedNode → Ty
pattern_type p = type_of_pattern p (own_kind p)

abbrev pub binds : Kind → Bool
binds kind.PatternLet = true
binds _ = false

abbrev pub is_null_pattern : Kind → Bool
is_null_pattern kind.PatternNull = true
is_null_pattern _ = false

-- a type, alone or with what it binds
abbrev pub is_type_pattern : Kind → Bool
is_type_pattern kind.None = false
is_type_pattern kind.PatternNull = false
is_type_pattern _ = true

abbrev pub has_member : ℕ → TypedNode → Bool
has_member m p = if is_type_pattern (own_kind p) then nat_eq (id_in (pattern_type p)) m else false

abbrev pub case_for : (TypedNode → Bool) → List TypedNode → Option ℕ
case_for test cs = option_or (position (λ c. test (head_of_case c)) cs) (other_case cs)

-- the payload is read where it is bound, and else not looked at
abbrev pub member_case : World → TypedNode → Scope → (member : ℕ) → List Cell → ℕ → ValueForm
member_case w t sc m cs i k =
    let p = head_of_case (kid_from_front (suc i) t) in
    if binds (own_kind p)
    then (answered w (head_of t) (payload w.types (id_in (type_of_kid 0 t)) m cs) λ d. binding_case w t sc i (pattern_type p) d k)
    else plain_case w t sc i k

abbrev pub match_union : World → TypedNode → Scope → List Cell → ValueForm
match_union w t sc cs k =
    answered w (head_of t) (member_by_tag w.types (id_in (type_of_kid 0 t)) cs) λ m.
    chosen (case_for (has_member m) (cases_of t)) (λ i. member_case w t sc m cs i k) (k [])

-- a pointer that may be null: the case of `null`, or that of the pointer
abbrev pub fits_pointer : Pointer → TypedNode → Bool
fits_pointer Null p = is_null_pattern (own_kind p)
fits_pointer (Address o d) p = is_type_pattern (own_kind p)

abbrev pub pointer_case : World → TypedNode → Scope → List Cell → ℕ → ValueForm
pointer_case w t sc cs i k =
    let p = head_of_case (kid_from_front (suc i) t) in
    if binds (own_kind p) then binding_case w t sc i (pattern_type p) cs k else plain_case w t sc i k

abbrev pub match_pointer : World → TypedNode → Scope → List Cell → ValueForm
match_pointer w t sc cs k =
    chosen (case_for (fits_pointer (pointer_of cs)) (cases_of t)) (λ i. pointer_case w t sc cs i k) (k [])

abbrev pub match_form : World → TypedNode → Scope → ValueForm
match_form w t sc k =
    value 0 sc λ cs.
    if is_nullable_row (base_row w.types (type_of_kid 0 t)) then match_pointer w t sc cs k else match_union w t sc cs k

-- ---- switch

abbrev pub is_value : Kind → Bool
is_value kind.None = false
is_value kind.TrailingComma = false
is_value _ = true

-- the values of a case
abbrev pub values_of : TypedNode → List TypedNode
values_of c = filter (λ v. is_value (own_kind v)) (listed_nodes (kids_of (head_of_case c)))

-- the values of all cases in source order, each with its case
abbrev pub all_values : List TypedNode → List (ℕ × TypedNode)
all_values cs = flat_map (λ c. map (λ v. (c.0, v)) (values_of c.1)) (enumerate_from 0 cs)

-- what the operand is compared as
pub data Compared : Type 0 where
  Numeric : List Cell → Compared
  Textual : Words → Compared

abbrev pub cells_of_value : World → TypedNode → List Cell
cells_of_value w v = constant_cells w (mark_of v).value

-- whether the operand is the constant; of a text of the same length all bytes are read
abbrev pub is_constant : World → TypedNode → Compared → TypedNode → (Bool → Act) → Act
is_constant w t (Numeric cs) v k =
    k (same_number (number_of_kid w t 0 cs) (number_of_value w.types (given v) (cells_of_value w v)))
is_constant w t (Textual a) v k = answered w (head_of t) (words (cells_of_value w v)) λ b. with_texts w t a b k

-- the case of the first that is equal
abbrev pub compared : World → TypedNode → Compared → List (ℕ × TypedNode) → (Option ℕ → Act) → Act
compared w t op [] k = k None
compared w t op (v ∷ vs) k = tick 4 (is_constant w t op v.1 λ same. if same then k (Some v.0) else compared w t op vs k)

abbrev pub switch_by : World → TypedNode → Scope → Compared → ValueForm
switch_by w t sc op k =
    compared w t op (all_values (cases_of t)) λ i.
    chosen (option_or i (other_case (cases_of t))) (λ i. plain_case w t sc i k) (k [])

abbrev pub switch_form : World → TypedNode → Scope → ValueForm
switch_form w t sc k =
    value 0 sc λ cs.
    if is_str w.types (type_of_kid 0 t)
    then (answered w (head_of t) (words cs) λ v. switch_by w t sc (Textual v) k)
    else switch_by w t sc (Numeric cs) k
