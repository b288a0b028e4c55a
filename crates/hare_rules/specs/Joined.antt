-- How the values of branches, of cases and of yields come together in one type.
use Rattle.std.specs.Prelude.{ℕ, Bool, true, false, not, List, find, Option, Some, None, is_some, is_none}
use Rattle.hare_tree.specs.declared.place.Place.{Place}
use Rattle.hare_types.specs.declared.coercion.Ty.{Ty}
use Rattle.hare_types.specs.declared.row.Scalar.TheVariants as keyword
use Rattle.hare_types.specs.Store.{Store}
use Rattle.hare_types.specs.Trees.{Scalar}
use Rattle.hare_types.specs.Assign.{first_row, type_at, Of as OfTree}
use Rattle.hare_typed.specs.Typed.{TypedNode, mark_of}
use Rattle.hare_rules.specs.declared.hint.Hint.{Hint}
use Rattle.hare_rules.specs.declared.hint.Hint.TheVariants as hint
use Rattle.hare_rules.specs.Words.{is_never, has_default, default_in, fits, word_id}
use Rattle.hare_rules.specs.Context.{Given, own_type, place_of}

-- a value of type void may be assigned to the type
abbrev pub void_fits : Store → ℕ → Bool
void_fits s t = is_some (first_row s (OfTree (Scalar keyword.Void)) (type_at s t))

-- what a branch or a case gives
abbrev pub given_by : TypedNode → Given
given_by x = record { place = place_of x; ty = Some (own_type x); node = Some (mark_of x).node }

-- the void of an end that is reached
abbrev pub void_at : Place → Given
void_at p = record { place = p; ty = None; node = None }

-- ---- one value. One without a type is void.

abbrev pub type_goes_on : Store → Option Ty → Bool
type_goes_on s None = true
type_goes_on s (Some a) = not (is_never s a)

-- its type is not never
abbrev pub goes_on : Store → Given → Bool
goes_on s g = type_goes_on s g.ty

abbrev pub type_has_default : Option Ty → Bool
type_has_default None = true
type_has_default (Some a) = has_default a

abbrev pub type_default : Store → Option Ty → Option ℕ
type_default s None = word_id s keyword.Void
type_default s (Some a) = default_in s a

abbrev pub type_fits : Store → Option Ty → ℕ → Bool
type_fits s None t = void_fits s t
type_fits s (Some a) t = fits s a t

-- the value may be assigned to the type
abbrev pub given_fits : Store → ℕ → Given → Bool
given_fits s t g = type_fits s g.ty t

abbrev pub is_end : Given → Bool
is_end g = is_none g.ty

-- ---- all of them

abbrev pub default_of_first : Store → Option Given → Option ℕ
default_of_first s None = word_id s keyword.Never
default_of_first s (Some g) = type_default s g.ty

-- What they are joined to: under a hint of a type that type, and void where they are dropped; else the default of the first, in the
-- order of the source, that goes on, and never where none does.
abbrev pub joined : Store → Hint → List Given → Option ℕ
joined s (hint.Of t) vs = Some t
joined s hint.Drop vs = word_id s keyword.Void
joined s hint.None vs = default_of_first s (find (goes_on s) vs)

abbrev pub if_lacking : Bool → Given → Option Given
if_lacking true g = None
if_lacking false g = Some g

abbrev pub without_default : Option Given → Option Given
without_default None = None
without_default (Some g) = if_lacking (type_has_default g.ty) g

-- The first value that goes on, where it has no default and one is asked for. Under a hint each value has been judged by it.
abbrev pub first_lacking : Store → Hint → List Given → Option Given
first_lacking s hint.None vs = without_default (find (goes_on s) vs)
first_lacking s _ vs = None

-- the first of these that may not be assigned to the type
abbrev pub misfit_to : Store → Option ℕ → List Given → Option Given
misfit_to s None vs = None
misfit_to s (Some t) vs = find (λ g. not (given_fits s t g)) vs

abbrev pub unless : Bool → Option Given → Option Given
unless true o = None
unless false o = o

-- The first value that does not fit the type of all: one that does not go on fits any. Under a hint of a type that can be an end alone,
-- since each other value has been judged by it.
abbrev pub first_misfit : Store → Hint → List Given → Option Given
first_misfit s (hint.Of t) vs = unless (void_fits s t) (find is_end vs)
first_misfit s hint.Drop vs = None
first_misfit s hint.None vs = misfit_to s (joined s hint.None vs) vs
