-- Fields, elements and slices behind pointers: a field, an index and a slice first follow the pointers of their operand, 16 at most.
use Rattle.std.specs.Prelude.{ℕ, zero, suc, Option, Some, None}
use Rattle.hare_types.specs.declared.row.Row.{Row}
use Rattle.hare_types.specs.declared.row.Row.TheVariants as row
use Rattle.hare_types.specs.declared.coercion.Ty.{Ty}
use Rattle.hare_types.specs.declared.coercion.Ty.TheVariants as kept
use Rattle.hare_types.specs.Store.{Store}
use Rattle.hare_typed.specs.Given.{base_row, pointee}
use Rattle.hare_typed.specs.Scalars.{Pointer}
use Rattle.hare_typed.specs.Objects.{Reading}
use Rattle.hare_typed.specs.Words.{Words, words}
use Rattle.hare_typed.specs.Coercions.{pointer_of}
use Rattle.hare_typed.specs.Evaluated.{read_type}
use Rattle.hare_typed.specs.Answers.{Answer, Gives, ◌then◌}

-- ---- types

abbrev pub pointee_or : Ty → Option ℕ → Ty
pointee_or f None = f
pointee_or f (Some i) = kept.Of i

-- the type that is reached through so many pointers at most
abbrev pub reached_within : ℕ → Store → Ty → Ty
reached_within zero s f = f
reached_within (suc n) s f = reached_within n s (pointee_or f (pointee s f))

abbrev pub reached_type : Store → Ty → Ty
reached_type = reached_within 16

-- ---- places

-- where a pointer of type t to a value of type u stands at p, it is read, and gone on from where it leads
abbrev pub read_pointer : Store → Reading → (t : ℕ) → Pointer → Option ℕ → (ℕ → Pointer → Answer Pointer) → Answer Pointer
read_pointer s r t p None go = Gives p
read_pointer s r t p (Some u) go = read_type s r p t then λ cs. go u (pointer_of cs)

-- Reads pointers one behind another, at most so many: p leads to a value of type t, which may itself be a pointer. U1, U4 and U3 of each.
abbrev pub followed_from : ℕ → Store → Reading → (t : ℕ) → Pointer → Answer Pointer
followed_from zero s r t p = Gives p
followed_from (suc n) s r t p = read_pointer s r t p (pointee s (kept.Of t)) (followed_from n s r)

abbrev pub followed_to : Store → Reading → Pointer → Option ℕ → Answer Pointer
followed_to s r p None = Gives p
followed_to s r p (Some t) = followed_from 15 s r t p

-- The place that is reached from an operand of type f, where p is its own place, or the address that it is.
abbrev pub followed_place : Store → Reading → Ty → Pointer → Answer Pointer
followed_place s r f p = followed_to s r p (pointee s f)

-- ---- slices and arrays behind pointers

abbrev pub words_by : Store → Reading → ℕ → Pointer → Option Row → Answer Words
words_by s r t p (Some (row.Array n x)) = Gives (record { data_at = p; length = n; capacity = n })
words_by s r t p _ = read_type s r p t then λ cs. words cs

-- The words of the array or slice of type t at a place: an array's are made of the place and its length, and a slice's are read.
abbrev pub words_at : Store → Reading → ℕ → Pointer → Answer Words
words_at s r t p = words_by s r t p (base_row s (kept.Of t))
