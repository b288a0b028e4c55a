-- Operations on pointers.
use Rattle.std.specs.Prelude.{ℕ, ◌+◌, Bool, true, false, not, ◌||◌, nat_eq, nat_lt, Option, Some, None, if◌then◌else◌}
use Rattle.hare_typed.specs.Scalars.{Pointer, Null, Address}
use Rattle.hare_typed.specs.Objects.{Object, Reading, extent_of}
use Rattle.hare_typed.specs.Answers.{Answer, Gives, IsUndefined}

-- a pointer to an object that may have died, so many bytes on; U1 where that is behind its end
abbrev pub moved_in : Option Object → (object offset : ℕ) → Answer Pointer
moved_in None o d = IsUndefined 1
moved_in (Some b) o d = if nat_lt (extent_of b) d then IsUndefined 1 else Gives (Address o d)

-- A pointer moved on by so many bytes. Null stays null where it is moved by none, and else is U1.
abbrev pub move : Reading → Pointer → ℕ → Answer Pointer
move r Null n = if nat_eq n 0 then Gives Null else IsUndefined 1
move r (Address o d) n = moved_in (r o) o (d + n)

-- the object that the pointer names lives
abbrev pub lives : Option Object → Bool
lives None = false
lives (Some b) = b.alive

abbrev pub is_dead : Reading → Pointer → Bool
is_dead r Null = false
is_dead r (Address o d) = not (lives (r o))

-- the offset is the end of the object
abbrev pub is_end : Option Object → ℕ → Bool
is_end None d = false
is_end (Some b) d = nat_eq d (extent_of b)

-- whether two pointers that are not null and name live objects are equal; U6 where they name different objects and one is at the end of
-- its own
abbrev pub same_address : Reading → (o d p e : ℕ) → Answer Bool
same_address r o d p e =
    if nat_eq o p then Gives (nat_eq d e)
    else (if is_end (r o) d || is_end (r p) e then IsUndefined 6
    else Gives false)

abbrev pub same_living : Reading → Pointer → Pointer → Answer Bool
same_living r Null Null = Gives true
same_living r Null (Address p e) = Gives false
same_living r (Address o d) Null = Gives false
same_living r (Address o d) (Address p e) = same_address r o d p e

-- Whether two pointers are equal. U6 where one names an object that is dead, also beside null.
abbrev pub same_pointer : Reading → Pointer → Pointer → Answer Bool
same_pointer r p q = if is_dead r p || is_dead r q then IsUndefined 6 else same_living r p q
