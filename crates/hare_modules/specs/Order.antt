-- The order in which faults count: files in the order of the command line, in a file the place nearest its start, and at one place the
-- smaller number.
use Rattle.std.specs.Prelude.{◌≡◌, ℕ, Bool, false, ◌&&◌, ◌||◌, ◌==◌, nat_lt, List, Option, Some, None, fold, if◌then◌else◌}
use Rattle.hare_tree.specs.declared.place.Place.{Place}
use Rattle.hare_tree.specs.declared.place.Fault.{Fault}

-- the first number is smaller, or they are equal and what comes next decides
abbrev pub decides : ℕ → ℕ → Bool → Bool
decides a b next = nat_lt a b || (a == b && next)

abbrev pub same_place : Place → Place → Bool
same_place p q = p.file == q.file && p.line == q.line && p.column == q.column

-- the first fault counts before the second
abbrev pub counts_before : Fault → Fault → Bool
counts_before f g =
    decides f.place.file g.place.file
    (decides f.place.line g.place.line (decides f.place.column g.place.column (nat_lt f.number g.number)))

-- the fault with this number at this place
abbrev pub fault : ℕ → Place → Fault
fault number place = record { number = number; place = place }

-- of the faults of a sort, the one that counts first
pub record IsFirst (IsFault : Fault → Type 0) (f : Fault) : Type 0 where
  pub stands : IsFault f
  pub none_before : (g : Fault) → IsFault g → counts_before g f ≡ false

-- the fault that counts first of one that was found before, if there was one, and of another
abbrev pub earlier : Option Fault → Fault → Option Fault
earlier None f = Some f
earlier (Some g) f = Some (if counts_before f g then f else g)

-- the fault that counts first of two that were found, if one was
abbrev pub earlier_of : Option Fault → Option Fault → Option Fault
earlier_of found None = found
earlier_of found (Some f) = earlier found f

-- the fault of a list that counts first
abbrev pub first_in : List Fault → Option Fault
first_in fs = fold earlier None fs

-- What was found is the first of the faults of a sort; or nothing was found, and there is none.
pub record TellsFirst (IsFault : Fault → Type 0) (found : Option Fault) : Type 0 where
  pub first : (f : Fault) → found ≡ Some f → IsFirst IsFault f
  pub none : found ≡ None → (f : Fault) → IsFault f → ⊥
