-- Which spelled types are admitted, and what is wrong with the others: an ordered list of rows, of which the first that fails is the fault.
use Rattle.std.specs.Prelude.{◌≡◌, ℕ, ◌<◌, true, false, List, [], ◌∷◌, length, map, Contains, Some, Result, Err, ◌⊎◌}
use Rattle.hare_tree.specs.declared.place.Place.{Place}
use Rattle.hare_tree.specs.declared.place.Fault.{Fault}
use Rattle.hare_tree.specs.declared.stop.Stop.{Stop}
use Rattle.hare_tree.specs.declared.stop.Stop.TheVariants as stop
use Rattle.hare_types.specs.declared.extent.Extent.{Extent}
use Rattle.hare_types.specs.declared.row.Row.{Row}
use Rattle.hare_types.specs.declared.row.Row.TheVariants as row
use Rattle.hare_types.specs.Trees.{Tree, Trees, Union}
use Rattle.hare_types.specs.Store.{Store, tree_at}
use Rattle.hare_types.specs.ByValue.{has_size}
use Rattle.hare_types.specs.Layout.{IsBase, HasExtent}
use Rattle.hare_layout.specs.declared.spelled.Spelled.{Spelled}
use Rattle.hare_layout.specs.Reduction.{IsMember, is_spread, place_of, IsLeft, AreLeft, IsReducedTo}

-- ---- what may be wrong

-- member k is spread, and its base is no union
pub record IsBadSpread (s : Store) (r : Spelled) (k : ℕ) : Type 0 where
  pub type : Tree
  pub member : IsMember s r k type
  pub spread : is_spread r k ≡ true
  pub no_union : (ts : Trees) → ¬ IsBase s type (Union ts)

-- p is the place of the first such member
abbrev pub SpreadsNoUnion : Store → Spelled → Place → Place → Type 0
SpreadsNoUnion s r place p = (k : ℕ) × IsBadSpread s r k × ((j : ℕ) → j < k → ¬ IsBadSpread s r j) × (p ≡ place_of r place k)

-- the types that have to have a size: that of an array's or a slice's elements, of a struct's fields, of a tuple's components. Of a union's
-- members it is asked once it is reduced.
abbrev pub measured : Row → List ℕ
measured (row.Array n i) = i ∷ []
measured (row.Slice i) = i ∷ []
measured (row.Struct fs) = map (λ f. f.ty) fs
measured (row.Tuple is) = is
measured (row.Union is) = []
measured (row.Scalar k) = []
measured (row.Pointer i) = []
measured (row.Nullable i) = []
measured (row.Error i) = []
measured (row.Named d) = []

-- u has to have a size, where it stands in the spelled type
abbrev pub IsMeasured : Store → Spelled → Tree → Type 0
IsMeasured s r u = ((i : ℕ) × Contains (measured r.row) i × (tree_at s i ≡ Some u)) ⊎ IsLeft s r u

-- one of those types has no size
abbrev pub LacksSize : Store → Spelled → Type 0
LacksSize s r = (u : Tree) × IsMeasured s r u × (has_size s u ≡ Some false)

-- no member is left
abbrev pub IsEmpty : Store → Spelled → Type 0
IsEmpty s r = AreLeft s r []

-- more than 64 members are left
abbrev pub IsTooWide : Store → Spelled → Type 0
IsTooWide s r = (is : List ℕ) × AreLeft s r is × (64 < length is)

-- The reduced type has more than 67,108,864 bytes. This can be said of it only where each name that it holds by value is defined.
abbrev pub IsTooLarge : Store → Spelled → Type 0
IsTooLarge s r = (u : Tree) × (x : Extent) × IsReducedTo s r u × HasExtent s u x × (67108864 < x.size)

-- ---- the checks, in their order

pub data Check : Type 0 where
  Spreading : Check
  Sized : Check
  Inhabited : Check
  Narrow : Check
  Small : Check

-- in this order
abbrev pub checks : List Check
checks = Spreading ∷ Sized ∷ Inhabited ∷ Narrow ∷ Small ∷ []

-- the number of the fault
abbrev pub number_of : Check → ℕ
number_of Spreading = 35
number_of Sized = 17
number_of Inhabited = 19
number_of Narrow = 20
number_of Small = 18

-- The type that is spelled at `place` fails the check, at p: each but that of spreads where the type stands.
abbrev pub Fails : Store → Spelled → Place → Check → Place → Type 0
Fails s r place Spreading p = SpreadsNoUnion s r place p
Fails s r place Sized p = LacksSize s r × (p ≡ place)
Fails s r place Inhabited p = IsEmpty s r × (p ≡ place)
Fails s r place Narrow p = IsTooWide s r × (p ≡ place)
Fails s r place Small p = IsTooLarge s r × (p ≡ place)

abbrev pub Passes : Store → Spelled → Place → Check → Type 0
Passes s r place c = (p : Place) → ¬ Fails s r place c p

-- f is the fault of the first of these checks that fails
abbrev pub IsFirstOf : Store → Spelled → Place → List Check → Fault → Type 0
IsFirstOf s r place [] f = ⊥
IsFirstOf s r place (c ∷ cs) f = ((f.number ≡ number_of c) × Fails s r place c f.place) ⊎ (Passes s r place c × IsFirstOf s r place cs f)

abbrev pub PassesAll : Store → Spelled → Place → List Check → Type 0
PassesAll s r place [] = Unit {0}
PassesAll s r place (c ∷ cs) = Passes s r place c × PassesAll s r place cs

-- f is the fault of the type that is spelled at `place`
abbrev pub IsFault : Store → Spelled → Place → Fault → Type 0
IsFault s r place = IsFirstOf s r place checks

-- the type that is spelled at `place` has no fault
abbrev pub IsAdmitted : Store → Spelled → Place → Type 0
IsAdmitted s r place = PassesAll s r place checks

-- the fault, where there is one; want of memory says nothing of the type
abbrev pub StopsAt : Store → Spelled → Place → Stop Fault → Type 0
StopsAt s r place (stop.Fault f) = IsFault s r place f
StopsAt s r place stop.Memory = Unit {0}

-- the answer tells this fault; memory may run out before it is found
abbrev pub TellsFault : Result ℕ (Stop Fault) → Fault → Type 0
TellsFault answer f = (answer ≡ Err (stop.Fault f)) ⊎ (answer ≡ Err stop.Memory)

-- the fault of a spread; want of memory says nothing of the type
abbrev pub StopsFirst : Store → Spelled → Place → Stop Fault → Type 0
StopsFirst s r place (stop.Fault f) = (f.number ≡ number_of Spreading) × SpreadsNoUnion s r place f.place
StopsFirst s r place stop.Memory = Unit {0}
