-- What is said of values and types stays in later stores, where no name that is looked at waits for its definition.
use Rattle.std.specs.Prelude.{◌≡◌, ℕ, ◌<◌, length, Some, IsSome}
use Rattle.hare_types.specs.declared.coercion.Ty.{Ty}
use Rattle.hare_types.specs.Trees.{Tree, Trees, Union, EachTree}
use Rattle.hare_types.specs.Store.{Store}
use Rattle.hare_types.specs.Sound.{IsStore}
use Rattle.hare_types.specs.Later.{IsLater}
use Rattle.hare_types.specs.Assign.{Value, Of, Iconst, Null, Empty, IsIn, type_at, value_at, base, table, coercion, is_castable}
use Rattle.hare_assign.specs.Chosen.{first_choice, chosen}

-- the base of the type is known: each name that it comes to is defined
abbrev pub HasBase : Store → Tree → Type 0
HasBase s t = IsSome (base s t)

-- where the value has a type, its base is known
abbrev pub IsKnown : Store → Value → Type 0
IsKnown s (Of t) = HasBase s t
IsKnown s (Iconst v) = Unit {0}
IsKnown s Null = Unit {0}
IsKnown s Empty = Unit {0}

-- the bases that the table looks at are known: that of the value, that of the type, and those of the members of a union that is its base
pub record AreKnown (s : Store) (f : Value) (t : Tree) : Type 0 where
  pub value : IsKnown s f
  pub type : HasBase s t
  pub members : (ts : Trees) → base s t ≡ Some (Union ts) → EachTree (HasBase s) ts

-- the table, what becomes of the value, and whether it may be cast are over both stores the same
pub record IsOneVerdict (now later : Store) (from : Ty) (to : ℕ) : Type 0 where
  pub table : table later (value_at later from) (type_at later to) ≡ table now (value_at now from) (type_at now to)
  pub coercion : coercion later from to ≡ coercion now from to
  pub cast : is_castable later (value_at later from) (type_at later to) ≡ is_castable now (value_at now from) (type_at now to)

-- a verdict that is given over a store is that over every later one
abbrev pub VerdictsStay : Type 0
VerdictsStay =
    (now later : Store) → IsLater now later → (from : Ty) (to : ℕ) → IsIn now from → to < length now.rows
    → AreKnown now (value_at now from) (type_at now to)
    → IsOneVerdict now later from to

-- which member a value becomes that is made a union, and by which row, is over every later store the same
abbrev pub ChoicesStay : Type 0
ChoicesStay =
    (now later : Store) → IsStore now → IsLater now later → (from : Ty) (to : ℕ) → IsIn now from → to < length now.rows
    → AreKnown now (value_at now from) (type_at now to) → chosen later from to ≡ chosen now from to

-- the first member to which a value goes, and the row by which it goes there, are over both stores the same
pub record IsOneFirst (now later : Store) (from : Ty) (to : ℕ) : Type 0 where
  pub member : first_choice later from to ≡ first_choice now from to
  pub goes : (m : ℕ) → first_choice now from to ≡ Some m → coercion later from m ≡ coercion now from m

-- what is found so over a store is found over every later one
abbrev pub FirstsStay : Type 0
FirstsStay =
    (now later : Store) → IsStore now → IsLater now later → (from : Ty) (to : ℕ) → IsIn now from → to < length now.rows
    → AreKnown now (value_at now from) (type_at now to) → IsOneFirst now later from to
