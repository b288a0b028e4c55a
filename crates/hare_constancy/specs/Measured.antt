-- Types of which all is known that the constant of a tree rests on: what their names are defined to be, and how many bytes they have.
use Rattle.std.specs.Prelude.{◌≡◌, ℕ, true, IsSome}
use Rattle.hare_types.specs.declared.coercion.Ty.{Ty}
use Rattle.hare_types.specs.declared.coercion.Ty.TheVariants as kept
use Rattle.hare_types.specs.Store.{Store}
use Rattle.hare_types.specs.ByIds.{base_at, has_size_at}
use Rattle.hare_typed.specs.Typed.{TypedNode, TypedNodes, marked, typed_none, typed_more}
use Rattle.hare_typed.specs.Followed.{reached_within}
use Rattle.hare_typed.specs.Sizes.{Fits}

-- where it is a type, its base is known; and where values of it have a size, they have no more bytes than a program may spell
abbrev pub IsKnown : Store → Ty → Type 0
IsKnown s (kept.Of t) = IsSome (base_at s t) × (has_size_at s t ≡ true → Fits s t)
IsKnown s (kept.Iconst v) = Unit {0}
IsKnown s kept.Null = Unit {0}
IsKnown s kept.Empty = Unit {0}

-- the same of it and of each type that is reached from it through pointers
abbrev pub IsMeasured : Store → Ty → Type 0
IsMeasured s f = (n : ℕ) → IsKnown s (reached_within n s f)

-- the same of each type that stands in the tree
abbrev mutual
  pub AreMeasured : Store → TypedNode → Type 0
  AreMeasured s (marked h m ts) = IsMeasured s m.ty × IsMeasured s m.coerce.to × EachMeasured s ts

  pub EachMeasured : Store → TypedNodes → Type 0
  EachMeasured s typed_none = Unit {0}
  EachMeasured s (typed_more t ts) = AreMeasured s t × EachMeasured s ts
