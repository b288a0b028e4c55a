-- Values that go to a union: what is known of the union, so that they are made of it.
use Rattle.std.specs.Prelude.{◌≡◌, ℕ, List, [], ◌∷◌, Some, None, IsSome}
use Rattle.hare_types.specs.declared.coercion.Ty.{Ty}
use Rattle.hare_types.specs.declared.coercion.Ty.TheVariants as kept
use Rattle.hare_types.specs.Store.{Store}
use Rattle.hare_types.specs.ByIds.{base_at, members_at}
use Rattle.hare_typed.specs.Unions.{union_members}
use Rattle.hare_typed.specs.Coercions.{chosen_member}
use Rattle.hare_typed.specs.Sizes.{Fits}

-- of each of these types the base and the size can be told
abbrev pub AreTold : Store → List ℕ → Type 0
AreTold s [] = Unit {0}
AreTold s (m ∷ ms) = IsSome (base_at s m) × Fits s m × AreTold s ms

-- the type comes to a union whose size can be told, and of whose members the bases and the sizes can
pub record IsToldUnion (s : Store) (t : ℕ) : Type 0 where
  pub fits : Fits s t
  pub members : List ℕ
  pub union : members_at s t ≡ Some members
  pub told : AreTold s members

-- the value is of such a union itself
abbrev pub HasToldUnion : Store → Ty → Type 0
HasToldUnion s (kept.Of f) = IsToldUnion s f
HasToldUnion s (kept.Iconst v) = ⊥
HasToldUnion s kept.Null = ⊥
HasToldUnion s kept.Empty = ⊥

-- the value becomes a member of such a union, or keeps the member that it has of one
pub record IsJoined (s : Store) (f : Ty) (u : ℕ) : Type 0 where
  pub union : IsToldUnion s u
  pub own : chosen_member s f (union_members s u) ≡ None → HasToldUnion s f

-- where the row of the coercion is the one to unions
abbrev pub Joins : Store → Ty → (row : ℕ) → Ty → Type 0
Joins s f r (kept.Of u) = r ≡ 9 → IsJoined s f u
Joins s f r (kept.Iconst v) = Unit {0}
Joins s f r kept.Null = Unit {0}
Joins s f r kept.Empty = Unit {0}
