-- Which member of a union a value becomes, and by which row of the table it goes to that member.
use Rattle.std.specs.Prelude.{◌≡◌, ℕ, Bool, true, false, List, Contains, Some, None, Option, option_and_then, find, if◌then◌else◌}
use Rattle.std.specs.Option.{option_or}
use Rattle.hare_types.specs.declared.coercion.Ty.{Ty}
use Rattle.hare_types.specs.declared.coercion.Coercion.{Coercion}
use Rattle.hare_types.specs.Trees.{Tree, Trees, Scalar, Union}
use Rattle.hare_types.specs.Store.{Store}
use Rattle.hare_types.specs.ByIds.{members_at}
use Rattle.hare_types.specs.Assign.{Value, Of, Iconst, Null, Empty, type_at, value_at, base, holds_of, same, default_word, only_one, is_same, is_const, is_lone, is_part, is_union, joins, coercion}
use Rattle.hare_assign.specs.Shapes.{types_at}

-- the value is a whole number without a suffix whose default type this is
abbrev pub is_its_default : Value → Tree → Bool
is_its_default (Iconst v) t = holds_of (λ k. same (Scalar k) t) (default_word v)
is_its_default (Of f) t = false
is_its_default Null t = false
is_its_default Empty t = false

-- the first of the types with these ids that passes
abbrev pub first_of : Store → (Tree → Bool) → List ℕ → Option ℕ
first_of s p is = find (λ i. p (type_at s i)) is

-- the only one of them that passes
abbrev pub only_of : Store → (Tree → Bool) → List ℕ → Option ℕ
only_of s p is = if only_one p (types_at s is) then first_of s p is else None

-- The member that a value becomes: its own type; or the default type of a number; or else the only member with an integer type as its base
-- that holds the number; or the only one to which the value goes as a pointer, as null or as a slice.
abbrev pub member_for : Store → Value → List ℕ → Option ℕ
member_for s f is = option_or (first_of s (is_same f) is)
    (option_or (first_of s (is_its_default f) is) (option_or (only_of s (is_const s f) is) (only_of s (is_lone s f) is)))

-- The first member to which the value goes: as its own type; or as the default type of a number; or as an integer type that holds the
-- number; or as a pointer, as null or as a slice. Where the union admits the value, this is the member that it becomes.
abbrev pub first_member : Store → Value → List ℕ → Option ℕ
first_member s f is = option_or (first_of s (is_same f) is)
    (option_or (first_of s (is_its_default f) is) (option_or (first_of s (is_const s f) is) (first_of s (is_lone s f) is)))

-- that of the members of the union that the type comes to
abbrev pub first_choice : Store → Ty → ℕ → Option ℕ
first_choice s from to = option_and_then (first_member s (value_at s from)) (members_at s to)

-- How the value goes to that member of the union that the type comes to: by the first row of the table, as to any type.
abbrev pub chosen : Store → Ty → ℕ → Option Coercion
chosen s from to = option_and_then (coercion s from) (option_and_then (member_for s (value_at s from)) (members_at s to))

-- the type comes to a union that admits the value, and c takes the value to one of its members
pub record IsChosen (s : Store) (from : Ty) (to : ℕ) (c : Coercion) : Type 0 where
  pub members : List ℕ
  pub member : ℕ
  pub union : members_at s to ≡ Some members
  pub among : Contains members member
  pub goes : coercion s from member ≡ Some c
  pub admits : is_union s (value_at s from) (type_at s to) ≡ true

-- No member is chosen: where the type comes to a union that admits the value, the value is of a union itself whose members all are members,
-- and keeps the member that it has.
abbrev pub KeepsMember : Store → Ty → ℕ → Type 0
KeepsMember s from to = (ts : Trees) → base s (type_at s to) ≡ Some (Union ts) → joins s (value_at s from) (Union ts) ≡ true →
    is_part s (value_at s from) ts ≡ true
