-- Which declarations depend on which: those that have to be judged before one. All are named by their numbers.
use Rattle.std.specs.Prelude.{◌≡◌, ℕ, List, [], ◌∷◌, Bool, true, filter, slice_get, Option, Some, None, Contains, if◌then◌else◌}
use Rattle.std.specs.List.{flat_map}
use Rattle.hare_depends.specs.declared.said.Said.{Said}
use Rattle.hare_depends.specs.declared.said.Sort.{Sort}
use Rattle.hare_depends.specs.declared.said.Sort.TheVariants as so
use Rattle.hare_depends.specs.Sorts.{is_type, is_global, has_value}

-- ---- looking up

-- the declaration with this number is there, and it is so
abbrev pub is_said : (Sort → Bool) → Option Said → Bool
is_said p None = Bool.false
is_said p (Some s) = p s.sort

abbrev pub is_at : (Sort → Bool) → List Said → ℕ → Bool
is_at p ds d = is_said p (slice_get ds d)

abbrev pub numbers_of : (Said → List ℕ) → Option Said → List ℕ
numbers_of f None = []
numbers_of f (Some s) = f s

abbrev pub numbers_at : (Said → List ℕ) → List Said → ℕ → List ℕ
numbers_at f ds d = numbers_of f (slice_get ds d)

-- ---- needs

-- A global with a type is looked through: its value may be judged later, but what its type names may not.
abbrev pub through : List Said → ℕ → List ℕ
through ds e = if is_at is_global ds e then numbers_at (λ s. s.written) ds e else e ∷ []

-- A type and a signature need the types that they hold by value or spread, and the defs in lengths of arrays; a def and a global without a
-- type all that they name; a global with a type all that it names but globals with a type, and all that the types of those name.
abbrev pub needed_by : List Said → Sort → Said → List ℕ
needed_by ds so.Type s = s.needed
needed_by ds so.Function s = s.needed
needed_by ds so.Constant s = s.named
needed_by ds so.Global s = flat_map (through ds) s.named

abbrev pub needs : List Said → ℕ → List ℕ
needs ds d = numbers_at (λ s. needed_by ds s.sort s) ds d

-- ---- mentions

-- the types that a declaration names
abbrev pub types_named : List Said → ℕ → List ℕ
types_named ds d = filter (is_at is_type ds) (numbers_at (λ s. s.named) ds d)

-- a type that a declaration mentions: one that it names, or that one of those mentions, to any depth, behind pointers and slices too
pub data Mentions (ds : List Said) (d : ℕ) : ℕ → Type 0 where
  by_name : (t : ℕ) → Contains (types_named ds d) t → Mentions ds d t
  within : (t u : ℕ) → Mentions ds d t → Contains (types_named ds t) u → Mentions ds d u

-- ---- dependence

-- A declaration depends on what it needs; and a def and a global also on every type that what they need mentions.
pub data DependsOn (ds : List Said) (d : ℕ) : ℕ → Type 0 where
  needed : (e : ℕ) → Contains (needs ds d) e → DependsOn ds d e
  mentioned : (e t : ℕ) → is_at has_value ds d ≡ true → Contains (needs ds d) e → Mentions ds e t → DependsOn ds d t

-- it depends on another, on what that depends on, and so on
pub data LeadsTo (ds : List Said) (d : ℕ) : ℕ → Type 0 where
  at_once : (e : ℕ) → DependsOn ds d e → LeadsTo ds d e
  further : (e f : ℕ) → LeadsTo ds d e → DependsOn ds e f → LeadsTo ds d f
