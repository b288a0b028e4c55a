-- Which types, and which trees, mention no name that is not defined.
use Rattle.std.specs.Prelude.{◌≡◌, ◌≢◌, ℕ, ◌<◌, List, [], ◌∷◌, length, map, Some, IsSome, Contains}
use Rattle.std.specs.List.{cons_option}
use Rattle.hare_types.specs.declared.coercion.Ty.{Ty}
use Rattle.hare_types.specs.declared.coercion.Coercion.{Coercion}
use Rattle.hare_types.specs.declared.coercion.Ty.TheVariants as ty
use Rattle.hare_types.specs.declared.row.Row.{Row}
use Rattle.hare_types.specs.declared.row.Row.TheVariants as row
use Rattle.hare_types.specs.declared.row.Scalar.TheVariants as keyword
use Rattle.hare_types.specs.Store.{Store, definition_of}
use Rattle.hare_types.specs.ByIds.{row_at}
use Rattle.hare_typed.specs.Typed.{TypedNode, TypedNodes, marked, typed_none, typed_more}
use Rattle.hare_rules.specs.declared.hint.Hint.{Hint}
use Rattle.hare_rules.specs.declared.hint.Hint.TheVariants as hint
use Rattle.hare_rules.specs.declared.judged.Yielded.{Yielded}
use Rattle.hare_rules.specs.declared.judged.Verdict.{Verdict}
use Rattle.hare_rules.specs.Words.{nomem}

-- the types that stand in a row, and what a name is defined to be
abbrev pub made_of : Store → Row → List ℕ
made_of s (row.Scalar k) = []
made_of s (row.Pointer i) = i ∷ []
made_of s (row.Nullable i) = i ∷ []
made_of s (row.Slice i) = i ∷ []
made_of s (row.Array n i) = i ∷ []
made_of s (row.Struct fs) = map (λ f. f.ty) fs
made_of s (row.Tuple is) = is
made_of s (row.Union is) = is
made_of s (row.Error i) = i ∷ []
made_of s (row.Named d) = cons_option (definition_of s d) []

-- A type mentions itself, the types that stand in its row, what its name is defined to be, and all that these mention.
pub data Mentions (s : Store) : ℕ → ℕ → Type 0 where
  itself : {t : ℕ} → Mentions s t t
  through : {t u w : ℕ} (r : Row) → row_at s t ≡ Some r → Contains (made_of s r) u → Mentions s u w → Mentions s t w

-- The type is in the store, and each name that it mentions is defined.
pub record IsDefined (s : Store) (t : ℕ) : Type 0 where
  pub within : t < length s.rows
  pub names : (u d : ℕ) → Mentions s t u → row_at s u ≡ Some (row.Named d) → IsSome (definition_of s d)

-- the same of what may have no type
abbrev pub IsDefinedTy : Store → Ty → Type 0
IsDefinedTy s (ty.Of t) = IsDefined s t
IsDefinedTy s (ty.Iconst v) = Unit {0}
IsDefinedTy s ty.Null = Unit {0}
IsDefinedTy s ty.Empty = Unit {0}

abbrev pub IsDefinedHint : Store → Hint → Type 0
IsDefinedHint s (hint.Of t) = IsDefined s t
IsDefinedHint s hint.Drop = Unit {0}
IsDefinedHint s hint.None = Unit {0}

abbrev pub AreDefinedYields : Store → List Yielded → Type 0
AreDefinedYields s [] = Unit {0}
AreDefinedYields s (y ∷ ys) = IsDefinedTy s y.ty × AreDefinedYields s ys

-- of each type that stands in the tree
abbrev mutual
  pub IsDefinedTree : Store → TypedNode → Type 0
  IsDefinedTree s (marked h m ts) = IsDefinedTy s m.ty × IsDefinedTy s m.coerce.to × AreDefinedTrees s ts

  pub AreDefinedTrees : Store → TypedNodes → Type 0
  AreDefinedTrees s typed_none = Unit {0}
  AreDefinedTrees s (typed_more t ts) = IsDefinedTree s t × AreDefinedTrees s ts

-- the types that stand in a row
abbrev pub HoldsDefined : Store → Row → Type 0
HoldsDefined s r = (i : ℕ) → Contains (made_of s r) i → IsDefined s i

-- the name has a definition, and each name that this mentions is defined
abbrev pub IsDefinedName : Store → ℕ → Type 0
IsDefinedName s d = (t : ℕ) × (definition_of s d ≡ Some t) × IsDefined s t

-- a type that can stand beside the refusal of memory in a union: it is neither `never` nor a union, nor that refusal
pub record IsRefusable (s : Store) (t : ℕ) : Type 0 where
  pub defined : IsDefined s t
  pub not_never : row_at s t ≢ Some (row.Scalar keyword.Never)
  pub not_union : (is : List ℕ) → row_at s t ≢ Some (row.Union is)
  pub not_nomem : row_at s t ≢ Some (row.Named nomem)

-- ---- answers

abbrev pub AreDefinedCoercions : Store → List Coercion → Type 0
AreDefinedCoercions s [] = Unit {0}
AreDefinedCoercions s (r ∷ rs) = IsDefinedTy s r.to × AreDefinedCoercions s rs

-- each type that stands in the answer is in the store and mentions no name that is not defined
pub record IsDefinedVerdict (s : Store) (v : Verdict) : Type 0 where
  pub ty : IsDefinedTy s v.ty
  pub own : IsDefinedTy s v.own.to
  pub coerce : AreDefinedCoercions s v.coerce
