-- The id of a row, and the ids of the types that come of putting types together into a union.
use Rattle.std.specs.Prelude.{ℕ, ◌==◌, nat_lt, not, List, [], ◌∷◌, filter, flat_map, position, Some, None, Option, option_map, option_and_then, if◌then◌else◌}
use Rattle.std.specs.Option.{unwrap_or}
use Rattle.hare_types.specs.declared.row.Row.{Row}
use Rattle.hare_types.specs.declared.row.Row.TheVariants as row
use Rattle.hare_types.specs.declared.row.Scalar.{Scalar as Keyword}
use Rattle.hare_types.specs.declared.row.Scalar.TheVariants.{Void, Never, Opaque, Bool as BoolWord, Rune, Str, I8, I16, I32, I64, U8, U16, U32, U64, Int, Uint, Size}
use Rattle.hare_types.specs.Keys.{row_eq}
use Rattle.hare_types.specs.Store.{Store}
use Rattle.hare_types.specs.ByIds.{row_at, members_at, is_error_at}

-- the id of the type with this row, where the store has it
abbrev pub id_of : Store → Row → Option ℕ
id_of s r = position (row_eq r) s.rows

-- ---- ascending lists

-- the id among ascending ones, where it is not there yet
abbrev pub put : ℕ → List ℕ → List ℕ
put i [] = i ∷ []
put i (j ∷ js) = if nat_lt i j then i ∷ j ∷ js else (if i == j then j ∷ js else j ∷ put i js)

-- the ids, one after another
abbrev pub put_all : List ℕ → List ℕ → List ℕ
put_all [] js = js
put_all (i ∷ is) js = put_all is (put i js)

-- the ids in ascending order, each once
abbrev pub ascending : List ℕ → List ℕ
ascending is = put_all is []

-- ---- unions

-- the union that has these as its members
abbrev pub union_of : Store → List ℕ → Option ℕ
union_of s is = id_of s (row.Union (ascending is))

-- the type of which these are the members, in ascending order: one alone is that member, and there is none of no member
abbrev pub joined : Store → List ℕ → Option ℕ
joined s [] = None
joined s (i ∷ []) = Some i
joined s (i ∷ j ∷ is) = id_of s (row.Union (i ∷ j ∷ is))

-- never brings nothing, and every other word itself
abbrev pub brought_by_word : Keyword → ℕ → List ℕ
brought_by_word Never t = []
brought_by_word Void t = t ∷ []
brought_by_word Opaque t = t ∷ []
brought_by_word BoolWord t = t ∷ []
brought_by_word Rune t = t ∷ []
brought_by_word Str t = t ∷ []
brought_by_word I8 t = t ∷ []
brought_by_word I16 t = t ∷ []
brought_by_word I32 t = t ∷ []
brought_by_word I64 t = t ∷ []
brought_by_word U8 t = t ∷ []
brought_by_word U16 t = t ∷ []
brought_by_word U32 t = t ∷ []
brought_by_word U64 t = t ∷ []
brought_by_word Int t = t ∷ []
brought_by_word Uint t = t ∷ []
brought_by_word Size t = t ∷ []

-- what type t brings to a union as one of its members: an unnamed union its own members, never nothing, and any other itself
abbrev pub brought_by : ℕ → Row → List ℕ
brought_by t (row.Scalar k) = brought_by_word k t
brought_by t (row.Union is) = is
brought_by t (row.Pointer i) = t ∷ []
brought_by t (row.Nullable i) = t ∷ []
brought_by t (row.Slice i) = t ∷ []
brought_by t (row.Array n i) = t ∷ []
brought_by t (row.Struct fs) = t ∷ []
brought_by t (row.Tuple is) = t ∷ []
brought_by t (row.Error i) = t ∷ []
brought_by t (row.Named d) = t ∷ []

abbrev pub brought_at : Store → ℕ → List ℕ
brought_at s t = unwrap_or (option_map (brought_by t) (row_at s t)) []

-- what is left in a union of which these are written as the members: what each brings, in ascending order, each once
abbrev pub left_of : Store → List ℕ → List ℕ
left_of s ts = ascending (flat_map (brought_at s) ts)

-- The reduced union of these types: one that is left alone is itself the type, and where none is left there is none.
abbrev pub reduced_of : Store → List ℕ → Option ℕ
reduced_of s ts = joined s (left_of s ts)

-- ---- error members

-- the members of the union that is the base of the type, but for those that are error types
abbrev pub values_at : Store → ℕ → Option (List ℕ)
values_at s t = option_map (filter (λ i. not (is_error_at s i))) (members_at s t)

-- What is left of the union that is the base of the type, without its error members: one that is left alone is itself the type, and where
-- none is left it is never.
abbrev pub joined_or_never : Store → List ℕ → Option ℕ
joined_or_never s [] = id_of s (row.Scalar Never)
joined_or_never s (i ∷ is) = joined s (i ∷ is)

abbrev pub without_errors : Store → ℕ → Option ℕ
without_errors s t = option_and_then (joined_or_never s) (values_at s t)
