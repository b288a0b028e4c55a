-- What the tables of a program say of a path, and meanings by places. Of this public clauses cite `meaning_at` alone, by `meaning_in`.
use Rattle.std.specs.Prelude.{ℕ, List, [], ◌∷◌, ◌++◌, Bool, not, ◌&&◌, Option, Some, None, is_some, option_and_then, if◌then◌else◌}
use Rattle.std.specs.Map.{lookup}
use Rattle.hare_tree.specs.declared.token.Meaning.{Meaning}
use Rattle.hare_tree.specs.declared.token.Meaning.TheVariants as me
use Rattle.hare_tree.specs.declared.place.Place.{Place}
use Rattle.hare_modules.specs.declared.imports.Imported.{Imported}
use Rattle.hare_modules.specs.declared.items.Entry.{Entry}
use Rattle.hare_modules.specs.Order.{same_place}
use Rattle.hare_modules.specs.Directory.{Directory, item_at, own_at, import_at}
use Rattle.hare_blocks.specs.Scopes.{number_of}
use Rattle.hare_names.specs.Scopes.{Local}
use Rattle.hare_names.specs.declared.verdict.Verdict.{Verdict}
use Rattle.hare_names.specs.declared.verdict.Verdict.TheVariants.{Means, Fails}

-- ---- verdicts

-- E13 where a type has to stand, and this is none
abbrev pub fit : Bool → Entry → Verdict
fit is_type e = if is_type && not e.is_type then Fails 13 else Means e.meaning

abbrev pub local_verdict : Bool → ℕ → Verdict
local_verdict is_type n = if is_type then Fails 13 else Means (me.Local n)

-- what an import of a member is to be had as
abbrev pub exported_only : Bool → Option Entry → Verdict
exported_only is_type None = Fails 13
exported_only is_type (Some e) = if e.exported then fit is_type e else Fails 13

-- what a module that is known by its number declares
abbrev pub member_at : Directory → List ℕ → Option ℕ → Option Entry
member_at d x number = option_and_then (λ n. item_at d n x) number

abbrev pub imported_verdict : Directory → Bool → List ℕ → Option Imported → Verdict
imported_verdict d is_type x None = Fails 13
imported_verdict d is_type x (Some i) = if i.whole then Fails 13 else exported_only is_type (member_at d x i.number)

-- a name that is no local
abbrev pub own_verdict : Directory → ℕ → Bool → List ℕ → Option Entry → Verdict
own_verdict d f is_type x None = imported_verdict d is_type x (import_at d f x)
own_verdict d f is_type x (Some e) = fit is_type e

abbrev pub name_verdict : Directory → ℕ → Bool → List ℕ → Option ℕ → Verdict
name_verdict d f is_type x None = own_verdict d f is_type x (own_at d f x)
name_verdict d f is_type x (Some n) = local_verdict is_type n

-- a name behind that of a module
abbrev pub entry_verdict : Bool → Option Entry → Verdict
entry_verdict is_type None = Fails 15
entry_verdict is_type (Some e) = if e.exported then fit is_type e else Fails 14

abbrev pub known_verdict : Directory → Bool → List ℕ → Option ℕ → Verdict
known_verdict d is_type x None = Fails 13
known_verdict d is_type x (Some n) = entry_verdict is_type (item_at d n x)

abbrev pub pair_verdict : Directory → Bool → List ℕ → Option Imported → Verdict
pair_verdict d is_type x None = Fails 13
pair_verdict d is_type x (Some i) = if i.whole then known_verdict d is_type x i.number else Fails 13

-- a path of these names in a file, where these locals are visible, the innermost first
abbrev pub verdict : Directory → ℕ → Bool → List Local → List (List ℕ) → Verdict
verdict d f is_type ls [] = Fails 13
verdict d f is_type ls (x ∷ []) = name_verdict d f is_type x (number_of x ls)
verdict d f is_type ls (m ∷ x ∷ []) = pair_verdict d is_type x (import_at d f m)
verdict d f is_type ls (m ∷ x ∷ y ∷ ys) = Fails 13

-- ---- meanings by places

abbrev pub meaning_at : Place → List (Place × Meaning) → Option Meaning
meaning_at p es = lookup (same_place p) es

-- the first that is put at a place stays
abbrev pub put : List (Place × Meaning) → Place → Meaning → List (Place × Meaning)
put es p m = if is_some (meaning_at p es) then es else es ++ (p, m) ∷ []
