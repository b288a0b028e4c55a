-- Tables from names to values, as lists of pairs. Of those that are put under one name the first stays.
use Rattle.std.specs.Prelude.{ℕ, List, [], ◌∷◌, ◌++◌, Bool, bytes_eq, Option, is_some, if◌then◌else◌}
use Rattle.std.specs.List.{list_any}
use Rattle.std.specs.Map.{lookup}

-- the value under a name
abbrev pub value_of : {T : Type 0} → List ℕ → List (List ℕ × T) → Option T
value_of x es = lookup (bytes_eq x) es

abbrev pub has : {T : Type 0} → List ℕ → List (List ℕ × T) → Bool
has x es = is_some (value_of x es)

-- the table, with this value under the name unless there is another
abbrev pub put : {T : Type 0} → List (List ℕ × T) → List ℕ → T → List (List ℕ × T)
put es x v = if has x es then es else es ++ (x, v) ∷ []

-- names, with this one at the end unless it is there
abbrev pub entered : List (List ℕ) → List ℕ → List (List ℕ)
entered xs x = if list_any (bytes_eq x) xs then xs else xs ++ x ∷ []
