-- Names that are declared, each with a number, the newest first.
use Rattle.std.specs.Prelude.{ℕ, List, [], ◌∷◌, Option, Some, None, bytes_eq, if◌then◌else◌}

-- the number of the newest declaration of a name
abbrev pub number_of : List ℕ → List (List ℕ × ℕ) → Option ℕ
number_of x [] = None
number_of x (b ∷ bs) = if bytes_eq b.0 x then Some b.1 else number_of x bs
