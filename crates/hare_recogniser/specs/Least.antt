-- The least of some numbers.
use Rattle.std.specs.Prelude.{ℕ, min, List, [], ◌∷◌, Option, Some, None}

abbrev pub lesser : Option ℕ → Option ℕ → Option ℕ
lesser None o = o
lesser (Some m) None = Some m
lesser (Some m) (Some n) = Some (min m n)

-- none where there are no numbers
abbrev pub least : List ℕ → Option ℕ
least [] = None
least (n ∷ ns) = lesser (Some n) (least ns)
