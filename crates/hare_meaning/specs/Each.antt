-- What is so of each of a list, one by one.
use Rattle.std.specs.Prelude.{List, [], ◌∷◌}

-- so it is of each
abbrev pub Each : {A : Type 0} → (A → Type 0) → List A → Type 0
Each P [] = Unit {0}
Each P (x ∷ xs) = P x × Each P xs
