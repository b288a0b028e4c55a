-- Where functions stand in the list of a program's.
use Rattle.std.specs.Prelude.{ℕ, suc, List, [], ◌∷◌}
use Rattle.flat_code.specs.declared.program.FlatFn.{FlatFn}

-- functions by their names, the first of which has this place
abbrev pub places_from : ℕ → List FlatFn → List (List ℕ × ℕ)
places_from at [] = []
places_from at (f ∷ fs) = (f.name, at) ∷ places_from (suc at) fs
