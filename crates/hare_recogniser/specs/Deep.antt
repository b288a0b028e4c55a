-- Whether the innermost tree under way is too deep.
use Rattle.std.specs.Prelude.{List, [], ◌∷◌, Bool, true, false, nat_le}
use Rattle.hare_nesting.specs.Gauge.{opened}

-- it is a node with 256 nodes open round it
abbrev pub is_too_deep : List Bool → Bool
is_too_deep [] = false
is_too_deep (false ∷ bs) = false
is_too_deep (true ∷ bs) = nat_le 256 (opened bs)
