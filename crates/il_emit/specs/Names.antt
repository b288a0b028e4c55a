-- The names that stand in emitted functions.
use Rattle.std.specs.Prelude.{ℕ, List, [], ◌∷◌}
use Rattle.std.specs.Fmt.{decimal}

-- `%t0`, `%t1` and so on are the temporaries of the flat function
abbrev pub temp_name : ℕ → List ℕ
temp_name t = 116 ∷ decimal t

-- `%a0`, `%a1` and so on hold addresses that have to be computed, in the order of the text
abbrev pub address_name : ℕ → List ℕ
address_name k = 97 ∷ decimal k

-- `%f` holds the address of the call's frame, where the function has one
abbrev pub frame_name : List ℕ
frame_name = 102 ∷ []

-- `@b0`, `@b1` and so on are the blocks of a function
abbrev pub label_name : ℕ → List ℕ
label_name n = 98 ∷ decimal n
