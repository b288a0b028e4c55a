-- The table of the program's arguments.
use Rattle.std.specs.Prelude.{ℕ, ◌+◌, ◌*◌, ◌≤◌, ◌^◌, List, [], ◌∷◌, length, sum_by}
use Rattle.std.specs.Ordering.{nat_cmp}
use Rattle.std.specs.BTreeMap.{insert_entry}
use Rattle.hx_base.specs.Runtime.{argument_size, arguments_start, record_size}

-- at most 1,048,576 arguments, with at most 2^30 bytes together
pub record AreFew (args : List (List ℕ)) : Type 0 where
  pub count : length args ≤ 1048576
  pub bytes : sum_by length args ≤ 2 ^ 30

-- the bytes of the table
abbrev pub table_size : List (List ℕ) → ℕ
table_size args = record_size * length args + sum_by argument_size args

-- the ranges with that of the table. No arguments have none.
abbrev pub ranges_with_arguments : List (ℕ × ℕ) → List (List ℕ) → List (ℕ × ℕ)
ranges_with_arguments ranges [] = ranges
ranges_with_arguments ranges (a ∷ args) =
    insert_entry nat_cmp ranges arguments_start (arguments_start + table_size (a ∷ args))
