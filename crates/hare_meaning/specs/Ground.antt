-- On what the run of a program stands: where the objects are that stand from the start, and which bytes no object covers.
use Rattle.std.specs.Prelude.{◌≡◌, ℕ, ◌+◌, ◌*◌, List, [], ◌∷◌, ◌++◌, length}
use Rattle.std.specs.List.{enumerate_from}
use Rattle.hx_base.specs.Memory.{le_bytes}
use Rattle.hx_base.specs.Runtime.{arguments_start, record_size, argument_size}
use Rattle.hare_meaning.specs.Code.{Code}
use Rattle.hare_meaning.specs.Related.{Ground}

-- ---- the table of arguments

-- where the bytes of each argument begin, one behind the other
abbrev pub addresses_from : ℕ → List (List ℕ) → List ℕ
addresses_from a [] = []
addresses_from a (x ∷ xs) = a ∷ addresses_from (a + argument_size x) xs

-- they stand behind the records
abbrev pub argument_addresses : List (List ℕ) → List ℕ
argument_addresses args = addresses_from (arguments_start + record_size * length args) args

-- the record of an argument: its address and, twice, its length
abbrev pub record_of : (address : ℕ) → List ℕ → List ℕ
record_of a x = le_bytes 8 a ++ le_bytes 8 (length x) ++ le_bytes 8 (length x)

-- the records from one on, each with where it stands
abbrev pub records_from : (number : ℕ) → List ℕ → List (List ℕ) → List (ℕ × List ℕ)
records_from n [] xs = []
records_from n (a ∷ ats) [] = []
records_from n (a ∷ ats) (x ∷ xs) = (arguments_start + record_size * n, record_of a x) ∷ records_from (n + 1) ats xs

abbrev pub records_of : List (List ℕ) → List (ℕ × List ℕ)
records_of args = records_from 0 (argument_addresses args) args

-- ---- the ground

-- The static objects of the code stand at these addresses, in their order, and behind them in the list the arguments; the records of the
-- arguments and these texts of aborts are fixed.
pub record IsGroundOf (c : Code) (args : List (List ℕ)) (statics : List ℕ) (texts : List (ℕ × List ℕ)) (g : Ground) : Type 0 where
  pub every : length statics ≡ length c.statics
  pub standing : g.standing ≡ enumerate_from 0 (statics ++ argument_addresses args)
  pub fixed : g.fixed ≡ records_of args ++ texts
  pub arguments : g.arguments ≡ length args
