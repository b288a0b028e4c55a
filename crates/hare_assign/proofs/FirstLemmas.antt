-- The first row that admits.
use Rattle.std.proofs.Common.{◌≡◌, ℕ, zero, suc, ◌+◌, ◌-◌, ◌<◌, Bool, true, false, List, [], ◌∷◌, Some, None, refl, ap, subst, arith}
use Rattle.std.specs.Prelude.{slice_get}
use Rattle.hare_types.specs.Assign.{first_from}
use Rattle.hare_assign.specs.First.{IsFirst, NoneAdmits}

-- the row with k rows before it admits, and none of these does
record IsAfter (rows : List Bool) (k : ℕ) : Type 0 where
  admits : slice_get rows k ≡ Some true
  before : (j : ℕ) → j < k → slice_get rows j ≡ Some false

later : (b : Bool) (rows : List Bool) (k : ℕ) → b ≡ false → IsAfter rows k → IsAfter (b ∷ rows) (suc k)
later b rows k e h = record { admits = h.admits; before = by }
  where
    by : (j : ℕ) → j < suc k → slice_get (b ∷ rows) j ≡ Some false
    by zero l = ap Some e
    by (suc j) l = h.before j (omega arith)

first_from-after : (n : ℕ) (rows : List Bool) (m : ℕ) → first_from n rows ≡ Some m → (k : ℕ) × (m ≡ n + k) × IsAfter rows k
first_from-after n [] m e = absurd cc
first_from-after n (true ∷ rows) m e =
    let here : n ≡ m = cc in
    (0, omega arith, record { admits = refl; before = λ j l. absurd (omega arith) })
first_from-after n (false ∷ rows) m e =
    let rest = first_from-after (suc n) rows m e in
    (suc rest.0, omega (arith, rest.1), later false rows rest.0 refl rest.2)

pub first_from-first : (rows : List Bool) (m : ℕ) → first_from 1 rows ≡ Some m → IsFirst rows m
first_from-first rows m e =
    let found = first_from-after 1 rows m e in
    let place : found.0 ≡ m - 1 = omega (arith, found.1) in
    let there = subst (λ k. IsAfter rows k) place found.2 in
    record { counted = omega (arith, found.1); admits = there.admits; before = there.before }

pub first_from-none : (n : ℕ) (rows : List Bool) → first_from n rows ≡ None → NoneAdmits rows
first_from-none n [] e k h = absurd cc
first_from-none n (true ∷ rows) e k h = absurd cc
first_from-none n (false ∷ rows) e zero h = absurd cc
first_from-none n (false ∷ rows) e (suc k) h = first_from-none (suc n) rows e k h
