-- The statements of a Seq, one after the other.
use Rattle.std.proofs.Common.{◌≡◌, ℕ, zero, suc, ◌<◌, ◌≤◌, List, [], ◌∷◌, length, drop, Some, refl, arith}
use Rattle.std.specs.Prelude.{slice_get}
use Rattle.flat_code.specs.declared.flat.Flat.{Flat}
use Rattle.flat_code.specs.declared.flat.FlatBox.TheDeep.{deep-Flat}
use Rattle.flat_code.specs.Code.{Code, codes_of, height, heights}
use Rattle.flat_code.specs.Shape.{code_of}
use Rattle.flat_code.specs.Falls.{deep_le}

kid_height : (cs : List Code) (i : ℕ) (c : Code) → slice_get cs i ≡ Some c → suc (height c) < heights (codes_of cs)
kid_height [] i c e = cc
kid_height (x ∷ cs) zero c e = let h : x ≡ c = cc in rw (← h) (omega arith)
kid_height (x ∷ cs) (suc i) c e = omega (arith, kid_height cs i c e)

-- a statement is lower than the list that it stands in
pub kid_deep : (cs : List Code) (i : ℕ) (f : Flat) → slice_get cs i ≡ Some (code_of f) → deep-Flat f < heights (codes_of cs)
kid_deep cs i f e = omega (arith, kid_height cs i (code_of f) e, deep_le f)

-- a statement stands in front of those behind it
pub drop_kid : (cs : List Code) (i : ℕ) (c : Code) → slice_get cs i ≡ Some c → drop i cs ≡ c ∷ drop (suc i) cs
drop_kid [] i c e = cc
drop_kid (x ∷ cs) zero c e = cc
drop_kid (x ∷ cs) (suc i) c e = drop_kid cs i c e

-- nothing stands behind the last
pub drop_rest : (cs : List Code) (i : ℕ) → length cs ≤ i → drop i cs ≡ []
drop_rest [] zero h = refl
drop_rest [] (suc i) h = refl
drop_rest (x ∷ cs) zero h = absurd (omega arith)
drop_rest (x ∷ cs) (suc i) h = drop_rest cs i (omega arith)
