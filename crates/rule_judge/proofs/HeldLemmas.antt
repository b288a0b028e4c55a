-- Types that stand in a type of which each name is defined.
use Rattle.std.proofs.Common.{◌≡◌, ℕ, zero, suc, List, [], ◌∷◌, Some, refl, subst, arith}
use Rattle.std.specs.Prelude.{slice_get, Contains}
use Rattle.hare_types.specs.declared.row.Row.{Row}
use Rattle.hare_types.specs.declared.row.Row.TheVariants as row
use Rattle.hare_types.specs.Store.{Store}
use Rattle.rule_judge.specs.Defined.{made_of, IsDefined, HoldsDefined}

pub first_of : (t : ℕ) (ts : List ℕ) → Contains (t ∷ ts) t
first_of t ts = (0, omega arith, refl)

pub one_of : (ts : List ℕ) (i t : ℕ) → slice_get ts i ≡ Some t → Contains ts t
one_of [] i t e = cc
one_of (u ∷ us) zero t e = let same : u ≡ t = cc in (0, omega arith, same)
one_of (u ∷ us) (suc i) t e = let c = one_of us i t e in (suc c.0, omega (arith, c.1), c.2)

-- what stands in a row that is given so
pub held : (s : Store) (r q : Row) (t : ℕ) → HoldsDefined s r → r ≡ q → Contains (made_of s q) t → IsDefined s t
held s r q t h e c = (subst (HoldsDefined s) e h) t c

pub held_pointer : (s : Store) (r : Row) (t : ℕ) → HoldsDefined s r → r ≡ row.Pointer t → IsDefined s t
held_pointer s r t h e = held s r (row.Pointer t) t h e (first_of t [])

pub held_nullable : (s : Store) (r : Row) (t : ℕ) → HoldsDefined s r → r ≡ row.Nullable t → IsDefined s t
held_nullable s r t h e = held s r (row.Nullable t) t h e (first_of t [])

pub held_slice : (s : Store) (r : Row) (t : ℕ) → HoldsDefined s r → r ≡ row.Slice t → IsDefined s t
held_slice s r t h e = held s r (row.Slice t) t h e (first_of t [])

pub held_array : (s : Store) (r : Row) (n t : ℕ) → HoldsDefined s r → r ≡ row.Array n t → IsDefined s t
held_array s r n t h e = held s r (row.Array n t) t h e (first_of t [])

pub held_component : (s : Store) (r : Row) (ts : List ℕ) (i t : ℕ) → HoldsDefined s r → r ≡ row.Tuple ts → slice_get ts i ≡ Some t →
    IsDefined s t
held_component s r ts i t h e k = held s r (row.Tuple ts) t h e (one_of ts i t k)

pub only_of : (t i : ℕ) → Contains (t ∷ []) i → t ≡ i
only_of t i (zero, l, e) = e
only_of t i (suc k, l, e) = absurd (omega arith)
