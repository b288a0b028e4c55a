-- A number is that of one string of a tree.
use Rattle.std.proofs.Common.{◌≡◌, ◌∙◌, sym, ℕ, suc, ◌<◌, ◌≤◌, arith, inl, inr, List}
use Rattle.hare_typed.specs.Typed.{TypedNode, TypedNodes, marked, typed_none, typed_more}
use Rattle.hare_typed.specs.Numbers.{number_of}
use Rattle.hare_constancy.specs.Coherent.{HasString, HaveString}
use Rattle.hare_constancy.proofs.Well.Numbers.{IsRanged, AreRanged, ranged-le, ranged_each-le}

mutual
  string_within : (n : ℕ) (x : List ℕ) (lo : ℕ) (t : TypedNode) → IsRanged lo t → HasString n x t → (lo ≤ n) × (n ≤ number_of t)
  string_within n x lo (marked h m ts) r (inl s) =
      let p = ranged_each-le lo m.node ts r in
      let e = s.1 in
      (omega (arith, p, e), omega (arith, e))
  string_within n x lo (marked h m ts) r (inr s) =
      let p = strings_within n x lo m.node ts r s in
      (p.0, (let l = p.1 in omega (arith, l)))

  strings_within : (n : ℕ) (x : List ℕ) (lo hi : ℕ) (ts : TypedNodes) → AreRanged lo hi ts → HaveString n x ts → (lo ≤ n) × (n < hi)
  strings_within n x lo hi typed_none r s = absurd s
  strings_within n x lo hi (typed_more t ts) r (inl s) =
      let p = string_within n x lo t r.0 s in
      let q = ranged_each-le (suc (number_of t)) hi ts r.1 in
      (p.0, (let l = p.1 in omega (arith, l, q)))
  strings_within n x lo hi (typed_more t ts) r (inr s) =
      let p = strings_within n x (suc (number_of t)) hi ts r.1 s in
      let q = ranged-le lo t r.0 in
      ((let l = p.0 in omega (arith, l, q)), p.1)

mutual
  pub one_string : (n : ℕ) (x y : List ℕ) (lo : ℕ) (t : TypedNode) → IsRanged lo t → HasString n x t → HasString n y t → x ≡ y
  one_string n x y lo (marked h m ts) r (inl s) (inl u) = sym s.2 ∙ u.2
  one_string n x y lo (marked h m ts) r (inl s) (inr u) =
      let l = (strings_within n y lo m.node ts r u).1 in
      let e = s.1 in
      absurd (omega (arith, l, e))
  one_string n x y lo (marked h m ts) r (inr s) (inl u) =
      let l = (strings_within n x lo m.node ts r s).1 in
      let e = u.1 in
      absurd (omega (arith, l, e))
  one_string n x y lo (marked h m ts) r (inr s) (inr u) = one_string_each n x y lo m.node ts r s u

  one_string_each : (n : ℕ) (x y : List ℕ) (lo hi : ℕ) (ts : TypedNodes) → AreRanged lo hi ts → HaveString n x ts → HaveString n y ts →
      x ≡ y
  one_string_each n x y lo hi typed_none r s u = absurd s
  one_string_each n x y lo hi (typed_more t ts) r (inl s) (inl u) = one_string n x y lo t r.0 s u
  one_string_each n x y lo hi (typed_more t ts) r (inl s) (inr u) =
      let l = (string_within n x lo t r.0 s).1 in
      let g = (strings_within n y (suc (number_of t)) hi ts r.1 u).0 in
      absurd (omega (arith, l, g))
  one_string_each n x y lo hi (typed_more t ts) r (inr s) (inl u) =
      let l = (string_within n y lo t r.0 u).1 in
      let g = (strings_within n x (suc (number_of t)) hi ts r.1 s).0 in
      absurd (omega (arith, l, g))
  one_string_each n x y lo hi (typed_more t ts) r (inr s) (inr u) = one_string_each n x y (suc (number_of t)) hi ts r.1 s u

-- its number is no greater than that of the tree
pub string_below : (n : ℕ) (x : List ℕ) (lo : ℕ) (t : TypedNode) → IsRanged lo t → HasString n x t → n ≤ number_of t
string_below n x lo t r s = (string_within n x lo t r s).1
