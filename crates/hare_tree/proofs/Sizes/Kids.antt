-- A kid is smaller than the list that it stands in.
use Rattle.std.proofs.Common.{◌≡◌, ℕ, zero, suc, ◌<◌, List, [], ◌∷◌, length, get_or, Option, Some, None, Bor, sym, ltb-true, arith}
use Rattle.std.specs.Prelude.{slice_get, is_some, nat_lt, IfSome}
use Rattle.hare_tree.specs.Node.{Node, nodes_of, size_of, sizes_of}

pub kid_size : (ts : List Node) (i : ℕ) (x : Node) → slice_get ts i ≡ Some x → size_of x < sizes_of (nodes_of ts)
kid_size [] i x e = cc
kid_size (t ∷ ts) zero x e = let h : t ≡ x = cc in rw (← h) (omega arith)
kid_size (t ∷ ts) (suc i) x e = omega (arith, kid_size ts i x e)

kid_within : (ts : List Node) (i : ℕ) (x : Node) → i < length ts → x ≡ get_or ts i x → size_of x < sizes_of (nodes_of ts)
kid_within [] i x h e = absurd (omega arith)
kid_within (t ∷ ts) zero x h e = let f : t ≡ x = sym e in rw (← f) (omega arith)
kid_within (t ∷ ts) (suc i) x h e = omega (arith, kid_within ts i x (omega arith) e)

pub kid_smaller : (ts : List Node) (i : ℕ) (r : Option (Bor Node)) → is_some r ≡ nat_lt i (length ts) →
    IfSome r (λ t. t.now ≡ get_or ts i t.now) →
    IfSome r (λ t. size_of t.now < sizes_of (nodes_of ts))
kid_smaller ts i (Some x) h e = kid_within ts i x.now (ltb-true _ _ (sym h)) e
kid_smaller ts i None h e = tt
