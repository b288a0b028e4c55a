-- How high kids are at the most, as they are put behind others and taken out.
use Rattle.std.proofs.Common.{◌≡◌, ℕ, ◌+◌, ◌<◌, ◌≤◌, List, [], ◌∷◌, ◌++◌, Bool, true, false, refl, arith, if◌then◌else◌}
use Rattle.std.specs.Prelude.{max}
use Rattle.hare_tree.specs.declared.kind.Kind.{Kind}
use Rattle.hare_tree.specs.Node.{Head, Node, branch, none, nodes_of}
use Rattle.hare_tree.specs.Depth.{height, greatest_height, counted, is_node}
use Rattle.hare_automaton.specs.Engine.{last_kid, but_last}
use Rattle.hare_parse.specs.Heights.{IsBound}

-- the greatest height of the trees of a list
abbrev pub high : List Node → ℕ
high ts = greatest_height (nodes_of ts)

-- ---- heights

pub high_append : (ts us : List Node) → high (ts ++ us) ≡ max (high ts) (high us)
unfolding height
high_append [] us = omega arith
high_append (t ∷ ts) us = omega (arith, high_append ts us)

high_one : (t : Node) → high (t ∷ []) ≡ height t
unfolding height
high_one t = omega arith

high_last : (ts : List Node) → high (last_kid ts) ≤ high ts
unfolding height
high_last [] = omega arith
high_last (t ∷ []) = omega arith
high_last (t ∷ u ∷ us) = omega (arith, high_last (u ∷ us))

high_but_last : (ts : List Node) → high (but_last ts) ≤ high ts
unfolding height
high_but_last [] = omega arith
high_but_last (t ∷ []) = omega arith
high_but_last (t ∷ u ∷ us) = omega (arith, high_but_last (u ∷ us))

last_append : (ts : List Node) (t : Node) → last_kid (ts ++ t ∷ []) ≡ t ∷ []
last_append [] t = refl
last_append (u ∷ []) t = refl
last_append (u ∷ v ∷ vs) t = last_append (v ∷ vs) t

-- ---- bounds

bound_above : (b g h : ℕ) → IsBound b g → h ≤ g → IsBound b h
bound_above b g h i le = record { up_to = λ k. omega (arith, i.up_to k, le) }

pub bound_none : (b : ℕ) → IsBound b (high [])
unfolding height
bound_none b = record { up_to = λ k. omega arith }

pub bound_append : (b d : ℕ) (ts us : List Node) → IsBound b (high ts) → IsBound d (high us) → IsBound (max b d) (high (ts ++ us))
bound_append b d ts us i j =
    record { up_to = λ k. omega (arith, k, i.up_to (omega (arith, k)), j.up_to (omega (arith, k)), high_append ts us) }

pub bound_append_last : (b d : ℕ) (ts us : List Node) → IsBound b (high ts) → IsBound d (high us) →
    IsBound (max b d) (high (last_kid (ts ++ us)))
bound_append_last b d ts us i j = bound_above (max b d) (high (ts ++ us)) _ (bound_append b d ts us i j) (high_last (ts ++ us))

pub bound_add : (b d : ℕ) (ts : List Node) (t : Node) → IsBound b (high ts) → IsBound d (height t) → IsBound (max b d) (high (ts ++ t ∷ []))
bound_add b d ts t i j = bound_append b d ts (t ∷ []) i (rw (high_one t) j)

pub bound_add_last : (d : ℕ) (ts : List Node) (t : Node) → IsBound d (height t) → IsBound d (high (last_kid (ts ++ t ∷ [])))
bound_add_last d ts t j = rw (last_append ts t, high_one t) j

pub bound_rest : (b : ℕ) (ts : List Node) → IsBound b (high ts) → IsBound b (high (but_last ts))
bound_rest b ts i = bound_above b (high ts) _ i (high_but_last ts)

pub bound_rest_last : (b : ℕ) (ts : List Node) → IsBound b (high ts) → IsBound b (high (last_kid (but_last ts)))
bound_rest_last b ts i = bound_above b (high (but_last ts)) _ (bound_rest b ts i) (high_last (but_last ts))

pub bound_last : (b : ℕ) (ts : List Node) → IsBound b (high (last_kid ts)) → IsBound b (high (last_kid (last_kid ts)))
bound_last b ts i = bound_above b (high (last_kid ts)) _ i (high_last (last_kid ts))

-- ---- trees

pub bound_counted : (k : Kind) (h b : ℕ) → is_node k ≡ true → b < 257 → IsBound b h → IsBound (b + 1) (counted k + h)
bound_counted k h b e le i = record { up_to = λ m. let c : counted k ≡ 1 = rw e refl in omega (arith, c, i.up_to (omega (arith, m)), m) }

pub bound_full : (k : Kind) (h b : ℕ) → 257 ≤ b → IsBound b (counted k + h)
bound_full k h b le = record { up_to = λ m. absurd (omega (arith, m, le)) }

pub bound_uncounted : (k : Kind) (h b : ℕ) → is_node k ≡ false → IsBound b h → IsBound b (counted k + h)
bound_uncounted k h b e i = record { up_to = λ m. let c : counted k ≡ 0 = rw e refl in omega (arith, c, i.up_to m) }

pub height_branch : (h : Head) (ts : List Node) → height (branch h (nodes_of ts)) ≡ counted h.kind + high ts
unfolding height
height_branch h ts = refl

pub bound_leaf : (h : Head) → height (branch h none) ≤ 1
unfolding height
bound_leaf h = by (is_node h.kind)
  where
    by : (b : Bool) → (if b then 1 else 0) + 0 ≤ 1
    by true = omega arith
    by false = omega arith

pub bound_one : (h : ℕ) → h ≤ 1 → IsBound 1 h
bound_one h le = record { up_to = λ k. le }
