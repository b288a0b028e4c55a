-- Ranks, made by labels that spread over the edges the other way round.
use Rattle.std.proofs.Common.{◌≡◌, ◌⊎◌, inl, inr, ℕ, ◌+◌, ◌<◌, ◌≤◌, List, [], ◌∷◌, true, length, replicate, Option, Some, None, refl, sym, ap, ◌∙◌, suc, zero, arith}
use Rattle.std.proofs.lemmas.Bool.{ltb-true}
use Rattle.std.proofs.lemmas.List.{length-replicate}
use Rattle.hare_graph.specs.Graphs.{Graph, HasEdge, Reached, at_start, along, label_of, IsLabelled, Spreads}
use Rattle.hare_graph.specs.Ranks.{AreRanks, IsReverse, is_higher, leads_up}
use Rattle.hare_graph.proofs.Elements.{Contains-none}
use Rattle.hare_graph.proofs.ReachLemmas.{label_of-replicate}

-- the ranks so far, all below a number
pub record Ranking (g : Graph) (rs : List (Option ℕ)) (n : ℕ) : Type 0 where
  pub size : length rs ≡ length g
  pub low : (a l : ℕ) → label_of rs a ≡ Some l → l < n
  pub ranks : AreRanks g rs

pub ranking-start : (g : Graph) (rs : List (Option ℕ)) → rs ≡ replicate (length g) None → Ranking g rs 0
ranking-start g rs e = record {
  size = ap length e ∙ length-replicate (length g) None;
  low = λ a l h. absurd (none a l h);
  ranks = λ a b j h k. absurd (none b j k);
}
  where
    none : (a l : ℕ) → label_of rs a ≡ Some l → ⊥
    none a l h = let n : label_of rs a ≡ None = ap (λ ls. label_of ls a) e ∙ label_of-replicate (length g) a in cc

has-edge-within : (g : Graph) (a b : ℕ) → HasEdge g a b → a < length g
has-edge-within [] a b h = absurd (Contains-none b h)
has-edge-within (ns ∷ g) zero b h = omega arith
has-edge-within (ns ∷ g) (suc a) b h = let l : a < length g = has-edge-within g a b h in omega arith

-- a label that spreads over the reversed edges is a rank more
module _ (g h : Graph) (start n : ℕ) (old new : List (Option ℕ)) (r : IsReverse g h) (s : Spreads h start n old new) (t : Ranking g old n)
  where
    low-by : (a l : ℕ) → (label_of old a ≡ Some l) ⊎ ((label_of old a ≡ None) × (l ≡ n) × Reached h start a) → l < n + 1
    low-by a l (inl e) = let k : l < n = t.low a l e in omega arith
    low-by a l (inr e) = let k : l ≡ n = e.1 in omega arith

    not-higher : (a j : ℕ) → j ≡ n → IsLabelled new a → (i : ℕ) × (label_of new a ≡ Some i) × (i ≤ j)
    not-higher a j e l = let k : l.0 < n + 1 = low-by a l.0 (s.fresh a l.0 l.1) in (l.0, l.1, omega arith)

    ranks-by : (a b j : ℕ) → HasEdge g a b → IsLabelled new b →
        (label_of old b ≡ Some j) ⊎ ((label_of old b ≡ None) × (j ≡ n) × Reached h start b) → (i : ℕ) × (label_of new a ≡ Some i) × (i ≤ j)
    ranks-by a b j e l (inl k) = let x = t.ranks a b j e k in (x.0, s.kept a x.0 x.1, x.2)
    ranks-by a b j e l (inr k) =
        let m : a < length g = has-edge-within g a b e in
        let w : a < length old = omega (arith, t.size) in
        not-higher a j k.1 (s.closed b a k.0 l (r.back a b e) w)

    pub ranking-on : Ranking g new (n + 1)
    ranking-on = record {
      size = s.size ∙ t.size;
      low = λ a l e. low-by a l (s.fresh a l e);
      ranks = λ a b j e k. ranks-by a b j e (j, k) (s.fresh b j k);
    }

module _ (g : Graph) (rs : List (Option ℕ)) (ranks : AreRanks g rs) (start j : ℕ) (rank : label_of rs start ≡ Some j) where
  -- what is reached has no lower rank
  reached-rank : {b : ℕ} (i : ℕ) → Reached g start b → label_of rs b ≡ Some i → j ≤ i
  reached-rank i at_start e = let h : Some j ≡ Some i = sym rank ∙ e in let k : j ≡ i = cc in omega arith
  reached-rank i (along a b r h) e = let x = ranks a b i h e in let k : j ≤ x.0 = reached-rank x.0 r x.1 in omega (arith, x.2)

pub no-way-up : (g : Graph) (rs : List (Option ℕ)) (from to : ℕ) → AreRanks g rs → leads_up rs from to ≡ true → Reached g to from → ⊥
no-way-up g rs from to ranks e r = by (label_of rs from) (label_of rs to) refl refl e
  where
    by : (o p : Option ℕ) → label_of rs from ≡ o → label_of rs to ≡ p → is_higher o p ≡ true → ⊥
    by None p eo ep h = absurd cc
    by (Some i) None eo ep h = absurd cc
    by (Some i) (Some j) eo ep h = let l : i < j = ltb-true i j h in let k : j ≤ i = reached-rank g rs ranks to j ep i r eo in omega arith
