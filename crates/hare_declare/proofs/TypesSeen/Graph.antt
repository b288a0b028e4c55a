-- The graph in which declarations lead to those that name them, and what a label tells that spreads in it.
use Rattle.std.proofs.Common.{◌≡◌, ◌⊎◌, inl, inr, ℕ, ◌+◌, ◌<◌, ◌≤◌, List, length, replicate, Option, Some, None, refl, sym, ap, ◌∙◌, subst, arith}
use Rattle.std.specs.Prelude.{slice_get, option_and_then}
use Rattle.std.proofs.lemmas.Option.{slice_get_within}
use Rattle.std.proofs.lemmas.List.{length-replicate}
use Rattle.hare_graph.specs.Graphs.{Graph, HasEdge, Reached, at_start, along, edgeless, label_of, IsLabelled, Spreads}
use Rattle.hare_graph.proofs.Elements.{Other, other}
use Rattle.hare_graph.proofs.EdgeLemmas.{length-with_edge, edge-kept, edge-new, edge-from, no-edges}
use Rattle.hare_graph.proofs.ReachLemmas.{label_of-replicate}
use Rattle.hare_declare.specs.declared.outline.SizeSeen.{SizeSeen}
use Rattle.hare_declare.specs.declared.outline.SizeSeen.TheVariants as seen
use Rattle.hare_declare.specs.declared.outline.Outline.{Outline}
use Rattle.hare_declare.specs.Lacking.{Sees, Lacks, itself, by_name, AreWithin, TellsLacking, source_of, with_source, source_at, IsGraphBelow}

-- ---- sources

source_at-there : (os : List Outline) (n : ℕ) (o : Outline) → slice_get os n ≡ Some o → source_at os n ≡ source_of (length os) o.size
source_at-there os n o e = ap (option_and_then (λ p. source_of (length os) p.size)) e

-- a source is the last node, or a declaration that is named
source-cases : (os : List Outline) (n a : ℕ) → source_at os n ≡ Some a
    → (Sees os n seen.Lacks × (a ≡ length os)) ⊎ Sees os n (seen.ThatOf a)
source-cases os n a = of (slice_get os n) refl
  where
    by : (o : Outline) → slice_get os n ≡ Some o → (z : SizeSeen) → o.size ≡ z → source_of (length os) z ≡ Some a
        → (Sees os n seen.Lacks × (a ≡ length os)) ⊎ Sees os n (seen.ThatOf a)
    by o e seen.Has z q = absurd cc
    by o e seen.Lacks z q = inl ((o, e, z), cc)
    by o e (seen.ThatOf m) z q = let same : m ≡ a = cc in inr (o, e, z ∙ ap seen.ThatOf same)

    of : (o : Option Outline) → slice_get os n ≡ o → option_and_then (λ p. source_of (length os) p.size) o ≡ Some a
        → (Sees os n seen.Lacks × (a ≡ length os)) ⊎ Sees os n (seen.ThatOf a)
    of None e q = absurd cc
    of (Some o) e q = by o e o.size refl q

source-itself : (os : List Outline) (n : ℕ) → Sees os n seen.Lacks → source_at os n ≡ Some (length os)
source-itself os n z = source_at-there os n z.0 z.1 ∙ ap (source_of (length os)) z.2

source-named : (os : List Outline) (n m : ℕ) → Sees os n (seen.ThatOf m) → source_at os n ≡ Some m
source-named os n m z = source_at-there os n z.0 z.1 ∙ ap (source_of (length os)) z.2

-- ---- declaration by declaration

pub none-below : (os : List Outline) (g : Graph) → g ≡ edgeless (length os + 1) → IsGraphBelow os 0 g
none-below os g e = subst (IsGraphBelow os 0) (sym e) (record {
  size = length-replicate (length os + 1) _ ∙ omega arith;
  only = λ a b h. absurd (no-edges (length os + 1) a b h);
  all = λ a b l q w. absurd (omega arith);
})

-- one declaration more stands in the graph
pub one-more : (os : List Outline) (n : ℕ) (o : Outline) (z : SizeSeen) (g h : Graph) → slice_get os n ≡ Some o → z ≡ o.size
    → h ≡ with_source g n (source_of (length os) z) → IsGraphBelow os n g → IsGraphBelow os (n + 1) h
one-more os n o z g h e y w below =
    subst (IsGraphBelow os (n + 1)) (sym w) (by (source_of (length os) z) (source_at-there os n o e ∙ ap (source_of (length os)) (sym y)))
  where
    new-or-old : (a b : ℕ) (c : ℕ) → source_at os n ≡ Some c → HasEdge g a b ⊎ ((a ≡ c) × (b ≡ n)) → (b < n + 1) × (source_at os b ≡ Some a)
    new-or-old a b c s (inl k) = let f = below.only a b k in (omega (arith, f.0), f.1)
    new-or-old a b c s (inr k) = (omega (arith, k.1), ap (source_at os) k.1 ∙ s ∙ ap Some (sym k.0))

    last-or-before : (a b : ℕ) (c : ℕ) → source_at os n ≡ Some c → source_at os b ≡ Some a → a < length (with_source g n (Some c))
        → (b < n) ⊎ (b ≡ n) → HasEdge (with_source g n (Some c)) a b
    last-or-before a b c s q l (inl k) =
        let size : length (with_source g n (Some c)) ≡ length g = length-with_edge g c n in
        edge-kept g c n a b (below.all a b k q (omega arith))
    last-or-before a b c s q l (inr k) =
        let size : length (with_source g n (Some c)) ≡ length g = length-with_edge g c n in
        let at : source_at os b ≡ source_at os n = ap (source_at os) k in
        let same : c ≡ a = cc in
        subst (λ x. HasEdge (with_source g n (Some c)) a x) (sym k)
        (subst (λ x. HasEdge (with_source g n (Some c)) x n) same (edge-new g c n (omega (arith, same))))

    before-or-here : (b : ℕ) → b < n + 1 → (b < n) ⊎ (b ≡ n)
    before-or-here b l = cases (other b n)
      where
        cases : Other b n → (b < n) ⊎ (b ≡ n)
        cases (inl e) = inr e
        cases (inr e) = inl (omega (arith, e))

    by : (s : Option ℕ) → source_at os n ≡ s → IsGraphBelow os (n + 1) (with_source g n s)
    by None s = record {
      size = below.size;
      only = λ a b k. let f = below.only a b k in (omega (arith, f.0), f.1);
      all = λ a b l q v. none-or-before a b q v (before-or-here b l);
    }
      where
        none-or-before : (a b : ℕ) → source_at os b ≡ Some a → a < length g → (b < n) ⊎ (b ≡ n) → HasEdge g a b
        none-or-before a b q v (inl k) = below.all a b k q v
        none-or-before a b q v (inr k) = let at : source_at os b ≡ source_at os n = ap (source_at os) k in absurd cc
    by (Some c) s = record {
      size = length-with_edge g c n ∙ below.size;
      only = λ a b k. new-or-old a b c s (edge-from g c n a b k);
      all = λ a b l q v. last-or-before a b c s q v (before-or-here b l);
    }

-- all declarations stand in the graph
pub all-below : (os : List Outline) (n : ℕ) (g : Graph) → length os ≤ n → n ≤ length os → IsGraphBelow os n g
    → IsGraphBelow os (length os) g
all-below os n g k l below = let same : n ≡ length os = omega arith in subst (λ m. IsGraphBelow os m g) same below

-- ---- what the label tells

module _ (os : List Outline) (g : Graph) (within : AreWithin os) (is : IsGraphBelow os (length os) g) where
  lacks-reached : {b : ℕ} → Reached g (length os) b → (b ≡ length os) ⊎ Lacks os b
  lacks-reached at_start = inl refl
  lacks-reached (along a b r e) = inr (by (lacks-reached r) (source-cases os b a (is.only a b e).1))
    where
      by : (a ≡ length os) ⊎ Lacks os a → (Sees os b seen.Lacks × (a ≡ length os)) ⊎ Sees os b (seen.ThatOf a) → Lacks os b
      by x (inl z) = itself b z.0
      by (inl x) (inr z) = let l : a < length os = within b a z in absurd (omega arith)
      by (inr x) (inr z) = by_name b a z x

  pub tells : (old new : List (Option ℕ)) → old ≡ replicate (length os + 1) None → Spreads g (length os) 0 old new → TellsLacking os new
  tells old new free s n l = (λ h. labelled h, λ h. label n h)
    where
      none-old : (a : ℕ) → label_of old a ≡ None
      none-old a = ap (λ ls. label_of ls a) free ∙ label_of-replicate (length os + 1) a

      size-old : length old ≡ length os + 1
      size-old = ap length free ∙ length-replicate (length os + 1) None

      labelled : IsLabelled new n → Lacks os n
      labelled h = by (s.fresh n h.0 h.1)
        where
          past : (n ≡ length os) ⊎ Lacks os n → Lacks os n
          past (inl e) = absurd (omega arith)
          past (inr k) = k

          by : (label_of old n ≡ Some h.0) ⊎ ((label_of old n ≡ None) × (h.0 ≡ 0) × Reached g (length os) n) → Lacks os n
          by (inl e) = let f : label_of old n ≡ None = none-old n in absurd cc
          by (inr k) = past (lacks-reached k.2)

      label : (m : ℕ) → Lacks os m → IsLabelled new m
      label m (itself _ z) =
          let k : m < length os = slice_get_within os m z.0 z.1 in
          s.closed (length os) m (none-old (length os)) (s.started (omega (arith, size-old)))
          (is.all (length os) m k (source-itself os m z) (omega (arith, is.size))) (omega (arith, size-old))
      label m (by_name _ a z h) =
          let k : m < length os = slice_get_within os m z.0 z.1 in
          let j : a < length os = within m a z in
          s.closed a m (none-old a) (label a h) (is.all a m k (source-named os m a z) (omega (arith, is.size))) (omega (arith, size-old))
