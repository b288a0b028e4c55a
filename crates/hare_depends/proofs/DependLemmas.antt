-- What is reached from the fourth node of a declaration are those on which it depends.
use Rattle.std.proofs.Common.{◌≡◌, ℕ, ◌+◌, ◌<◌, ◌≤◌, List, [], ◌∷◌, ◌⊎◌, inl, inr, Bool, true, false, length, fold, map, nat_lt, refl, sym, ap, ◌∙◌, subst, arith}
use Rattle.std.specs.Prelude.{Contains}
use Rattle.std.proofs.lemmas.Bool.{ltb-true, ltb-false, lt-ltb, le-ltb}
use Rattle.std.proofs.lemmas.List.{length-replicate}
use Rattle.hare_graph.specs.Graphs.{Graph, HasEdge, Reached, at_start, along, edgeless}
use Rattle.hare_graph.specs.Ranks.{StaysWithin}
use Rattle.hare_graph.proofs.Elements.{Contains-none, Contains-cases, Contains-here, Contains-behind}
use Rattle.hare_graph.proofs.EdgeLemmas.{Both, no-edges, start-both}
use Rattle.hare_depends.specs.declared.said.Said.{Said}
use Rattle.hare_depends.specs.declared.said.Sort.{Sort}
use Rattle.hare_depends.specs.declared.said.Sort.TheVariants as so
use Rattle.hare_depends.specs.declared.edges.Edge.{Edge}
use Rattle.hare_depends.specs.Sorts.{is_type, is_global}
use Rattle.hare_depends.specs.Dependence.{is_at, numbers_at, through, needed_by, needs, types_named, Mentions, by_name, within, DependsOn, needed, mentioned}
use Rattle.hare_depends.specs.Circles.{AreWithin, AllWithin}
use Rattle.hare_depends.specs.Edges.{edge, mention, written, edges_of, nodes, with_forward, with_backward}
use Rattle.hare_depends.specs.Search.{source, start_of, with_start, at_once, IsDependence}
use Rattle.hare_depends.proofs.ListLemmas.{SomeOf, some-behind, Contains-there, there-within, filter-from, flat_map-from}
use Rattle.hare_depends.proofs.EdgeLemmas.{IsEdge, edges-only, edges-all, LiesWithin, edge-within, folded-both, folded-from, folded-has}
use Rattle.hare_depends.proofs.LeadLemmas.{number-said, sort-said, through-from, Holds, first-step, next-step, Begins, depends-reached, onward-reach}
use Rattle.hare_depends.proofs.FindLemmas.{depends-there}

-- ---- edges that begin elsewhere

abbrev begun : ℕ → Edge → Edge
begun n e = edge (start_of n e.from) e.to

begun-graph : (n : ℕ) (es : List Edge) (g : Graph) → fold (with_start n) g es ≡ fold with_forward g (map (begun n) es)
begun-graph n [] g = refl
begun-graph n (e ∷ es) g = begun-graph n es (with_start n g e)

map-from : {A B : Type 0} (f : A → B) (xs : List A) (y : B) → Contains (map f xs) y → SomeOf (λ x. f x ≡ y) xs
map-from f [] y c = absurd (Contains-none y c)
map-from {A} {B} f (x ∷ xs) y c = by (λ d. map-from f xs y d) (Contains-cases (f x) y (map f xs) c)
  where
    by : (Contains (map f xs) y → SomeOf (λ z. f z ≡ y) xs) → (f x ≡ y) ⊎ Contains (map f xs) y → SomeOf (λ z. f z ≡ y) (x ∷ xs)
    by r (inl e) = (x, Contains-here x xs, e)
    by r (inr d) = some-behind (λ z. f z ≡ y) x xs (r d)

Contains-mapped : {A B : Type 0} (f : A → B) (xs : List A) (x : A) → Contains xs x → Contains (map f xs) (f x)
Contains-mapped f [] x c = absurd (Contains-none x c)
Contains-mapped {A} {B} f (z ∷ zs) x c = by (λ d. Contains-mapped f zs x d) (Contains-cases z x zs c)
  where
    by : (Contains zs x → Contains (map f zs) (f x)) → (z ≡ x) ⊎ Contains zs x → Contains (map f (z ∷ zs)) (f x)
    by r (inl e) = subst (λ y. Contains (map f (z ∷ zs)) (f y)) e (Contains-here (f z) (map f zs))
    by r (inr d) = Contains-behind (f z) (f x) (map f zs) (r d)

-- where edges begin
abbrev Start : ℕ → ℕ → Type 0
Start n a = ((a < n) × (start_of n a ≡ source n a)) ⊎ ((n ≤ a) × (start_of n a ≡ a))

start-cases : (n a : ℕ) → Start n a
start-cases n a = by (nat_lt a n) refl
  where
    by : (b : Bool) → nat_lt a n ≡ b → Start n a
    by true e = inl (ltb-true a n e, rw e refl)
    by false e = inr (ltb-false a n e, rw e refl)

start-low : (n a : ℕ) → a < n → start_of n a ≡ source n a
start-low n a l = let e : nat_lt a n ≡ true = lt-ltb a n l in rw e refl

start-high : (n a : ℕ) → n ≤ a → start_of n a ≡ a
start-high n a l = let e : nat_lt a n ≡ false = le-ltb a n l in rw e refl

module _ (ds : List Said) (w : AllWithin ds) where
  abbrev n : ℕ
  n = length ds

  abbrev graph : Graph
  graph = at_once n (edges_of ds)

  abbrev moved : List Edge
  moved = map (begun n) (edges_of ds)

  is-moved : graph ≡ fold with_forward (edgeless (source n n)) moved
  is-moved = begun-graph n (edges_of ds) (edgeless (source n n))

  begun-within : (x : Edge) → IsEdge ds x → LiesWithin (source n n) (begun n x)
  begun-within x h = by (start-cases n x.from) (edge-within ds w x h)
    where
      by : Start n x.from → LiesWithin (nodes ds) x → LiesWithin (source n n) (begun n x)
      by (inl s) l = let q : start_of n x.from ≡ source n x.from = s.1 in (omega (arith, s.0, q), omega (arith, l.1))
      by (inr s) l = let q : start_of n x.from ≡ x.from = s.1 in (omega (arith, l.0, q), omega (arith, l.1))

  moved-within : (y : Edge) → Contains moved y → LiesWithin (source n n) y
  moved-within y c =
      let s = map-from (begun n) (edges_of ds) y c in
      subst (LiesWithin (source n n)) s.2 (begun-within s.0 (edges-only ds s.0 s.1))

  both : Both (source n n) (fold with_forward (edgeless (source n n)) moved) (fold with_backward (edgeless (source n n)) moved)
  both = folded-both (source n n) moved (edgeless (source n n)) (edgeless (source n n)) moved-within (start-both (source n n))

  -- an edge of the graph
  record Begun (a b : ℕ) : Type 0 where
    at : ℕ
    is_edge : IsEdge ds (edge at b)
    start : start_of n at ≡ a

  begun-from : (a b : ℕ) → HasEdge graph a b → Begun a b
  begun-from a b h = by (folded-from moved (edgeless (source n n)) a b (subst (λ g. HasEdge g a b) is-moved h))
    where
      of : SomeOf (λ x. begun n x ≡ edge a b) (edges_of ds) → Begun a b
      of s =
          let t : s.0.to ≡ b = ap (λ (x : Edge). x.to) s.2 in
          let h : IsEdge ds (edge s.0.from s.0.to) = edges-only ds s.0 s.1 in
          record { at = s.0.from; is_edge = subst (λ y. IsEdge ds (edge s.0.from y)) t h; start = ap (λ (x : Edge). x.from) s.2 }

      by : HasEdge (edgeless (source n n)) a b ⊎ Contains moved (edge a b) → Begun a b
      by (inl e) = absurd (no-edges (source n n) a b e)
      by (inr c) = of (map-from (begun n) (edges_of ds) (edge a b) c)

  begins : Begins ds graph (start_of n)
  begins = record {
    all = λ a b h. subst (λ g. HasEdge g (start_of n a) b) (sym is-moved) (has a b h);
    mentions = λ d. start-high n (mention n d) (omega arith);
    names = λ d. start-high n (written n d) (omega arith);
  }
    where
      has : (a b : ℕ) → IsEdge ds (edge a b) → HasEdge (fold with_forward (edgeless (source n n)) moved) (start_of n a) b
      has a b h =
          let l : start_of n a < source n n = (begun-within (edge a b) h).0 in
          folded-has moved (edgeless (source n n)) (edge (start_of n a) b) (omega (arith, l, length-replicate {A = List ℕ} (source n n) []))
          (Contains-mapped (begun n) (edges_of ds) (edge a b) (edges-all ds (edge a b) h))

  -- from the fourth node of a declaration
  begun-source : (d b : ℕ) → d < n → Begun (source n d) b → IsEdge ds (edge d b)
  begun-source d b l x = by (start-cases n x.at)
    where
      below : x.at < nodes ds
      below = (edge-within ds w (edge x.at b) x.is_edge).0

      by : Start n x.at → IsEdge ds (edge d b)
      by (inl s) =
          let q : source n x.at ≡ source n d = sym s.1 ∙ x.start in
          let r : x.at ≡ d = omega (arith, q) in subst (λ y. IsEdge ds (edge y b)) r x.is_edge
      by (inr s) = let q : x.at ≡ source n d = sym s.1 ∙ x.start in absurd (omega (arith, q, below))

  -- from another node
  begun-other : (a b : ℕ) → a < nodes ds → Begun a b → (n ≤ a) × IsEdge ds (edge a b)
  begun-other a b l x = by (start-cases n x.at)
    where
      by : Start n x.at → (n ≤ a) × IsEdge ds (edge a b)
      by (inl s) = let q : source n x.at ≡ a = sym s.1 ∙ x.start in absurd (omega (arith, q, l))
      by (inr s) = let q : x.at ≡ a = sym s.1 ∙ x.start in (omega (arith, s.0, q), subst (λ y. IsEdge ds (edge y b)) q x.is_edge)

  module _ (d : ℕ) (there : d < n) where
    -- what holds of each node that is reached
    abbrev IsReached : ℕ → Type 0
    IsReached y = (y ≡ source n d) ⊎ ((y < nodes ds) × Holds ds (DependsOn ds d) y)

    onto : (a b : ℕ) → IsReached a → Begun a b → IsReached b
    onto a b (inl q) x =
        let h : IsEdge ds (edge d b) = begun-source d b there (subst (λ z. Begun z b) q x) in
        inr ((edge-within ds w (edge d b) h).1, first-step ds w (DependsOn ds d) d b there (λ f k. k) h)
    onto a b (inr p) x =
        let h = begun-other a b p.0 x in
        inr ((edge-within ds w (edge a b) h.1).1, next-step ds w (DependsOn ds d) a b (λ l. absurd (omega (arith, l, h.0))) p.1 h.1)

    reached-is : {y : ℕ} → Reached graph (source n d) y → IsReached y
    reached-is at_start = inl refl
    reached-is (along a b r h) = onto a b (reached-is r) (begun-from a b h)

    reached-depends : (e : ℕ) → e < n → Reached graph (source n d) e → DependsOn ds d e
    reached-depends e l r = by (reached-is r)
      where
        by : IsReached e → DependsOn ds d e
        by (inl q) = absurd (omega (arith, q, l))
        by (inr p) = p.1.itself l

  -- ---- what a declaration depends on is a declaration

  said-within : (f : Said → List ℕ) (d e : ℕ) → ((s : Said) → AreWithin n s → Contains (f s) e → e < n) → Contains (numbers_at f ds d) e →
      e < n
  said-within f d e h c = let x = number-said ds f d e c in h x.0 (w x.0 (Contains-there ds d x.0 x.1)) x.2

  through-within : (g e : ℕ) → g < n → ((is_at is_global ds g ≡ true) × Contains (numbers_at (λ s. s.written) ds g) e) ⊎
      ((is_at is_global ds g ≡ false) × (g ≡ e)) → e < n
  through-within g e l (inl c) = said-within (λ s. s.written) g e (λ s h k. h.written e k) c.1
  through-within g e l (inr q) = subst (λ x. x < n) q.1 l

  needs-within : (d e : ℕ) → Contains (needs ds d) e → e < n
  needs-within d e c = said-within (λ z. needed_by ds z.sort z) d e (λ s l. by s l s.sort) c
    where
      by : (s : Said) → AreWithin n s → (k : Sort) → Contains (needed_by ds k s) e → e < n
      by s l so.Type c = l.needed e c
      by s l so.Function c = l.needed e c
      by s l so.Constant c = l.named e c
      by s l so.Global c =
          let x = flat_map-from (through ds) s.named e c in through-within x.0 e (l.named x.0 x.1) (through-from ds x.0 e x.2)

  named-within : (d t : ℕ) → Contains (types_named ds d) t → t < n
  named-within d t c =
      let x = filter-from (is_at is_type ds) (numbers_at (λ z. z.named) ds d) t c in
      let y = sort-said ds is_type t x.1 in there-within ds t y.0 y.1

  mentions-within : (d t : ℕ) → Mentions ds d t → t < n
  mentions-within d t (by_name u c) = named-within d t c
  mentions-within d t (within u v m c) = named-within u t c

  depends-within : (d e : ℕ) → DependsOn ds d e → e < n
  depends-within d e (needed f c) = needs-within d e c
  depends-within d e (mentioned f t v c m) = mentions-within f e m

  is-dependence : IsDependence ds graph
  is-dependence = record {
    nodes = ap length is-moved ∙ both.length_is;
    stays = subst StaysWithin (sym is-moved) both.stays;
    ends = λ a b l h. ends a b l (begun-from a b h);
    depends = λ d e l m r. reached-depends d l e m r;
    reached = λ d e h.
        subst (λ x. Reached graph x e) (start-low n d (depends-there ds d e h))
        (onward-reach graph (start_of n d) e (depends-reached ds graph (start_of n) begins d e h));
    within = λ d e h. (depends-there ds d e h, depends-within d e h);
  }
    where
      ends : (a b : ℕ) → a < n → Begun a b → ⊥
      ends a b l x = let h = begun-other a b (omega (arith, l)) x in omega (arith, l, h.0)

pub dependence-is : (ds : List Said) (es : List Edge) (g : Graph) → AllWithin ds → es ≡ edges_of ds → g ≡ at_once (length ds) es →
    IsDependence ds g
dependence-is ds es g w e q = subst (IsDependence ds) (sym (q ∙ ap (at_once (length ds)) e)) (is-dependence ds w)
