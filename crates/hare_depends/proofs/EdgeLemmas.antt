-- Which edges the graph of dependence has.
use Rattle.std.proofs.Common.{◌≡◌, ℕ, ◌+◌, ◌<◌, List, [], ◌∷◌, ◌++◌, ◌⊎◌, inl, inr, Bool, true, false, length, fold, slice_get, Option, Some, None, refl, sym, ap, ◌∙◌, subst, zero, suc, arith}
use Rattle.std.specs.Prelude.{Contains}
use Rattle.std.proofs.lemmas.List.Elements.{Contains-push, Contains-append_left, Contains-push_cases}
use Rattle.hare_graph.specs.Graphs.{Graph, HasEdge, edgeless}
use Rattle.hare_graph.proofs.Elements.{Contains-none, Contains-cases, Contains-here, Contains-behind, Other, other}
use Rattle.hare_graph.proofs.EdgeLemmas.{Both, both-on, start-both, edge-kept, edge-new, edge-from, no-edges, length-with_edge}
use Rattle.hare_depends.specs.declared.said.Said.{Said}
use Rattle.hare_depends.specs.declared.said.Sort.{Sort}
use Rattle.hare_depends.specs.declared.said.Sort.TheVariants as so
use Rattle.hare_depends.specs.declared.edges.Edge.{Edge}
use Rattle.hare_depends.specs.Sorts.{is_type, is_global}
use Rattle.hare_depends.specs.Dependence.{is_at}
use Rattle.hare_depends.specs.Circles.{AreWithin, AllWithin}
use Rattle.hare_depends.specs.Edges.{edge, mention, written, with_held, with_value, with_through, with_mention, with_needs, with_written, with_said, edges_below, edges_of, nodes, with_forward, with_backward, forward_of, backward_of}
use Rattle.hare_depends.proofs.ListLemmas.{SomeOf, Grows, fold-keeps, fold-adds, fold-only, Contains-there, there-within}

-- ---- what each declaration that is named adds

abbrev pub AddsHeld : ℕ → ℕ → Edge → Type 0
AddsHeld a e x = edge a e ≡ x

abbrev pub AddsValue : ℕ → ℕ → ℕ → Edge → Type 0
AddsValue n a e x = (edge a e ≡ x) ⊎ (edge a (mention n e) ≡ x)

abbrev pub AddsThrough : List Said → ℕ → ℕ → ℕ → Edge → Type 0
AddsThrough ds n a e x = ((is_at is_global ds e ≡ true) × (edge a (written n e) ≡ x)) ⊎ ((is_at is_global ds e ≡ false) × AddsValue n a e x)

abbrev pub AddsMention : List Said → ℕ → ℕ → ℕ → Edge → Type 0
AddsMention ds n a e x = (is_at is_type ds e ≡ true) × AddsValue n a e x

held-grows : (a : ℕ) → Grows (with_held a) (AddsHeld a)
held-grows a = record {
  keeps = λ es e x c. Contains-append_left es (edge a e ∷ []) x c;
  adds = λ es e x h. subst (λ y. Contains (es ++ edge a e ∷ []) y) h (Contains-push es (edge a e));
  only = λ es e x c. Contains-push_cases es (edge a e) x c;
}

value-grows : (n a : ℕ) → Grows (with_value n a) (AddsValue n a)
value-grows n a = record {
  keeps = λ es e x c. Contains-append_left (es ++ edge a e ∷ []) (edge a (mention n e) ∷ []) x
      (Contains-append_left es (edge a e ∷ []) x c);
  adds = λ es e x h. add es e x h;
  only = λ es e x c. from es e x (Contains-push_cases (es ++ edge a e ∷ []) (edge a (mention n e)) x c);
}
  where
    add : (es : List Edge) (e : ℕ) (x : Edge) → AddsValue n a e x → Contains (with_value n a es e) x
    add es e x (inl h) =
        Contains-append_left (es ++ edge a e ∷ []) (edge a (mention n e) ∷ []) x
        (subst (λ y. Contains (es ++ edge a e ∷ []) y) h (Contains-push es (edge a e)))
    add es e x (inr h) = subst (λ y. Contains (with_value n a es e) y) h (Contains-push (es ++ edge a e ∷ []) (edge a (mention n e)))

    first : (es : List Edge) (e : ℕ) (x : Edge) → Contains es x ⊎ (edge a e ≡ x) → Contains es x ⊎ AddsValue n a e x
    first es e x (inl c) = inl c
    first es e x (inr h) = inr (inl h)

    from : (es : List Edge) (e : ℕ) (x : Edge) → Contains (es ++ edge a e ∷ []) x ⊎ (edge a (mention n e) ≡ x) →
        Contains es x ⊎ AddsValue n a e x
    from es e x (inl c) = first es e x (Contains-push_cases es (edge a e) x c)
    from es e x (inr h) = inr (inr h)

through-grows : (ds : List Said) (n a : ℕ) → Grows (with_through ds n a) (AddsThrough ds n a)
through-grows ds n a = record {
  keeps = λ es e x c. keep es e x c (is_at is_global ds e) refl;
  adds = λ es e x h. add es e x h;
  only = λ es e x c. from es e x (is_at is_global ds e) refl c;
}
  where
    keep : (es : List Edge) (e : ℕ) (x : Edge) → Contains es x → (b : Bool) → is_at is_global ds e ≡ b →
        Contains (with_through ds n a es e) x
    keep es e x c true h = rw h (Contains-append_left es (edge a (written n e) ∷ []) x c)
    keep es e x c false h = rw h ((value-grows n a).keeps es e x c)

    add : (es : List Edge) (e : ℕ) (x : Edge) → AddsThrough ds n a e x → Contains (with_through ds n a es e) x
    add es e x (inl h) = rw (h.0) (subst (λ y. Contains (es ++ edge a (written n e) ∷ []) y) h.1 (Contains-push es (edge a (written n e))))
    add es e x (inr h) = rw (h.0) ((value-grows n a).adds es e x h.1)

    looked : (es : List Edge) (e : ℕ) (x : Edge) → is_at is_global ds e ≡ true → Contains es x ⊎ (edge a (written n e) ≡ x) →
        Contains es x ⊎ AddsThrough ds n a e x
    looked es e x h (inl c) = inl c
    looked es e x h (inr k) = inr (inl (h, k))

    plain : (es : List Edge) (e : ℕ) (x : Edge) → is_at is_global ds e ≡ false → Contains es x ⊎ AddsValue n a e x →
        Contains es x ⊎ AddsThrough ds n a e x
    plain es e x h (inl c) = inl c
    plain es e x h (inr k) = inr (inr (h, k))

    from : (es : List Edge) (e : ℕ) (x : Edge) (b : Bool) → is_at is_global ds e ≡ b → Contains (with_through ds n a es e) x →
        Contains es x ⊎ AddsThrough ds n a e x
    from es e x true h c =
        let d : Contains (es ++ edge a (written n e) ∷ []) x =
        rw h at c in looked es e x h (Contains-push_cases es (edge a (written n e)) x d)
    from es e x false h c = let d : Contains (with_value n a es e) x = rw h at c in plain es e x h ((value-grows n a).only es e x d)

mention-grows : (ds : List Said) (n a : ℕ) → Grows (with_mention ds n a) (AddsMention ds n a)
mention-grows ds n a = record {
  keeps = λ es e x c. keep es e x c (is_at is_type ds e) refl;
  adds = λ es e x h. rw (h.0) ((value-grows n a).adds es e x h.1);
  only = λ es e x c. from es e x (is_at is_type ds e) refl c;
}
  where
    keep : (es : List Edge) (e : ℕ) (x : Edge) → Contains es x → (b : Bool) → is_at is_type ds e ≡ b →
        Contains (with_mention ds n a es e) x
    keep es e x c true h = rw h ((value-grows n a).keeps es e x c)
    keep es e x c false h = rw h c

    typed : (es : List Edge) (e : ℕ) (x : Edge) → is_at is_type ds e ≡ true → Contains es x ⊎ AddsValue n a e x →
        Contains es x ⊎ AddsMention ds n a e x
    typed es e x h (inl c) = inl c
    typed es e x h (inr k) = inr (h, k)

    from : (es : List Edge) (e : ℕ) (x : Edge) (b : Bool) → is_at is_type ds e ≡ b → Contains (with_mention ds n a es e) x →
        Contains es x ⊎ AddsMention ds n a e x
    from es e x true h c = let d : Contains (with_value n a es e) x = rw h at c in typed es e x h ((value-grows n a).only es e x d)
    from es e x false h c = inl (rw h at c)

-- ---- what a declaration adds

abbrev pub NeedAdds : List Said → ℕ → ℕ → Sort → Said → Edge → Type 0
NeedAdds ds n d so.Type s x = SomeOf (λ e. AddsHeld d e x) s.needed
NeedAdds ds n d so.Function s x = SomeOf (λ e. AddsHeld d e x) s.needed
NeedAdds ds n d so.Constant s x = SomeOf (λ e. AddsValue n d e x) s.named
NeedAdds ds n d so.Global s x = SomeOf (λ e. AddsThrough ds n d e x) s.named

pub data SaidAdds (ds : List Said) (n d : ℕ) (s : Said) (x : Edge) : Type 0 where
  of_needs : NeedAdds ds n d s.sort s x → SaidAdds ds n d s x
  of_written : SomeOf (λ e. AddsValue n (written n d) e x) s.written → SaidAdds ds n d s x
  of_mentions : SomeOf (λ e. AddsMention ds n (mention n d) e x) s.named → SaidAdds ds n d s x

module _ (ds : List Said) (n d : ℕ) (s : Said) where
  needs-keeps : (k : Sort) (es : List Edge) (x : Edge) → Contains es x → Contains (with_needs ds n d k s es) x
  needs-keeps so.Type es x c = fold-keeps (with_held d) (AddsHeld d) (held-grows d) s.needed es x c
  needs-keeps so.Function es x c = fold-keeps (with_held d) (AddsHeld d) (held-grows d) s.needed es x c
  needs-keeps so.Constant es x c = fold-keeps (with_value n d) (AddsValue n d) (value-grows n d) s.named es x c
  needs-keeps so.Global es x c = fold-keeps (with_through ds n d) (AddsThrough ds n d) (through-grows ds n d) s.named es x c

  needs-adds : (k : Sort) (es : List Edge) (x : Edge) → NeedAdds ds n d k s x → Contains (with_needs ds n d k s es) x
  needs-adds so.Type es x h = fold-adds (with_held d) (AddsHeld d) (held-grows d) s.needed es x h
  needs-adds so.Function es x h = fold-adds (with_held d) (AddsHeld d) (held-grows d) s.needed es x h
  needs-adds so.Constant es x h = fold-adds (with_value n d) (AddsValue n d) (value-grows n d) s.named es x h
  needs-adds so.Global es x h = fold-adds (with_through ds n d) (AddsThrough ds n d) (through-grows ds n d) s.named es x h

  needs-only : (k : Sort) (es : List Edge) (x : Edge) → Contains (with_needs ds n d k s es) x → Contains es x ⊎ NeedAdds ds n d k s x
  needs-only so.Type es x c = fold-only (with_held d) (AddsHeld d) (held-grows d) s.needed es x c
  needs-only so.Function es x c = fold-only (with_held d) (AddsHeld d) (held-grows d) s.needed es x c
  needs-only so.Constant es x c = fold-only (with_value n d) (AddsValue n d) (value-grows n d) s.named es x c
  needs-only so.Global es x c = fold-only (with_through ds n d) (AddsThrough ds n d) (through-grows ds n d) s.named es x c

  abbrev after_needs : List Edge → List Edge
  after_needs es = with_needs ds n d s.sort s es

  abbrev after_written : List Edge → List Edge
  after_written es = with_written n d s (after_needs es)

  said-keeps : (es : List Edge) (x : Edge) → Contains es x → Contains (with_said ds n d (Some s) es) x
  said-keeps es x c =
      fold-keeps (with_mention ds n (mention n d)) (AddsMention ds n (mention n d)) (mention-grows ds n (mention n d)) s.named
      (after_written es) x
      (fold-keeps (with_value n (written n d)) (AddsValue n (written n d)) (value-grows n (written n d)) s.written (after_needs es) x
      (needs-keeps s.sort es x c))

  said-adds : (es : List Edge) (x : Edge) → SaidAdds ds n d s x → Contains (with_said ds n d (Some s) es) x
  said-adds es x (of_needs h) =
      fold-keeps (with_mention ds n (mention n d)) (AddsMention ds n (mention n d)) (mention-grows ds n (mention n d)) s.named
      (after_written es) x
      (fold-keeps (with_value n (written n d)) (AddsValue n (written n d)) (value-grows n (written n d)) s.written (after_needs es) x
      (needs-adds s.sort es x h))
  said-adds es x (of_written h) =
      fold-keeps (with_mention ds n (mention n d)) (AddsMention ds n (mention n d)) (mention-grows ds n (mention n d)) s.named
      (after_written es) x
      (fold-adds (with_value n (written n d)) (AddsValue n (written n d)) (value-grows n (written n d)) s.written (after_needs es) x h)
  said-adds es x (of_mentions h) =
      fold-adds (with_mention ds n (mention n d)) (AddsMention ds n (mention n d)) (mention-grows ds n (mention n d)) s.named
      (after_written es) x h

  said-only : (es : List Edge) (x : Edge) → Contains (with_said ds n d (Some s) es) x → Contains es x ⊎ SaidAdds ds n d s x
  said-only es x c =
      by (fold-only (with_mention ds n (mention n d)) (AddsMention ds n (mention n d)) (mention-grows ds n (mention n d)) s.named
      (after_written es) x c)
    where
      third : Contains es x ⊎ NeedAdds ds n d s.sort s x → Contains es x ⊎ SaidAdds ds n d s x
      third (inl k) = inl k
      third (inr h) = inr (of_needs h)

      second : Contains (after_needs es) x ⊎ SomeOf (λ e. AddsValue n (written n d) e x) s.written → Contains es x ⊎ SaidAdds ds n d s x
      second (inl k) = third (needs-only s.sort es x k)
      second (inr h) = inr (of_written h)

      by : Contains (after_written es) x ⊎ SomeOf (λ e. AddsMention ds n (mention n d) e x) s.named → Contains es x ⊎ SaidAdds ds n d s x
      by (inl k) = second (fold-only (with_value n (written n d)) (AddsValue n (written n d)) (value-grows n (written n d)) s.written
          (after_needs es) x k)
      by (inr h) = inr (of_mentions h)

-- ---- the edges of all declarations

pub record IsEdge (ds : List Said) (x : Edge) : Type 0 where
  pub decl : ℕ
  pub said : Said
  pub is_there : slice_get ds decl ≡ Some said
  pub adds : SaidAdds ds (length ds) decl said x

module _ (ds : List Said) where
  below-only : (k : ℕ) (x : Edge) → Contains (edges_below ds k) x → IsEdge ds x
  below-only zero x c = absurd (Contains-none x c)
  below-only (suc k) x c = by (λ d. below-only k x d) (slice_get ds k) refl
    where
      added : (Contains (edges_below ds k) x → IsEdge ds x) → (s : Said) → slice_get ds k ≡ Some s →
          Contains (edges_below ds k) x ⊎ SaidAdds ds (length ds) k s x → IsEdge ds x
      added r s e (inl d) = r d
      added r s e (inr h) = record { decl = k; said = s; is_there = e; adds = h }

      by : (Contains (edges_below ds k) x → IsEdge ds x) → (o : Option Said) → slice_get ds k ≡ o → IsEdge ds x
      by r None e = let d : Contains (edges_below ds k) x = rw e at c in r d
      by r (Some s) e =
          let d : Contains (with_said ds (length ds) k (Some s) (edges_below ds k)) x = rw e at c in
          added r s e (said-only ds (length ds) k s (edges_below ds k) x d)

  below-keeps : (k d : ℕ) (x : Edge) → Contains (edges_below ds k) x → Contains (edges_below ds (suc k)) x
  below-keeps k d x c = by (slice_get ds k) refl
    where
      by : (o : Option Said) → slice_get ds k ≡ o → Contains (with_said ds (length ds) k (slice_get ds k) (edges_below ds k)) x
      by None e = rw e c
      by (Some s) e = rw e (said-keeps ds (length ds) k s (edges_below ds k) x c)

  below-adds : (k d : ℕ) (s : Said) (x : Edge) → d < k → slice_get ds d ≡ Some s → SaidAdds ds (length ds) d s x →
      Contains (edges_below ds k) x
  below-adds zero d s x l e h = absurd (omega arith)
  below-adds (suc k) d s x l e h = by (λ m. below-adds k d s x m e h) (other d k)
    where
      by : (d < k → Contains (edges_below ds k) x) → Other d k → Contains (edges_below ds (suc k)) x
      by r (inl q) =
          let f : slice_get ds k ≡ Some s = subst (λ z. slice_get ds z ≡ Some s) q e in
          let g : SaidAdds ds (length ds) k s x = subst (λ z. SaidAdds ds (length ds) z s x) q h in
          rw f (said-adds ds (length ds) k s (edges_below ds k) x g)
      by r (inr q) = below-keeps k d x (r (omega arith))

  pub edges-only : (x : Edge) → Contains (edges_of ds) x → IsEdge ds x
  edges-only x c = below-only (length ds) x c

  pub edges-all : (x : Edge) → IsEdge ds x → Contains (edges_of ds) x
  edges-all x h = below-adds (length ds) h.decl h.said x (there-within ds h.decl h.said h.is_there) h.is_there h.adds

-- ---- edges lie among the nodes

abbrev pub LiesWithin : ℕ → Edge → Type 0
LiesWithin n x = (x.from < n) × (x.to < n)

module _ (n : ℕ) where
  value-within : (m a e : ℕ) (x : Edge) → m ≡ (n + n) + n → a < m → e < n → AddsValue n a e x → LiesWithin m x
  value-within m a e x q l k (inl h) = subst (LiesWithin m) h (l, omega arith)
  value-within m a e x q l k (inr h) = subst (LiesWithin m) h (l, omega arith)

  through-within : (ds : List Said) (m a e : ℕ) (x : Edge) → m ≡ (n + n) + n → a < m → e < n → AddsThrough ds n a e x → LiesWithin m x
  through-within ds m a e x q l k (inl h) = subst (LiesWithin m) h.1 (l, omega arith)
  through-within ds m a e x q l k (inr h) = value-within m a e x q l k h.1

module _ (ds : List Said) (w : AllWithin ds) where
  pub edge-within : (x : Edge) → IsEdge ds x → LiesWithin (nodes ds) x
  edge-within x h = by h.adds
    where
      within : AreWithin (length ds) h.said
      within = w h.said (Contains-there ds h.decl h.said h.is_there)

      below : h.decl < length ds
      below = there-within ds h.decl h.said h.is_there

      need : (k : Sort) → NeedAdds ds (length ds) h.decl k h.said x → LiesWithin (nodes ds) x
      need so.Type s =
          let l : s.0 < length ds = within.needed s.0 s.1 in subst (LiesWithin (nodes ds)) s.2 (omega (arith, below), omega arith)
      need so.Function s =
          let l : s.0 < length ds = within.needed s.0 s.1 in subst (LiesWithin (nodes ds)) s.2 (omega (arith, below), omega arith)
      need so.Constant s = value-within (length ds) (nodes ds) h.decl s.0 x refl (omega (arith, below)) (within.named s.0 s.1) s.2
      need so.Global s = through-within (length ds) ds (nodes ds) h.decl s.0 x refl (omega (arith, below)) (within.named s.0 s.1) s.2

      by : SaidAdds ds (length ds) h.decl h.said x → LiesWithin (nodes ds) x
      by (of_needs a) = need h.said.sort a
      by (of_written s) = value-within (length ds) (nodes ds) (written (length ds) h.decl) s.0 x refl (omega (arith, below))
          (within.written s.0 s.1) s.2
      by (of_mentions s) = value-within (length ds) (nodes ds) (mention (length ds) h.decl) s.0 x refl (omega (arith, below))
          (within.named s.0 s.1) s.2.1

-- ---- graphs of edges

pub folded-both : (n : ℕ) (es : List Edge) (g h : Graph) → ((x : Edge) → Contains es x → LiesWithin n x) → Both n g h →
    Both n (fold with_forward g es) (fold with_backward h es)
folded-both n [] g h w t = t
folded-both n (e ∷ es) g h w t =
    let l = w e (Contains-here e es) in
    folded-both n es (with_forward g e) (with_backward h e) (λ x c. w x (Contains-behind e x es c)) (both-on n g h e.from e.to l.0 l.1 t)

folded-back : (n : ℕ) (es : List Edge) (g h : Graph) → ((x : Edge) → Contains es x → LiesWithin n x) → Both n h g →
    Both n (fold with_backward h es) (fold with_forward g es)
folded-back n [] g h w t = t
folded-back n (e ∷ es) g h w t =
    let l = w e (Contains-here e es) in
    folded-back n es (with_forward g e) (with_backward h e) (λ x c. w x (Contains-behind e x es c)) (both-on n h g e.to e.from l.1 l.0 t)

pub folded-from : (es : List Edge) (g : Graph) (a b : ℕ) → HasEdge (fold with_forward g es) a b → HasEdge g a b ⊎ Contains es (edge a b)
folded-from [] g a b h = inl h
folded-from (e ∷ es) g a b h = by (folded-from es (with_forward g e) a b h)
  where
    same : (a ≡ e.from) × (b ≡ e.to) → edge a b ≡ e
    same q = ap (λ z. edge z b) q.0 ∙ ap (λ z. edge e.from z) q.1

    first : HasEdge g a b ⊎ ((a ≡ e.from) × (b ≡ e.to)) → HasEdge g a b ⊎ Contains (e ∷ es) (edge a b)
    first (inl k) = inl k
    first (inr q) = inr (subst (λ y. Contains (e ∷ es) y) (sym (same q)) (Contains-here e es))

    by : HasEdge (with_forward g e) a b ⊎ Contains es (edge a b) → HasEdge g a b ⊎ Contains (e ∷ es) (edge a b)
    by (inl k) = first (edge-from g e.from e.to a b k)
    by (inr c) = inr (Contains-behind e (edge a b) es c)

folded-keeps : (es : List Edge) (g : Graph) (a b : ℕ) → HasEdge g a b → HasEdge (fold with_forward g es) a b
folded-keeps [] g a b h = h
folded-keeps (e ∷ es) g a b h = folded-keeps es (with_forward g e) a b (edge-kept g e.from e.to a b h)

pub folded-has : (es : List Edge) (g : Graph) (x : Edge) → x.from < length g → Contains es x → HasEdge (fold with_forward g es) x.from x.to
folded-has [] g x l c = absurd (Contains-none x c)
folded-has (e ∷ es) g x l c =
    by (λ d. folded-has es (with_forward g e) x (omega (arith, length-with_edge g e.from e.to)) d) (Contains-cases e x es c)
  where
    by : (Contains es x → HasEdge (fold with_forward (with_forward g e) es) x.from x.to) → (e ≡ x) ⊎ Contains es x →
        HasEdge (fold with_forward (with_forward g e) es) x.from x.to
    by r (inl q) =
        subst (λ y. HasEdge (fold with_forward (with_forward g y) es) x.from x.to) (sym q)
        (folded-keeps es (with_forward g x) x.from x.to (edge-new g x.from x.to l))
    by r (inr d) = r d

-- the graph of dependence, both ways
pub record AreGraphs (ds : List Said) (g h : Graph) : Type 0 where
  pub forward : Both (nodes ds) g h
  pub backward : Both (nodes ds) h g
  pub only : (a b : ℕ) → HasEdge g a b → IsEdge ds (edge a b)
  pub all : (a b : ℕ) → IsEdge ds (edge a b) → HasEdge g a b

pub graphs-are : (ds : List Said) → AllWithin ds →
    AreGraphs ds (forward_of (nodes ds) (edges_of ds)) (backward_of (nodes ds) (edges_of ds))
graphs-are ds w = record {
  forward = folded-both (nodes ds) (edges_of ds) (edgeless (nodes ds)) (edgeless (nodes ds)) within (start-both (nodes ds));
  backward = folded-back (nodes ds) (edges_of ds) (edgeless (nodes ds)) (edgeless (nodes ds)) within (start-both (nodes ds));
  only = λ a b h. from a b (folded-from (edges_of ds) (edgeless (nodes ds)) a b h);
  all = λ a b h. has a b h;
}
  where
    within : (x : Edge) → Contains (edges_of ds) x → LiesWithin (nodes ds) x
    within x c = edge-within ds w x (edges-only ds x c)

    from : (a b : ℕ) → HasEdge (edgeless (nodes ds)) a b ⊎ Contains (edges_of ds) (edge a b) → IsEdge ds (edge a b)
    from a b (inl h) = absurd (no-edges (nodes ds) a b h)
    from a b (inr c) = edges-only ds (edge a b) c

    has : (a b : ℕ) → IsEdge ds (edge a b) → HasEdge (forward_of (nodes ds) (edges_of ds)) a b
    has a b h =
        let l = edge-within ds w (edge a b) h in
        let s : Both (nodes ds) (edgeless (nodes ds)) (edgeless (nodes ds)) = start-both (nodes ds) in
        folded-has (edges_of ds) (edgeless (nodes ds)) (edge a b) (omega (arith, l.0, s.length_is)) (edges-all ds (edge a b) h)
