-- A declaration leads to another just where its node reaches that of the other over an edge or more.
use Rattle.std.proofs.Common.{◌≡◌, ℕ, ◌<◌, List, [], ◌∷◌, ◌⊎◌, inl, inr, Bool, true, false, length, slice_get, flat_map, Option, Some, None, refl, sym, ap, ◌∙◌, subst, arith}
use Rattle.std.specs.Prelude.{Contains}
use Rattle.hare_graph.specs.Graphs.{Graph, HasEdge, Reached, at_start, along}
use Rattle.hare_graph.proofs.Elements.{Contains-none, Contains-cases, Contains-here}
use Rattle.hare_depends.specs.declared.said.Said.{Said}
use Rattle.hare_depends.specs.declared.said.Sort.{Sort}
use Rattle.hare_depends.specs.declared.said.Sort.TheVariants as so
use Rattle.hare_depends.specs.declared.edges.Edge.{Edge}
use Rattle.hare_depends.specs.Sorts.{is_type, is_global, has_value}
use Rattle.hare_depends.specs.Dependence.{is_said, is_at, numbers_of, numbers_at, through, needed_by, needs, types_named, Mentions, by_name, within, DependsOn, needed, mentioned, LeadsTo, at_once, further}
use Rattle.hare_depends.specs.Circles.{AreWithin, AllWithin}
use Rattle.hare_depends.specs.Edges.{edge, mention, written}
use Rattle.hare_depends.proofs.ListLemmas.{SomeOf, Contains-there, there-within, Contains-filter, filter-from, Contains-flat_map, flat_map-from}
use Rattle.hare_depends.proofs.EdgeLemmas.{AddsHeld, AddsValue, AddsThrough, NeedAdds, SaidAdds, of_needs, of_written, of_mentions, IsEdge, AreGraphs}

-- ---- reaching

pub reach-on : (g : Graph) (a b c : ℕ) → Reached g a b → Reached g b c → Reached g a c
reach-on g a b c r at_start = r
reach-on g a b c r (along x y q e) = along x y (reach-on g a b x r q) e

pub reach-first : (g : Graph) (a b c : ℕ) → HasEdge g a b → Reached g b c → Reached g a c
reach-first g a b c e r = reach-on g a b c (along a b at_start e) r

pub reach-back : (g h : Graph) → ((a b : ℕ) → HasEdge g a b → HasEdge h b a) → (a b : ℕ) → Reached g a b → Reached h b a
reach-back g h f a b at_start = at_start
reach-back g h f a b (along x y q e) = reach-first h y x a (f x y e) (reach-back g h f a x q)

-- over an edge or more
abbrev pub Onward : Graph → ℕ → ℕ → Type 0
Onward g a b = (x : ℕ) × HasEdge g a x × Reached g x b

pub onward-edge : (g : Graph) (a b : ℕ) → HasEdge g a b → Onward g a b
onward-edge g a b e = (b, e, at_start)

pub onward-reach : (g : Graph) (a b : ℕ) → Onward g a b → Reached g a b
onward-reach g a b o = reach-first g a o.0 b o.1 o.2

onward-on : (g : Graph) (a b c : ℕ) → Onward g a b → Onward g b c → Onward g a c
onward-on g a b c o p = (o.0, o.1, reach-on g o.0 b c o.2 (onward-reach g b c p))

-- ---- what is said, by numbers

module _ (ds : List Said) where
  numbers-said : (f : Said → List ℕ) (d : ℕ) (s : Said) → slice_get ds d ≡ Some s → numbers_at f ds d ≡ f s
  numbers-said f d s e = ap (numbers_of f) e

  at-said : (p : Sort → Bool) (d : ℕ) (s : Said) → slice_get ds d ≡ Some s → is_at p ds d ≡ p s.sort
  at-said p d s e = ap (is_said p) e

  -- what is named of a list of numbers is said by a declaration
  pub number-said : (f : Said → List ℕ) (d e : ℕ) → Contains (numbers_at f ds d) e →
      (s : Said) × (slice_get ds d ≡ Some s) × Contains (f s) e
  number-said f d e c = by (slice_get ds d) refl
    where
      by : (o : Option Said) → slice_get ds d ≡ o → (s : Said) × (slice_get ds d ≡ Some s) × Contains (f s) e
      by None q = let k : Contains [] e = rw q at c in absurd (Contains-none e k)
      by (Some s) q = let k : Contains (f s) e = rw q at c in (s, q, k)

  pub sort-said : (p : Sort → Bool) (d : ℕ) → is_at p ds d ≡ true → (s : Said) × (slice_get ds d ≡ Some s) × (p s.sort ≡ true)
  sort-said p d h = by (slice_get ds d) refl
    where
      by : (o : Option Said) → slice_get ds d ≡ o → (s : Said) × (slice_get ds d ≡ Some s) × (p s.sort ≡ true)
      by None q = let k : false ≡ true = rw q at h in absurd cc
      by (Some s) q = let k : p s.sort ≡ true = rw q at h in (s, q, k)

  type-named : (d t : ℕ) (s : Said) → slice_get ds d ≡ Some s → Contains s.named t → is_at is_type ds t ≡ true →
      Contains (types_named ds d) t
  type-named d t s e c h =
      Contains-filter (is_at is_type ds) (numbers_at (λ z. z.named) ds d) t
      (subst (λ xs. Contains xs t) (sym (numbers-said (λ z. z.named) d s e)) c) h

  -- what is mentioned by what a declaration names, it mentions
  mentions-first : (d t u : ℕ) → Contains (types_named ds d) t → Mentions ds t u → Mentions ds d u
  mentions-first d t u c (by_name v k) = within t u (by_name t c) k
  mentions-first d t u c (within v w m k) = within v u (mentions-first d t v c m) k

-- ---- what is needed of those that are looked through

module _ (ds : List Said) where
  through-global : (g e : ℕ) → is_at is_global ds g ≡ true → Contains (numbers_at (λ s. s.written) ds g) e → Contains (through ds g) e
  through-global g e h c = rw h c

  through-other : (g : ℕ) → is_at is_global ds g ≡ false → Contains (through ds g) g
  through-other g h = rw h (Contains-here g [])

  pub through-from : (g e : ℕ) → Contains (through ds g) e →
      ((is_at is_global ds g ≡ true) × Contains (numbers_at (λ s. s.written) ds g) e) ⊎ ((is_at is_global ds g ≡ false) × (g ≡ e))
  through-from g e c = by (is_at is_global ds g) refl
    where
      only : Contains (g ∷ []) e → g ≡ e
      only k = the (Contains-cases g e [] k)
        where
          the : (g ≡ e) ⊎ Contains [] e → g ≡ e
          the (inl q) = q
          the (inr n) = absurd (Contains-none e n)

      by : (b : Bool) → is_at is_global ds g ≡ b →
          ((is_at is_global ds g ≡ true) × Contains (numbers_at (λ s. s.written) ds g) e) ⊎ ((is_at is_global ds g ≡ false) × (g ≡ e))
      by true q = let k : Contains (numbers_at (λ s. s.written) ds g) e = rw q at c in inl (q, k)
      by false q = let k : Contains (g ∷ []) e = rw q at c in inr (q, only k)

-- ---- from edges to dependence

-- What holds of a node that a declaration's node reaches: to a declaration it leads, and to all that others mention or that their types
-- name.
pub record Holds (ds : List Said) (R : ℕ → Type 0) (x : ℕ) : Type 0 where
  pub itself : x < length ds → R x
  pub mentions : (t : ℕ) → x ≡ mention (length ds) t → t < length ds → (u : ℕ) → Mentions ds t u → R u
  pub names : (g : ℕ) → x ≡ written (length ds) g → g < length ds → (e : ℕ) → Contains (numbers_at (λ s. s.written) ds g) e →
      R e × ((u : ℕ) → Mentions ds e u → R u)

-- where edges begin
value-from : (n a e : ℕ) (x : Edge) → AddsValue n a e x → x.from ≡ a
value-from n a e x (inl h) = sym (ap (λ (y : Edge). y.from) h)
value-from n a e x (inr h) = sym (ap (λ (y : Edge). y.from) h)

through-begins : (ds : List Said) (n a e : ℕ) (x : Edge) → AddsThrough ds n a e x → x.from ≡ a
through-begins ds n a e x (inl h) = sym (ap (λ (y : Edge). y.from) h.1)
through-begins ds n a e x (inr h) = value-from n a e x h.1

need-begins : (ds : List Said) (k : Sort) (n a : ℕ) (s : Said) (x : Edge) → NeedAdds ds n a k s x → x.from ≡ a
need-begins ds so.Type n a s x h = sym (ap (λ (y : Edge). y.from) h.2)
need-begins ds so.Function n a s x h = sym (ap (λ (y : Edge). y.from) h.2)
need-begins ds so.Constant n a s x h = value-from n a h.0 x h.2
need-begins ds so.Global n a s x h = through-begins ds n a h.0 x h.2

-- the same for each relation that has what a declaration depends on
module _ (ds : List Said) (w : AllWithin ds) (R : ℕ → Type 0) where
  holds-decl : (e : ℕ) → e < length ds → R e → Holds ds R e
  holds-decl e l k = record {
    itself = λ m. k;
    mentions = λ t q m. absurd (omega arith);
    names = λ g q m. absurd (omega arith);
  }

  holds-mention : (e : ℕ) → e < length ds → ((u : ℕ) → Mentions ds e u → R u) → Holds ds R (mention (length ds) e)
  holds-mention e l k = record {
    itself = λ m. absurd (omega arith);
    mentions = λ t q m u h. k u (subst (λ z. Mentions ds z u) (same t q) h);
    names = λ g q m. absurd (omega arith);
  }
    where
      same : (t : ℕ) → mention (length ds) e ≡ mention (length ds) t → t ≡ e
      same t q = omega arith

  holds-written : (g : ℕ) → g < length ds →
      ((e : ℕ) → Contains (numbers_at (λ s. s.written) ds g) e → R e × ((u : ℕ) → Mentions ds e u → R u)) →
      Holds ds R (written (length ds) g)
  holds-written g l k = record {
    itself = λ m. absurd (omega arith);
    mentions = λ t q m. absurd (omega arith);
    names = λ h q m e c. k e (subst (λ z. Contains (numbers_at (λ s. s.written) ds z) e) (same h q) c);
  }
    where
      same : (h : ℕ) → written (length ds) g ≡ written (length ds) h → h ≡ g
      same h q = omega arith

  -- a value that leads to what it needs, and to all that that mentions
  value-step : (a e y : ℕ) → e < length ds → R e → ((u : ℕ) → Mentions ds e u → R u) →
      AddsValue (length ds) a e (edge a y) → Holds ds R y
  value-step a e y l k m (inl h) = let q : e ≡ y = ap (λ (x : Edge). x.to) h in subst (Holds ds R) q (holds-decl e l k)
  value-step a e y l k m (inr h) =
      let q : mention (length ds) e ≡ y = ap (λ (x : Edge). x.to) h in subst (Holds ds R) q (holds-mention e l m)

  -- an edge of what a declaration needs
  need-step : (e y : ℕ) (s : Said) → slice_get ds e ≡ Some s → ((f : ℕ) → DependsOn ds e f → R f) →
      NeedAdds ds (length ds) e s.sort s (edge e y) → Holds ds R y
  need-step e y s q lead a = by s.sort refl a
    where
      w-in : AreWithin (length ds) s
      w-in = w s (Contains-there ds e s q)

      need-is : (k : Sort) → s.sort ≡ k → needs ds e ≡ needed_by ds k s
      need-is k h = ap (numbers_of (λ z. needed_by ds z.sort z)) q ∙ ap (λ z. needed_by ds z s) h

      needs-it : (k : Sort) → s.sort ≡ k → (f : ℕ) → Contains (needed_by ds k s) f → Contains (needs ds e) f
      needs-it k h f c = subst (λ xs. Contains xs f) (sym (need-is k h)) c

      valued : (k : Sort) → s.sort ≡ k → has_value k ≡ true → is_at has_value ds e ≡ true
      valued k h v = at-said ds has_value e s q ∙ ap has_value h ∙ v

      held : (k : Sort) → s.sort ≡ k → needed_by ds k s ≡ s.needed → SomeOf (λ f. AddsHeld e f (edge e y)) s.needed → Holds ds R y
      held k h n a =
          let c : Contains (needed_by ds k s) a.0 = subst (λ xs. Contains xs a.0) (sym n) a.1 in
          let r : a.0 ≡ y = ap (λ (x : Edge). x.to) a.2 in
          subst (Holds ds R) r (holds-decl a.0 (w-in.needed a.0 a.1) (lead a.0 (needed a.0 (needs-it k h a.0 c))))

      looked : s.sort ≡ so.Global → (g : ℕ) → Contains s.named g → is_at is_global ds g ≡ true → (f : ℕ) →
          Contains (numbers_at (λ z. z.written) ds g) f → R f × ((u : ℕ) → Mentions ds f u → R u)
      looked h g c b f k =
          let n : Contains (needs ds e) f = needs-it so.Global h f
          (Contains-flat_map (through ds) s.named g f c (through-global ds g f b k)) in
          (lead f (needed f n), λ u m. lead u (mentioned f u (valued so.Global h refl) n m))

      global : s.sort ≡ so.Global → (g : ℕ) → Contains s.named g → AddsThrough ds (length ds) e g (edge e y) → Holds ds R y
      global h g c (inl k) =
          let r : written (length ds) g ≡ y = ap (λ (x : Edge). x.to) k.1 in
          subst (Holds ds R) r (holds-written g (w-in.named g c) (looked h g c k.0))
      global h g c (inr k) =
          let n : Contains (needs ds e) g = needs-it so.Global h g
          (Contains-flat_map (through ds) s.named g g c (through-other ds g k.0)) in
          value-step e g y (w-in.named g c) (lead g (needed g n)) (λ u m. lead u (mentioned g u (valued so.Global h refl) n m)) k.1

      by : (k : Sort) → s.sort ≡ k → NeedAdds ds (length ds) e s.sort s (edge e y) → Holds ds R y
      by so.Type h a = held so.Type h refl (subst (λ z. NeedAdds ds (length ds) e z s (edge e y)) h a)
      by so.Function h a = held so.Function h refl (subst (λ z. NeedAdds ds (length ds) e z s (edge e y)) h a)
      by so.Constant h a =
          let b : SomeOf (λ f. AddsValue (length ds) e f (edge e y)) s.named = subst (λ z. NeedAdds ds (length ds) e z s (edge e y)) h a in
          let n : Contains (needs ds e) b.0 = needs-it so.Constant h b.0 b.1 in
          value-step e b.0 y (w-in.named b.0 b.1) (lead b.0 (needed b.0 n))
          (λ u m. lead u (mentioned b.0 u (valued so.Constant h refl) n m)) b.2
      by so.Global h a =
          let b : SomeOf (λ f. AddsThrough ds (length ds) e f (edge e y)) s.named =
          subst (λ z. NeedAdds ds (length ds) e z s (edge e y)) h a in
          global h b.0 b.1 b.2

  -- the first edge from a declaration
  pub first-step : (d y : ℕ) → d < length ds → ((f : ℕ) → DependsOn ds d f → R f) → IsEdge ds (edge d y) → Holds ds R y
  first-step d y l lead h = by h.adds
    where
      below : h.decl < length ds
      below = there-within ds h.decl h.said h.is_there

      by : SaidAdds ds (length ds) h.decl h.said (edge d y) → Holds ds R y
      by (of_needs a) =
          let q : d ≡ h.decl = need-begins ds h.said.sort (length ds) h.decl h.said (edge d y) a in
          need-step h.decl y h.said h.is_there (λ f k. lead f (subst (λ z. DependsOn ds z f) (sym q) k))
          (subst (λ z. NeedAdds ds (length ds) h.decl h.said.sort h.said (edge z y)) q a)
      by (of_written s) =
          let q : d ≡ written (length ds) h.decl =
          value-from (length ds) (written (length ds) h.decl) s.0 (edge d y) s.2 in absurd (omega (arith, below))
      by (of_mentions s) =
          let q : d ≡ mention (length ds) h.decl =
          value-from (length ds) (mention (length ds) h.decl) s.0 (edge d y) s.2.1 in absurd (omega (arith, below))

  -- a further edge, which is one from a declaration only where that leads on
  pub next-step : (x y : ℕ) → (x < length ds → (f : ℕ) → DependsOn ds x f → R f) → Holds ds R x → IsEdge ds (edge x y) → Holds ds R y
  next-step x y lead k h = by h.adds
    where
      below : h.decl < length ds
      below = there-within ds h.decl h.said h.is_there

      w-in : AreWithin (length ds) h.said
      w-in = w h.said (Contains-there ds h.decl h.said h.is_there)

      by : SaidAdds ds (length ds) h.decl h.said (edge x y) → Holds ds R y
      by (of_needs a) =
          let q : x ≡ h.decl = need-begins ds h.said.sort (length ds) h.decl h.said (edge x y) a in
          let l : x < length ds = omega (arith, below, q) in
          first-step x y l (lead l) h
      by (of_written s) =
          let q : x ≡ written (length ds) h.decl = value-from (length ds) (written (length ds) h.decl) s.0 (edge x y) s.2 in
          let n = k.names h.decl q below s.0
          (subst (λ xs. Contains xs s.0) (sym (numbers-said ds (λ z. z.written) h.decl h.said h.is_there)) s.1) in
          value-step x s.0 y (w-in.written s.0 s.1) n.0 n.1 (subst (λ z. AddsValue (length ds) z s.0 (edge x y)) (sym q) s.2)
      by (of_mentions s) =
          let q : x ≡ mention (length ds) h.decl = value-from (length ds) (mention (length ds) h.decl) s.0 (edge x y) s.2.1 in
          let c : Contains (types_named ds h.decl) s.0 = type-named ds h.decl s.0 h.said h.is_there s.1 s.2.0 in
          value-step x s.0 y (w-in.named s.0 s.1) (k.mentions h.decl q below s.0 (by_name s.0 c))
          (λ u m. k.mentions h.decl q below u (mentions-first ds h.decl s.0 u c m))
          (subst (λ z. AddsValue (length ds) z s.0 (edge x y)) (sym q) s.2.1)

module _ (ds : List Said) (w : AllWithin ds) (d : ℕ) (g h : Graph) (a : AreGraphs ds g h) where
  reached-holds : (x y : ℕ) → Holds ds (LeadsTo ds d) x → Reached g x y → Holds ds (LeadsTo ds d) y
  reached-holds x y k at_start = k
  reached-holds x y k (along u v r e) =
      let m = reached-holds x u k r in next-step ds w (LeadsTo ds d) u v (λ l f j. further u f (m.itself l) j) m (a.only u v e)

  -- what is reached over an edge or more, the declaration leads to
  pub reached-leads : (e : ℕ) → d < length ds → e < length ds → Onward g d e → LeadsTo ds d e
  reached-leads e l k o =
      (reached-holds o.0 e (first-step ds w (LeadsTo ds d) d o.0 l (λ f j. at_once f j) (a.only d o.0 o.1)) o.2).itself k

-- ---- from dependence to edges

-- where edges of a declaration begin at another node of its own, and those of other nodes there
pub record Begins (ds : List Said) (g : Graph) (at : ℕ → ℕ) : Type 0 where
  pub all : (a b : ℕ) → IsEdge ds (edge a b) → HasEdge g (at a) b
  pub mentions : (d : ℕ) → at (mention (length ds) d) ≡ mention (length ds) d
  pub names : (d : ℕ) → at (written (length ds) d) ≡ written (length ds) d

module _ (ds : List Said) (g : Graph) (at : ℕ → ℕ) (a : Begins ds g at) where
  said-edge : (d x y : ℕ) (s : Said) → slice_get ds d ≡ Some s → SaidAdds ds (length ds) d s (edge x y) → HasEdge g (at x) y
  said-edge d x y s e k = a.all x y (record { decl = d; said = s; is_there = e; adds = k })

  mention-edge : (d y : ℕ) (s : Said) → slice_get ds d ≡ Some s → SaidAdds ds (length ds) d s (edge (mention (length ds) d) y) →
      HasEdge g (mention (length ds) d) y
  mention-edge d y s e k = subst (λ z. HasEdge g z y) (a.mentions d) (said-edge d (mention (length ds) d) y s e k)

  written-edge : (d y : ℕ) (s : Said) → slice_get ds d ≡ Some s → SaidAdds ds (length ds) d s (edge (written (length ds) d) y) →
      HasEdge g (written (length ds) d) y
  written-edge d y s e k = subst (λ z. HasEdge g z y) (a.names d) (said-edge d (written (length ds) d) y s e k)

  -- from what a declaration mentions
  mention-edges : (d t : ℕ) → Contains (types_named ds d) t →
      Onward g (mention (length ds) d) t × Onward g (mention (length ds) d) (mention (length ds) t)
  mention-edges d t c = by (filter-from (is_at is_type ds) (numbers_at (λ z. z.named) ds d) t c)
    where
      edges : (s : Said) → slice_get ds d ≡ Some s → Contains s.named t → is_at is_type ds t ≡ true →
          Onward g (mention (length ds) d) t × Onward g (mention (length ds) d) (mention (length ds) t)
      edges s e n k = (
        onward-edge g (mention (length ds) d) t (mention-edge d t s e (of_mentions (t, n, (k, inl refl)))),
        onward-edge g (mention (length ds) d) (mention (length ds) t)
            (mention-edge d (mention (length ds) t) s e (of_mentions (t, n, (k, inr refl)))),
      )

      by : Contains (numbers_at (λ z. z.named) ds d) t × (is_at is_type ds t ≡ true) →
          Onward g (mention (length ds) d) t × Onward g (mention (length ds) d) (mention (length ds) t)
      by p = let n = number-said ds (λ z. z.named) d t p.0 in edges n.0 n.1 n.2 p.1

  mentions-reached : (d t : ℕ) → Mentions ds d t →
      Onward g (mention (length ds) d) t × Onward g (mention (length ds) d) (mention (length ds) t)
  mentions-reached d t (by_name v c) = mention-edges d t c
  mentions-reached d t (within v u m c) =
      let p = mentions-reached d v m in
      let q = mention-edges v t c in (
        onward-on g (mention (length ds) d) (mention (length ds) v) t p.1 q.0,
        onward-on g (mention (length ds) d) (mention (length ds) v) (mention (length ds) t) p.1 q.1,
      )

  -- what is needed, by the sort of the declaration
  need-edge : (d e : ℕ) (s : Said) → slice_get ds d ≡ Some s → Contains (needed_by ds s.sort s) e →
      Onward g (at d) e × (has_value s.sort ≡ true → Onward g (at d) (mention (length ds) e))
  need-edge d e s q c = by s.sort refl c
    where
      adds-as : (k : Sort) → s.sort ≡ k → (y : ℕ) → NeedAdds ds (length ds) d k s (edge d y) → HasEdge g (at d) y
      adds-as k h y n = said-edge d d y s q (of_needs (subst (λ z. NeedAdds ds (length ds) d z s (edge d y)) (sym h) n))

      globally : s.sort ≡ so.Global → (v : ℕ) → Contains s.named v →
          ((is_at is_global ds v ≡ true) × Contains (numbers_at (λ z. z.written) ds v) e) ⊎ ((is_at is_global ds v ≡ false) × (v ≡ e)) →
          Onward g (at d) e × Onward g (at d) (mention (length ds) e)
      globally h v n (inl k) =
          let u = number-said ds (λ z. z.written) v e k.1 in
          let x : HasEdge g (at d) (written (length ds) v) = adds-as so.Global h (written (length ds) v) (v, n, inl (k.0, refl)) in
          let o : Onward g (at d) (written (length ds) v) = onward-edge g (at d) (written (length ds) v) x in (
            onward-on g (at d) (written (length ds) v) e o
                (onward-edge g (written (length ds) v) e (written-edge v e u.0 u.1 (of_written (e, u.2, inl refl)))),
            onward-on g (at d) (written (length ds) v) (mention (length ds) e) o
                (onward-edge g (written (length ds) v) (mention (length ds) e)
                (written-edge v (mention (length ds) e) u.0 u.1 (of_written (e, u.2, inr refl)))),
          )
      globally h v n (inr k) =
          let m : Contains s.named e = subst (λ z. Contains s.named z) k.1 n in
          let f : is_at is_global ds e ≡ false = subst (λ z. is_at is_global ds z ≡ false) k.1 k.0 in (
            onward-edge g (at d) e (adds-as so.Global h e (e, m, inr (f, inl refl))),
            onward-edge g (at d) (mention (length ds) e) (adds-as so.Global h (mention (length ds) e) (e, m, inr (f, inr refl))),
          )

      by : (k : Sort) → s.sort ≡ k → Contains (needed_by ds s.sort s) e →
          Onward g (at d) e × (has_value s.sort ≡ true → Onward g (at d) (mention (length ds) e))
      by so.Type h c =
          let n : Contains s.needed e = subst (λ z. Contains (needed_by ds z s) e) h c in
          (onward-edge g (at d) e (adds-as so.Type h e (e, n, refl)), λ v. absurd (no-value v))
        where
          no-value : has_value s.sort ≡ true → ⊥
          no-value v = let f : has_value s.sort ≡ false = ap has_value h in cc
      by so.Function h c =
          let n : Contains s.needed e = subst (λ z. Contains (needed_by ds z s) e) h c in
          (onward-edge g (at d) e (adds-as so.Function h e (e, n, refl)), λ v. absurd (no-value v))
        where
          no-value : has_value s.sort ≡ true → ⊥
          no-value v = let f : has_value s.sort ≡ false = ap has_value h in cc
      by so.Constant h c =
          let n : Contains s.named e = subst (λ z. Contains (needed_by ds z s) e) h c in (
            onward-edge g (at d) e (adds-as so.Constant h e (e, n, inl refl)),
            λ v. onward-edge g (at d) (mention (length ds) e) (adds-as so.Constant h (mention (length ds) e) (e, n, inr refl)),
          )
      by so.Global h c =
          let n : Contains (flat_map (through ds) s.named) e = subst (λ z. Contains (needed_by ds z s) e) h c in
          let x = flat_map-from (through ds) s.named e n in
          let p = globally h x.0 x.1 (through-from ds x.0 e x.2) in
          (p.0, λ v. p.1)

  -- what a declaration depends on is reached over an edge or more from where its edges begin
  pub depends-reached : (d e : ℕ) → DependsOn ds d e → Onward g (at d) e
  depends-reached d e (needed f c) =
      let n = number-said ds (λ z. needed_by ds z.sort z) d e c in (need-edge d e n.0 n.1 n.2).0
  depends-reached d e (mentioned f t v c m) =
      let n = number-said ds (λ z. needed_by ds z.sort z) d f c in
      let k : has_value n.0.sort ≡ true = sym (at-said ds has_value d n.0 n.1) ∙ v in
      onward-on g (at d) (mention (length ds) f) e ((need-edge d f n.0 n.1 n.2).1 k) (mentions-reached f e m).0

module _ (ds : List Said) (g h : Graph) (a : AreGraphs ds g h) where
  begins-there : Begins ds g (λ x. x)
  begins-there = record { all = a.all; mentions = λ d. refl; names = λ d. refl }

  -- what a declaration leads to is reached over an edge or more
  pub leads-reached : (d e : ℕ) → LeadsTo ds d e → Onward g d e
  leads-reached d e (at_once f k) = depends-reached ds g (λ x. x) begins-there d e k
  leads-reached d e (further f u l k) = onward-on g d f e (leads-reached d f l) (depends-reached ds g (λ x. x) begins-there f e k)
