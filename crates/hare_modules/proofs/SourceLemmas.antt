-- How numbers of modules and lists of imports stand to the files of a program.
use Rattle.std.proofs.Common.{◌≡◌, ◌⊎◌, inl, inr, ℕ, ◌<◌, List, [], ◌∷◌, ◌++◌, Bool, true, false, cond, not, length, map, filter, fold, slice_get, position, bytes_eq, Option, Some, None, is_none, is_some, ◌||◌, true≢false, ◌==◌, refl, sym, ap, ◌∙◌, subst, arith}
use Rattle.std.specs.Prelude.{Contains}
use Rattle.std.specs.List.{flat_map, filter_map, cons_option, list_any}
use Rattle.std.proofs.lemmas.Bool.{eqb-true, eq-eqb}
use Rattle.std.proofs.lemmas.Slice.Eq.{bytes_eq-Decides}
use Rattle.std.proofs.lemmas.List.{length-replicate}
use Rattle.std.proofs.lemmas.List.Elements.{Contains-append_left, Contains-append_right, Contains-append_cases}
use Rattle.hare_tree.specs.declared.place.Fault.{Fault}
use Rattle.hare_tree.specs.declared.tree.FileTree.{FileTree}
use Rattle.hare_tree.specs.Node.{Node}
use Rattle.hare_tree.specs.Spell.{start_of}
use Rattle.hare_modules.specs.Order.{fault}
use Rattle.hare_modules.specs.Modules.{Module, Source, sources, module_of, runtime, same_module, is_known}
use Rattle.hare_modules.specs.Uses.{module_used, path_in, place_of}
use Rattle.hare_modules.specs.Circles.{Imports, LeadsTo, there, onward}
use Rattle.hare_modules.specs.Faults.{IsCircle}
use Rattle.hare_graph.specs.Graphs.{Graph, HasEdge, Reached, at_start, along, edgeless}
use Rattle.hare_modules.specs.Takings.{Using, using_of, usings, number_used, unknown_module, runtime_files}
use Rattle.hare_modules.specs.CirclesIn.{with_target, with_import, imports_graph, AreUsingsWithin, IsCircleIn}
use Rattle.hare_modules.specs.Numbering.{AreHomes, IsNumbering}
use Rattle.hare_graph.proofs.Elements.{Contains-none, Contains-cases, Contains-here, Contains-behind}
use Rattle.hare_graph.proofs.EdgeLemmas.{edge-kept, edge-new, edge-from, no-edges, length-with_edge}
use Rattle.hare_modules.proofs.NumberLemmas.{get-within, position-is, position-of}

-- ---- imports by numbers

-- an import by numbers is one of a file of the program
pub record IsUseOf (known : List Module) (ss : List Source) (u : Using) : Type 0 where
  pub source : Source
  pub is_source : Contains ss source
  pub is_use : Contains source.tree.uses u.tree
  pub home_is : slice_get known u.home ≡ Some source.home
  pub to_is : u.to ≡ number_used known u.tree

record Seen {A B : Type 0} (f : A → B) (xs : List A) (y : B) : Type 0 where
  from : A
  among : Contains xs from
  seen : f from ≡ y

Contains-map : {A B : Type 0} (f : A → B) (xs : List A) (y : B) → Contains (map f xs) y → Seen f xs y
Contains-map f [] y c = absurd (Contains-none y c)
Contains-map f (x ∷ xs) y c = by (λ d. Contains-map f xs y d) (Contains-cases (f x) y (map f xs) c)
  where
    by : (Contains (map f xs) y → Seen f xs y) → (f x ≡ y) ⊎ Contains (map f xs) y → Seen f (x ∷ xs) y
    by more (inl e) = record { from = x; among = Contains-here x xs; seen = e }
    by more (inr d) = let s = more d in record { from = s.from; among = Contains-behind x s.from xs s.among; seen = s.seen }

Contains-to-map : {A B : Type 0} (f : A → B) (xs : List A) (x : A) → Contains xs x → Contains (map f xs) (f x)
Contains-to-map f [] x c = absurd (Contains-none x c)
Contains-to-map f (y ∷ ys) x c = by (λ d. Contains-to-map f ys x d) (Contains-cases y x ys c)
  where
    by : (Contains ys x → Contains (map f ys) (f x)) → (y ≡ x) ⊎ Contains ys x → Contains (map f (y ∷ ys)) (f x)
    by more (inl e) = subst (λ z. Contains (map f (y ∷ ys)) (f z)) e (Contains-here (f y) (map f ys))
    by more (inr d) = Contains-behind (f y) (f x) (map f ys) (more d)

behind-source : (known : List Module) (s : Source) (ss : List Source) (u : Using) → IsUseOf known ss u → IsUseOf known (s ∷ ss) u
behind-source known s ss u t = record {
  source = t.source;
  is_source = Contains-behind s t.source ss t.is_source;
  is_use = t.is_use;
  home_is = t.home_is;
  to_is = t.to_is;
}

here-source : (known : List Module) (s : Source) (ss : List Source) (h : ℕ) (u : Using) → slice_get known h ≡ Some s.home →
    Seen (using_of known h) s.tree.uses u → IsUseOf known (s ∷ ss) u
here-source known s ss h u e t =
    subst (IsUseOf known (s ∷ ss)) t.seen record { source = s; is_source = Contains-here s ss; is_use = t.among; home_is = e; to_is = refl }

-- each import by numbers is one of the program
pub using-is : (known : List Module) (ps : List (List ℕ)) (hs : List ℕ) (ts : List FileTree) → AreHomes known (map module_of ps) hs →
    (u : Using) → Contains (usings known hs ts) u → IsUseOf known (sources ps ts) u
using-is known ps [] ts h u c = absurd (Contains-none u c)
using-is known ps (x ∷ hs) [] h u c = absurd (Contains-none u c)
using-is known [] (x ∷ hs) (t ∷ ts) h u c = absurd h
using-is known (p ∷ ps) (x ∷ hs) (t ∷ ts) h u c =
    by (λ d. using-is known ps hs ts h.1 u d) (Contains-append_cases (map (using_of known x) t.uses) (usings known hs ts) u c)
  where
    by : (Contains (usings known hs ts) u → IsUseOf known (sources ps ts) u) →
        Contains (map (using_of known x) t.uses) u ⊎ Contains (usings known hs ts) u → IsUseOf known (sources (p ∷ ps) (t ∷ ts)) u
    by more (inl d) = here-source known (record { home = module_of p; tree = t }) (sources ps ts) x u h.0
        (Contains-map (using_of known x) t.uses u d)
    by more (inr d) = behind-source known (record { home = module_of p; tree = t }) (sources ps ts) u (more d)

-- and each import of the program has numbers
pub record HasUsing (known : List Module) (us : List Using) (s : Source) (t : Node) : Type 0 where
  pub home : ℕ
  pub is_using : Contains us (using_of known home t)
  pub home_is : slice_get known home ≡ Some s.home

pub has-using : (known : List Module) (ps : List (List ℕ)) (hs : List ℕ) (ts : List FileTree) → AreHomes known (map module_of ps) hs →
    (s : Source) (t : Node) → Contains (sources ps ts) s → Contains s.tree.uses t → HasUsing known (usings known hs ts) s t
has-using known [] hs ts h s t c d = absurd (Contains-none s c)
has-using known (p ∷ ps) hs [] h s t c d = absurd (Contains-none s c)
has-using known (p ∷ ps) [] (f ∷ ts) h s t c d = absurd h
has-using known (p ∷ ps) (x ∷ hs) (f ∷ ts) h s t c d =
    by (λ e. has-using known ps hs ts h.1 s t e d) (Contains-cases (record { home = module_of p; tree = f }) s (sources ps ts) c)
  where
    here : Source
    here = record { home = module_of p; tree = f }

    first : (r : Source) → here ≡ r → Contains r.tree.uses t → HasUsing known (usings known (x ∷ hs) (f ∷ ts)) r t
    first r e k = subst (λ q. Contains q.tree.uses t → HasUsing known (usings known (x ∷ hs) (f ∷ ts)) q t) e
        (λ i. record {
          home = x;
          is_using = Contains-append_left (map (using_of known x) f.uses) (usings known hs ts) (using_of known x t)
              (Contains-to-map (using_of known x) f.uses t i);
          home_is = h.0;
        }) k

    by : (Contains (sources ps ts) s → HasUsing known (usings known hs ts) s t) →
        (record { home = module_of p; tree = f } ≡ s) ⊎ Contains (sources ps ts) s → HasUsing known (usings known (x ∷ hs) (f ∷ ts)) s t
    by more (inl e) = first s e d
    by more (inr e) =
        let k = more e in record {
          home = k.home;
          is_using = Contains-append_right (map (using_of known x) f.uses) (usings known hs ts)
              (using_of known k.home t) k.is_using;
          home_is = k.home_is;
        }

-- the numbers are those of known modules
pub usings-within : (ms known : List Module) (homes : List ℕ) (ps : List (List ℕ)) (hs : List ℕ) (ts : List FileTree) →
    IsNumbering ms known homes → AreHomes known (map module_of ps) hs → AreUsingsWithin (length known) (usings known hs ts)
usings-within ms known homes ps hs ts n h u c =
    let k = using-is known ps hs ts h u c in
    record {
      home = get-within known u.home k.source.home k.home_is;
      to = λ i e. get-within known i (module_used u.tree) (position-is known (module_used u.tree) i (sym k.to_is ∙ e));
    }

-- ---- circles

record EdgeOf (us : List Using) (a b : ℕ) : Type 0 where
  by_use : Using
  among : Contains us by_use
  from_is : by_use.home ≡ a
  to_is : by_use.to ≡ Some b

edge-kept-import : (g : Graph) (u : Using) (a b : ℕ) → HasEdge g a b → HasEdge (with_import g u) a b
edge-kept-import g u a b e = by u.to
  where
    by : (o : Option ℕ) → HasEdge (with_target g u.home o) a b
    by None = e
    by (Some c) = edge-kept g u.home c a b e

edge-kept-all : (us : List Using) (g : Graph) (a b : ℕ) → HasEdge g a b → HasEdge (fold with_import g us) a b
edge-kept-all [] g a b e = e
edge-kept-all (u ∷ us) g a b e = edge-kept-all us (with_import g u) a b (edge-kept-import g u a b e)

length-import : (g : Graph) (u : Using) → length (with_import g u) ≡ length g
length-import g u = by u.to
  where
    by : (o : Option ℕ) → length (with_target g u.home o) ≡ length g
    by None = refl
    by (Some c) = length-with_edge g u.home c

edge-of-import : (g : Graph) (u : Using) (b : ℕ) → u.home < length g → u.to ≡ Some b → HasEdge (with_import g u) u.home b
edge-of-import g u b l e = subst (λ o. HasEdge (with_target g u.home o) u.home b) (sym e) (edge-new g u.home b l)

edge-of : (us : List Using) (g : Graph) (u : Using) (b : ℕ) → Contains us u → u.home < length g → u.to ≡ Some b →
    HasEdge (fold with_import g us) u.home b
edge-of [] g u b c l e = absurd (Contains-none u c)
edge-of (v ∷ us) g u b c l e = by (λ d. edge-of us (with_import g v) u b d (subst (λ n. u.home < n) (sym (length-import g v)) l) e)
    (Contains-cases v u us c)
  where
    by : (Contains us u → HasEdge (fold with_import (with_import g v) us) u.home b) → (v ≡ u) ⊎ Contains us u →
        HasEdge (fold with_import (with_import g v) us) u.home b
    by more (inr d) = more d
    by more (inl q) = subst (λ w. HasEdge (fold with_import (with_import g w) us) u.home b) (sym q)
        (edge-kept-all us (with_import g u) u.home b (edge-of-import g u b l e))

edge-back : (us : List Using) (g : Graph) (a b : ℕ) → HasEdge (fold with_import g us) a b → HasEdge g a b ⊎ EdgeOf us a b
edge-back [] g a b e = inl e
edge-back (u ∷ us) g a b e = by (edge-back us (with_import g u) a b e)
  where
    target : (o : Option ℕ) → u.to ≡ o → HasEdge (with_target g u.home o) a b → HasEdge g a b ⊎ EdgeOf (u ∷ us) a b
    target None q k = inl k
    target (Some c) q k = by-edge (edge-from g u.home c a b k)
      where
        by-edge : HasEdge g a b ⊎ ((a ≡ u.home) × (b ≡ c)) → HasEdge g a b ⊎ EdgeOf (u ∷ us) a b
        by-edge (inl i) = inl i
        by-edge (inr i) = inr record { by_use = u; among = Contains-here u us; from_is = sym i.0; to_is = q ∙ ap Some (sym i.1) }

    by : HasEdge (with_import g u) a b ⊎ EdgeOf us a b → HasEdge g a b ⊎ EdgeOf (u ∷ us) a b
    by (inl k) = target u.to refl k
    by (inr k) = inr record { by_use = k.by_use; among = Contains-behind u k.by_use us k.among; from_is = k.from_is; to_is = k.to_is }

edge-is : (n : ℕ) (us : List Using) (a b : ℕ) → HasEdge (imports_graph n us) a b → EdgeOf us a b
edge-is n us a b e = by (edge-back us (edgeless n) a b e)
  where
    by : HasEdge (edgeless n) a b ⊎ EdgeOf us a b → EdgeOf us a b
    by (inl k) = absurd (no-edges n a b k)
    by (inr k) = k

-- a module that another leads to leads on to what it imports
leads-on : (ss : List Source) (k n : Module) → Imports ss k n → {m : Module} → LeadsTo ss k m → LeadsTo ss n m
leads-on ss k n i there = onward k n i there
leads-on ss k n i (onward a b j r) = onward a b j (leads-on ss k n i r)

before : (g : Graph) (a b : ℕ) → HasEdge g a b → {c : ℕ} → Reached g b c → Reached g a c
before g a b e at_start = along a b at_start e
before g a b e (along x y r f) = along x y (before g a b e r) f

length-edgeless : (n : ℕ) → length (edgeless n) ≡ n
length-edgeless n = length-replicate n []

-- ---- the two ways of leading back

module _ (ms known : List Module) (homes : List ℕ) (ps : List (List ℕ)) (hs : List ℕ) (ts : List FileTree) (n : IsNumbering ms known homes)
    (h : AreHomes known (map module_of ps) hs) where
  abbrev us : List Using
  us = usings known hs ts

  abbrev ss : List Source
  ss = sources ps ts

  abbrev g : Graph
  g = imports_graph (length known) us

  same-there : (a : ℕ) (x y : Module) → slice_get known a ≡ Some x → slice_get known a ≡ Some y → x ≡ y
  same-there a x y e f = let k : Some x ≡ Some y = sym e ∙ f in cc

  -- an edge is an import
  edge-imports : (a b : ℕ) (x y : Module) → slice_get known a ≡ Some x → slice_get known b ≡ Some y → HasEdge g a b → Imports ss x y
  edge-imports a b x y ex ey e =
      let k = edge-is (length known) us a b e in
      let u = k.by_use in
      let i = using-is known ps hs ts h u k.among in
      let to = position-is known (module_used u.tree) b (sym i.to_is ∙ k.to_is) in (
        i.source,
        i.is_source,
        same-there a i.source.home x (subst (λ c. slice_get known c ≡ Some i.source.home) k.from_is i.home_is) ex,
        (u.tree, i.is_use, same-there b (module_used u.tree) y to ey),
      )

  -- what is reached is known
  reached-known : (a : ℕ) (x : Module) → slice_get known a ≡ Some x → {b : ℕ} → Reached g a b → (y : Module) × (slice_get known b ≡ Some y)
  reached-known a x e at_start = (x, e)
  reached-known a x e (along c b r f) =
      let k = edge-is (length known) us c b f in
      let i = using-is known ps hs ts h k.by_use k.among in
      (module_used k.by_use.tree, position-is known (module_used k.by_use.tree) b (sym i.to_is ∙ k.to_is))

  -- from what is reached, the start leads there
  reached-leads : (a : ℕ) (x : Module) → slice_get known a ≡ Some x → {b : ℕ} → Reached g a b → (y : Module) → slice_get known b ≡ Some y →
      LeadsTo ss y x
  reached-leads a x e at_start y f = subst (λ z. LeadsTo ss z x) (same-there a x y e f) there
  reached-leads a x e (along c b r k) y f =
      let m = reached-known a x e r in
      leads-on ss m.0 y (edge-imports c b m.0 y m.1 f k) (reached-leads a x e r m.0 m.1)

  -- an import is an edge
  imports-edge : (a b : ℕ) (x y : Module) → slice_get known a ≡ Some x → slice_get known b ≡ Some y → Imports ss x y → HasEdge g a b
  imports-edge a b x y ex ey i =
      let k = has-using known ps hs ts h i.0 i.3.0 i.1 i.3.1 in
      let at : k.home ≡ a = n.once k.home a x (k.home_is ∙ ap Some i.2) ex in
      let to : number_used known i.3.0 ≡ Some b = ap (λ z. position (bytes_eq z) known) i.3.2 ∙ position-of ms known homes y b n ey in
      let w = usings-within ms known homes ps hs ts n h (using_of known k.home i.3.0) k.is_using in
      subst (λ c. HasEdge g c b) at (edge-of us (edgeless (length known)) (using_of known k.home i.3.0) b k.is_using
      (subst (λ l. k.home < l) (sym (length-edgeless (length known))) w.home) to)

  leads-known : (goal : Module) (j : ℕ) → slice_get known j ≡ Some goal → {m : Module} → LeadsTo ss goal m → (i : ℕ) ×
      (slice_get known i ≡ Some m)
  leads-known goal j e there = (j, e)
  leads-known goal j e (onward a b i r) =
      let k = has-using known ps hs ts h i.0 i.3.0 i.1 i.3.1 in
      (k.home, k.home_is ∙ ap Some i.2)

  -- what leads to a module reaches it
  leads-reached : (goal : Module) (j : ℕ) → slice_get known j ≡ Some goal → {m : Module} → LeadsTo ss goal m → (i : ℕ) →
      slice_get known i ≡ Some m → Reached g i j
  leads-reached goal j e there i f = subst (λ c. Reached g i c) (n.once i j goal f e) at_start
  leads-reached goal j e (onward a b k r) i f =
      let l = leads-known goal j e r in
      before g i l.0 (imports-edge i l.0 a b f l.1 k) (leads-reached goal j e r l.0 l.1)

  pub circle-to : (f : Fault) → IsCircleIn g us f → IsCircle ss f
  circle-to f c =
      let u = c.0 in
      let i = using-is known ps hs ts h u c.1 in
      let at = c.2 in
      let to = position-is known (module_used u.tree) at.to (sym i.to_is ∙ at.known) in
      (i.source, i.is_source, (u.tree, i.is_use, reached-leads at.to (module_used u.tree) to at.back i.source.home i.home_is, at.fault_is))

  pub circle-from : (f : Fault) → IsCircle ss f → IsCircleIn g us f
  circle-from f c =
      let s = c.0 in
      let t = c.2.0 in
      let k = has-using known ps hs ts h s t c.1 c.2.1 in
      let l = leads-known s.home k.home k.home_is c.2.2 in
      let to : number_used known t ≡ Some l.0 = position-of ms known homes (module_used t) l.0 n l.1 in (
        using_of known k.home t,
        k.is_using,
        record
            { to = l.0; known = to; back = leads-reached s.home k.home k.home_is c.2.2 l.0 l.1; fault_is = c.2.3 },
      )

-- ---- known modules

or-left : (a b : Bool) → a ≡ true → (a || b) ≡ true
or-left a b e = rw e refl

or-right : (a b : Bool) → b ≡ true → (a || b) ≡ true
or-right true b e = refl
or-right false b e = e

or-cases : (a b : Bool) → (a || b) ≡ true → (a ≡ true) ⊎ (b ≡ true)
or-cases true b e = inl refl
or-cases false b e = inr e

is-same : (x y : List ℕ) → x ≡ y → bytes_eq x y ≡ true
is-same x y e = (bytes_eq-Decides x y).1 e

same-is : (x y : List ℕ) → bytes_eq x y ≡ true → x ≡ y
same-is x y e = (bytes_eq-Decides x y).0 e

home-known : (ps : List (List ℕ)) (ts : List FileTree) (m : Module) → length ts ≡ length ps → Contains (map module_of ps) m →
    list_any (λ s. same_module s.home m) (sources ps ts) ≡ true
home-known [] ts m l c = absurd (Contains-none m c)
home-known (p ∷ ps) [] m l c = absurd (omega (arith, l))
home-known (p ∷ ps) (t ∷ ts) m l c = by (λ d. home-known ps ts m (omega (arith, l)) d) (Contains-cases (module_of p) m (map module_of ps) c)
  where
    by : (Contains (map module_of ps) m → list_any (λ s. same_module s.home m) (sources ps ts) ≡ true) →
        (module_of p ≡ m) ⊎ Contains (map module_of ps) m →
        (bytes_eq (module_of p) m || list_any (λ s. same_module s.home m) (sources ps ts)) ≡ true
    by more (inl e) = or-left _ _ (is-same (module_of p) m e)
    by more (inr d) = or-right (bytes_eq (module_of p) m) _ (more d)

known-home : (known : List Module) (ps : List (List ℕ)) (hs : List ℕ) (ts : List FileTree) (m : Module) →
    AreHomes known (map module_of ps) hs → list_any (λ s. same_module s.home m) (sources ps ts) ≡ true → (i : ℕ) ×
    (slice_get known i ≡ Some m)
known-home known [] hs ts m h e = absurd cc
known-home known (p ∷ ps) hs [] m h e = absurd cc
known-home known (p ∷ ps) [] (t ∷ ts) m h e = absurd h
known-home known (p ∷ ps) (x ∷ hs) (t ∷ ts) m h e = by (λ d. known-home known ps hs ts m h.1 d) (or-cases (bytes_eq (module_of p) m) _ e)
  where
    by : (list_any (λ s. same_module s.home m) (sources ps ts) ≡ true → (i : ℕ) × (slice_get known i ≡ Some m)) →
        (bytes_eq (module_of p) m ≡ true) ⊎ (list_any (λ s. same_module s.home m) (sources ps ts) ≡ true) → (i : ℕ) ×
        (slice_get known i ≡ Some m)
    by more (inl d) = (x, h.0 ∙ ap Some (same-is (module_of p) m d))
    by more (inr d) = more d

module _ (known : List Module) (ps : List (List ℕ)) (hs : List ℕ) (ts : List FileTree) (paired : length ts ≡ length ps)
    (n : IsNumbering (map module_of ps) known hs) where
  known-true : (i : ℕ) (m : Module) → slice_get known i ≡ Some m → is_known (sources ps ts) m ≡ true
  known-true i m e = by (n.only i m e)
    where
      by : (m ≡ runtime) ⊎ Contains (map module_of ps) m → is_known (sources ps ts) m ≡ true
      by (inl r) = or-left (bytes_eq m runtime) _ (is-same m runtime r)
      by (inr c) = or-right (bytes_eq m runtime) _ (home-known ps ts m paired c)

  known-there : (m : Module) → is_known (sources ps ts) m ≡ true → (i : ℕ) × (slice_get known i ≡ Some m)
  known-there m e = by (or-cases (bytes_eq m runtime) _ e)
    where
      by : (bytes_eq m runtime ≡ true) ⊎ (list_any (λ s. same_module s.home m) (sources ps ts) ≡ true) → (i : ℕ) ×
          (slice_get known i ≡ Some m)
      by (inl r) = (0, n.first ∙ ap Some (sym (same-is m runtime r)))
      by (inr c) = known-home known ps hs ts m n.homes_are c

  -- a module has a number exactly where it is known
  pub numbered-known : (m : Module) → is_some (position (bytes_eq m) known) ≡ is_known (sources ps ts) m
  numbered-known m = by (is_known (sources ps ts) m) refl (position (bytes_eq m) known) refl
    where
      by : (b : Bool) → is_known (sources ps ts) m ≡ b → (o : Option ℕ) → position (bytes_eq m) known ≡ o → is_some o ≡ b
      by true e (Some i) p = refl
      by false e None p = refl
      by true e None p =
          let k = known-there m e in let q : position (bytes_eq m) known ≡ Some k.0 =
          position-of (map module_of ps) known hs m k.0 n k.1 in absurd cc
      by false e (Some i) p = let k : is_known (sources ps ts) m ≡ true = known-true i m (position-is known m i p) in absurd cc

-- ---- imports of no known module

filter_map-append : {A B : Type 0} (f : A → Option B) (xs ys : List A) → filter_map f (xs ++ ys) ≡ filter_map f xs ++ filter_map f ys
filter_map-append f [] ys = refl
filter_map-append {A} {B} f (x ∷ xs) ys = by (f x) (filter_map-append f xs ys)
  where
    by : (o : Option B) → filter_map f (xs ++ ys) ≡ filter_map f xs ++ filter_map f ys →
        cons_option o (filter_map f (xs ++ ys)) ≡ cons_option o (filter_map f xs) ++ filter_map f ys
    by None h = h
    by (Some b) h = ap (λ zs. b ∷ zs) h

abbrev fault_of_use : Node → Fault
fault_of_use u = fault 11 (place_of (path_in u))

filter-append : {A : Type 0} (p : A → Bool) (xs ys : List A) → filter p (xs ++ ys) ≡ filter p xs ++ filter p ys
filter-append p [] ys = refl
filter-append {A} p (x ∷ xs) ys = by (p x) (filter-append p xs ys)
  where
    by : (b : Bool) → filter p (xs ++ ys) ≡ filter p xs ++ filter p ys →
        cond b (x ∷ filter p (xs ++ ys)) (filter p (xs ++ ys)) ≡ cond b (x ∷ filter p xs) (filter p xs) ++ filter p ys
    by true h = ap (λ zs. x ∷ zs) h
    by false h = h

map-append : {A B : Type 0} (f : A → B) (xs ys : List A) → map f (xs ++ ys) ≡ map f xs ++ map f ys
map-append f [] ys = refl
map-append f (x ∷ xs) ys = ap (λ zs. f x ∷ zs) (map-append f xs ys)

is_none-not : (o : Option ℕ) → is_none o ≡ not (is_some o)
is_none-not None = refl
is_none-not (Some n) = refl

module _ (all : List Source) (known : List Module) (k : (m : Module) → is_some (position (bytes_eq m) known) ≡ is_known all m) where
  abbrev not_known : Node → Bool
  not_known u = not (is_known all (module_used u))

  unknown-uses : (h : ℕ) (us : List Node) → filter_map unknown_module (map (using_of known h) us) ≡ map fault_of_use (filter not_known us)
  unknown-uses h [] = refl
  unknown-uses h (u ∷ us) = by (is_none (number_used known u)) (not_known u)
      (is_none-not (number_used known u) ∙ ap not (k (module_used u))) (unknown-uses h us)
    where
      by : (a b : Bool) → a ≡ b → filter_map unknown_module (map (using_of known h) us) ≡ map fault_of_use (filter not_known us) →
          cons_option (cond a (Some (fault_of_use u)) None) (filter_map unknown_module (map (using_of known h) us)) ≡
          map fault_of_use (cond b (u ∷ filter not_known us) (filter not_known us))
      by true true e r = ap (λ fs. fault_of_use u ∷ fs) r
      by false false e r = r
      by true false e r = absurd (true≢false e)
      by false true e r = absurd (true≢false (sym e))

  pub unknown-all : (ps : List (List ℕ)) (hs : List ℕ) (ts : List FileTree) → AreHomes known (map module_of ps) hs →
      filter_map unknown_module (usings known hs ts) ≡ map fault_of_use (filter not_known (flat_map (λ s. s.tree.uses) (sources ps ts)))
  unknown-all [] [] ts h = refl
  unknown-all [] (x ∷ hs) ts h = absurd h
  unknown-all (p ∷ ps) [] ts h = absurd h
  unknown-all (p ∷ ps) (x ∷ hs) [] h = refl
  unknown-all (p ∷ ps) (x ∷ hs) (t ∷ ts) h =
      filter_map-append unknown_module (map (using_of known x) t.uses) (usings known hs ts)
      ∙ ap (λ fs. fs ++ filter_map unknown_module (usings known hs ts)) (unknown-uses x t.uses)
      ∙ ap (λ fs. map fault_of_use (filter not_known t.uses) ++ fs) (unknown-all ps hs ts h.1)
      ∙ sym (map-append fault_of_use (filter not_known t.uses) (filter not_known (flat_map (λ s. s.tree.uses) (sources ps ts))))
      ∙ ap (map fault_of_use) (sym (filter-append not_known t.uses (flat_map (λ s. s.tree.uses) (sources ps ts))))

-- ---- files of the module `rt`

abbrev fault_of_file : Source → Fault
fault_of_file s = fault 12 (start_of s.tree.file)

-- the module `rt`, and no other, has the number 0
first-number : (ms known : List Module) (homes : List ℕ) → IsNumbering ms known homes → (x : ℕ) (m : Module) → slice_get known x ≡ Some m →
    (x == 0) ≡ bytes_eq m runtime
first-number ms known homes n x m e = by (x == 0) refl (bytes_eq m runtime) refl
  where
    by : (a : Bool) → (x == 0) ≡ a → (b : Bool) → bytes_eq m runtime ≡ b → a ≡ b
    by true p true q = refl
    by false p false q = refl
    by true p false q =
        let z : x ≡ 0 = eqb-true x 0 p in
        let f : Some m ≡ Some runtime = sym e ∙ ap (slice_get known) z ∙ n.first in
        let same : m ≡ runtime = cc in
        absurd (true≢false (sym (is-same m runtime same) ∙ q))
    by false p true q =
        let same : m ≡ runtime = same-is m runtime q in
        let z : x ≡ 0 = n.once x 0 m e (n.first ∙ ap Some (sym same)) in
        absurd (true≢false (sym (eq-eqb x 0 z) ∙ p))

pub runtime-all : (ms known : List Module) (homes : List ℕ) → IsNumbering ms known homes →
    (ps : List (List ℕ)) (hs : List ℕ) (ts : List FileTree) → AreHomes known (map module_of ps) hs →
    runtime_files hs ts ≡ map fault_of_file (filter (λ s. same_module s.home runtime) (sources ps ts))
runtime-all ms known homes n [] [] ts h = refl
runtime-all ms known homes n [] (x ∷ hs) ts h = absurd h
runtime-all ms known homes n (p ∷ ps) [] ts h = absurd h
runtime-all ms known homes n (p ∷ ps) (x ∷ hs) [] h = refl
runtime-all ms known homes n (p ∷ ps) (x ∷ hs) (t ∷ ts) h =
    by (x == 0) (bytes_eq (module_of p) runtime) (first-number ms known homes n x (module_of p) h.0)
    (runtime-all ms known homes n ps hs ts h.1)
  where
    by : (a b : Bool) → a ≡ b → runtime_files hs ts ≡ map fault_of_file (filter (λ s. same_module s.home runtime) (sources ps ts)) →
        cons_option (cond a (Some (fault 12 (start_of t.file))) None) (runtime_files hs ts) ≡
        map fault_of_file (cond b (record { home = module_of p; tree = t } ∷ filter (λ s. same_module s.home runtime) (sources ps ts))
        (filter (λ s. same_module s.home runtime) (sources ps ts)))
    by true true e r = ap (λ fs. fault 12 (start_of t.file) ∷ fs) r
    by false false e r = r
    by true false e r = absurd (true≢false e)
    by false true e r = absurd (true≢false (sym e))
