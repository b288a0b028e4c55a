-- What a path in a declaration means is among what the declaration says of others.
use Rattle.std.proofs.Common.{◌≡◌, ◌⊎◌, inl, inr, ℕ, ◌<◌, List, [], ◌∷◌, ◌++◌, Bool, true, nat_lt, sym, subst, if◌then◌else◌}
use Rattle.std.specs.Prelude.{Contains}
use Rattle.std.proofs.lemmas.Bool.{lt-ltb}
use Rattle.hare_tree.specs.declared.kind.Kind.{Kind}
use Rattle.hare_tree.specs.declared.kind.Kind.TheVariants as ki
use Rattle.hare_tree.specs.declared.place.Place.{Place}
use Rattle.hare_tree.specs.declared.token.Meaning.{Meaning}
use Rattle.hare_tree.specs.declared.token.Meaning.TheVariants as me
use Rattle.hare_tree.specs.Node.{Head, Node, Nodes, branch, none, more}
use Rattle.hare_typed.specs.Erased.{heads, heads_each}
use Rattle.hare_rules.specs.Aggregates.{is_path}
use Rattle.hare_graph.proofs.Elements.{Contains-none, Contains-cases, Contains-here}
use Rattle.hare_depends.specs.Said.{named_here, paths_in, paths_among, is_behind, held_here, held_in, held_among, number_in, numbers_at}
use Rattle.hare_depends.proofs.ListLemmas.{Contains-left, Contains-right, Contains-either, Contains-flat_map}

-- ---- paths

named-there : (k : Kind) (p : Place) → is_path k ≡ true → Contains (named_here k p) p
named-there ki.Path p e = Contains-here p []
named-there _ p e = absurd cc

held-here : (b : Bool) (k : Kind) (p : Place) → is_path k ≡ true → Contains (held_here k b p) p
held-here b ki.Path p e = Contains-here p []
held-here b _ p e = absurd cc

-- an element behind all others is one of those, or the last
last-or : {A : Type 0} (xs : List A) (y x : A) → Contains (xs ++ y ∷ []) x → Contains xs x ⊎ (y ≡ x)
last-or {A} xs y x c = by (Contains-either x xs (y ∷ []) c)
  where
    end : (y ≡ x) ⊎ Contains [] x → Contains xs x ⊎ (y ≡ x)
    end (inl e) = inr e
    end (inr d) = absurd (Contains-none x d)

    by : Contains xs x ⊎ Contains (y ∷ []) x → Contains xs x ⊎ (y ≡ x)
    by (inl d) = inl d
    by (inr d) = end (Contains-cases y x [] d)

-- what stands in a tree stands at its root or in its kids
module _ (f : Kind → Place → List Place) (own : (k : Kind) (p : Place) → is_path k ≡ true → Contains (f k p) p) where
  root-or : (g h : Head) (hs : List Head) (ps : List Place) → Contains hs h ⊎ (g ≡ h) → is_path h.kind ≡ true →
      (Contains hs h → Contains ps h.place) → Contains (f g.kind g.place ++ ps) h.place
  root-or g h hs ps (inl d) e r = Contains-right h.place (f g.kind g.place) ps (r d)
  root-or g h hs ps (inr q) e r =
      Contains-left h.place (f g.kind g.place) ps
      (subst (λ (x : Head). Contains (f x.kind x.place) h.place) (sym q) (own h.kind h.place e))

both-or : (h : Head) (hs is : List Head) (ps qs : List Place) → Contains hs h ⊎ Contains is h → (Contains hs h → Contains ps h.place) →
    (Contains is h → Contains qs h.place) → Contains (ps ++ qs) h.place
both-or h hs is ps qs (inl d) r q = Contains-left h.place ps qs (r d)
both-or h hs is ps qs (inr d) r q = Contains-right h.place ps qs (q d)

mutual
  pub paths-there : (t : Node) (h : Head) → Contains (heads t) h → is_path h.kind ≡ true → Contains (paths_in t) h.place
  paths-there (branch g ts) h c e =
      root-or named_here named-there g h (heads_each ts) (paths_among ts) (last-or (heads_each ts) g h c) e (λ d. paths-each ts h d e)

  paths-each : (ts : Nodes) (h : Head) → Contains (heads_each ts) h → is_path h.kind ≡ true → Contains (paths_among ts) h.place
  paths-each none h c e = absurd (Contains-none h c)
  paths-each (more t ts) h c e =
      both-or h (heads t) (heads_each ts) (paths_in t) (paths_among ts) (Contains-either h (heads t) (heads_each ts) c)
      (λ d. paths-there t h d e) (λ d. paths-each ts h d e)

mutual
  pub held-there : (b : Bool) (t : Node) (h : Head) → Contains (heads t) h → is_path h.kind ≡ true → Contains (held_in b t) h.place
  held-there b (branch g ts) h c e =
      root-or (λ k p. held_here k b p) (held-here b) g h (heads_each ts) (held_among (is_behind g.kind b) ts)
      (last-or (heads_each ts) g h c) e (λ d. held-each (is_behind g.kind b) ts h d e)

  held-each : (b : Bool) (ts : Nodes) (h : Head) → Contains (heads_each ts) h → is_path h.kind ≡ true → Contains (held_among b ts) h.place
  held-each b none h c e = absurd (Contains-none h c)
  held-each b (more t ts) h c e =
      both-or h (heads t) (heads_each ts) (held_in b t) (held_among b ts) (Contains-either h (heads t) (heads_each ts) c)
      (λ d. held-there b t h d e) (λ d. held-each b ts h d e)

-- ---- numbers

-- what a path among these means is among their numbers
pub numbers-there : (count : ℕ) (means : Place → Meaning) (ps : List Place) (p : Place) (n : ℕ) → Contains ps p → means p ≡ me.Decl n →
    n < count → Contains (numbers_at count means ps) n
numbers-there count means ps p n c e l =
    Contains-flat_map (λ q. number_in count (means q)) ps p n c
    (subst (λ (m : Meaning). Contains (number_in count m) n) (sym e) here)
  where
    here : Contains (if nat_lt n count then n ∷ [] else []) n
    here = rw (lt-ltb n count l) (Contains-here n [])
