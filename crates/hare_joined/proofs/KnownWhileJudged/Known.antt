-- What becomes known of declarations while they are judged is of declarations of the program.
use Rattle.std.proofs.Common.{◌≡◌, ℕ, Bool, true, false, cond, List, [], ◌∷◌, ◌++◌, Option, Some, None, inl, inr, refl, ap, sym, ◌∙◌, subst}
use Rattle.std.specs.Prelude.{Contains, slice_get}
use Rattle.std.proofs.lemmas.List.Elements.{Contains-append_cases}
use Rattle.hare_tree.specs.declared.kind.Kind.{Kind}
use Rattle.hare_tree.specs.Node.{Node, head}
use Rattle.hare_graph.proofs.Elements.{Contains-none, Contains-cases}
use Rattle.hare_types.specs.Store.{Store}
use Rattle.hare_typed.specs.Typed.{TypedNode}
use Rattle.hare_rules.specs.declared.declared.DeclType.{DeclType}
use Rattle.hare_depends.specs.declared.said.Sort.{Sort}
use Rattle.hare_depends.specs.declared.said.Sort.TheVariants as so
use Rattle.hare_depends.specs.Sorts.{sort_of}
use Rattle.hare_modules.specs.Uses.{kid}
use Rattle.hare_whole.specs.Listing.{Listing, IsDecl}
use Rattle.hare_whole.specs.Parts.{def_known, global_known}
use Rattle.hare_whole.specs.Turns.{Stage, Step, setting_at, typed_at, type_or_plain, is_def, known_by_types, known_by_value, Passes, Goes}
use Rattle.hare_turns.specs.Stages.{known_of}
use Rattle.hare_joined.proofs.KnownWhileJudged.Found.{known_of-there}

-- ---- one step

one-own : (n : ℕ) (x d : DeclType) → x.decl ≡ n → Contains (x ∷ []) d → d.decl ≡ n
one-own n x d e c = elim (Contains-cases x d [] c) [
  | inl i ↦ ap (λ (z : DeclType). z.decl) (sym i) ∙ e
  | inr i ↦ absurd (Contains-none d i)
]

-- what the types of a declaration say is said of it
by_types-own : (l : Store) (n : ℕ) (k : Kind) (x : Sort) (ts : List TypedNode) (d : DeclType) → Contains (known_by_types l n k x ts) d →
    d.decl ≡ n
by_types-own l n k so.Type ts d c = one-own n _ d refl c
by_types-own l n k so.Function ts d c = one-own n _ d refl c
by_types-own l n k so.Constant ts d c = absurd (Contains-none d c)
by_types-own l n k so.Global ts d c = one-own n _ d refl c

constant-own : (l : Store) (n : ℕ) (k : Kind) (t v : TypedNode) (b : Bool) → (cond b (def_known l n t v) (global_known l n k t v)).decl ≡ n
constant-own l n k t v true = refl
constant-own l n k t v false = refl

-- and so is what its value says
by_value-own : (l : Store) (n : ℕ) (k : Kind) (x : Sort) (t v : TypedNode) (d : DeclType) → Contains (known_by_value l n k x t v) d →
    d.decl ≡ n
by_value-own l n k so.Type t v d c = absurd (Contains-none d c)
by_value-own l n k so.Function t v d c = absurd (Contains-none d c)
by_value-own l n k so.Constant t v d c = one-own n _ d (constant-own l n k t v (is_def k)) c
by_value-own l n k so.Global t v d c = absurd (Contains-none d c)

-- ---- all steps

module _ (p : Listing) (l : Store) where
  -- each is of a declaration of the program
  abbrev AreOfDecls : List DeclType → Type 0
  AreOfDecls ds = (d : DeclType) → Contains ds d → (t : Node) × IsDecl p d.decl t

  more : (ds ks : List DeclType) (n : ℕ) (t : Node) → IsDecl p n t → AreOfDecls ds → ((d : DeclType) → Contains ks d → d.decl ≡ n) →
      AreOfDecls (ds ++ ks)
  more ds ks n t i h own d c = elim (Contains-append_cases ds ks d c) [
    | inl a ↦ h d a
    | inr b ↦ (t, subst (λ (m : ℕ). IsDecl p m t) (sym (own d b)) i)
  ]

  pass : {g h : Stage} {x : Step} → Passes p l g x h → AreOfDecls g.known → AreOfDecls h.known
  pass {g} (Passes.types n t ts i a) o =
      more g.known (known_by_types l n (head t).kind (sort_of t) ts) n t i o (λ d c. by_types-own l n (head t).kind (sort_of t) ts d c)
  pass {g} (Passes.value n t v i a b) o =
      let y = type_or_plain (setting_at p l g) (kid t 2) (typed_at g n) in
      more g.known (known_by_value l n (head t).kind (sort_of t) y v) n t i o
      (λ d c. by_value-own l n (head t).kind (sort_of t) y v d c)
  pass (Passes.done n t i a b) o = o

  goes : {g h : Stage} {xs : List Step} → Goes p l g xs h → AreOfDecls g.known → AreOfDecls h.known
  goes (Goes.nowhere g) o = o
  goes (Goes.on g h k x xs a rest) o = goes rest (pass a o)

  -- of what is no declaration nothing is known
  none-beyond : (ds : List DeclType) → AreOfDecls ds → (n : ℕ) → slice_get p.decls n ≡ None → known_of ds n ≡ None
  none-beyond ds h n e = by (known_of ds n) refl
    where
      by : (o : Option DeclType) → known_of ds n ≡ o → known_of ds n ≡ None
      by None i = i
      by (Some d) i =
          let there = known_of-there ds n d i in
          let k = h d there.0 in
          let there_is : slice_get p.decls n ≡ Some k.0 = subst (λ (m : ℕ). IsDecl p m k.0) there.1 k.1 in
          absurd (cc)

  pub unknown-beyond : {g h : Stage} {xs : List Step} → g.known ≡ [] → Goes p l g xs h → (n : ℕ) → slice_get p.decls n ≡ None →
      known_of h.known n ≡ None
  unknown-beyond {g} {h} e k n i =
      none-beyond h.known (goes k (λ d c. absurd (Contains-none d (subst (λ (ds : List DeclType). Contains ds d) e c)))) n i
