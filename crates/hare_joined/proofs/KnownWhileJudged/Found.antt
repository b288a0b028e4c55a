-- What is found of a declaration among what is known of several.
use Rattle.std.proofs.Common.{◌≡◌, ℕ, zero, suc, ◌+◌, Bool, true, false, cond, List, [], ◌∷◌, map, Some, refl, ap, sym, ◌∙◌, subst, nat_eq, arith}
use Rattle.std.specs.Prelude.{Contains, slice_get}
use Rattle.std.specs.List.{enumerate_from}
use Rattle.std.specs.Option.{option_map}
use Rattle.std.proofs.lemmas.Bool.{eqb-true, eq-eqb, ne_eqb}
use Rattle.hare_tree.specs.declared.kind.Kind.{Kind}
use Rattle.hare_tree.specs.declared.kind.Kind.TheVariants as ki
use Rattle.hare_graph.proofs.Elements.{Contains-here, Contains-behind}
use Rattle.hare_types.specs.Store.{Store}
use Rattle.hare_typed.specs.Typed.{TypedNode}
use Rattle.hare_typed.specs.Numbers.{kind_of}
use Rattle.hare_rules.specs.declared.declared.DeclType.{DeclType}
use Rattle.hare_whole.specs.Parts.{known_by, known}
use Rattle.hare_turns.specs.Stages.{known_of}

-- what is found is known, and of the declaration that was looked for
pub known_of-there : (ds : List DeclType) (n : ℕ) (d : DeclType) → known_of ds n ≡ Some d → Contains ds d × (d.decl ≡ n)
known_of-there [] n d e = absurd cc
known_of-there (x ∷ xs) n d e = by (nat_eq x.decl n) refl e (known_of-there xs n d)
  where
    by : (b : Bool) → nat_eq x.decl n ≡ b → cond b (Some x) (known_of xs n) ≡ Some d →
        (known_of xs n ≡ Some d → Contains xs d × (d.decl ≡ n)) → Contains (x ∷ xs) d × (d.decl ≡ n)
    by true i h rest =
        let j : x ≡ d = cc in
        (subst (λ (z : DeclType). Contains (x ∷ xs) z) j (Contains-here x xs), ap (λ (z : DeclType). z.decl) (sym j) ∙ eqb-true x.decl n i)
    by false i h rest = let k = rest h in (Contains-behind x d xs k.0, k.1)

-- ---- finished declarations

module _ (l : Store) where
  known_by-decl : (n : ℕ) (k : Kind) (d : TypedNode) → (known_by l n k d).decl ≡ n
  known_by-decl n ki.TypeDecl d = refl
  known_by-decl n ki.Fn d = refl
  known_by-decl n ki.Def d = refl
  known_by-decl n _ d = refl

  -- what is known of these declarations, of which the first has this number
  abbrev known_from : ℕ → List TypedNode → List DeclType
  known_from n ds = map (λ e. known_by l e.0 (kind_of e.1) e.1) (enumerate_from n ds)

  known_from-found : (n i m : ℕ) (ds : List TypedNode) → n + i ≡ m →
      known_of (known_from n ds) m ≡ option_map (λ d. known_by l m (kind_of d) d) (slice_get ds i)
  known_from-found n i m [] e = refl
  known_from-found n zero m (d ∷ ds) e =
      let same : n ≡ m = omega arith in
      let here : nat_eq (known_by l n (kind_of d) d).decl m ≡ true = eq-eqb _ m (known_by-decl n (kind_of d) d ∙ same) in
      ap (λ (b : Bool). cond b (Some (known_by l n (kind_of d) d)) (known_of (known_from (n + 1) ds) m)) here
      ∙ ap (λ (k : ℕ). Some (known_by l k (kind_of d) d)) same
  known_from-found n (suc i) m (d ∷ ds) e =
      let own : (known_by l n (kind_of d) d).decl ≡ n = known_by-decl n (kind_of d) d in
      let other : nat_eq (known_by l n (kind_of d) d).decl m ≡ false = ne_eqb _ m (λ h. omega arith) in
      ap (λ (b : Bool). cond b (Some (known_by l n (kind_of d) d)) (known_of (known_from (n + 1) ds) m)) other
      ∙ known_from-found (n + 1) i m ds (omega arith)

  -- of each declaration that there is what it says, and of others nothing
  pub known-found : (ds : List TypedNode) (n : ℕ) → known_of (known l ds) n ≡ option_map (λ d. known_by l n (kind_of d) d) (slice_get ds n)
  known-found ds n = known_from-found 0 n n ds (omega arith)
