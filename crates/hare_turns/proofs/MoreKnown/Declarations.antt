-- What is known of declarations once more is, and what paths say with it.
use Rattle.std.proofs.Common.{◌≡◌, ℕ, Bool, true, false, cond, List, [], ◌∷◌, ◌++◌, Option, Some, None, refl, ap, sym, ◌∙◌, nat_eq}
use Rattle.std.specs.Prelude.{is_some, slice_get}
use Rattle.std.specs.List.{AllByRecursion}
use Rattle.std.specs.Option.{option_or}
use Rattle.std.proofs.lemmas.Bool.{eqb-true}
use Rattle.std.proofs.lemmas.List.Folds.{find-append}
use Rattle.hare_tree.specs.declared.kind.Kind.{Kind}
use Rattle.hare_tree.specs.declared.kind.Kind.TheVariants as ki
use Rattle.hare_tree.specs.Node.{Node}
use Rattle.hare_types.specs.Store.{Store}
use Rattle.hare_typed.specs.Typed.{TypedNode}
use Rattle.hare_rules.specs.declared.declared.DeclType.{DeclType}
use Rattle.hare_rules.specs.Aggregates.{is_path}
use Rattle.hare_depends.specs.declared.said.Sort.{Sort}
use Rattle.hare_depends.specs.declared.said.Sort.TheVariants as so
use Rattle.hare_whole.specs.Listing.{Listing, IsDecl}
use Rattle.hare_whole.specs.Parts.{def_known, global_known}
use Rattle.hare_whole.specs.Turns.{is_def, known_by_types, known_by_value}
use Rattle.hare_turns.specs.Stages.{known_of, IsReadable, AreReadable}

-- ---- what is known of declarations of the program

abbrev pub AreOfProgram : Listing → List DeclType → Type 0
AreOfProgram p ds = AllByRecursion (λ (d : DeclType). (t : Node) × IsDecl p d.decl t) ds

-- it says nothing of what is none
known_of-none : (p : Listing) (ds : List DeclType) (n : ℕ) → AreOfProgram p ds → slice_get p.decls n ≡ None → known_of ds n ≡ None
known_of-none p [] n h e = refl
known_of-none p (d ∷ ds) n h e = by (nat_eq d.decl n) refl (known_of-none p ds n h.1 e)
  where
    by : (b : Bool) → nat_eq d.decl n ≡ b → known_of ds n ≡ None → cond (nat_eq d.decl n) (Some d) (known_of ds n) ≡ None
    by true i rest =
        let there : Some h.0.0 ≡ None = sym h.0.1 ∙ ap (slice_get p.decls) (eqb-true d.decl n i) ∙ e in
        absurd cc
    by false i rest = ap (λ b. cond b (Some d) (known_of ds n)) i ∙ rest

module _ (p : Listing) (s : Store) (n : ℕ) (t : Node) (here : IsDecl p n t) (k : Kind) where
  -- what the types of a declaration say is of it alone
  pub known_by_types-of_program : (x : Sort) (ts : List TypedNode) → AreOfProgram p (known_by_types s n k x ts)
  known_by_types-of_program so.Type ts = ((t, here), tt)
  known_by_types-of_program so.Function ts = ((t, here), tt)
  known_by_types-of_program so.Constant ts = tt
  known_by_types-of_program so.Global ts = ((t, here), tt)

  -- and what its value says
  pub known_by_value-of_program : (x : Sort) (ty v : TypedNode) → AreOfProgram p (known_by_value s n k x ty v)
  known_by_value-of_program so.Type ty v = tt
  known_by_value-of_program so.Function ty v = tt
  known_by_value-of_program so.Global ty v = tt
  known_by_value-of_program so.Constant ty v = (by (is_def k), tt)
    where
      by : (b : Bool) → (u : Node) × IsDecl p (cond b (def_known s n ty v) (global_known s n k ty v)).decl u
      by true = (t, here)
      by false = (t, here)

-- ---- what paths say

module _ (p : Listing) (ds ks : List DeclType) where
  -- what is known stays
  same_or : (o q : Option DeclType) → is_some o ≡ true → o ≡ option_or o q
  same_or None q e = cc
  same_or (Some d) q e = refl

  pub known_of-more : (n : ℕ) → is_some (known_of ds n) ≡ true → known_of ds n ≡ known_of (ds ++ ks) n
  known_of-more n h = same_or (known_of ds n) (known_of ks n) h ∙ sym (find-append (λ d. nat_eq d.decl n) ds ks)

  IsReadable-more : (k : Kind) (n : ℕ) → IsReadable p ds k n → IsReadable p (ds ++ ks) k n
  IsReadable-more ki.Path n h = λ t d. ap is_some (sym (known_of-more n (h t d))) ∙ h t d
  IsReadable-more ki.TypePath n h = h
  IsReadable-more _ n h = tt

  pub AreReadable-more : (t : Node) → AreReadable p ds t → AreReadable p (ds ++ ks) t
  AreReadable-more t h = λ x n c e. IsReadable-more x.kind n (h x n c e)

  -- where nothing is known behind them, they are all that is known
  or_none : (o q : Option DeclType) → q ≡ None → o ≡ option_or o q
  or_none None q e = sym e
  or_none (Some d) q e = refl

  known_of-before : (n : ℕ) → known_of ks n ≡ None → known_of ds n ≡ known_of (ds ++ ks) n
  known_of-before n e = or_none (known_of ds n) (known_of ks n) e ∙ sym (find-append (λ d. nat_eq d.decl n) ds ks)

  -- a path of an expression says the same
  pub says_the_same : AreOfProgram p ks → (k : Kind) (n : ℕ) → is_path k ≡ true → IsReadable p ds k n →
      known_of ds n ≡ known_of (ds ++ ks) n
  says_the_same own ki.Path n e h = by (slice_get p.decls n) refl
    where
      by : (o : Option Node) → slice_get p.decls n ≡ o → known_of ds n ≡ known_of (ds ++ ks) n
      by (Some t) d = known_of-more n (h t d)
      by None d = known_of-before n (known_of-none p ks n own d)
  says_the_same own _ n e h = cc
