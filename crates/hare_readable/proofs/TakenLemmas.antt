-- What is ready as more of what is known is put there.
use Rattle.std.proofs.Common.{◌≡◌, ◌⊎◌, inl, inr, ℕ, Bool, true, false, cond, List, [], ◌∷◌, ◌++◌, Option, Some, None, refl, ap, sym, ◌∙◌, subst}
use Rattle.std.specs.Prelude.{nat_eq, is_some}
use Rattle.std.specs.Option.{option_or}
use Rattle.std.proofs.lemmas.Bool.{eqb-true, eq-eqb}
use Rattle.std.proofs.lemmas.List.Folds.{find-append}
use Rattle.std.proofs.lemmas.List.Elements.{Contains-push_cases}
use Rattle.hare_tree.specs.declared.place.Place.{Place}
use Rattle.hare_tree.specs.declared.token.Meaning.{Meaning}
use Rattle.hare_tree.specs.Node.{Head}
use Rattle.hare_types.specs.Store.{Store}
use Rattle.hare_rules.specs.declared.declared.DeclType.{DeclType}
use Rattle.hare_names.proofs.AdmittedLemmas.{find-passes}
use Rattle.hare_ready.specs.Ready.{AreReady, IsReadyDecl}
use Rattle.hare_turns.specs.Stages.{known_of}
use Rattle.hare_readable.specs.Taken.{AreTaken}
use Rattle.hare_readable.specs.Taking.{TakesMore, IsEnoughHead}

-- ---- what is known of a declaration, by its number

-- what is found by a number has it
known_of-number : (ds : List DeclType) (n : ℕ) (d : DeclType) → known_of ds n ≡ Some d → d.decl ≡ n
known_of-number ds n d e = eqb-true d.decl n (find-passes (λ x. nat_eq x.decl n) ds d e)

known_of-push : (ds : List DeclType) (x : DeclType) (n : ℕ) → known_of (ds ++ x ∷ []) n ≡ option_or (known_of ds n) (known_of (x ∷ []) n)
known_of-push ds x n = find-append (λ d. nat_eq d.decl n) ds (x ∷ [])

-- what was found is still found
known_of-kept : (ds : List DeclType) (x : DeclType) (n : ℕ) (d : DeclType) → known_of ds n ≡ Some d → known_of (ds ++ x ∷ []) n ≡ Some d
known_of-kept ds x n d e = known_of-push ds x n ∙ ap (λ o. option_or o (known_of (x ∷ []) n)) e

-- what is put there is found by its number, where none was
known_of-new : (ds : List DeclType) (x : DeclType) (n : ℕ) → x.decl ≡ n → known_of ds n ≡ None → known_of (ds ++ x ∷ []) n ≡ Some x
known_of-new ds x n e none =
    known_of-push ds x n ∙ ap (λ o. option_or o (known_of (x ∷ []) n)) none ∙ ap (λ b. cond b (Some x) None) (eq-eqb x.decl n e)

-- what is found was there before, or is what was put there
known_of-cases : (ds : List DeclType) (x : DeclType) (n : ℕ) (d : DeclType) → known_of (ds ++ x ∷ []) n ≡ Some d →
    (known_of ds n ≡ Some d) ⊎ (known_of (x ∷ []) n ≡ Some d)
known_of-cases ds x n d e = by (known_of ds n) (sym (known_of-push ds x n) ∙ e)
  where
    by : (o : Option DeclType) → option_or o (known_of (x ∷ []) n) ≡ Some d → (o ≡ Some d) ⊎ (known_of (x ∷ []) n ≡ Some d)
    by None k = inr k
    by (Some c) k = inl k

-- ---- what is taken

pub TakesMore-none : (s : Store) (known ready : List DeclType) → AreTaken s known ready → TakesMore s known ready ready
TakesMore-none s known ready t = record { taken = t; kept = λ n d e. e }

pub TakesMore-then : (s : Store) (known old mid new : List DeclType) → TakesMore s known old mid → TakesMore s known mid new →
    TakesMore s known old new
TakesMore-then s known old mid new a b = record { taken = b.taken; kept = λ n d e. b.kept n d (a.kept n d e) }

ready-push : (s : Store) (ds : List DeclType) (x : DeclType) → AreReady s ds → IsReadyDecl s x → AreReady s (ds ++ x ∷ [])
ready-push s ds x all own d c = elim (Contains-push_cases ds x d c) [ inl a ↦ all d a | inr e ↦ subst (IsReadyDecl s) e own ]

-- what is known of a declaration is put there
pub TakesMore-push : (s : Store) (known ready : List DeclType) (n : ℕ) (x : DeclType) → AreTaken s known ready → known_of known n ≡ Some x →
    IsReadyDecl s x → TakesMore s known ready (ready ++ x ∷ [])
TakesMore-push s known ready n x t there own = record {
  taken = record { ready = ready-push s ready x t.ready own; same = same };
  kept = known_of-kept ready x;
}
  where
    by : (m : ℕ) (d : DeclType) → known_of (x ∷ []) m ≡ Some d → known_of known m ≡ Some d
    by m d e =
        let new : x ≡ d = one (nat_eq x.decl m) e in
        let number : n ≡ m = sym (known_of-number known n x there) ∙ ap (λ y. y.decl) new ∙ known_of-number (x ∷ []) m d e in
        ap (known_of known) (sym number) ∙ there ∙ ap Some new
      where
        one : (b : Bool) → cond b (Some x) None ≡ Some d → x ≡ d
        one true k = cc
        one false k = absurd cc

    same : (m : ℕ) (d : DeclType) → known_of (ready ++ x ∷ []) m ≡ Some d → known_of known m ≡ Some d
    same m d e = elim (known_of-cases ready x m d e) [ inl a ↦ t.same m d a | inr b ↦ by m d b ]

-- ---- what the two say of one declaration

-- what is ready is known
pub same-ready : (s : Store) (known ready : List DeclType) (n : ℕ) (d : DeclType) → AreTaken s known ready → known_of ready n ≡ Some d →
    known_of ready n ≡ known_of known n
same-ready s known ready n d t e = e ∙ sym (t.same n d e)

-- what is put there is found there, as it is known
pub same-push : (known ready : List DeclType) (n : ℕ) (x : DeclType) → known_of ready n ≡ None → known_of known n ≡ Some x →
    known_of (ready ++ x ∷ []) n ≡ known_of known n
same-push known ready n x none there = known_of-new ready x n (known_of-number known n x there) none ∙ sym there

-- where nothing is found there is none
pub none-found : {A : Type 0} (o : Option A) → is_some o ≡ false → o ≡ None
none-found None e = refl
none-found (Some a) e = absurd cc

alike-kept : {A : Type 0} (old new known : Option A) → ((d : A) → old ≡ Some d → new ≡ Some d) → ((d : A) → new ≡ Some d → known ≡ Some d) →
    old ≡ known → new ≡ known
alike-kept old (Some d) known kept same e = sym (same d refl)
alike-kept (Some d) None known kept same e = let h = kept d refl in cc
alike-kept None None known kept same e = e

-- what is enough stays so as more is ready
pub enough-kept : (ns : List (Place × Meaning)) (s : Store) (known old new : List DeclType) → TakesMore s known old new → (h : Head) →
    IsEnoughHead ns known old h → IsEnoughHead ns known new h
enough-kept ns s known old new t h own n k m =
    alike-kept (known_of old n) (known_of new n) (known_of known n) (t.kept n) (t.taken.same n) (own n k m)
