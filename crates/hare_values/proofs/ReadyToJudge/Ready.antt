-- By declarations that are ready values can be judged, and they stay ready as the store grows.
use Rattle.std.proofs.Common.{◌≡◌, ℕ, List, [], ◌∷◌, Bool, true, false, Some, refl, subst, nat_eq, arith}
use Rattle.std.specs.Prelude.{Contains, find, cond}
use Rattle.std.proofs.lemmas.Bool.{eqb-true}
use Rattle.std.proofs.lemmas.List.Elements.{Contains-append_right}
use Rattle.hare_tree.specs.declared.kind.Kind.{Kind}
use Rattle.hare_tree.specs.declared.kind.Kind.TheVariants as ki
use Rattle.hare_types.specs.Store.{Store}
use Rattle.hare_types.specs.Sound.{IsStore}
use Rattle.hare_types.specs.Later.{IsLater}
use Rattle.hare_rules.specs.declared.declared.DeclType.{DeclType}
use Rattle.hare_rules.specs.Words.{nomem}
use Rattle.rule_judge.specs.Defined.{IsDefinedName}
use Rattle.rule_judge.specs.Meant.{IsKnownKind}
use Rattle.rule_judge.proofs.DefinedLemmas.{defined_stays}
use Rattle.rule_judge.proofs.MeantLemmas.{name_stays}
use Rattle.hare_above.specs.Ready.{IsKnown}
use Rattle.hare_check.specs.Walking.{AreKnownDecls}
use Rattle.hare_ready.specs.Ready.{IsReadyDecl, AreReady}
use Rattle.hare_readable.specs.Taken.{AreTaken}

-- what is found stands in the list and passes the test
found-there : {A : Type 0} (p : A → Bool) (xs : List A) (x : A) → find p xs ≡ Some x → Contains xs x × (p x ≡ true)
found-there p [] x e = absurd cc
found-there {A} p (y ∷ ys) x e = by (p y) refl e (found-there p ys x)
  where
    by : (b : Bool) → p y ≡ b → cond b (Some y) (find p ys) ≡ Some x → (find p ys ≡ Some x → Contains ys x × (p x ≡ true)) →
        Contains (y ∷ ys) x × (p x ≡ true)
    by true d g rest =
        let h : y ≡ x = cc in
        subst (λ z. Contains (y ∷ ys) z × (p z ≡ true)) h ((0, omega arith, refl), d)
    by false d g rest = let r = rest g in (Contains-append_right (y ∷ []) ys x r.0, r.1)

-- ---- what the checker relies on

pub known-ready : (s : Store) (ds : List DeclType) → IsDefinedName s nomem → AreReady s ds → IsKnown s ds
known-ready s ds n h = record {
  nomem = n;
  params = λ m i t d e g. (h d (found-there (λ x. nat_eq x.decl m) ds d e).0).params i t g;
}

pub decls-ready : (s : Store) (ds : List DeclType) → AreReady s ds → AreKnownDecls s ds
decls-ready s ds h = λ m d e.
    let f = found-there (λ x. nat_eq x.decl m) ds d e in
    subst (λ k. IsKnownKind s k d d.kind) (eqb-true d.decl m f.1) (h d f.0).own

-- ---- later stores

module _ (now later : Store) (v : IsStore now) (l : IsLater now later) where
  kind-later : (n : ℕ) (d : DeclType) (k : Kind) → IsKnownKind now n d k → IsKnownKind later n d k
  kind-later n d ki.TypeDecl h = name_stays now later v l n h
  kind-later n d _ h = defined_stays now later v l d.ty h

  ready-later : (d : DeclType) → IsReadyDecl now d → IsReadyDecl later d
  ready-later d h = record {
    own = kind-later d.decl d d.kind h.own;
    params = λ i t e. defined_stays now later v l t (h.params i t e);
  }

  -- what is ready stays so
  pub taken-later : (known ready : List DeclType) → AreTaken now known ready → AreTaken later known ready
  taken-later known ready h = record { ready = λ d c. ready-later d (h.ready d c); same = h.same }
