-- What is asked of declarations before bodies are judged.
use Rattle.std.proofs.Common.{◌≡◌, List, [], ◌∷◌, Bool, true, false, Some, refl, subst, nat_eq, arith}
use Rattle.std.specs.Prelude.{Contains, find, cond, Result, Ok, Err, IfOk}
use Rattle.std.proofs.lemmas.Bool.{eqb-true}
use Rattle.std.proofs.lemmas.List.Elements.{Contains-append_right}
use Rattle.hare_types.specs.Store.{Store}
use Rattle.hare_types.specs.Sound.{IsStore}
use Rattle.hare_types.specs.Later.{IsLater}
use Rattle.hare_rules.specs.declared.declared.DeclType.{DeclType}
use Rattle.hare_rules.specs.Words.{nomem}
use Rattle.rule_judge.specs.Defined.{IsDefinedName}
use Rattle.rule_judge.specs.Meant.{IsKnownKind}
use Rattle.hare_check.proofs.Walks.Growing.{known_stays, decls_stay}
use Rattle.hare_ready.specs.Ready.{AreReady}
use Rattle.hare_bodies.specs.Functions.{CanJudge}

-- what is found stands in the list and passes the test
found-there : {A : Type 0} (p : A → Bool) (xs : List A) (x : A) → find p xs ≡ Some x → Contains xs x × (p x ≡ true)
found-there p [] x e = absurd cc
found-there {A} p (y ∷ ys) x e = by (p y) refl e (found-there p ys x)
  where
    by : (b : Bool) → p y ≡ b → cond b (Some y) (find p ys) ≡ Some x → (find p ys ≡ Some x → Contains ys x × (p x ≡ true)) →
        Contains (y ∷ ys) x × (p x ≡ true)
    by true d g rest = let h : y ≡ x = cc in subst (λ z. Contains (y ∷ ys) z × (p z ≡ true)) h ((0, omega arith, refl), d)
    by false d g rest = let r = rest g in (Contains-append_right (y ∷ []) ys x r.0, r.1)

-- by declarations that are ready bodies can be judged
pub can-judge : (s : Store) (ds : List DeclType) → IsDefinedName s nomem → AreReady s ds → CanJudge s ds
can-judge s ds n h = record {
  known = record {
    nomem = n;
    params = λ m i t d e g. (h d (found-there (λ x. nat_eq x.decl m) ds d e).0).params i t g;
  };
  decls = λ m d e.
      let f = found-there (λ x. nat_eq x.decl m) ds d e in
      subst (λ k. IsKnownKind s k d d.kind) (eqb-true d.decl m f.1) (h d f.0).own;
}

pub can-judge-ok : {E : Type 0} (s : Store) (ds : List DeclType) (r : Result Bool E) → IsDefinedName s nomem →
    IfOk r (λ b. b ≡ true → AreReady s ds) →
    IfOk r (λ b. b ≡ true → CanJudge s ds)
can-judge-ok s ds (Ok b) n h = λ e. can-judge s ds n (h e)
can-judge-ok s ds (Err q) n h = tt

-- bodies can be judged by them in each later store too
pub can-judge-later : (s r : Store) (ds : List DeclType) → IsStore s → IsLater s r → CanJudge s ds → CanJudge r ds
can-judge-later s r ds v l h = record { known = known_stays s r v l ds h.known; decls = decls_stay s r v l ds h.decls }
