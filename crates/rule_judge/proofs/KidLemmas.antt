-- Kids by their places.
use Rattle.std.proofs.Common.{◌≡◌, ℕ, zero, suc, ◌+◌, ◌<◌, ◌≤◌, Bool, true, false, ◌||◌, cond, List, [], ◌∷◌, ◌++◌, length, drop, Option, Some, None, refl, ap, ap₂, append_assoc, subst, sym, ◌∙◌, arith, add-one}
use Rattle.std.specs.Prelude.{slice_get, IfSome}
use Rattle.std.specs.List.{list_any}
use Rattle.hare_types.specs.Store.{Store}
use Rattle.hare_typed.specs.Given.{given}
use Rattle.hare_typed.specs.Typed.{TypedNode, marked, typed_nodes}
use Rattle.hare_types.specs.declared.coercion.Ty.{Ty}
use Rattle.hare_types.specs.declared.coercion.Coercion.{Coercion}
use Rattle.hare_rules.specs.Context.{Context, store_of, kid, own_type}
use Rattle.hare_rules.specs.Settles.{to_type, target_of, kid_coercion}
use Rattle.hare_rules.specs.Judged.{was_hinted, unless, coercions_from}
use Rattle.rule_judge.specs.Asked.{listed}
use Rattle.hare_rules.specs.Words.{is_never}
use Rattle.hare_typed.specs.Order.{missing, tree_from_front}
use Rattle.rule_judge.specs.Defined.{IsDefinedTy, IsDefinedTree, AreDefinedTrees}

pub front_found : (xs : List TypedNode) (i : ℕ) (x : TypedNode) → slice_get xs i ≡ Some x → x ≡ tree_from_front i xs
front_found [] i x e = absurd cc
front_found (y ∷ xs) zero x e = cc
front_found (y ∷ xs) (suc i) x e = front_found xs i x e

pub front_past : (xs : List TypedNode) (i : ℕ) → length xs ≤ i → missing ≡ tree_from_front i xs
front_past [] i h = refl
front_past (y ∷ xs) zero h = absurd (omega arith)
front_past (y ∷ xs) (suc i) h = front_past xs i (omega arith)

pub kid_defined : (s : Store) (xs : List TypedNode) (i : ℕ) (x : TypedNode) → AreDefinedTrees s (typed_nodes xs) → slice_get xs i ≡ Some x →
    IsDefinedTree s x
kid_defined s [] i x h e = absurd cc
kid_defined s (y ∷ xs) zero x h e = let same : y ≡ x = cc in subst (IsDefinedTree s) same h.0
kid_defined s (y ∷ xs) (suc i) x h e = kid_defined s xs i x h.1 e

-- the kids from a place on
drop-suc : (xs : List TypedNode) (i : ℕ) → i < length xs → drop i xs ≡ tree_from_front i xs ∷ drop (suc i) xs
drop-suc [] i h = absurd (omega arith)
drop-suc (y ∷ xs) zero h = refl
drop-suc (y ∷ xs) (suc i) h = drop-suc xs i (omega arith)

pub drop_front : (xs : List TypedNode) (i : ℕ) → i < length xs → drop i xs ≡ tree_from_front i xs ∷ drop (i + 1) xs
drop_front xs i h = rw add-one (drop-suc xs i h)

-- ---- types of kids

own_of : (s : Store) (x : TypedNode) → IsDefinedTree s x → IsDefinedTy s (own_type x)
own_of s (marked h m ts) d = d.0

seen_of : (s : Store) (x : TypedNode) → IsDefinedTree s x → IsDefinedTy s (given x)
seen_of s (marked h m ts) d = d.1

pub own_defined : (s : Store) (xs : List TypedNode) (i : ℕ) → AreDefinedTrees s (typed_nodes xs) →
    IsDefinedTy s (own_type (tree_from_front i xs))
own_defined s [] i h = tt
own_defined s (x ∷ xs) zero h = own_of s x h.0
own_defined s (x ∷ xs) (suc i) h = own_defined s xs i h.1

pub seen_defined : (s : Store) (xs : List TypedNode) (i : ℕ) → AreDefinedTrees s (typed_nodes xs) →
    IsDefinedTy s (given (tree_from_front i xs))
seen_defined s [] i h = tt
seen_defined s (x ∷ xs) zero h = seen_of s x h.0
seen_defined s (x ∷ xs) (suc i) h = seen_defined s xs i h.1

-- ---- statements that do not go on

module _ (f : Store) (xs : List TypedNode) (i : ℕ) (h : i < length xs) where
  abbrev Never : List TypedNode → Bool
  Never = list_any (λ x. is_never f (own_type x))

  pub never_here : is_never f (own_type (tree_from_front i xs)) ≡ true → Never (drop i xs) ≡ true
  never_here e = ap Never (drop_front xs i h) ∙ ap (λ b. b || Never (drop (i + 1) xs)) e

  pub never_next : is_never f (own_type (tree_from_front i xs)) ≡ false → Never (drop i xs) ≡ Never (drop (i + 1) xs)
  never_next e = ap Never (drop_front xs i h) ∙ ap (λ b. b || Never (drop (i + 1) xs)) e

pub drop_past : {A : Type 0} (xs : List A) (i : ℕ) → length xs ≤ i → drop i xs ≡ []
drop_past [] zero h = refl
drop_past [] (suc i) h = refl
drop_past (x ∷ xs) zero h = absurd (omega arith)
drop_past (x ∷ xs) (suc i) h = drop_past xs i (omega arith)

-- ---- coercions

pub listed_is : (c : Context) (i : ℕ) (a : Ty) (o : Option ℕ) (r : Coercion) → was_hinted c i ≡ false → r ≡ to_type (store_of c) a o →
    a ≡ own_type (kid c i)
    → o ≡ target_of c c.head.kind i → Some r ≡ listed c i
listed_is c i a o r h e own to =
    ap Some (e ∙ ap₂ (to_type (store_of c)) own to) ∙ sym (ap (λ b. cond b None (Some (kid_coercion c i))) h)

module _ (c : Context) (i : ℕ) (h : i < length c.kids) where
  rest : coercions_from c i (drop i c.kids) ≡ unless (was_hinted c i) (kid_coercion c i) ++ coercions_from c (suc i) (drop (i + 1) c.kids)
  rest = ap (coercions_from c i) (drop_front c.kids i h)

  -- nothing is listed of a kid that was asked for a type
  pub skipped : None ≡ listed c i → coercions_from c i (drop i c.kids) ≡ coercions_from c (i + 1) (drop (i + 1) c.kids)
  skipped e =
      let next : suc i ≡ i + 1 = omega arith in
      rest ∙ by (was_hinted c i) e ∙ ap (λ n. coercions_from c n (drop (i + 1) c.kids)) next
    where
      by : (b : Bool) → None ≡ cond b None (Some (kid_coercion c i))
          → unless b (kid_coercion c i) ++ coercions_from c (suc i) (drop (i + 1) c.kids) ≡ coercions_from c (suc i) (drop (i + 1) c.kids)
      by true g = refl
      by false g = absurd cc

  pub listed_next : (r : Coercion) → Some r ≡ listed c i →
      coercions_from c i (drop i c.kids) ≡ r ∷ coercions_from c (i + 1) (drop (i + 1) c.kids)
  listed_next r e =
      let next : suc i ≡ i + 1 = omega arith in
      rest ∙ by (was_hinted c i) e ∙ ap (λ n. r ∷ coercions_from c n (drop (i + 1) c.kids)) next
    where
      by : (b : Bool) → Some r ≡ cond b None (Some (kid_coercion c i))
          → unless b (kid_coercion c i) ++ coercions_from c (suc i) (drop (i + 1) c.kids) ≡
          r ∷ coercions_from c (suc i) (drop (i + 1) c.kids)
      by true g = absurd cc
      by false g = let same : kid_coercion c i ≡ r = cc in ap (λ q. q ∷ coercions_from c (suc i) (drop (i + 1) c.kids)) same

pub put_listed : (done new : List Coercion) (r : Coercion) (all rest next : List Coercion) → all ≡ done ++ rest → rest ≡ r ∷ next →
    new ≡ done ++ r ∷ [] → all ≡ new ++ next
put_listed done new r all left next e g k =
    e ∙ ap (λ xs. done ++ xs) g ∙ sym (append_assoc done (r ∷ []) next) ∙ sym (ap (λ xs. xs ++ next) k)

pub some_defined : (s : Store) (o : Option Coercion) (r : Coercion) → IfSome o (λ q. IsDefinedTy s q.to) → o ≡ Some r → IsDefinedTy s r.to
some_defined s None r h e = absurd cc
some_defined s (Some q) r h e = let same : q ≡ r = cc in subst (λ x. IsDefinedTy s x.to) same h

pub no_coercion : (o : Option Coercion) → ((r : Coercion) → ¬ (o ≡ Some r)) → None ≡ o
no_coercion None h = refl
no_coercion (Some r) h = absurd (h r refl)

-- ---- the first of some trees

pub first_is : (xs : List TypedNode) (t : TypedNode) → slice_get xs 0 ≡ Some t → (ts : List TypedNode) × (xs ≡ t ∷ ts)
first_is [] t e = absurd cc
first_is (x ∷ xs) t e = let same : x ≡ t = cc in (xs, ap (λ y. y ∷ xs) same)

pub seen_given : (s : Store) (t x : TypedNode) → x ≡ t → IsDefinedTree s t → IsDefinedTy s (given x)
seen_given s t x e d = seen_of s x (subst (IsDefinedTree s) (sym e) d)
