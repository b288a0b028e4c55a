-- Types that are put one behind another, and each listed once.
use Rattle.std.proofs.Common.{◌≡◌, ◌⊎◌, inl, inr, ℕ, zero, suc, ◌+◌, ◌<◌, Bool, true, false, cond, List, [], ◌∷◌, ◌++◌, length, drop, fold, Some, refl, sym, ap, ◌∙◌, arith, append_assoc, if◌then◌else◌}
use Rattle.std.specs.Prelude.{slice_get, filter, not, ◌==◌, ◌||◌}
use Rattle.std.specs.List.{list_any}
use Rattle.std.specs.Cmp.{unsigned_Decides}
use Rattle.std.proofs.lemmas.List.{append-nil}
use Rattle.std.proofs.lemmas.List.Elements.{filter-append}
use Rattle.std.proofs.lemmas.Option.{slice_get_within}
use Rattle.hare_modules.proofs.ListLemmas.{drop-there}
use Rattle.hare_types.specs.Numbering.{IsNumbered}
use Rattle.hare_whole.specs.Tags.{once}
use Rattle.hare_tags.specs.Lists.{with_tag}

-- ---- one behind another

-- one element more has been gone over
pub one-more : {A : Type 0} (f : A → List ℕ) (g : List A → List ℕ) → ((x : A) (xs : List A) → g (x ∷ xs) ≡ f x ++ g xs)
    → (now new all : List ℕ) (ks : List A) (i : ℕ) (t : A) → slice_get ks i ≡ Some t → new ≡ now ++ f t → now ++ g (drop i ks) ≡ all
    → new ++ g (drop (i + 1) ks) ≡ all
one-more f g step now new all ks i t e n w =
    ap (λ z. z ++ g (drop (i + 1) ks)) n ∙ append_assoc now (f t) (g (drop (i + 1) ks))
    ∙ ap (λ z. now ++ z) (sym (step t (drop (i + 1) ks)))
    ∙ ap (λ z. now ++ g z) (sym (drop-there ks i t e)) ∙ w

-- ---- one more of a list in which each stands once

any-there : (t : ℕ) (xs : List ℕ) → list_any (λ u. u == t) xs ≡ true → (m : ℕ) × (slice_get xs m ≡ Some t)
any-there t [] e = absurd cc
any-there t (x ∷ xs) e = by (any-there t xs) (x == t) refl e
  where
    by : (list_any (λ u. u == t) xs ≡ true → (m : ℕ) × (slice_get xs m ≡ Some t)) → (b : Bool) → (x == t) ≡ b
        → (b || list_any (λ u. u == t) xs) ≡ true
        → (m : ℕ) × (slice_get (x ∷ xs) m ≡ Some t)
    by r true k f = (0, ap Some ((unsigned_Decides x t).0 k))
    by r false k f = let h = r f in (suc h.0, h.1)

there-any : (t : ℕ) (xs : List ℕ) (m : ℕ) → slice_get xs m ≡ Some t → list_any (λ u. u == t) xs ≡ true
there-any t [] m e = absurd cc
there-any t (x ∷ xs) zero e = let k : x ≡ t = cc in ap (λ b. b || list_any (λ u. u == t) xs) ((unsigned_Decides x t).1 k)
there-any t (x ∷ xs) (suc m) e = by (there-any t xs m e) (x == t)
  where
    by : list_any (λ u. u == t) xs ≡ true → (b : Bool) → (b || list_any (λ u. u == t) xs) ≡ true
    by r true = refl
    by r false = r

front-kept : (xs ys : List ℕ) (m t : ℕ) → slice_get xs m ≡ Some t → slice_get (xs ++ ys) m ≡ Some t
front-kept [] ys m t e = absurd cc
front-kept (x ∷ xs) ys zero t e = e
front-kept (x ∷ xs) ys (suc m) t e = front-kept xs ys m t e

behind-there : (xs : List ℕ) (t : ℕ) → slice_get (xs ++ t ∷ []) (length xs) ≡ Some t
behind-there [] t = refl
behind-there (x ∷ xs) t = behind-there xs t

pub numbered-tag : (old new : List ℕ) (t k : ℕ) → IsNumbered old new t k → new ≡ with_tag old t
numbered-tag old new t k n = by (list_any (λ u. u == t) old) refl n.grows
  where
    twice : (m : ℕ) × (slice_get old m ≡ Some t) → new ≡ old ++ t ∷ [] → ⊥
    twice h e =
        let l : h.0 < length old = slice_get_within old h.0 t h.1 in
        let a : h.0 ≡ k = n.only h.0 (ap (λ xs. slice_get xs h.0) e ∙ front-kept old (t ∷ []) h.0 t h.1) in
        let b : length old ≡ k = n.only (length old) (ap (λ xs. slice_get xs (length old)) e ∙ behind-there old t) in
        omega arith

    by : (b : Bool) → list_any (λ u. u == t) old ≡ b → (new ≡ old) ⊎ (new ≡ old ++ t ∷ []) → new ≡ (if b then old else old ++ t ∷ [])
    by true e (inl h) = h
    by true e (inr h) = absurd (twice (any-there t old e) h)
    by false e (inl h) =
        let there : list_any (λ u. u == t) old ≡ true = there-any t old k (ap (λ xs. slice_get xs k) (sym h) ∙ n.stands) in
        absurd cc
    by false e (inr h) = h

-- ---- each once

abbrev other_than : ℕ → ℕ → Bool
other_than x u = not (u == x)

same-back : (x t : ℕ) (b : Bool) → (x == t) ≡ b → (t == x) ≡ b
same-back x t true e = (unsigned_Decides t x).1 (sym ((unsigned_Decides x t).0 e))
same-back x t false e = by (t == x) refl
  where
    by : (b : Bool) → (t == x) ≡ b → (t == x) ≡ false
    by true k = let h : (x == t) ≡ true = (unsigned_Decides x t).1 (sym ((unsigned_Decides t x).0 k)) in absurd cc
    by false k = k

-- what is filtered out is not asked for
any-filter : (x t : ℕ) (zs : List ℕ) → (x == t) ≡ false → list_any (λ u. u == t) (filter (other_than x) zs) ≡ list_any (λ u. u == t) zs
any-filter x t [] e = refl
any-filter x t (z ∷ zs) e = by (any-filter x t zs e) (z == x) refl
  where
    by : list_any (λ u. u == t) (filter (other_than x) zs) ≡ list_any (λ u. u == t) zs → (b : Bool) → (z == x) ≡ b
        → list_any (λ u. u == t) (cond (not b) (z ∷ filter (other_than x) zs) (filter (other_than x) zs))
        ≡ ((z == t) || list_any (λ u. u == t) zs)
    by r false k = ap (λ b. (z == t) || b) r
    by r true k =
        let same : z ≡ x = (unsigned_Decides z x).0 k in
        r ∙ ap (λ b. b || list_any (λ u. u == t) zs) (sym (ap (λ y. y == t) same ∙ e))

filter-tag : (x t : ℕ) (zs : List ℕ) → x ∷ filter (other_than x) (with_tag zs t) ≡ with_tag (x ∷ filter (other_than x) zs) t
filter-tag x t zs = by (x == t) refl (list_any (λ u. u == t) zs) refl
  where
    pushed : (b : Bool) → (x == t) ≡ b → filter (other_than x) (zs ++ t ∷ []) ≡ filter (other_than x) zs ++ cond (not b) (t ∷ []) []
    pushed b e =
        filter-append (other_than x) zs (t ∷ [])
        ∙ ap (λ c. filter (other_than x) zs ++ cond (not c) (t ∷ []) []) (same-back x t b e)

    by : (b : Bool) → (x == t) ≡ b → (a : Bool) → list_any (λ u. u == t) zs ≡ a
        → x ∷ filter (other_than x) (if a then zs else zs ++ t ∷ [])
        ≡ (if b || list_any (λ u. u == t) (filter (other_than x) zs) then x ∷ filter (other_than x) zs
        else x ∷ filter (other_than x) zs ++ t ∷ [])
    by true e true h = refl
    by true e false h = ap (λ us. x ∷ us) (pushed true e ∙ append-nil (filter (other_than x) zs))
    by false e true h =
        sym (ap (λ c. if c then x ∷ filter (other_than x) zs else x ∷ filter (other_than x) zs ++ t ∷ []) (any-filter x t zs e ∙ h))
    by false e false h =
        ap (λ us. x ∷ us) (pushed false e)
        ∙ sym (ap (λ c. if c then x ∷ filter (other_than x) zs else x ∷ filter (other_than x) zs ++ t ∷ []) (any-filter x t zs e ∙ h))

once-push : (xs : List ℕ) (t : ℕ) → once (xs ++ t ∷ []) ≡ with_tag (once xs) t
once-push [] t = refl
once-push (x ∷ xs) t = ap (λ us. x ∷ filter (other_than x) us) (once-push xs t) ∙ filter-tag x t (once xs)

once-more : (ys xs : List ℕ) → fold with_tag (once xs) ys ≡ once (xs ++ ys)
once-more [] xs = ap once (sym (append-nil xs))
once-more (y ∷ ys) xs = ap (λ zs. fold with_tag zs ys) (sym (once-push xs y)) ∙ once-more ys (xs ++ y ∷ [])
    ∙ ap once (append_assoc xs (y ∷ []) ys)

-- types that are put last one by one, unless they are there, are listed once
pub fold-once : (ys : List ℕ) → fold with_tag [] ys ≡ once ys
fold-once ys = once-more ys []
