-- One declaration more.
use Rattle.std.proofs.Common.{◌≡◌, ℕ, zero, suc, ◌+◌, ◌<◌, Bool, true, false, cond, nat_eq, List, [], ◌∷◌, ◌++◌, length, Option, Some, None, IsSome, refl, ap, sym, ◌∙◌, subst, arith, length-append}
use Rattle.std.specs.Prelude.{find, slice_get, option_and_then, is_some}
use Rattle.std.specs.Cmp.{unsigned_Decides}
use Rattle.std.specs.Map.{lookup}
use Rattle.std.specs.Option.{option_or}
use Rattle.hare_types.proofs.ListLemmas.{slice_get_front, slice_get_end}
use Rattle.hare_rules.specs.declared.declared.DeclType.{DeclType}
use Rattle.rule_judge.specs.Decls.{is_number, AreFirst}

find-push : {A : Type 0} (p : A → Bool) (xs : List A) (x : A) → find p (xs ++ x ∷ []) ≡ option_or (find p xs) (cond (p x) (Some x) None)
find-push p [] x = refl
find-push p (y ∷ xs) x = by (find-push p xs x) (p y)
  where
    by : find p (xs ++ x ∷ []) ≡ option_or (find p xs) (cond (p x) (Some x) None) → (b : Bool)
        → cond b (Some y) (find p (xs ++ x ∷ [])) ≡ option_or (cond b (Some y) (find p xs)) (cond (p x) (Some x) None)
    by ih true = refl
    by ih false = ih

-- what is not there is nothing
pub none_there : (o : Option ℕ) → false ≡ is_some o → o ≡ None
none_there None e = refl
none_there (Some x) e = absurd cc

module _ (list : List DeclType) (d : DeclType) where
  longer : length (list ++ d ∷ []) ≡ length list + 1
  longer = length-append list (d ∷ [])

  -- a number that stands in the places
  kept : (n i : ℕ) → i < length list → find (is_number n) list ≡ slice_get list i →
      find (is_number n) (list ++ d ∷ []) ≡ slice_get (list ++ d ∷ []) i
  kept n i l e = by (slice_get list i) refl
    where
      by : (o : Option DeclType) → slice_get list i ≡ o → find (is_number n) (list ++ d ∷ []) ≡ slice_get (list ++ d ∷ []) i
      by None g = absurd (there list i l g)
        where
          there : (xs : List DeclType) (j : ℕ) → j < length xs → slice_get xs j ≡ None → ⊥
          there [] j h k = omega arith
          there (x ∷ xs) zero h k = cc
          there (x ∷ xs) (suc j) h k = there xs j (omega arith) k
      by (Some x) g =
          find-push (is_number n) list d ∙ ap (λ o. option_or o (cond (is_number n d) (Some d) None)) (e ∙ g)
          ∙ sym (slice_get_front list (d ∷ []) i l ∙ g)

  -- one that does not
  fresh : (n : ℕ) → find (is_number n) list ≡ None → find (is_number n) (list ++ d ∷ []) ≡ cond (is_number n d) (Some d) None
  fresh n e = find-push (is_number n) list d ∙ ap (λ o. option_or o (cond (is_number n d) (Some d) None)) e

  -- the number of the declaration is there already
  pub first-there : (places : List (ℕ × ℕ)) → AreFirst list places → IsSome (lookup (nat_eq d.decl) places) →
      AreFirst (list ++ d ∷ []) places
  first-there places h s = record {
    found = λ n. by n (lookup (nat_eq n) places) refl;
    within = λ n i e. omega (arith, h.within n i e, longer);
  }
    where
      by : (n : ℕ) (o : Option ℕ) → lookup (nat_eq n) places ≡ o →
          find (is_number n) (list ++ d ∷ []) ≡ option_and_then (slice_get (list ++ d ∷ [])) o
      by n (Some i) e = kept n i (h.within n i e) (h.found n ∙ ap (option_and_then (slice_get list)) e)
      by n None e = fresh n (h.found n ∙ ap (option_and_then (slice_get list)) e) ∙ other (nat_eq d.decl n) refl
        where
          other : (b : Bool) → nat_eq d.decl n ≡ b → cond b (Some d) None ≡ None
          other false g = refl
          other true g =
              let same : d.decl ≡ n = (unsigned_Decides d.decl n).0 g in
              let none = subst IsSome (ap (λ q. lookup (nat_eq q) places) same ∙ e) s in
              absurd cc

  -- it is new
  pub first-new : (places new : List (ℕ × ℕ)) → AreFirst list places → lookup (nat_eq d.decl) places ≡ None
      → ((q : ℕ) → lookup (nat_eq q) new ≡ cond (nat_eq d.decl q) (Some (length list)) (lookup (nat_eq q) places))
      → AreFirst (list ++ d ∷ []) new
  first-new places new h none put = record {
    found = λ n. found n (nat_eq d.decl n) refl;
    within = λ n i e. within n i (nat_eq d.decl n)
        (sym (put n) ∙ e);
  }
    where
      old : (n : ℕ) (o : Option ℕ) → lookup (nat_eq n) places ≡ o → nat_eq d.decl n ≡ false
          → find (is_number n) (list ++ d ∷ []) ≡ option_and_then (slice_get (list ++ d ∷ [])) o
      old n (Some i) e g = kept n i (h.within n i e) (h.found n ∙ ap (option_and_then (slice_get list)) e)
      old n None e g = fresh n (h.found n ∙ ap (option_and_then (slice_get list)) e) ∙ ap (λ b. cond b (Some d) None) g

      found : (n : ℕ) (b : Bool) → nat_eq d.decl n ≡ b →
          find (is_number n) (list ++ d ∷ []) ≡ option_and_then (slice_get (list ++ d ∷ [])) (lookup (nat_eq n) new)
      found n false g =
          old n (lookup (nat_eq n) places) refl g
          ∙ sym (ap (option_and_then (slice_get (list ++ d ∷ [])))
          (put n ∙ ap (λ b. cond b (Some (length list)) (lookup (nat_eq n) places)) g))
      found n true g =
          let same : d.decl ≡ n = (unsigned_Decides d.decl n).0 g in
          let gone : find (is_number n) list ≡ None =
          h.found n ∙ ap (option_and_then (slice_get list)) (ap (λ q. lookup (nat_eq q) places) (sym same) ∙ none) in
          fresh n gone ∙ ap (λ b. cond b (Some d) None) g ∙ sym (slice_get_end list d [])
          ∙ sym (ap (option_and_then (slice_get (list ++ d ∷ [])))
          (put n ∙ ap (λ b. cond b (Some (length list)) (lookup (nat_eq n) places)) g))

      within : (n i : ℕ) (b : Bool) → cond b (Some (length list)) (lookup (nat_eq n) places) ≡ Some i → i < length (list ++ d ∷ [])
      within n i true e = let same : length list ≡ i = cc in omega (arith, longer, same)
      within n i false e = omega (arith, h.within n i e, longer)
