-- Numbers that are put into a set one after another, where they pass a test.
use Rattle.std.proofs.Common.{◌≡◌, ℕ, ◌+◌, Bool, true, false, cond, List, [], ◌∷◌, drop, filter, refl, ap, sym, ◌∙◌, if◌then◌else◌, nat_lt}
use Rattle.std.specs.Prelude.{◌==◌, slice_get, Some}
use Rattle.std.specs.Ordering.{nat_cmp, match_ordering}
use Rattle.std.specs.BTreeSet.{insert_key}
use Rattle.std.specs.declared.cmp.Ordering.TheVariants.{Less, Equal, Greater}
use Rattle.hare_types.specs.Unions.{put, put_all}
use Rattle.hare_modules.proofs.ListLemmas.{drop-there}

insert_key-put : (ks : List ℕ) (k : ℕ) → insert_key nat_cmp ks k ≡ put k ks
insert_key-put [] k = refl
insert_key-put (x ∷ xs) k = by (nat_lt k x) (k == x) (insert_key-put xs k)
  where
    by : (b c : Bool) → insert_key nat_cmp xs k ≡ put k xs
        → match_ordering (cond b Less (cond c Equal Greater)) (k ∷ x ∷ xs) (x ∷ xs) (x ∷ insert_key nat_cmp xs k)
        ≡ (if b then k ∷ x ∷ xs else (if c then x ∷ xs else x ∷ put k xs))
    by true c e = refl
    by false true e = refl
    by false false e = ap (λ ys. x ∷ ys) e

module _ (p : ℕ → Bool) (ns : List ℕ) (i n : ℕ) (here : slice_get ns i ≡ Some n) (ks all : List ℕ)
    (w : put_all (filter p (drop i ns)) ks ≡ all) where
  left : (b : Bool) → p n ≡ b → put_all (cond b (n ∷ filter p (drop (i + 1) ns)) (filter p (drop (i + 1) ns))) ks ≡ all
  left b e = sym (ap (λ xs. put_all (filter p xs) ks) (drop-there ns i n here) ∙ ap
      (λ c. put_all (cond c (n ∷ filter p (drop (i + 1) ns)) (filter p (drop (i + 1) ns))) ks) e) ∙ w

  pub put_all-next : (new : List ℕ) → p n ≡ true → new ≡ insert_key nat_cmp ks n → put_all (filter p (drop (i + 1) ns)) new ≡ all
  put_all-next new e k = ap (put_all (filter p (drop (i + 1) ns))) (k ∙ insert_key-put ks n) ∙ left true e

  pub put_all-over : p n ≡ false → put_all (filter p (drop (i + 1) ns)) ks ≡ all
  put_all-over e = left false e
