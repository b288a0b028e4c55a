-- The last item of a list, which is the top of a stack.
use Rattle.std.proofs.Common.{◌≡◌, suc, ◌-◌, List, [], ◌∷◌, ◌++◌, length, reverse, refl, sym, ap, ◌∙◌, arith}
use Rattle.std.proofs.lemmas.List.{reverse-append, length-append}
use Rattle.std.proofs.Math.ListN.{set}
use Rattle.std.proofs.Math.Seq.{set-append_seam}
use Rattle.std.specs.Prelude.{Some, None, slice_get}

last_further : {A : Type 0} (x y : A) (xs : List A) →
    slice_get (x ∷ y ∷ xs) (length (x ∷ y ∷ xs) - 1) ≡ slice_get (y ∷ xs) (length (y ∷ xs) - 1)
last_further x y xs = let e : length (x ∷ y ∷ xs) - 1 ≡ suc (length (y ∷ xs) - 1) = omega arith in ap (slice_get (x ∷ y ∷ xs)) e

pub split_last : {A : Type 0} (xs : List A) (z : A) → slice_get xs (length xs - 1) ≡ Some z → (front : List A) × (xs ≡ front ++ z ∷ [])
split_last [] z e = cc
split_last (x ∷ []) z e = let h : x ≡ z = cc in ([], ap (λ w. w ∷ []) h)
split_last (x ∷ (y ∷ xs)) z e = let s = split_last (y ∷ xs) z (sym (last_further x y xs) ∙ e) in (x ∷ s.0, ap (λ l. x ∷ l) s.1)

pub no_last : {A : Type 0} (xs : List A) → slice_get xs (length xs - 1) ≡ None → xs ≡ []
no_last [] e = refl
no_last (x ∷ []) e = cc
no_last (x ∷ (y ∷ xs)) e = let s = no_last (y ∷ xs) (sym (last_further x y xs) ∙ e) in cc

pub top_of_reverse : {A : Type 0} (xs : List A) (z : A) → slice_get xs (length xs - 1) ≡ Some z → (rest : List A) × (reverse xs ≡ z ∷ rest)
top_of_reverse xs z e = let s = split_last xs z e in (reverse s.0, ap reverse s.1 ∙ reverse-append s.0 (z ∷ []))

-- a list is its last item behind a front
pub front_last : {A : Type 0} (x : A) (xs : List A) → (front : List A) × ((z : A) × (x ∷ xs ≡ front ++ z ∷ []))
front_last x [] = ([], (x, refl))
front_last x (y ∷ xs) = let s = front_last y xs in (x ∷ s.0, (s.1.0, ap (λ l. x ∷ l) s.1.1))

replaced_behind : {A : Type 0} (front : List A) (z x top : A) (rest : List A) → reverse (front ++ z ∷ []) ≡ top ∷ rest →
    reverse (set (front ++ z ∷ []) (length (front ++ z ∷ []) - 1) x) ≡ x ∷ rest
replaced_behind front z x top rest e =
    let n : length (front ++ z ∷ []) - 1 ≡ length front = omega (arith, length-append front (z ∷ [])) in
    let t : z ∷ reverse front ≡ top ∷ rest = sym (reverse-append front (z ∷ [])) ∙ e in
    let r : reverse front ≡ rest = cc in
    ap (λ i. reverse (set (front ++ z ∷ []) i x)) n ∙ ap reverse (set-append_seam front z [] x) ∙ reverse-append front (x ∷ []) ∙ ap
    (λ l. x ∷ l) r

replaced_as : {A : Type 0} (xs front : List A) (z x top : A) (rest : List A) → xs ≡ front ++ z ∷ [] → reverse xs ≡ top ∷ rest →
    reverse (set xs (length xs - 1) x) ≡ x ∷ rest
replaced_as xs front z x top rest k e = rw k (replaced_behind front z x top rest (ap reverse (sym k) ∙ e))

-- a stack of which the top is another
pub replaced_top : {A : Type 0} (xs : List A) (x top : A) (rest : List A) → reverse xs ≡ top ∷ rest →
    reverse (set xs (length xs - 1) x) ≡ x ∷ rest
replaced_top [] x top rest e = absurd (cc)
replaced_top (y ∷ ys) x top rest e = let s = front_last y ys in replaced_as (y ∷ ys) s.0 s.1.0 x top rest s.1.1 e
