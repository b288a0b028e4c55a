-- What one pass through numbers that ascend finds of those that are not listed.
use Rattle.std.proofs.Common.{◌≡◌, ◌≢◌, ◌∙◌, sym, ap, refl, subst, arith, true≢false, ℕ, zero, suc, ◌+◌, ◌<◌, ◌≤◌, ℤ, pos, ◌+ℤ◌, ◌<ℤ◌, ◌≤ℤ◌, Bool, true, false, cond, List, [], ◌∷◌, length, Contains, ◌⊎◌, inl, inr, int_eq, int_lt, get_or, drop, ◌↔◌, Option, Some, None, drop-cons}
use Rattle.std.specs.List.Sorted.{IsSorted}
use Rattle.std.specs.Ordering.{int_cmp, is_lt}
use Rattle.std.specs.List.{filter_map, cons_option}
use Rattle.std.specs.Cmp.{signed_Decides}
use Rattle.std.specs.declared.cmp.Ordering.TheVariants.{Less, Equal, Greater}
use Rattle.std.proofs.lemmas.Int.{ints}
use Rattle.std.proofs.Math.ListN.{drop_of_length-le}
use Rattle.std.specs.Prelude.{IsTrue}
use Rattle.hare_typed.specs.Cover.{Range, ListsAll}

-- ---- numbers

same_number : (x y : ℤ) → int_eq x y ≡ true → x ≡ y
same_number x y e = (signed_Decides x y).0 e

other_number : (x y : ℤ) → int_eq x y ≡ false → x ≢ y
other_number x y e q = true≢false (sym ((signed_Decides x y).1 q) ∙ e)

not_below : (x y : ℤ) → int_lt y x ≡ false → x ≤ℤ y
not_below x y e = grind (arith, ints)

lt_is_lt : (b c : Bool) → is_lt (cond b Less (cond c Greater Equal)) ≡ false → b ≡ false
lt_is_lt true c e = absurd (true≢false e)
lt_is_lt false c e = refl

not_less : (x y : ℤ) → is_lt (int_cmp y x) ≡ false → x ≤ℤ y
not_less x y e = not_below x y (lt_is_lt (int_lt y x) (int_lt x y) e)

-- ---- lists that ascend

-- no number of the list is below
abbrev pub NoneBelow : ℤ → List ℤ → Type 0
NoneBelow v [] = Unit {0}
NoneBelow v (x ∷ xs) = (v ≤ℤ x) × NoneBelow v xs

sorted_tail : (x : ℤ) (xs : List ℤ) → IsSorted int_cmp (x ∷ xs) → IsSorted int_cmp xs
sorted_tail x xs h k d l m =
    let less : suc k + 1 < length (x ∷ xs) = omega arith in
    let e : suc k + 1 ≡ suc (k + 1) = omega arith in
    let P : ℕ → Type 0 = λ n. is_lt (int_cmp (get_or (x ∷ xs) n d) (get_or xs k d)) ≡ false in
    subst P e (h (suc k) d (omega arith) less)

none_below_less : (v w : ℤ) (xs : List ℤ) → v ≤ℤ w → NoneBelow w xs → NoneBelow v xs
none_below_less v w [] l h = tt
none_below_less v w (x ∷ xs) l h = (omega (arith, ints, h.0), none_below_less v w xs l h.1)

none_below_first : (x : ℤ) (xs : List ℤ) → IsSorted int_cmp (x ∷ xs) → NoneBelow x xs
none_below_first x [] h = tt
none_below_first x (y ∷ ys) h =
    let le = not_less x y (h 0 (pos 0) (omega arith) (omega arith)) in
    (le, none_below_less x y ys le (none_below_first y ys (sorted_tail x (y ∷ ys) h)))

-- ---- members

contains_first : (v x : ℤ) (xs : List ℤ) → v ≡ x → Contains (x ∷ xs) v
contains_first v x xs e = (0, omega arith, sym e)

contains_later : (v x : ℤ) (xs : List ℤ) → Contains xs v → Contains (x ∷ xs) v
contains_later v x xs c = (suc c.0, omega (arith, c.1), c.2)

contains_some : (v x : ℤ) (xs : List ℤ) → Contains (x ∷ xs) v → (v ≡ x) ⊎ Contains xs v
contains_some v x xs (zero, l, e) = inl (sym e)
contains_some v x xs (suc k, l, e) = inr (k, omega (arith, l), e)

contains_none : (v : ℤ) → Contains [] v → ⊥
contains_none v c = absurd (omega (arith, c.1))

-- ---- one pass

-- the least number from the first on that a pass has not met
abbrev pub open_after : ℤ → List ℤ → ℤ
open_after o [] = o
open_after o (x ∷ xs) = open_after (cond (int_eq x o) (o +ℤ pos 1) o) xs

-- what holds after a pass through the later ones holds after all
abbrev pub Step : (ℤ → Type 0) → (x o : ℤ) → Type 0
Step P x o = P (cond (int_eq x o) (o +ℤ pos 1) o)

step_of : (P : ℤ → Type 0) (x o : ℤ) → (x ≡ o → P (o +ℤ pos 1)) → (x ≢ o → P o) → Step P x o
step_of P x o same other = go (int_eq x o) refl
  where
    go : (b : Bool) → int_eq x o ≡ b → P (cond b (o +ℤ pos 1) o)
    go true e = same (same_number x o e)
    go false e = other (other_number x o e)

pub first_le-open_after : (o : ℤ) (xs : List ℤ) → o ≤ℤ open_after o xs
first_le-open_after o [] = omega (arith, ints)
first_le-open_after o (x ∷ xs) =
    step_of (λ p. o ≤ℤ open_after p xs) x o (λ e. let h = first_le-open_after (o +ℤ pos 1) xs in omega (arith, ints))
    (λ n. first_le-open_after o xs)

at_or_above : (o v : ℤ) → o ≤ℤ v → (v ≡ o) ⊎ ((o +ℤ pos 1) ≤ℤ v)
at_or_above o v l = go (int_eq v o) refl
  where
    go : (b : Bool) → int_eq v o ≡ b → (v ≡ o) ⊎ ((o +ℤ pos 1) ≤ℤ v)
    go true e = inl (same_number v o e)
    go false e = let n = other_number v o e in inr (omega (arith, ints))

-- what is below has been met
pub met : (o v : ℤ) (xs : List ℤ) → o ≤ℤ v → v <ℤ open_after o xs → Contains xs v
met o v [] l h = absurd (omega (arith, ints))
met o v (x ∷ xs) l h =
    step_of (λ p. v <ℤ open_after p xs → Contains (x ∷ xs) v) x o
    (λ e h'. elim (at_or_above o v l) [
      | inl s ↦ contains_first v x xs (s ∙ sym e)
      | inr m ↦ contains_later v x xs
          (met (o +ℤ pos 1) v xs m h')
    ])
    (λ n h'. contains_later v x xs (met o v xs l h'))
    h

-- a pass through numbers that are all above meets nothing
stays : (o : ℤ) (xs : List ℤ) → NoneBelow (o +ℤ pos 1) xs → open_after o xs ≡ o
stays o [] n = refl
stays o (x ∷ xs) n =
    step_of (λ p. open_after p xs ≡ o) x o (λ e. let l = n.0 in absurd (omega (arith, ints))) (λ e. stays o xs n.1)

-- what is left open differs from the first, where they ascend
differs : (x o : ℤ) (xs : List ℤ) → NoneBelow x xs → (x <ℤ o) ⊎ (o <ℤ x) → x ≡ open_after o xs → ⊥
differs x o xs n (inl l) e = let h = first_le-open_after o xs in omega (arith, ints)
differs x o xs n (inr l) e =
    let m : (o +ℤ pos 1) ≤ℤ x = omega (arith, ints) in
    let s = stays o xs (none_below_less (o +ℤ pos 1) x xs m n) in
    omega (arith, ints)

apart : (x o : ℤ) → x ≢ o → (x <ℤ o) ⊎ (o <ℤ x)
apart x o n = go (int_lt x o) refl
  where
    go : (b : Bool) → int_lt x o ≡ b → (x <ℤ o) ⊎ (o <ℤ x)
    go true e = inl (grind (arith, ints))
    go false e = let l = not_below o x e in inr (omega (arith, ints))

-- where they ascend, what is left open is none of them
pub not_met : (o : ℤ) (xs : List ℤ) → IsSorted int_cmp xs → Contains xs (open_after o xs) → ⊥
not_met o [] h c = contains_none o c
not_met o (x ∷ xs) h c =
    step_of (λ p. Contains (x ∷ xs) (open_after p xs) → ⊥) x o
    (λ e. past x (o +ℤ pos 1) xs h (inl (omega (arith, ints))) (not_met (o +ℤ pos 1) xs (sorted_tail x xs h)))
    (λ n. past x o xs h (apart x o n) (not_met o xs (sorted_tail x xs h)))
    c
  where
    past : (x p : ℤ) (xs : List ℤ) → IsSorted int_cmp (x ∷ xs) → (x <ℤ p) ⊎ (p <ℤ x) → (Contains xs (open_after p xs) → ⊥) →
        Contains (x ∷ xs) (open_after p xs) → ⊥
    past x p xs h d others c =
        elim (contains_some (open_after p xs) x xs c) [ inl s ↦ differs x p xs (none_below_first x xs h) d (sym s) | inr m ↦ others m ]

-- a pass that comes beyond the greatest has met each value of the range
pub pass_covers :
    (least greatest : ℤ) (vs : List ℤ) → IsSorted int_cmp vs
    → (greatest <ℤ open_after least vs) ↔ ((v : ℤ) → least ≤ℤ v → v ≤ℤ greatest → Contains vs v)
pass_covers least greatest vs sorted = (all_met, beyond)
  where
    all_met : greatest <ℤ open_after least vs → (v : ℤ) → least ≤ℤ v → v ≤ℤ greatest → Contains vs v
    all_met h v l m = met least v vs l (omega (arith, ints))

    past : (b : Bool) → int_lt greatest (open_after least vs) ≡ b → ((v : ℤ) → least ≤ℤ v → v ≤ℤ greatest → Contains vs v) →
        greatest <ℤ open_after least vs
    past true e all = grind (arith, ints)
    past false e all =
        absurd (not_met least vs sorted
        (all (open_after least vs) (first_le-open_after least vs) (not_below (open_after least vs) greatest e)))

    beyond : ((v : ℤ) → least ≤ℤ v → v ≤ℤ greatest → Contains vs v) → greatest <ℤ open_after least vs
    beyond all = past (int_lt greatest (open_after least vs)) refl all

-- ---- the pass over what may be a number

-- what an element changes
abbrev pub next_open : Option ℤ → ℤ → ℤ
next_open None o = o
next_open (Some x) o = cond (int_eq x o) (o +ℤ pos 1) o

pub open_after-filter_map :
    {X : Type 0} (f : X → Option ℤ) (o : ℤ) (x : X) (xs : List X)
    → open_after o (filter_map f (x ∷ xs)) ≡ open_after (next_open (f x) o) (filter_map f xs)
open_after-filter_map f o x xs = go (f x) (filter_map f xs)
  where
    go : (y : Option ℤ) (ys : List ℤ) → open_after o (cons_option y ys) ≡ open_after (next_open y o) ys
    go None ys = refl
    go (Some y) ys = refl

-- one element further
pub open_after-drop :
    {X : Type 0} (f : X → Option ℤ) (o : ℤ) (x : X) (xs : List X) (i : ℕ) → i < length xs → x ≡ get_or xs i x
    → open_after o (filter_map f (drop i xs)) ≡ open_after (next_open (f x) o) (filter_map f (drop (i + 1) xs))
open_after-drop f o x xs i l e =
    ap (λ ys. open_after o (filter_map f ys)) (drop-cons xs i x l ∙ ap (λ y. y ∷ drop (suc i) xs) (sym e))
    ∙ open_after-filter_map f o x (drop (suc i) xs)
    ∙ ap (λ n. open_after (next_open (f x) o) (filter_map f (drop n xs))) (let n : suc i ≡ i + 1 = omega arith in n)

-- ---- the end of the pass

-- a pass that has come to the end tells whether each value of the range is listed
pub pass_tells :
    {X : Type 0} (f : X → Option ℤ) (xs ys : List X) (i : ℕ) (r : Option Range) (least greatest left : ℤ)
    → r ≡ Some (record { least = least; greatest = greatest }) → IsSorted int_cmp (filter_map f xs) → length ys ≤ i
    → open_after least (filter_map f xs) ≡ open_after left (filter_map f (drop i ys))
    → IsTrue (int_lt greatest left) ↔ ListsAll r (filter_map f xs)
pass_tells f xs ys i r least greatest left is sorted l e =
    let met_to : open_after least (filter_map f xs) ≡ left = e ∙ ap (λ ys. open_after left (filter_map f ys)) (drop_of_length-le ys l) in
    let both = pass_covers least greatest (filter_map f xs) sorted in
    let P : Option Range → Type 0 = λ x. IsTrue (int_lt greatest left) ↔ ListsAll x (filter_map f xs) in
    let beyond : IsTrue (int_lt greatest left) → greatest <ℤ open_after least (filter_map f xs) = λ h. rw met_to (grind (arith, ints)) in
    let back : greatest <ℤ open_after least (filter_map f xs) → IsTrue (int_lt greatest left) = λ h. let h' : greatest <ℤ left =
    rw (← met_to) h in grind (arith, ints) in
    subst P (sym is) ((λ h. both.0 (beyond h)), (λ h. back (both.1 h)))
