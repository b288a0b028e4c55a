-- The first of some elements for which something holds.
use Rattle.std.proofs.Common.{◌≡◌, ℕ, zero, suc, ◌+◌, ◌<◌, ◌≤◌, Bool, true, false, cond, List, [], ◌∷◌, length, map, Some, None, Option, nat_lt, inl, inr, refl, ap, sym, ◌∙◌, arith}
use Rattle.std.specs.Prelude.{slice_get, not, ◌||◌, position, option_map}
use Rattle.std.specs.List.{prefix_len, list_any}
use Rattle.std.proofs.lemmas.Bool.{lt-ltb, le-ltb}
use Rattle.std.proofs.lemmas.Option.{slice_get-map, slice_get_within}
use Rattle.hare_graph.proofs.Elements.{Other, other}

-- it holds of none of the first so many
abbrev pub NoneBelow : {A : Type 0} → (A → Bool) → List A → ℕ → Type 0
NoneBelow {A} p xs n = (k : ℕ) (x : A) → k < n → slice_get xs k ≡ Some x → p x ≡ false

pub none-at_first : {A : Type 0} (p : A → Bool) (xs : List A) → NoneBelow p xs 0
none-at_first p xs k x l e = absurd (omega arith)

same-element : {A : Type 0} (xs : List A) (k i : ℕ) (x y : A) → k ≡ i → slice_get xs k ≡ Some x → slice_get xs i ≡ Some y → x ≡ y
same-element xs k i x y q e g = let h : slice_get xs i ≡ Some x = ap (slice_get xs) (sym q) ∙ e in cc

-- nor of one more
pub none-more : {A : Type 0} (p : A → Bool) (xs : List A) (i : ℕ) (y : A) → slice_get xs i ≡ Some y → p y ≡ false → NoneBelow p xs i
    → NoneBelow p xs (i + 1)
none-more p xs i y g e none k x l h = by (other k i)
  where
    by : Other k i → p x ≡ false
    by (inl q) = ap p (same-element xs k i x y q h g) ∙ e
    by (inr n) = none k x (omega arith) h

-- ---- where the first stands

first-length : {A : Type 0} (p : A → Bool) (xs : List A) (i : ℕ) (x : A) → NoneBelow p xs i → slice_get xs i ≡ Some x → p x ≡ true
    → prefix_len (λ y. not (p y)) xs ≡ i
first-length p [] i x none g e = cc
first-length p (y ∷ ys) zero x none g e =
    let q : p y ≡ true = let h : y ≡ x = cc in ap p h ∙ e in
    ap (λ b. cond (not b) (1 + prefix_len (λ z. not (p z)) ys) 0) q
first-length p (y ∷ ys) (suc i) x none g e =
    let q : p y ≡ false = none 0 y (omega arith) refl in
    let r : prefix_len (λ z. not (p z)) ys ≡ i = first-length p ys i x (λ k z l h. none (suc k) z (omega arith) h) g e in
    ap (λ b. cond (not b) (1 + prefix_len (λ z. not (p z)) ys) 0) q ∙ omega arith

pub position-here : {A : Type 0} (p : A → Bool) (xs : List A) (i : ℕ) (x : A) → NoneBelow p xs i → slice_get xs i ≡ Some x → p x ≡ true
    → Some i ≡ position p xs
position-here p xs i x none g e =
    sym (ap (λ n. cond (nat_lt n (length xs)) (Some n) None) (first-length p xs i x none g e)
    ∙ ap (λ b. cond b (Some i) None) (lt-ltb i (length xs) (slice_get_within xs i x g)))

all-length : {A : Type 0} (p : A → Bool) (xs : List A) → NoneBelow p xs (length xs) → prefix_len (λ y. not (p y)) xs ≡ length xs
all-length p [] none = refl
all-length p (y ∷ ys) none =
    let q : p y ≡ false = none 0 y (omega arith) refl in
    let r : prefix_len (λ z. not (p z)) ys ≡ length ys = all-length p ys (λ k z l h. none (suc k) z (omega arith) h) in
    ap (λ b. cond (not b) (1 + prefix_len (λ z. not (p z)) ys) 0) q ∙ omega arith

pub position-nowhere : {A : Type 0} (p : A → Bool) (xs : List A) (i : ℕ) → length xs ≤ i → NoneBelow p xs i → None ≡ position p xs
position-nowhere p xs i l none =
    sym (ap (λ n. cond (nat_lt n (length xs)) (Some n) None) (all-length p xs (λ k x m h. none k x (omega arith) h))
    ∙ ap (λ b. cond b (Some (length xs)) None) (le-ltb (length xs) (length xs) (omega arith)))

prefix-same : {A : Type 0} (p q : A → Bool) (xs : List A) → ((x : A) → p x ≡ q x)
    → prefix_len (λ y. not (p y)) xs ≡ prefix_len (λ y. not (q y)) xs
prefix-same p q [] h = refl
prefix-same p q (x ∷ xs) h =
    ap (λ b. cond (not b) (1 + prefix_len (λ y. not (p y)) xs) 0) (h x) ∙ ap (λ n. cond (not (q x)) (1 + n) 0) (prefix-same p q xs h)

-- of what is the same everywhere the first is the same
pub position-same : {A : Type 0} (p q : A → Bool) (xs : List A) → ((x : A) → p x ≡ q x) → position p xs ≡ position q xs
position-same p q xs h = ap (λ n. cond (nat_lt n (length xs)) (Some n) None) (prefix-same p q xs h)

-- ---- whether there is one

pub any-here : {A : Type 0} (p : A → Bool) (xs : List A) (i : ℕ) (x : A) → slice_get xs i ≡ Some x → p x ≡ true → true ≡ list_any p xs
any-here p [] i x g e = cc
any-here p (y ∷ ys) zero x g e = let h : y ≡ x = cc in sym (ap (λ b. b || list_any p ys) (ap p h ∙ e))
any-here p (y ∷ ys) (suc i) x g e = or-right (p y) (list_any p ys) (any-here p ys i x g e)
  where
    or-right : (a b : Bool) → true ≡ b → true ≡ (a || b)
    or-right true b h = refl
    or-right false b h = h

pub any-nowhere : {A : Type 0} (p : A → Bool) (xs : List A) (i : ℕ) → length xs ≤ i → NoneBelow p xs i → false ≡ list_any p xs
any-nowhere p [] i l none = refl
any-nowhere p (y ∷ ys) zero l none = absurd (omega arith)
any-nowhere p (y ∷ ys) (suc i) l none =
    any-nowhere p ys i (omega arith) (λ k z m h. none (suc k) z (omega arith) h)
    ∙ sym (ap (λ b. b || list_any p ys) (none 0 y (omega arith) refl))

-- ---- of mapped lists

pub below-mapped : {A B : Type 0} (f : A → B) (p : B → Bool) (xs : List A) (i : ℕ) → NoneBelow (λ x. p (f x)) xs i
    → NoneBelow p (map f xs) i
below-mapped {A = A} f p xs i none k y l e = by (slice_get xs k) refl
  where
    by : (o : Option A) → slice_get xs k ≡ o → p y ≡ false
    by None q = let h : None ≡ Some y = sym (slice_get-map f xs k ∙ ap (option_map f) q) ∙ e in absurd cc
    by (Some x) q =
        let h : Some (f x) ≡ Some y = sym (slice_get-map f xs k ∙ ap (option_map f) q) ∙ e in
        let s : f x ≡ y = cc in
        ap p (sym s) ∙ none k x l q
