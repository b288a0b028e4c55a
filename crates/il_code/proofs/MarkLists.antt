-- Lists in which each element sees what stands in front of it, and truth values.
use Rattle.std.proofs.Common.{◌≡◌, ℕ, List, [], ◌∷◌, ◌++◌, Bool, true, false, ◌&&◌, ◌||◌, not, refl, sym, ap, ◌∙◌}
use Rattle.std.specs.Prelude.{map}
use Rattle.std.specs.List.{list_all, list_any, flat_map}
use Rattle.std.proofs.Math.Bool.{and-false}
use Rattle.std.proofs.lemmas.List.Folds.{list_all-append}
use Rattle.il_code.specs.Marks.{Numbers, when, each_behind}
use Rattle.il_code.specs.MarkLaws.{is_clean}

-- ---- truth values

pub same_when : (a b : Bool) → (a ≡ true → b ≡ true) → (b ≡ true → a ≡ true) → a ≡ b
same_when true b f g = sym (f refl)
same_when false true f g = g refl
same_when false false f g = refl

pub swap : (a b c d : Bool) → ((a && b) && (c && d)) ≡ ((a && c) && (b && d))
swap false b c d = refl
swap true false c d = sym (and-false c)
swap true true c d = refl

pub not-or : (a b : Bool) → not (a || b) ≡ (not a && not b)
not-or true b = refl
not-or false b = refl

pub not-not : (a : Bool) → not (not a) ≡ a
not-not true = refl
not-not false = refl

-- ---- all elements

module _ {A : Type 0} where
  pub list_all-same : (p q : A → Bool) → ((x : A) → p x ≡ q x) → (xs : List A) → list_all p xs ≡ list_all q xs
  list_all-same p q h [] = refl
  list_all-same p q h (x ∷ xs) = rw (h x, list_all-same p q h xs) refl

  pub list_all-and : (p q : A → Bool) (xs : List A) → list_all (λ x. p x && q x) xs ≡ (list_all p xs && list_all q xs)
  list_all-and p q [] = refl
  list_all-and p q (x ∷ xs) = rw (list_all-and p q xs) (swap (p x) (q x) (list_all p xs) (list_all q xs))

  pub list_all-flat_map : {B : Type 0} (p : B → Bool) (f : A → List B) (xs : List A) →
      list_all p (flat_map f xs) ≡ list_all (λ x. list_all p (f x)) xs
  list_all-flat_map p f [] = refl
  list_all-flat_map p f (x ∷ xs) = list_all-append p (f x) (flat_map f xs) ∙ ap (λ b. list_all p (f x) && b) (list_all-flat_map p f xs)

  pub list_all-not : (p : A → Bool) (xs : List A) → list_all (λ x. not (p x)) xs ≡ not (list_any p xs)
  list_all-not p [] = refl
  list_all-not p (x ∷ xs) = ap (λ b. not (p x) && b) (list_all-not p xs) ∙ sym (not-or (p x) (list_any p xs))

  pub list_any-append : (p : A → Bool) (xs ys : List A) → list_any p (xs ++ ys) ≡ (list_any p xs || list_any p ys)
  list_any-append p [] ys = refl
  list_any-append p (x ∷ xs) ys = rw (list_any-append p xs ys) (join (p x) (list_any p xs) (list_any p ys))
    where
      join : (a b c : Bool) → (a || (b || c)) ≡ ((a || b) || c)
      join true b c = refl
      join false b c = refl

  -- ---- with what stands in front

  abbrev pub all_behind : (List A → A → Bool) → List A → List A → Bool
  all_behind p before [] = true
  all_behind p before (x ∷ xs) = p before x && all_behind p (before ++ x ∷ []) xs

  pub all_behind-each : {B : Type 0} (p : B → Bool) (f : List A → A → List B) (before xs : List A) →
      list_all p (each_behind f before xs) ≡ all_behind (λ b x. list_all p (f b x)) before xs
  all_behind-each p f before [] = refl
  all_behind-each p f before (x ∷ xs) = list_all-append p (f before x) (each_behind f (before ++ x ∷ []) xs) ∙ ap
      (λ b. list_all p (f before x) && b) (all_behind-each p f (before ++ x ∷ []) xs)

  pub all_behind-same : (p q : List A → A → Bool) → ((b : List A) (x : A) → p b x ≡ q b x) → (before xs : List A) →
      all_behind p before xs ≡ all_behind q before xs
  all_behind-same p q h before [] = refl
  all_behind-same p q h before (x ∷ xs) = rw (h before x, all_behind-same p q h (before ++ x ∷ []) xs) refl

  pub all_behind-and : (p q : List A → A → Bool) (before xs : List A) →
      all_behind (λ b x. p b x && q b x) before xs ≡ (all_behind p before xs && all_behind q before xs)
  all_behind-and p q before [] = refl
  all_behind-and p q before (x ∷ xs) = rw (all_behind-and p q (before ++ x ∷ []) xs)
      (swap (p before x) (q before x) (all_behind p (before ++ x ∷ []) xs) (all_behind q (before ++ x ∷ []) xs))

  -- a test that does not look in front
  pub all_behind-plain : (p : A → Bool) (before xs : List A) → all_behind (λ b x. p x) before xs ≡ list_all p xs
  all_behind-plain p before [] = refl
  all_behind-plain p before (x ∷ xs) = rw (all_behind-plain p (before ++ x ∷ []) xs) refl

pub map_push : {A B : Type 0} (f : A → B) (xs : List A) (x : A) → map f xs ++ f x ∷ [] ≡ map f (xs ++ x ∷ [])
map_push f [] x = refl
map_push f (y ∷ xs) x = ap (λ z. f y ∷ z) (map_push f xs x)

pub all_behind-map : {A B : Type 0} (f : A → B) (p : List B → B → Bool) (before xs : List A) →
    all_behind p (map f before) (map f xs) ≡ all_behind (λ b x. p (map f b) (f x)) before xs
all_behind-map f p before [] = refl
all_behind-map f p before (x ∷ xs) = rw (map_push f before x)
    (ap (λ b. p (map f before) (f x) && b) (all_behind-map f p (before ++ x ∷ []) xs))

-- ---- marks

pub is_clean-when : (b : Bool) (n : ℕ) → is_clean (when b n) ≡ not b
is_clean-when true n = refl
is_clean-when false n = refl

pub is_clean-append : (a b : Numbers) → is_clean (a ++ b) ≡ (is_clean a && is_clean b)
is_clean-append [] b = refl
is_clean-append (n ∷ a) b = refl

pub is_clean-whens : (a b : Bool) (n m : ℕ) → is_clean (when a n ++ when b m) ≡ (not a && not b)
is_clean-whens a b n m = is_clean-append (when a n) (when b m) ∙ rw (is_clean-when a n, is_clean-when b m) refl

pub is_clean-unless : (b : Bool) (n : ℕ) → is_clean (when (not b) n) ≡ b
is_clean-unless true n = refl
is_clean-unless false n = refl
