-- The nearest of the labels round a jump.
use Rattle.std.proofs.Common.{◌≡◌, ℕ, ◌+◌, Bool, true, false, cond, ◌||◌, List, [], ◌∷◌, ◌++◌, map, take, Some, None, refl, ap, ◌∙◌}
use Rattle.std.specs.Prelude.{find, reverse, slice_get}
use Rattle.std.proofs.lemmas.List.{reverse-append, map_push}
use Rattle.hare_typed.proofs.KidLemmas.{take-get}
use Rattle.hare_rules.specs.declared.inside.Label.{Label}
use Rattle.hare_rules.specs.Context.{Open}
use Rattle.hare_types.specs.Store.{Store}
use Rattle.hare_rules.specs.declared.hint.Hint.TheVariants as hint
use Rattle.hare_rules.specs.Control.{nearest, void_fits_hint, hint_of_open}
use Rattle.hare_rules.specs.Judged.{open_of}

nearest_last : (p : Open → Bool) (ls : List Open) (l : Open) → nearest p (ls ++ l ∷ []) ≡ cond (p l) (Some l) (nearest p ls)
nearest_last p ls l = ap (find p) (reverse-append ls (l ∷ []))

module _ (p : Open → Bool) (ls : List Label) (i : ℕ) (l : Label) (e : slice_get ls i ≡ Some l) where
  last_of : nearest p (map open_of (take (i + 1) ls)) ≡ cond (p (open_of l)) (Some (open_of l)) (nearest p (map open_of (take i ls)))
  last_of = ap (λ ks. nearest p (map open_of ks)) (take-get ls i l e) ∙ ap (nearest p) (map_push open_of (take i ls) l) ∙ nearest_last p
      (map open_of (take i ls)) (open_of l)

  -- it is the nearest of those that are left
  pub found : p (open_of l) ≡ true → nearest p (map open_of (take (i + 1) ls)) ≡ Some (open_of l)
  found k = last_of ∙ ap (λ b. cond b (Some (open_of l)) (nearest p (map open_of (take i ls)))) k

  -- it is passed over
  pub passed : p (open_of l) ≡ false → nearest p (map open_of (take (i + 1) ls)) ≡ nearest p (map open_of (take i ls))
  passed k = last_of ∙ ap (λ b. cond b (Some (open_of l)) (nearest p (map open_of (take i ls)))) k

-- ---- hints of labels

find_behind : (p : Open → Bool) (xs : List Open) (y : Open) → y.hint ≡ hint.None → hint_of_open (find p xs) ≡ hint.None
    → hint_of_open (find p (xs ++ y ∷ [])) ≡ hint.None
find_behind p [] y e h = by (p y)
  where
    by : (b : Bool) → hint_of_open (cond b (Some y) None) ≡ hint.None
    by true = e
    by false = refl
find_behind p (x ∷ xs) y e h = by (find_behind p xs y e) (p x) h
  where
    by : (hint_of_open (find p xs) ≡ hint.None → hint_of_open (find p (xs ++ y ∷ [])) ≡ hint.None) → (b : Bool) →
        hint_of_open (cond b (Some x) (find p xs)) ≡ hint.None
        → hint_of_open (cond b (Some x) (find p (xs ++ y ∷ []))) ≡ hint.None
    by ih true k = k
    by ih false k = ih k

-- a judge is told no hint of a label
pub nearest_bare : (p : Open → Bool) (ls : List Label) → hint_of_open (nearest p (map open_of ls)) ≡ hint.None
nearest_bare p [] = refl
nearest_bare p (l ∷ ls) =
    ap (λ ks. hint_of_open (find p ks)) (reverse-append (open_of l ∷ []) (map open_of ls))
    ∙ find_behind p (reverse (map open_of ls)) (open_of l) refl (nearest_bare p ls)

-- so nothing is known to ask for the value that a `yield` lacks
pub yield_passes : (f : Store) (there : Bool) (p : Open → Bool) (ls : List Label) →
    (there || void_fits_hint f (hint_of_open (nearest p (map open_of ls)))) ≡ true
yield_passes f there p ls = ap (λ h. there || void_fits_hint f h) (nearest_bare p ls) ∙ by there
  where
    by : (b : Bool) → (b || true) ≡ true
    by true = refl
    by false = refl
