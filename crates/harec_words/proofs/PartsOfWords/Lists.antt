-- Parts of lists by their places.
use Rattle.std.proofs.Common.{◌≡◌, ℕ, ◌+◌, ◌≤◌, List, [], ◌∷◌, ◌++◌, Bool, true, false, not, cond, length, drop, position, Some, None, refl, arith, length-drop, nat_lt}
use Rattle.std.specs.List.{position_or_len, slice_range, before_first, after_first, All}
use Rattle.std.proofs.lemmas.Bool.{ltb-false}
use Rattle.std.proofs.lemmas.List.{take_rest}
use Rattle.std.proofs.lemmas.List.Elements.{All-head, All-tail}
use Rattle.std.proofs.lemmas.List.Sums.{prefix_len-le-length}
use Rattle.std.proofs.Math.Seq.{take-append_seam, drop-append-add}

-- where nothing passes behind a place, the first that does is the end
pub position_or_len-none : {X : Type 0} (p : X → Bool) (from : ℕ) (xs : List X) → from ≤ length xs →
    None ≡ position p (slice_range xs from (length xs)) → length xs ≡ from + position_or_len p (drop from xs)
position_or_len-none p from xs h e = by (nat_lt (position_or_len p (drop from xs)) (length (drop from xs))) refl (rw take_rest at e)
  where
    by : (b : Bool) → nat_lt (position_or_len p (drop from xs)) (length (drop from xs)) ≡ b →
        None ≡ cond b (Some (position_or_len p (drop from xs))) None → length xs ≡ from + position_or_len p (drop from xs)
    by true t k = absurd cc
    by false t k =
        let past = ltb-false _ _ t in
        let within = prefix_len-le-length (λ x. not (p x)) (drop from xs) in
        omega (arith, past, within, length-drop from xs)

-- the first that passes, where none does in a front
pub position_or_len-front : {X : Type 0} (p : X → Bool) (xs ys : List X) → All (λ x. p x ≡ false) xs →
    position_or_len p (xs ++ ys) ≡ length xs + position_or_len p ys
position_or_len-front p [] ys h = omega arith
position_or_len-front p (x ∷ xs) ys h =
    let head : p x ≡ false = All-head (λ x. p x ≡ false) x xs h in
    let rest = position_or_len-front p xs ys (All-tail (λ x. p x ≡ false) x xs h) in
    rw head (omega (arith, rest))

-- a list is cut at the first that passes
pub record IsCut {X : Type 0} (p : X → Bool) (xs front back : List X) : Type 0 where
  pub front_is : before_first p xs ≡ front
  pub back_is : after_first p xs ≡ back

pub cut_at : {X : Type 0} (p : X → Bool) (xs : List X) (y : X) (ys : List X) → All (λ x. p x ≡ false) xs → p y ≡ true →
    IsCut p (xs ++ y ∷ ys) xs ys
cut_at p xs y ys h e =
    let here : position_or_len p (y ∷ ys) ≡ 0 = rw e refl in
    let front = position_or_len-front p xs (y ∷ ys) h in
    let place : position_or_len p (xs ++ y ∷ ys) ≡ length xs = omega arith in
    record { front_is = rw place (take-append_seam xs (y ∷ ys)); back_is = rw place (drop-append-add xs (y ∷ ys) 1) }

pub cut_end : {X : Type 0} (p : X → Bool) (xs : List X) → All (λ x. p x ≡ false) xs → IsCut p (xs ++ []) xs []
cut_end {X} p xs h =
    let none : List X = [] in
    let front = position_or_len-front p xs none h in
    let place : position_or_len p (xs ++ []) ≡ length xs = omega arith in
    record { front_is = rw place (take-append_seam xs []); back_is = rw place (drop-append-add xs [] 1) }
