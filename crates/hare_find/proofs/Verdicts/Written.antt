-- What is settled of kids, one by one.
use Rattle.std.proofs.Common.{◌≡◌, ℕ, zero, suc, true, false, cond, ◌<◌, ◌≤◌, List, [], ◌∷◌, ◌++◌, length, map, take, drop, get_or, refl, ap, ◌∙◌, arith, Option, Some, None}
use Rattle.std.proofs.lemmas.List.{take-append-drop}
use Rattle.hare_types.specs.declared.coercion.Coercion.{Coercion}
use Rattle.hare_typed.specs.Typed.{TypedNode}
use Rattle.hare_typed.specs.Coats.{settled_at}
use Rattle.std.specs.Prelude.{slice_get, slice_set}
use Rattle.hare_typed.specs.Numbers.{number_of}
use Rattle.hare_typed.specs.Order.{tree_from_front}
use Rattle.hare_rules.specs.Settles.{Settled}
use Rattle.hare_rules.specs.Flow.{write_each}
use Rattle.hare_find.specs.declared.listed.Settling.{Settling}
use Rattle.hare_find.specs.Settling.{option_in}
use Rattle.hare_find.specs.Listed.{written_one, written_each, coated_one, coated_at, coated_each}

-- ---- writes

pub write_each-append : (xs ys : List Settled) (cs : List Coercion) → write_each (xs ++ ys) cs ≡ write_each ys (write_each xs cs)
write_each-append [] ys cs = refl
write_each-append (x ∷ xs) ys cs = write_each-append xs ys _

-- ---- one kid

behind_first : (o : Option Coercion) (x : TypedNode) (xs : List TypedNode) → drop 1 (coated_at 0 o (x ∷ xs)) ≡ xs
behind_first None x xs = refl
behind_first (Some r) x xs = refl

behind_next : (o : Option Coercion) (i n : ℕ) (x : TypedNode) (xs : List TypedNode) →
    drop (suc n) (coated_at (suc i) o (x ∷ xs)) ≡ drop n (coated_at i o xs)
behind_next None i n x xs = refl
behind_next (Some r) i n x xs = refl

front_first : (o : Option Coercion) (x : TypedNode) (xs : List TypedNode) → take 1 (coated_at 0 o (x ∷ xs)) ≡ coated_one x o ∷ []
front_first None x xs = refl
front_first (Some r) x xs = refl

front_next : (o : Option Coercion) (i n : ℕ) (x : TypedNode) (xs : List TypedNode) →
    take (suc n) (coated_at (suc i) o (x ∷ xs)) ≡ x ∷ take n (coated_at i o xs)
front_next None i n x xs = refl
front_next (Some r) i n x xs = refl

settled-length : (i : ℕ) (r : Coercion) (xs : List TypedNode) → length (settled_at i r xs) ≡ length xs
settled-length i r [] = refl
settled-length zero r (x ∷ xs) = refl
settled-length (suc i) r (x ∷ xs) = ap suc (settled-length i r xs)

pub coated-length : (i : ℕ) (o : Option Coercion) (xs : List TypedNode) → length (coated_at i o xs) ≡ length xs
coated-length i None xs = refl
coated-length i (Some r) xs = settled-length i r xs

-- ---- one kid more

pub written_step : (xs : List TypedNode) (os : List (Option Coercion)) (i : ℕ) (o : Option Coercion) (cs : List Coercion) →
    i < length xs → length os ≡ length xs → o ≡ get_or os i o →
    write_each (written_each (drop i xs) (drop i os)) cs
    ≡ write_each (written_each (drop (suc i) (coated_at i o xs)) (drop (suc i) os)) (write_each (written_one (tree_from_front i xs) o) cs)
written_step [] os i o cs h l e = absurd (omega arith)
written_step (x ∷ xs) [] i o cs h l e = absurd (omega arith)
written_step (x ∷ xs) (p ∷ os) zero o cs h l e =
    let q : write_each (written_one x p ++ written_each xs os) cs ≡ write_each (written_each xs os) (write_each (written_one x p) cs) =
    write_each-append (written_one x p) (written_each xs os) cs in
    q ∙ rw (e, behind_first p x xs) refl
written_step (x ∷ xs) (p ∷ os) (suc i) o cs h l e =
    let d = written_step xs os i o cs (omega arith) (omega arith) e in
    d ∙ rw (behind_next o i (suc i) x xs) refl

pub coated_step : (xs : List TypedNode) (os : List (Option Coercion)) (i : ℕ) (o : Option Coercion) →
    i < length xs → length os ≡ length xs → o ≡ get_or os i o →
    take i xs ++ coated_each (drop i xs) (drop i os)
    ≡ take (suc i) (coated_at i o xs) ++ coated_each (drop (suc i) (coated_at i o xs)) (drop (suc i) os)
coated_step [] os i o h l e = absurd (omega arith)
coated_step (x ∷ xs) [] i o h l e = absurd (omega arith)
coated_step (x ∷ xs) (p ∷ os) zero o h l e = rw (e, front_first p x xs, behind_first p x xs) refl
coated_step (x ∷ xs) (p ∷ os) (suc i) o h l e =
    let d = coated_step xs os i o (omega arith) (omega arith) e in
    rw (front_next o i (suc i) x xs, behind_next o i (suc i) x xs) (ap (λ ys. x ∷ ys) d)

-- ---- all

none_written : (xs : List TypedNode) → written_each xs [] ≡ []
none_written [] = refl
none_written (x ∷ xs) = refl

none_coated : (xs : List TypedNode) → coated_each xs [] ≡ xs
none_coated [] = refl
none_coated (x ∷ xs) = refl

pub written_none : (xs : List TypedNode) (os : List (Option Coercion)) (i : ℕ) (cs : List Coercion) → length xs ≤ i →
    write_each (written_each (drop i xs) (drop i os)) cs ≡ cs
written_none [] os zero cs h = refl
written_none [] os (suc i) cs h = refl
written_none (x ∷ xs) os zero cs h = absurd (omega arith)
written_none (x ∷ xs) [] (suc i) cs h = rw (none_written (drop i xs)) refl
written_none (x ∷ xs) (o ∷ os) (suc i) cs h = written_none xs os i cs (omega arith)

pub coated_all : (xs : List TypedNode) (os : List (Option Coercion)) (i : ℕ) → length xs ≤ i →
    take i xs ++ coated_each (drop i xs) (drop i os) ≡ xs
coated_all [] os zero h = refl
coated_all [] os (suc i) h = refl
coated_all (x ∷ xs) os zero h = absurd (omega arith)
coated_all (x ∷ xs) [] (suc i) h = rw (none_coated (drop i xs)) (ap (λ ys. x ∷ ys) (take-append-drop i xs))
coated_all (x ∷ xs) (o ∷ os) (suc i) h = ap (λ ys. x ∷ ys) (coated_all xs os i (omega arith))

pub option_moves : (k : Settling) → k.moves ≡ true → option_in k ≡ Some k.coercion
option_moves k e = ap (λ b. cond b (Some k.coercion) None) e

pub option_stays : (k : Settling) → k.moves ≡ false → option_in k ≡ None
option_stays k e = ap (λ b. cond b (Some k.coercion) None) e

pub got_option : (ks : List Settling) (i : ℕ) (k : Settling) → k ≡ get_or ks i k →
    option_in k ≡ get_or (map option_in ks) i (option_in k)
got_option [] i k e = refl
got_option (p ∷ ks) zero k e = ap option_in e
got_option (p ∷ ks) (suc i) k e = got_option ks i k e

-- ---- the kid with a number

pub kid_found : (xs : List TypedNode) (i : ℕ) (x : TypedNode) → slice_get xs i ≡ Some x → tree_from_front i xs ≡ x
kid_found [] zero x e = cc
kid_found [] (suc i) x e = cc
kid_found (y ∷ xs) zero x e = cc
kid_found (y ∷ xs) (suc i) x e = kid_found xs i x e

pub one_written : (xs : List TypedNode) (i n : ℕ) (x : TypedNode) (o : Option Coercion) (r : Coercion) (cs : List Coercion) →
    slice_get xs i ≡ Some x → number_of x ≡ n → o ≡ Some r →
    slice_set cs n r ≡ write_each (written_one (tree_from_front i xs) o) cs
one_written xs i n x o r cs e k d = rw (d, kid_found xs i x e, k) refl
