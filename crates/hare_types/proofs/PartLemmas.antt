-- The extents of a row's parts, one after another.
use Rattle.std.proofs.Common.{◌≡◌, ℕ, zero, suc, ◌+◌, ◌≤◌, max, List, [], ◌∷◌, drop, Option, Some, None, refl, ap, ap₂, sym, ◌∙◌, arith, add-one}
use Rattle.std.specs.Prelude.{slice_get, option_map, option_and_then}
use Rattle.hare_types.specs.declared.extent.Extent.{Extent}
use Rattle.hare_types.specs.declared.bytes.Run.{Run}
use Rattle.hare_types.specs.Layout.{fields_extent, union_extent, fields_end, greatest_size, greatest_align}
use Rattle.hare_types.specs.Kept.{told, all_known}
use Rattle.hare_types.specs.Run.{no_parts, with_part, with_parts, fields_of, members_of}

drop_get : {A : Type 0} (xs : List A) (k : ℕ) (x : A) → slice_get xs k ≡ Some x → drop k xs ≡ x ∷ drop (suc k) xs
drop_get [] k x e = absurd cc
drop_get (y ∷ ys) zero x e =
    let same : y ≡ x = cc in
    ap (λ z. z ∷ ys) same
drop_get (y ∷ ys) (suc k) x e = drop_get ys k x e

-- ---- one part more

with_parts-more : (run : Run) (x : Extent) (xs : List Extent) → with_parts run (x ∷ xs) ≡ with_parts (with_part run x) xs
with_parts-more run x xs =
    let size : max run.size (max x.size (greatest_size xs)) ≡ max (max run.size x.size) (greatest_size xs) = omega arith in
    let align : max run.align (max x.align (greatest_align xs)) ≡ max (max run.align x.align) (greatest_align xs) = omega arith in
    ap₂ (λ a b. record { end = fields_end run.end (x ∷ xs); size = a; align = b }) size align

all_known-more : (ks : ℕ → Option Extent) (ps : List ℕ) (k p : ℕ) → slice_get ps k ≡ Some p → (o : Option Extent) → o ≡ ks p
    → all_known ks (drop k ps) ≡ option_and_then (λ x. option_map (λ xs. x ∷ xs) (all_known ks (drop (k + 1) ps))) o
all_known-more ks ps k p e o g =
    let split : drop k ps ≡ p ∷ drop (k + 1) ps = rw add-one (drop_get ps k p e) in
    ap (all_known ks) split ∙ ap (option_and_then (λ x. option_map (λ xs. x ∷ xs) (all_known ks (drop (k + 1) ps)))) (sym g)

joined : (run : Run) (x : Extent) (o : Option (List Extent)) → option_map (with_parts run) (option_map (λ xs. x ∷ xs) o) ≡ option_map
    (with_parts (with_part run x)) o
joined run x None = refl
joined run x (Some xs) = ap Some (with_parts-more run x xs)

pub parts-step : (ks : ℕ → Option Extent) (ps : List ℕ) (k p : ℕ) (run : Run) (x : Extent) → slice_get ps k ≡ Some p → Some x ≡ ks p
    → option_map (with_parts run) (all_known ks (drop k ps)) ≡ option_map (with_parts (with_part run x)) (all_known ks (drop (k + 1) ps))
parts-step ks ps k p run x e g =
    ap (option_map (with_parts run)) (all_known-more ks ps k p e (Some x) g) ∙ joined run x (all_known ks (drop (k + 1) ps))

pub parts-none : (ks : ℕ → Option Extent) (ps : List ℕ) (k p : ℕ) (run : Run) → slice_get ps k ≡ Some p → None ≡ ks p →
    None ≡ option_map (with_parts run) (all_known ks (drop k ps))
parts-none ks ps k p run e g = sym (ap (option_map (with_parts run)) (all_known-more ks ps k p e None g))

-- ---- all parts

pub greatest_align-low : (xs : List Extent) → 1 ≤ greatest_align xs
greatest_align-low [] = omega arith
greatest_align-low (x ∷ xs) =
    let ih = greatest_align-low xs in
    omega arith

with_no_parts-align : (xs : List Extent) → max 1 (greatest_align xs) ≡ greatest_align xs
with_no_parts-align xs = omega (arith, greatest_align-low xs)

with_no_parts-size : (n : ℕ) → max 0 n ≡ n
with_no_parts-size n = omega arith

fields_of-all : (xs : List Extent) → fields_of (with_parts no_parts xs) ≡ told (fields_extent xs)
fields_of-all xs =
    ap (λ a. fields_of (record { end = fields_end 0 xs; size = max 0 (greatest_size xs); align = a })) (with_no_parts-align xs)

members_of-all : (xs : List Extent) → members_of (with_parts no_parts xs) ≡ told (union_extent xs)
members_of-all xs =
    ap₂ (λ a b. members_of (record { end = fields_end 0 xs; size = b; align = a })) (with_no_parts-align xs)
    (with_no_parts-size (greatest_size xs))

pub fields_of-parts : (o : Option (List Extent)) (run : Run) → Some run ≡ option_map (with_parts no_parts) o →
    Some (fields_of run) ≡ option_map (λ xs. told (fields_extent xs)) o
fields_of-parts None run e = absurd cc
fields_of-parts (Some xs) run e =
    let same : run ≡ with_parts no_parts xs = cc in
    ap Some (ap fields_of same ∙ fields_of-all xs)

pub members_of-parts : (o : Option (List Extent)) (run : Run) → Some run ≡ option_map (with_parts no_parts) o →
    Some (members_of run) ≡ option_map (λ xs. told (union_extent xs)) o
members_of-parts None run e = absurd cc
members_of-parts (Some xs) run e =
    let same : run ≡ with_parts no_parts xs = cc in
    ap Some (ap members_of same ∙ members_of-all xs)

pub none_of-parts : (f : List Extent → Extent) (o : Option (List Extent)) → None ≡ option_map (with_parts no_parts) o →
    None ≡ option_map f o
none_of-parts f None e = refl
none_of-parts f (Some xs) e = absurd cc
