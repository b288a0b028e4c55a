-- Pages of which a byte was written, behind what the functions of the runtime do.
use Rattle.std.proofs.Common.{◌≡◌, ℕ, suc, ◌+◌, ◌*◌, ◌/◌, ◌<◌, ◌≤◌, Bool, true, false, ◌&&◌, ◌||◌, List, [], ◌∷◌, ◌++◌, length, refl, sym, ap, ◌∙◌, arith, ◌⊎◌, inl, inr}
use Rattle.std.specs.Prelude.{not, filter, nat_eq, nat_le}
use Rattle.std.specs.List.{list_any}
use Rattle.std.proofs.lemmas.Bool.Decides.{nat_tests}
use Rattle.hx_base.specs.Memory.{Memory, in_range, bytes_at, writes, write, clear_range}
use Rattle.hx_base.proofs.Memory.Ranges.{Inside, inside, outside, inside_of, length-bytes_at}
use Rattle.hx_base.proofs.Memory.Written.{write-append}
use Rattle.il_mem.specs.Kept.{Kept, page_size, lies_in}
use Rattle.il_mem.specs.Holds.{AddsPages, GivesUp}
use Rattle.il_mem.specs.Touched.{is_touched, HoldsTouched}
use Rattle.il_mem.proofs.TouchedLemmas.{written_held}

-- whether one of the addresses lies in a page
abbrev touches : List (ℕ × ℕ) → ℕ → Bool
touches ws p = list_any (λ w. nat_eq (w.0 / page_size) p) ws

-- ---- what is written

or_assoc : (x y z : Bool) → (x || (y || z)) ≡ ((x || y) || z)
or_assoc true y z = refl
or_assoc false y z = refl

or_swap : (x y z : Bool) → (x || (y || z)) ≡ (y || (x || z))
or_swap true true z = refl
or_swap true false z = refl
or_swap false y z = refl

or_right : (x y : Bool) → y ≡ true → (x || y) ≡ true
or_right true y e = refl
or_right false y e = e

touches-writes : (ws : List (ℕ × ℕ)) (at : ℕ) (bs : List ℕ) (p : ℕ) →
    touches (writes ws at bs) p ≡ (touches (writes [] at bs) p || touches ws p)
touches-writes ws at [] p = refl
touches-writes ws at (b ∷ bs) p =
    let t = nat_eq (at / page_size) p in
    ap (λ (x : Bool). t || x) (touches-writes ws (suc at) bs p) ∙ or_assoc t (touches (writes [] (suc at) bs) p) (touches ws p)

-- what was touched stays so
pub touched_over : (it : Kept) (m : Memory) (at : ℕ) (bs : List ℕ) → HoldsTouched it (write m at bs) → HoldsTouched it m
touched_over it m at bs h p t =
    h p (touches-writes m.written at bs p ∙ or_right (touches (writes [] at bs) p) (touches m.written p) t)

-- two parts touch what the whole does
pub touched_two : (it : Kept) (m : Memory) (at : ℕ) (xs ys : List ℕ) → HoldsTouched it (write (write m at xs) (at + length xs) ys) →
    HoldsTouched it (write m at (xs ++ ys))
touched_two it m at xs ys h p t =
    let c : ℕ = at + length xs in
    let x = touches (writes [] at xs) p in
    let y = touches (writes [] c ys) p in
    let z = touches m.written p in
    let whole : is_touched (write m at (xs ++ ys)) p ≡ (x || (y || z)) =
    ap (λ (v : Memory). is_touched v p) (write-append m at xs ys) ∙ touches-writes (writes m.written c ys) at xs p
    ∙ ap (λ (b : Bool). x || b) (touches-writes m.written c ys p) in
    let parts : is_touched (write (write m at xs) c ys) p ≡ (y || (x || z)) =
    touches-writes (writes m.written at xs) c ys p ∙ ap (λ (b : Bool). y || b) (touches-writes m.written at xs p) in
    h p (parts ∙ sym (or_swap x y z) ∙ sym whole ∙ t)

-- more pages may be held
pub touched_more : (old new : Kept) (m : Memory) (at n : ℕ) → HoldsTouched old m → AddsPages old new at n → HoldsTouched new m
touched_more old new m at n h adds p t = adds p ∙ rw (h p t) refl

-- a copy holds the pages that it writes to
pub touched_move : (old new : Kept) (m : Memory) (to from n : ℕ) → HoldsTouched old m → AddsPages old new to n →
    HoldsTouched new (write m to (bytes_at m from n))
touched_move old new m to from n h adds = written_held old new m to n (bytes_at m from n) (length-bytes_at m from n) h adds

-- ---- what is cleared

-- a byte of a page was written at an address that passes a test
record Passes (test : ℕ → Bool) (ws : List (ℕ × ℕ)) (p : ℕ) : Type 0 where
  address : ℕ
  here : address / page_size ≡ p
  passes : test address ≡ true
  touched : touches ws p ≡ true

passes_more : (test : ℕ → Bool) (w : ℕ × ℕ) (ws : List (ℕ × ℕ)) (p : ℕ) → Passes test ws p → Passes test (w ∷ ws) p
passes_more test w ws p h = record {
  address = h.address;
  here = h.here;
  passes = h.passes;
  touched = or_right (nat_eq (w.0 / page_size) p) (touches ws p) h.touched;
}

touches-filter : (test : ℕ → Bool) (ws : List (ℕ × ℕ)) (p : ℕ) → touches (filter (λ w. test w.0) ws) p ≡ true → Passes test ws p
touches-filter test [] p h = cc
touches-filter test (w ∷ ws) p h = pick (test w.0) (nat_eq (w.0 / page_size) p) refl refl (touches-filter test ws p)
  where
    pick : (t u : Bool) → test w.0 ≡ t → nat_eq (w.0 / page_size) p ≡ u →
        (touches (filter (λ v. test v.0) ws) p ≡ true → Passes test ws p) → Passes test (w ∷ ws) p
    pick true true e f on =
        let here : w.0 / page_size ≡ p = grind (arith, nat_tests) in
        record { address = w.0; here = here; passes = e; touched = rw f refl }
    pick true false e f on =
        let x : touches (filter (λ v. test v.0) ws) p ≡ true = rw f at (rw e at h) in
        passes_more test w ws p (on x)
    pick false u e f on =
        let x : touches (filter (λ v. test v.0) ws) p ≡ true = rw e at h in
        passes_more test w ws p (on x)

-- a page with an address outside does not lie among them
not_among : (at n a p : ℕ) → a / page_size ≡ p → (a < at) ⊎ (at + n ≤ a) → lies_in at n p ≡ false
not_among at n a p here out =
    let low : page_size * p ≤ a = omega (arith, here) in
    let high : a < page_size * (p + 1) = omega (arith, here) in
    pick (nat_le at (page_size * p)) (nat_le (page_size * (p + 1)) (at + n)) refl refl out
  where
    pick : (t u : Bool) → nat_le at (page_size * p) ≡ t → nat_le (page_size * (p + 1)) (at + n) ≡ u → (a < at) ⊎ (at + n ≤ a) →
        (t && u) ≡ false
    pick true true e f (inl x) =
        let l : at ≤ page_size * p = grind (arith, nat_tests) in
        let low : page_size * p ≤ a = omega (arith, here) in
        absurd (omega (arith, l, low, x))
    pick true true e f (inr x) =
        let u : page_size * (p + 1) ≤ at + n = grind (arith, nat_tests) in
        let high : a < page_size * (p + 1) = omega (arith, here) in
        absurd (omega (arith, u, high, x))
    pick true false e f x = refl
    pick false u e f x = refl

pub touched_clear : (old new : Kept) (m : Memory) (at n : ℕ) → HoldsTouched old m → GivesUp old new at n →
    HoldsTouched new (clear_range m at n)
touched_clear old new m at n h gives p t =
    let test : ℕ → Bool = λ a. not (in_range at n a) in
    let one = touches-filter test m.written p t in
    let aside = not_among at n one.address p one.here (out one.address one.passes) in
    gives p ∙ rw (h p one.touched, aside) refl
  where
    out : (a : ℕ) → not (in_range at n a) ≡ true → (a < at) ⊎ (at + n ≤ a)
    out a e = pick (inside_of at n a)
      where
        pick : Inside at n a → (a < at) ⊎ (at + n ≤ a)
        pick (inside i _ _) = let x = rw i at e in cc
        pick (outside i x) = x
