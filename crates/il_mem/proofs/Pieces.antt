-- Copies and comparisons in pieces.
use Rattle.std.proofs.Common.{◌≡◌, ◌≢◌, ℕ, ◌+◌, ◌-◌, ◌*◌, ◌/◌, ◌%◌, ◌<◌, ◌≤◌, Bool, true, false, ◌&&◌, ◌||◌, List, [], ◌∷◌, ◌++◌, length, take, drop, get_or, refl, sym, ap, ◌∙◌, subst, arith, ◌⊎◌, inl, inr}
use Rattle.std.specs.Prelude.{is_some, bytes_eq, nat_eq, nat_le, nat_lt, min, max, not}
use Rattle.std.proofs.lemmas.Bool.Decides.{nat_tests}
use Rattle.std.proofs.lemmas.List.{take_all, take-append-drop}
use Rattle.std.proofs.lemmas.Option.{slice_get-get_or}
use Rattle.hx_base.specs.Memory.{Memory, byte_at, is_mapped, bytes_at, write, clear_range}
use Rattle.hx_base.proofs.Memory.Ranges.{length-bytes_at, Inside, inside, outside, inside_of, bytes_at-append}
use Rattle.hx_base.proofs.Memory.Written.{byte_at-write_outside, byte_at-write_inside, bytes_at-write_outside, write-append, byte_at-clear_range_inside, byte_at-clear_range_outside}
use Rattle.il_mem.specs.Kept.{Held, page_size, place_in, is_held, meets, lies_in}
use Rattle.il_mem.specs.Holds.{HoldsBytes}
use Rattle.il_mem.proofs.PageWrites.{holds_alike}

-- ---- copies

-- what is written does not ask what was there
write_alike : (m m' : Memory) (at : ℕ) (bs : List ℕ) (a : ℕ) → at ≤ a → a < at + length bs →
    byte_at (write m at bs) a ≡ byte_at (write m' at bs) a
write_alike m m' at bs a l u =
    let j = a - at in
    let inside : j < length bs = omega arith in
    let at' : at + j ≡ a = omega arith in
    let one = byte_at-write_inside m at bs j (get_or bs j 0) (slice_get-get_or bs j 0 inside) in
    let other = byte_at-write_inside m' at bs j (get_or bs j 0) (slice_get-get_or bs j 0 inside) in
    subst (λ (x : ℕ). byte_at (write m at bs) x ≡ byte_at (write m' at bs) x) at' (one ∙ sym other)

-- bytes written one behind the other, whichever came first
pub write_in_turn : (h : Held) (m : Memory) (to : ℕ) (xs ys : List ℕ) → HoldsBytes h (write (write m to xs) (to + length xs) ys) →
    HoldsBytes h (write m to (xs ++ ys))
write_in_turn h m to xs ys holds =
    subst (λ (x : Memory). HoldsBytes h x) (sym (write-append m to xs ys))
    (holds_alike h (write (write m to xs) (to + length xs) ys) (write (write m (to + length xs) ys) to xs) refl
    (λ a. turned a (inside_of (to + length xs) (length ys) a) (inside_of to (length xs) a)) holds)
  where
    turned : (a : ℕ) → Inside (to + length xs) (length ys) a → Inside to (length xs) a →
        byte_at (write (write m to xs) (to + length xs) ys) a ≡ byte_at (write (write m (to + length xs) ys) to xs) a
    turned a (inside e l u) _ =
        write_alike (write m to xs) m (to + length xs) ys a l u ∙ sym (byte_at-write_outside (write m (to + length xs) ys) to xs a (inr l))
    turned a (outside e x) (inside f l u) =
        byte_at-write_outside (write m to xs) (to + length xs) ys a x ∙ write_alike m (write m (to + length xs) ys) to xs a l u
    turned a (outside e x) (outside f y) =
        byte_at-write_outside (write m to xs) (to + length xs) ys a x ∙ byte_at-write_outside m to xs a y
        ∙ sym (byte_at-write_outside (write m (to + length xs) ys) to xs a y ∙ byte_at-write_outside m (to + length xs) ys a x)

-- a copy to a lower address goes on with the next piece
pub down_more : (h : Held) (m : Memory) (to from done n : ℕ) → to ≤ from →
    HoldsBytes h (write (write m to (bytes_at m from done)) (to + done) (bytes_at (write m to (bytes_at m from done)) (from + done) n)) →
    HoldsBytes h (write m to (bytes_at m from (done + n)))
down_more h m to from done n l holds =
    let size : length (bytes_at m from done) ≡ done = length-bytes_at m from done in
    let same : bytes_at (write m to (bytes_at m from done)) (from + done) n ≡ bytes_at m (from + done) n =
    bytes_at-write_outside m to (bytes_at m from done) (from + done) n (inr (omega (arith, size, l))) in
    let next = subst (λ (bs : List ℕ). HoldsBytes h (write (write m to (bytes_at m from done)) (to + done) bs)) same holds in
    let at : to + done ≡ to + length (bytes_at m from done) = omega (arith, size) in
    let next' = subst (λ (x : ℕ). HoldsBytes h (write (write m to (bytes_at m from done)) x (bytes_at m (from + done) n))) at next in
    subst (λ (bs : List ℕ). HoldsBytes h (write m to bs)) (sym (bytes_at-append m from done n))
    (write_in_turn h m to (bytes_at m from done) (bytes_at m (from + done) n) next')

-- a copy to a higher address goes on with the piece before
pub up_more : (h : Held) (m : Memory) (to from left n k : ℕ) → from ≤ to →
    HoldsBytes h (write (write m (to + (left + n)) (bytes_at m (from + (left + n)) k)) (to + left)
    (bytes_at (write m (to + (left + n)) (bytes_at m (from + (left + n)) k)) (from + left) n)) →
    HoldsBytes h (write m (to + left) (bytes_at m (from + left) (n + k)))
up_more h m to from left n k l holds =
    let back = bytes_at m (from + (left + n)) k in
    let size : length (bytes_at m (from + left) n) ≡ n = length-bytes_at m (from + left) n in
    let same : bytes_at (write m (to + (left + n)) back) (from + left) n ≡ bytes_at m (from + left) n =
    bytes_at-write_outside m (to + (left + n)) back (from + left) n (inl (omega (arith, l))) in
    let next = subst (λ (bs : List ℕ). HoldsBytes h (write (write m (to + (left + n)) back) (to + left) bs)) same holds in
    let at : to + (left + n) ≡ to + left + length (bytes_at m (from + left) n) = omega (arith, size) in
    let at' : from + (left + n) ≡ from + left + n = omega arith in
    let next' = subst (λ (x : ℕ). HoldsBytes h (write (write m x back) (to + left) (bytes_at m (from + left) n))) at next in
    let joined = subst (λ (x : Memory). HoldsBytes h x) (sym (write-append m (to + left) (bytes_at m (from + left) n) back)) next' in
    let joined' = subst (λ (x : ℕ). HoldsBytes h (write m (to + left) (bytes_at m (from + left) n ++ bytes_at m x k))) at' joined in
    subst (λ (bs : List ℕ). HoldsBytes h (write m (to + left) bs)) (sym (bytes_at-append m (from + left) n k)) joined'

-- ---- comparisons

pub bytes_eq-append : (a b c d : List ℕ) → length a ≡ length b → bytes_eq (a ++ c) (b ++ d) ≡ (bytes_eq a b && bytes_eq c d)
bytes_eq-append [] [] c d h = refl
bytes_eq-append [] (y ∷ b) c d h = absurd (omega arith)
bytes_eq-append (x ∷ a) [] c d h = absurd (omega arith)
bytes_eq-append (x ∷ a) (y ∷ b) c d h = pick (nat_eq x y) refl (bytes_eq-append a b c d (omega arith))
  where
    pick : (t : Bool) → nat_eq x y ≡ t → bytes_eq (a ++ c) (b ++ d) ≡ (bytes_eq a b && bytes_eq c d) →
        bytes_eq ((x ∷ a) ++ c) ((y ∷ b) ++ d) ≡ (bytes_eq (x ∷ a) (y ∷ b) && bytes_eq c d)
    pick true e i = rw (e, i) refl
    pick false e i = rw e refl

-- a comparison by the pieces of what is compared
pub same_more : (m : Memory) (a b done n : ℕ) → bytes_eq (bytes_at m a done) (bytes_at m b done) ≡ true →
    bytes_eq (bytes_at m a (done + n)) (bytes_at m b (done + n)) ≡ bytes_eq (bytes_at m (a + done) n) (bytes_at m (b + done) n)
same_more m a b done n h =
    let size : length (bytes_at m a done) ≡ length (bytes_at m b done) = length-bytes_at m a done ∙ sym (length-bytes_at m b done) in
    rw (
      bytes_at-append m a done n,
      bytes_at-append m b done n,
      bytes_eq-append (bytes_at m a done) (bytes_at m b done)
          (bytes_at m (a + done) n) (bytes_at m (b + done) n) size,
      h,
    ) refl

-- a difference stays one
pub differs_more : (m : Memory) (a b done n : ℕ) → bytes_eq (bytes_at m a done) (bytes_at m b done) ≡ false →
    bytes_eq (bytes_at m a (done + n)) (bytes_at m b (done + n)) ≡ false
differs_more m a b done n h =
    let size : length (bytes_at m a done) ≡ length (bytes_at m b done) = length-bytes_at m a done ∙ sym (length-bytes_at m b done) in
    rw (
      bytes_at-append m a done n,
      bytes_at-append m b done n,
      bytes_eq-append (bytes_at m a done) (bytes_at m b done)
          (bytes_at m (a + done) n) (bytes_at m (b + done) n) size,
      h,
    ) refl

-- ---- clearing

pub clear_in_turn : (h : Held) (m : Memory) (at k n : ℕ) → HoldsBytes h (clear_range (clear_range m at k) (at + k) n) →
    HoldsBytes h (clear_range m at (k + n))
clear_in_turn h m at k n holds =
    holds_alike h (clear_range (clear_range m at k) (at + k) n) (clear_range m at (k + n)) refl
    (λ a. joined a (inside_of (at + k) n a) (inside_of at k a)) holds
  where
    joined : (a : ℕ) → Inside (at + k) n a → Inside at k a →
        byte_at (clear_range (clear_range m at k) (at + k) n) a ≡ byte_at (clear_range m at (k + n)) a
    joined a (inside e l u) _ = byte_at-clear_range_inside (clear_range m at k) (at + k) n a l u
        ∙ sym (byte_at-clear_range_inside m at (k + n) a (omega arith) (omega arith))
    joined a (outside e x) (inside f l u) =
        byte_at-clear_range_outside (clear_range m at k) (at + k) n a x ∙ byte_at-clear_range_inside m at k a l u
        ∙ sym (byte_at-clear_range_inside m at (k + n) a l (omega arith))
    joined a (outside e x) (outside f y) =
        byte_at-clear_range_outside (clear_range m at k) (at + k) n a x ∙ byte_at-clear_range_outside m at k a y
        ∙ sym (byte_at-clear_range_outside m at (k + n) a (beside a x y))
      where
        beside : (a : ℕ) → (a < at + k) ⊎ (at + k + n ≤ a) → (a < at) ⊎ (at + k ≤ a) → (a < at) ⊎ (at + (k + n) ≤ a)
        beside a x (inl y) = inl y
        beside a (inl x) (inr y) = absurd (omega arith)
        beside a (inr x) (inr y) = inr (omega arith)

-- the pages among so many bytes are given up, and the next piece begins with a page
pub record IsGone (old now : Held) (at done n : ℕ) : Type 0 where
  pub aligned : 0 < done → done < n → (at + done) % page_size ≡ 0
  pub pages : (p : ℕ) → is_held now p ≡ (is_held old p && not (lies_in at done p))

pub gone_first : (old : Held) (at n : ℕ) → IsGone old old at 0 n
gone_first old at n = record {
  aligned = λ l u. absurd (omega arith);
  pages =
      λ p. pick p (nat_le at (page_size * p)) (nat_le (page_size * (p + 1)) (at + 0)) refl refl (is_held old p);
}
  where
    pick : (p : ℕ) (b c : Bool) → nat_le at (page_size * p) ≡ b → nat_le (page_size * (p + 1)) (at + 0) ≡ c → (x : Bool) →
        x ≡ (x && not (lies_in at 0 p))
    pick p true true e f x = absurd (grind (arith, nat_tests))
    pick p true false e f true = rw (e, f) refl
    pick p true false e f false = refl
    pick p false c e f true = rw e refl
    pick p false c e f false = refl

module _ (old now new : Held) (at done n len : ℕ) (g : IsGone old now at done n) (more : done < n)
    (is : len ≡ min (n - done) (page_size - (at + done) % page_size)) where
  aligned_then : 0 < done + len → done + len < n → (at + (done + len)) % page_size ≡ 0
  aligned_then l u = omega (arith, is)

  -- a piece of a page
  pub gone_piece : len ≢ page_size → new.pages ≡ now.pages → IsGone old new at (done + len) n
  gone_piece ne same = record {
    aligned = aligned_then;
    pages = λ p. ap (λ (ps : List ℕ). is_some (place_in ps p)) same ∙ g.pages p ∙ ap (λ (b : Bool). is_held old p && not b) (still p);
  }
    where
      still : (p : ℕ) → lies_in at done p ≡ lies_in at (done + len) p
      still p = pick (nat_le at (page_size * p)) (nat_le (page_size * (p + 1)) (at + done))
          (nat_le (page_size * (p + 1)) (at + (done + len))) refl refl refl
        where
          pick : (a b c : Bool) → nat_le at (page_size * p) ≡ a → nat_le (page_size * (p + 1)) (at + done) ≡ b →
              nat_le (page_size * (p + 1)) (at + (done + len)) ≡ c → lies_in at done p ≡ lies_in at (done + len) p
          pick false b c e f h = rw e refl
          pick true true true e f h = rw (e, f, h) refl
          pick true false false e f h = rw (e, f, h) refl
          pick true true false e f h = absurd (grind (arith, nat_tests))
          pick true false true e f h =
              let from : at ≤ page_size * p = grind (arith, nat_tests) in
              let above : at + done < page_size * (p + 1) = grind (arith, nat_tests) in
              let within : page_size * (p + 1) ≤ at + (done + len) = grind (arith, nat_tests) in
              absurd (ne (whole (nat_lt 0 done) refl from above within))
            where
              whole : (b : Bool) → nat_lt 0 done ≡ b → at ≤ page_size * p → at + done < page_size * (p + 1) →
                  page_size * (p + 1) ≤ at + (done + len) → len ≡ page_size
              whole true x from above within =
                  let some : 0 < done = grind (arith, nat_tests) in
                  let begins = g.aligned some more in
                  omega (arith, is, begins, above, within)
              whole false x from above within =
                  let none : done ≡ 0 = grind (arith, nat_tests) in
                  omega (arith, is, none, from, above, within)

  -- a page
  pub gone_page : len ≡ page_size → ((p : ℕ) → is_held new p ≡ (is_held now p && not (nat_eq ((at + done) / page_size) p))) →
      IsGone old new at (done + len) n
  gone_page eq up = record {
    aligned = aligned_then;
    pages = λ p. up p ∙ ap (λ (b : Bool). b && not (nat_eq ((at + done) / page_size) p)) (g.pages p) ∙ joined p;
  }
    where
      joined : (p : ℕ) → ((is_held old p && not (lies_in at done p)) && not (nat_eq ((at + done) / page_size) p)) ≡
          (is_held old p && not (lies_in at (done + len) p))
      joined p =
          pick (is_held old p) (nat_le at (page_size * p)) (nat_le (page_size * (p + 1)) (at + done))
          (nat_le (page_size * (p + 1)) (at + (done + len)))
          (nat_eq ((at + done) / page_size) p) refl refl refl refl
        where
          -- the piece is this page
          page_at : at + done ≡ page_size * ((at + done) / page_size)
          page_at = omega (arith, is, eq)

          pick : (x a b c d : Bool) → nat_le at (page_size * p) ≡ a → nat_le (page_size * (p + 1)) (at + done) ≡ b →
              nat_le (page_size * (p + 1)) (at + (done + len)) ≡ c →
              nat_eq ((at + done) / page_size) p ≡ d → ((x && not (a && b)) && not d) ≡ (x && not (a && c))
          pick false a b c d e f h i = refl
          pick true false b c false e f h i = refl
          pick true false b c true e f h i =
              let that : (at + done) / page_size ≡ p = grind (arith, nat_tests) in
              let below : page_size * p < at = grind (arith, nat_tests) in
              let here = page_at in
              absurd (omega (arith, that, below, here))
          pick true true true true false e f h i = refl
          pick true true true true true e f h i = refl
          pick true true true false d e f h i = absurd (grind (arith, nat_tests))
          pick true true false true true e f h i = refl
          pick true true false false false e f h i = refl
          pick true true false true false e f h i =
              let above : at + done < page_size * (p + 1) = grind (arith, nat_tests) in
              let within : page_size * (p + 1) ≤ at + (done + len) = grind (arith, nat_tests) in
              let here = page_at in
              let that : (at + done) / page_size ≡ p = omega (arith, eq, above, within, here) in
              absurd (grind (arith, nat_tests))
          pick true true false false true e f h i =
              let that : (at + done) / page_size ≡ p = grind (arith, nat_tests) in
              let beyond : at + (done + len) < page_size * (p + 1) = grind (arith, nat_tests) in
              let here = page_at in
              absurd (omega (arith, eq, that, beyond, here))

-- nothing is cleared
pub clear_none : (h : Held) (m : Memory) (at : ℕ) → HoldsBytes h m → HoldsBytes h (clear_range m at 0)
clear_none h m at holds = holds_alike h m (clear_range m at 0) refl (λ a. same a (inside_of at 0 a)) holds
  where
    same : (a : ℕ) → Inside at 0 a → byte_at m a ≡ byte_at (clear_range m at 0) a
    same a (inside e l u) = absurd (omega arith)
    same a (outside e x) = sym (byte_at-clear_range_outside m at 0 a x)

-- a page is cleared
pub clear_page : (h : Held) (m : Memory) (at done n len : ℕ) → len ≡ min (n - done) (page_size - (at + done) % page_size) →
    len ≡ page_size →
    HoldsBytes h (clear_range (clear_range m at done) (page_size * ((at + done) / page_size)) page_size) →
    HoldsBytes h (clear_range m at (done + len))
clear_page h m at done n len is eq holds =
    let begin : page_size * ((at + done) / page_size) ≡ at + done = omega (arith, is, eq) in
    let here = subst (λ (x : ℕ). HoldsBytes h (clear_range (clear_range m at done) x page_size)) begin holds in
    let here' = subst (λ (x : ℕ). HoldsBytes h (clear_range (clear_range m at done) (at + done) x)) (sym eq) here in
    clear_in_turn h m at done len here'
