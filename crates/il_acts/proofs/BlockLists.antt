-- Live blocks in the order of their addresses, as a map keeps them.
use Rattle.std.proofs.Common.{◌≡◌, ◌≢◌, ℕ, ◌+◌, Bool, true, false, cond, List, [], ◌∷◌, Option, Some, None, refl, sym, ap, ◌∙◌, arith}
use Rattle.std.specs.Prelude.{nat_eq, nat_lt, if◌then◌else◌}
use Rattle.std.specs.Ordering.{nat_cmp}
use Rattle.std.specs.BTreeMap.{insert_entry, is_at}
use Rattle.std.specs.Map.{lookup, remove_entry}
use Rattle.std.proofs.lemmas.Bool.Decides.{nat_tests}
use Rattle.hx_base.specs.Memory.{round_up}
use Rattle.hx_base.specs.Runtime.{live_bytes, block_size, without_block}
use Rattle.hx_base.proofs.Memory.Blocks.{live_bytes-cons, live_bytes-without}

-- ---- look-ups

-- a key is the one that is looked for where the two numbers are equal
at_is : (p q : ℕ) → is_at (nat_cmp p) q ≡ nat_eq q p
at_is p q = pick (nat_lt p q) (nat_eq p q) (nat_eq q p) refl refl refl
  where
    pick : (b c d : Bool) → nat_lt p q ≡ b → nat_eq p q ≡ c → nat_eq q p ≡ d → is_at (nat_cmp p) q ≡ nat_eq q p
    pick true c true e f g = absurd (grind (arith, nat_tests))
    pick true c false e f g = rw (e, g) refl
    pick false true true e f g = rw (e, f, g) refl
    pick false true false e f g = absurd (grind (arith, nat_tests))
    pick false false true e f g = absurd (grind (arith, nat_tests))
    pick false false false e f g = rw (e, f, g) refl

-- what stands at a key is the size of the block that begins there
pub lookup_is : (bs : List (ℕ × ℕ)) (p : ℕ) → lookup (is_at (nat_cmp p)) bs ≡ block_size bs p
lookup_is [] p = refl
lookup_is (b ∷ bs) p = rw (at_is p b.0, lookup_is bs p) refl

-- without a key is without the block that begins there
pub remove_is : (bs : List (ℕ × ℕ)) (p : ℕ) → remove_entry (is_at (nat_cmp p)) bs ≡ without_block bs p
remove_is [] p = refl
remove_is (b ∷ bs) p = rw (at_is p b.0, remove_is bs p) refl

-- ---- one change

-- the block that begins at `p` has this size now, or is none, and each other is as it was
abbrev pub Puts : List (ℕ × ℕ) → List (ℕ × ℕ) → ℕ → Option ℕ → Type 0
Puts old new p o = (q : ℕ) → block_size new q ≡ (if nat_eq q p then o else block_size old q)

-- what a map says of a change
pub puts_from : (old new : List (ℕ × ℕ)) (p : ℕ) (o : Option ℕ) →
    ((q : ℕ) → lookup (is_at (nat_cmp q)) new ≡ cond (is_at (nat_cmp p) q) o (lookup (is_at (nat_cmp q)) old)) → Puts old new p o
puts_from old new p o h q =
    sym (lookup_is new q) ∙ h q ∙ ap (λ (b : Bool). cond b o (lookup (is_at (nat_cmp q)) old)) (at_is p q)
    ∙ ap (λ (x : Option ℕ). cond (nat_eq q p) o x) (lookup_is old q)

pub puts_here : (old new : List (ℕ × ℕ)) (p : ℕ) (o : Option ℕ) → Puts old new p o → block_size new p ≡ o
puts_here old new p o h = pick (nat_eq p p) refl (h p)
  where
    pick : (t : Bool) → nat_eq p p ≡ t → block_size new p ≡ (if nat_eq p p then o else block_size old p) → block_size new p ≡ o
    pick true e k = k ∙ rw e refl
    pick false e k = absurd (grind (arith, nat_tests))

pub puts_other : (old new : List (ℕ × ℕ)) (p : ℕ) (o : Option ℕ) (q : ℕ) → Puts old new p o → q ≢ p → block_size new q ≡ block_size old q
puts_other old new p o q h apart = pick (nat_eq q p) refl (h q)
  where
    pick : (t : Bool) → nat_eq q p ≡ t → block_size new q ≡ (if nat_eq q p then o else block_size old q) →
        block_size new q ≡ block_size old q
    pick true e k = absurd (apart (grind (arith, nat_tests)))
    pick false e k = k ∙ rw e refl

-- ---- how many bytes are live

-- a new block adds its bytes
pub live_bytes-insert : (bs : List (ℕ × ℕ)) (p n : ℕ) → block_size bs p ≡ None →
    live_bytes (insert_entry nat_cmp bs p n) ≡ live_bytes bs + round_up n 16
live_bytes-insert [] p n h = live_bytes-cons (p, n) [] ∙ omega arith
live_bytes-insert (b ∷ bs) p n h = pick (nat_lt p b.0) (nat_eq p b.0) (nat_eq b.0 p) refl refl refl (live_bytes-insert bs p n)
  where
    pick : (t u v : Bool) → nat_lt p b.0 ≡ t → nat_eq p b.0 ≡ u → nat_eq b.0 p ≡ v →
        (block_size bs p ≡ None → live_bytes (insert_entry nat_cmp bs p n) ≡ live_bytes bs + round_up n 16) →
        live_bytes (insert_entry nat_cmp (b ∷ bs) p n) ≡ live_bytes (b ∷ bs) + round_up n 16
    pick true u v e f g k = rw e (live_bytes-cons (p, n) (b ∷ bs) ∙ omega arith)
    pick false true true e f g k = let x = rw g at h in cc
    pick false true false e f g k = absurd (grind (arith, nat_tests))
    pick false false true e f g k = absurd (grind (arith, nat_tests))
    pick false false false e f g k =
        let x : block_size bs p ≡ None = rw g at h in
        rw (e, f) (live_bytes-cons b (insert_entry nat_cmp bs p n) ∙ (let i = k x in let c = live_bytes-cons b bs in omega (arith, i, c)))

-- one less takes them away
pub live_bytes-remove : (bs : List (ℕ × ℕ)) (p n : ℕ) → block_size bs p ≡ Some n →
    live_bytes (remove_entry (is_at (nat_cmp p)) bs) + round_up n 16 ≡ live_bytes bs
live_bytes-remove bs p n h = rw (remove_is bs p) (live_bytes-without bs p n h)

-- ---- a new block that is taken out again

self_equal : (p : ℕ) → nat_eq p p ≡ true
self_equal p = pick (nat_eq p p) refl
  where
    pick : (t : Bool) → nat_eq p p ≡ t → t ≡ true
    pick true e = refl
    pick false e = absurd (grind (arith, nat_tests))

without_new : (bs : List (ℕ × ℕ)) (p n : ℕ) → block_size bs p ≡ None → without_block (insert_entry nat_cmp bs p n) p ≡ bs
without_new [] p n h = rw (self_equal p) refl
without_new (b ∷ bs) p n h = pick (nat_lt p b.0) (nat_eq p b.0) (nat_eq b.0 p) refl refl refl (without_new bs p n)
  where
    pick : (t u v : Bool) → nat_lt p b.0 ≡ t → nat_eq p b.0 ≡ u → nat_eq b.0 p ≡ v →
        (block_size bs p ≡ None → without_block (insert_entry nat_cmp bs p n) p ≡ bs) →
        without_block (insert_entry nat_cmp (b ∷ bs) p n) p ≡ b ∷ bs
    pick true u v e f g k = rw (e, self_equal p) refl
    pick false true true e f g k = let x = rw g at h in cc
    pick false true false e f g k = absurd (grind (arith, nat_tests))
    pick false false true e f g k = absurd (grind (arith, nat_tests))
    pick false false false e f g k =
        let x : block_size bs p ≡ None = rw g at h in
        rw (e, f, g) (ap (λ (cs : List (ℕ × ℕ)). b ∷ cs) (k x))

pub insert_undone : (bs : List (ℕ × ℕ)) (p n : ℕ) → block_size bs p ≡ None →
    remove_entry (is_at (nat_cmp p)) (insert_entry nat_cmp bs p n) ≡ bs
insert_undone bs p n h = remove_is (insert_entry nat_cmp bs p n) p ∙ without_new bs p n h
