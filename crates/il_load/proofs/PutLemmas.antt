-- Bytes put in front of an address, one piece before the other.
use Rattle.std.proofs.Common.{◌≡◌, ℕ, ◌+◌, ◌-◌, ◌<◌, ◌≤◌, true, List, [], ◌∷◌, ◌++◌, length, take, drop, get_or, replicate, Option, Some, refl, sym, ap, ◌∙◌, subst, arith}
use Rattle.std.specs.Prelude.{IfOk, Result, Ok, Err, sum_by}
use Rattle.std.specs.List.{flat_map}
use Rattle.std.proofs.lemmas.List.{length-append, take_more, drop_more, take-append-drop, drop-drop, drop-replicate, replicate-append-replicate, length-drop, length-take-le, length-replicate, take-replicate}
use Rattle.std.proofs.lemmas.List.Concat.{flat_map-cons}
use Rattle.std.proofs.lemmas.List.Sums.{sum_by-append, sum_by-cons}
use Rattle.hx_base.specs.Memory.{Memory, all_mapped, write, le_bytes, store}
use Rattle.hx_base.proofs.Memory.Agreeing.{all_mapped-alike}
use Rattle.hx_base.proofs.Memory.Mapped.{all_mapped-write}
use Rattle.hx_base.proofs.Memory.Ranges.{all_mapped-part}
use Rattle.hx_base.proofs.Memory.Written.{write-append}
use Rattle.hx_base.proofs.Memory.Numbers.{length-le_bytes}
use Rattle.il_mem.specs.declared.stop.MemStop.TheVariants as stop
use Rattle.il_mem.specs.Kept.{Kept, covers, page_size}
use Rattle.il_mem.specs.Holds.{Holds, Changes, AddsPages, put}
use Rattle.il_mem.proofs.TouchedLemmas.{written_held}
use Rattle.il_load.specs.Puts.{Stands, IsReady, PutsAt, PutsBefore}

-- ---- what is mapped

-- where the ranges are the same, the same is mapped
mapped-alike : (old new : Kept) (m m' : Memory) (at n : ℕ) → new.ranges ≡ old.ranges → Holds old m → Holds new m' →
    all_mapped m' at n ≡ all_mapped m at n
mapped-alike old new m m' at n e h h' =
    all_mapped-alike m m' at n (λ a l u. sym (h'.mapped a) ∙ ap (λ rs. covers rs a) e ∙ h.mapped a)

-- the bytes at an address are mapped, whichever memory it is
ready-mapped : (it : Kept) (m : Memory) (at n : ℕ) → IsReady it (at + n) n → Holds it m → all_mapped m at n ≡ true
ready-mapped it m at n ready h =
    let same : at + n - n ≡ at = omega arith in
    mapped-alike it it ready.memory m at n refl ready.stands.holds h
    ∙ subst (λ (a : ℕ). all_mapped ready.memory a n ≡ true) same ready.mapped

-- ---- a write

module _ (old new : Kept) (at : ℕ) (bs : List ℕ) (ready : IsReady old (at + length bs) (length bs)) where
  -- none is Wild
  pub put-not_wild : ((m : Memory) → Holds old m → Changes new (put m at bs) (Err stop.Wild)) → ⊥
  put-not_wild h =
      let m = ready.memory in
      let mapped = ready-mapped old m at (length bs) ready ready.stands.holds in
      let is : put m at bs ≡ Some (write m at bs) = rw mapped refl in
      subst (λ (o : Option Memory). Changes new o (Err stop.Wild)) is (h m ready.stands.holds)

  pub put-puts : new.ranges ≡ old.ranges → AddsPages old new at (length bs)
      → ((m : Memory) → Holds old m → Changes new (put m at bs) (Ok tt)) → PutsAt old new at bs
  put-puts e adds h = record {
    ranges = e;
    stands = λ m s. record {
      holds = written m s.holds;
      pages = written_held old new m at (length bs) bs refl s.pages adds;
    };
  }
    where
      written : (m : Memory) → Holds old m → Holds new (write m at bs)
      written m holds =
          let mapped = ready-mapped old m at (length bs) ready holds in
          let is : put m at bs ≡ Some (write m at bs) = rw mapped refl in
          subst (λ (o : Option Memory). Changes new o (Ok tt)) is (h m holds)

-- what a store writes
pub store-put : (m : Memory) (at n v : ℕ) → store m at n v ≡ put m at (le_bytes n v)
store-put m at n v = rw (length-le_bytes n v) refl

-- ---- one in front of the other

pub puts-none : (it : Kept) (end : ℕ) → PutsBefore it it end [] end
puts-none it end = record { begin = omega arith; puts = record { ranges = refl; stands = λ m s. s } }

pub puts-both : (old mid new : Kept) (end b a : ℕ) (xs ys : List ℕ) → PutsBefore old mid end ys b → PutsBefore mid new b xs a →
    PutsBefore old new end (xs ++ ys) a
puts-both old mid new end b a xs ys p q = record {
  begin = let n = length-append xs ys in let e = p.begin in let f = q.begin in omega arith;
  puts = record {
    ranges = q.puts.ranges ∙ p.puts.ranges;
    stands = λ m s. subst (Stands new) (sym (written m)) (q.puts.stands (write m b ys) (p.puts.stands m s));
  };
}
  where
    written : (m : Memory) → write m a (xs ++ ys) ≡ write (write m b ys) a xs
    written m = write-append m a xs ys ∙ ap (λ (x : ℕ). write (write m x ys) a xs) q.begin

-- of what is mapped the bytes behind are
pub ready-last : (it : Kept) (end k n : ℕ) → IsReady it end (k + n) → IsReady it end n
ready-last it end k n r = record {
  memory = r.memory;
  stands = r.stands;
  room = let room = r.room in omega arith;
  mapped = let room = r.room in all_mapped-part r.memory (end - (k + n)) (k + n) (end - n) n r.mapped (omega arith) (omega arith);
}

-- and where these were put, those in front of them still are
pub ready-rest : (old new : Kept) (end k n a : ℕ) (bs : List ℕ) → IsReady old end (k + n) → length bs ≡ n → PutsBefore old new end bs a →
    IsReady new a k
ready-rest old new end k n a bs r size p = record {
  memory = write r.memory a bs;
  stands = p.puts.stands r.memory r.stands;
  room = let room = r.room in let begin = p.begin in omega arith;
  mapped = all_mapped-write r.memory a bs (a - k) k ∙
      (let room = r.room in let begin = p.begin in
      all_mapped-part r.memory (end - (k + n)) (k + n) (a - k) k r.mapped (omega arith) (omega arith));
}

-- ---- a number

pub number-puts : (old new : Kept) (end width w v : ℕ) → w ≡ width → IsReady old end width → new.ranges ≡ old.ranges →
    AddsPages old new (end - w) width → ((m : Memory) → Holds old m → Changes new (store m (end - w) width v) (Ok tt)) →
    PutsBefore old new end (le_bytes width v) (end - w)
number-puts old new end width w v e ready ranges adds done = record {
  begin = begin;
  puts = put-puts old new at bs
      (subst (IsReady old (at + length bs)) (sym size) (subst (λ (x : ℕ). IsReady old x width) (sym begin) ready)) ranges
      (subst (AddsPages old new at) (sym size) adds)
      (λ m h. subst (λ (o : Option Memory). Changes new o (Ok tt)) (store-put m at width v) (done m h));
}
  where
    at : ℕ
    at = end - w

    bs : List ℕ
    bs = le_bytes width v

    size : length bs ≡ width
    size = length-le_bytes width v

    begin : at + length bs ≡ end
    begin = let room = ready.room in let size = size in omega (arith, room, size, e)

-- ---- pieces of bytes, from the last to the first

-- the bytes from one on have been put, and those in front of it are mapped
pub record IsPut (old new : Kept) (begin : ℕ) (bs : List ℕ) (left : ℕ) : Type 0 where
  pub within : left ≤ length bs
  pub puts : PutsAt old new (begin + left) (drop left bs)
  pub ready : IsReady new (begin + left) left

pub put-start : (it : Kept) (begin end : ℕ) (bs : List ℕ) → begin + length bs ≡ end → IsReady it end (length bs) →
    IsPut it it begin bs (length bs)
put-start it begin end bs e ready = record {
  within = omega arith;
  puts = subst (PutsAt it it (begin + length bs)) (sym (drop_all bs)) (record { ranges = refl; stands = λ m s. s });
  ready = subst (λ (x : ℕ). IsReady it x (length bs)) (sym e) ready;
}
  where
    drop_all : (xs : List ℕ) → drop (length xs) xs ≡ []
    drop_all [] = refl
    drop_all (x ∷ xs) = drop_all xs

module _ (old mid : Kept) (begin : ℕ) (bs : List ℕ) (left from : ℕ) (piece : List ℕ) (h : IsPut old mid begin bs left)
    (whole : from + length piece ≡ left) where
  pub piece-ready : IsReady mid (begin + from + length piece) (length piece)
  piece-ready =
      let end : begin + left ≡ begin + from + length piece = omega (arith, whole) in
      subst (λ (x : ℕ). IsReady mid x (length piece)) end
      (ready-last mid (begin + left) from (length piece) (subst (IsReady mid (begin + left)) (sym whole) h.ready))

  pub put-more : (new : Kept) → drop from bs ≡ piece ++ drop left bs → PutsAt mid new (begin + from) piece → IsPut old new begin bs from
  put-more new parts p = record {
    within = let within = h.within in omega (arith, whole, within);
    puts = record {
      ranges = p.ranges ∙ h.puts.ranges;
      stands = λ m s. subst (Stands new) (sym (written m)) (p.stands (write m (begin + left) (drop left bs)) (h.puts.stands m s));
    };
    ready = ready-rest mid new (begin + left) from (length piece) (begin + from) piece
        (subst (IsReady mid (begin + left)) (sym whole) h.ready) refl
        (record { begin = omega (arith, whole); puts = p });
  }
    where
      end : begin + from + length piece ≡ begin + left
      end = omega (arith, whole)

      written : (m : Memory) → write m (begin + from) (drop from bs) ≡ write (write m (begin + left) (drop left bs)) (begin + from) piece
      written m =
          ap (write m (begin + from)) parts ∙ write-append m (begin + from) piece (drop left bs)
          ∙ ap (λ (x : ℕ). write (write m x (drop left bs)) (begin + from) piece) end

pub put-end : (old new : Kept) (begin end : ℕ) (bs : List ℕ) → begin + length bs ≡ end → IsPut old new begin bs 0 →
    PutsBefore old new end bs begin
put-end old new begin end bs e h = record {
  begin = e;
  puts = let same : begin + 0 ≡ begin = omega arith in subst (λ (x : ℕ). PutsAt old new x bs) same h.puts;
}

-- a slice of bytes and those behind it
pub bytes-parts : (bs : List ℕ) (from left : ℕ) → from ≤ left → drop from bs ≡ take (left - from) (drop from bs) ++ drop left bs
bytes-parts bs from left l =
    let end : from + (left - from) ≡ left = omega (arith, l) in
    sym (take-append-drop (left - from) (drop from bs))
    ∙ ap (λ ys. take (left - from) (drop from bs) ++ ys) (drop-drop (left - from) from bs ∙ ap (λ n. drop n bs) end)

-- how long a slice is
pub slice-length : (bs : List ℕ) (from left : ℕ) → from ≤ left → left ≤ length bs → from + length (take (left - from) (drop from bs)) ≡ left
slice-length bs from left l m =
    let d = length-drop from bs in
    let t = length-take-le (left - from) (drop from bs) (omega (arith, l, m, d)) in
    omega (arith, l, t)

-- so many zeros
abbrev pub zeros : ℕ → List ℕ
zeros n = replicate n 0

-- and those behind them
pub zeros-parts : (count left from : ℕ) → from ≤ left → left ≤ count →
    drop from (zeros count) ≡ zeros (left - from) ++ drop left (zeros count)
zeros-parts count left from l m =
    let sum : left - from + (count - left) ≡ count - from = omega (arith, l, m) in
    drop-replicate from count 0 ∙ ap zeros (sym sum) ∙ sym (replicate-append-replicate (left - from) (count - left) 0)
    ∙ ap (λ ys. zeros (left - from) ++ ys) (sym (drop-replicate left count 0))

-- a slice of a page of zeros
pub piece-zeros : (bs : List ℕ) (k : ℕ) → bs ≡ zeros page_size → k ≤ page_size → take k bs ≡ zeros k
piece-zeros bs k e l = ap (take k) e ∙ take-replicate k page_size 0 l

module _ (old mid : Kept) (begin count left more : ℕ) (piece : List ℕ) (is : piece ≡ zeros more) (l : more ≤ left)
    (h : IsPut old mid begin (zeros count) left) where
  size : length piece ≡ more
  size = ap length is ∙ length-replicate more 0

  whole : left - more + length piece ≡ left
  whole = let n = size in omega (arith, n, l)

  pub zeros-ready : IsReady mid (begin + (left - more) + length piece) (length piece)
  zeros-ready = piece-ready old mid begin (zeros count) left (left - more) piece h whole

  pub zeros-more : (new : Kept) → PutsAt mid new (begin + (left - more)) piece → IsPut old new begin (zeros count) (left - more)
  zeros-more new p = put-more old mid begin (zeros count) left (left - more) piece h whole new parts p
    where
      few : left ≤ count
      few = let within = h.within in let n : length (zeros count) ≡ count = length-replicate count 0 in omega (arith, within, n)

      parts : drop (left - more) (zeros count) ≡ piece ++ drop left (zeros count)
      parts =
          let k : left - (left - more) ≡ more = omega (arith, l) in
          zeros-parts count left (left - more) (omega arith) few
          ∙ ap (λ ys. ys ++ drop left (zeros count)) (ap zeros k ∙ sym is)

pub zeros-end : (old new : Kept) (end count left : ℕ) → count ≤ end → left ≡ 0 → IsPut old new (end - count) (zeros count) left →
    PutsBefore old new end (zeros count) (end - count)
zeros-end old new end count left l e h =
    let n : length (zeros count) ≡ count = length-replicate count 0 in
    put-end old new (end - count) end (zeros count) (omega (arith, n, l)) (subst (IsPut old new (end - count) (zeros count)) e h)

-- one put in front of another, if it is
pub puts-then : {E : Type 0} (old mid new : Kept) (end b : ℕ) (xs ys : List ℕ) (r : Result ℕ E) → PutsBefore old mid end ys b →
    IfOk r (PutsBefore mid new b xs) → IfOk r (PutsBefore old new end (xs ++ ys))
puts-then old mid new end b xs ys (Ok a) p q = puts-both old mid new end b a xs ys p q
puts-then old mid new end b xs ys (Err e) p q = tt

-- ---- what stays ready

pub ready-part : (it : Kept) (end n a k : ℕ) → IsReady it end n → a + k ≤ end → end ≤ a + n → IsReady it (a + k) k
ready-part it end n a k r below above = record {
  memory = r.memory;
  stands = r.stands;
  room = omega arith;
  mapped =
      let room = r.room in
      all_mapped-part r.memory (end - n) n (a + k - k) k r.mapped (omega (arith, above, room)) (omega (arith, below, room));
}

pub ready-kept : (old new : Kept) (end n at : ℕ) (bs : List ℕ) → IsReady old end n → PutsAt old new at bs → IsReady new end n
ready-kept old new end n at bs r p = record {
  memory = write r.memory at bs;
  stands = p.stands r.memory r.stands;
  room = r.room;
  mapped = all_mapped-write r.memory at bs (end - n) n ∙ r.mapped;
}

-- ---- lists, from the last element to the first

module _ {X : Type 0} (f : X → List ℕ) (size : X → ℕ) (same : (x : X) → length (f x) ≡ size x) where
  pub length-flat : (xs : List X) → length (flat_map f xs) ≡ sum_by size xs
  length-flat [] = refl
  length-flat (x ∷ xs) =
      let a = length-append (f x) (flat_map f xs) in
      let b = same x in
      let c = length-flat xs in
      let d = sum_by-cons size x xs in
      ap length (flat_map-cons f x xs) ∙ omega arith

  module _ (xs : List X) (i : ℕ) (x d : X) (l : i < length xs) (here : x ≡ get_or xs i d) where
    -- how many bytes are in front, with those of the element
    sum-more : sum_by size (take (i + 1) xs) ≡ sum_by size (take i xs) + size x
    sum-more =
        let e = ap (sum_by size) (take_more xs i d l ∙ ap (λ y. take i xs ++ y ∷ []) (sym here)) in
        let s = sum_by-append size (take i xs) (x ∷ []) in
        let o = sum_by-cons size x [] in
        let none : sum_by size [] ≡ 0 = refl in
        e ∙ omega arith

    pub element-ready : (it : Kept) (end : ℕ) → IsReady it end (sum_by size (take (i + 1) xs)) → IsReady it end (size x)
    element-ready it end r = ready-last it end (sum_by size (take i xs)) (size x) (subst (IsReady it end) sum-more r)

    pub element-rest : (old new : Kept) (end a : ℕ) → IsReady old end (sum_by size (take (i + 1) xs)) → PutsBefore old new end (f x) a →
        IsReady new a (sum_by size (take i xs))
    element-rest old new end a r p =
        ready-rest old new end (sum_by size (take i xs)) (size x) a (f x) (subst (IsReady old end) sum-more r) (same x) p

    pub element-puts : (old mid new : Kept) (end b a : ℕ) → PutsBefore old mid end (flat_map f (drop (i + 1) xs)) b →
        PutsBefore mid new b (f x) a → PutsBefore old new end (flat_map f (drop i xs)) a
    element-puts old mid new end b a p q =
        let list : drop i xs ≡ x ∷ drop (i + 1) xs = drop_more xs i d l ∙ ap (λ y. y ∷ drop (i + 1) xs) (sym here) in
        let flat : flat_map f (drop i xs) ≡ f x ++ flat_map f (drop (i + 1) xs) =
        ap (flat_map f) list ∙ flat_map-cons f x (drop (i + 1) xs) in
        subst (λ bs. PutsBefore old new end bs a) (sym flat) (puts-both old mid new end b a (f x) (flat_map f (drop (i + 1) xs)) p q)
