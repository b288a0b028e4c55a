-- What is written to pages is written to flat memory.
use Rattle.std.proofs.Common.{◌≡◌, ◌≢◌, ℕ, zero, suc, ◌+◌, ◌-◌, ◌*◌, ◌/◌, ◌%◌, ◌<◌, ◌≤◌, Bool, true, false, List, [], ◌∷◌, ◌++◌, length, take, drop, replicate, get_or, Option, Some, None, refl, sym, ap, ◌∙◌, subst, arith, length-append, length-take, length-drop, ◌⊎◌, inl, inr}
use Rattle.std.specs.Prelude.{nat_eq, nat_lt, slice_get, slice_index, option_map, if◌then◌else◌}
use Rattle.std.proofs.lemmas.Bool.Decides.{nat_tests}
use Rattle.std.proofs.lemmas.List.{take_all, take-append-drop, length-replicate, get_or-replicate, get_or_append_left, get_or-append_right, get_or-take, get_or-drop}
use Rattle.std.proofs.lemmas.Option.{slice_get-get_or}
use Rattle.hx_base.specs.Memory.{Memory, byte_at, bytes_at, write, clear_range}
use Rattle.hx_base.proofs.Memory.Ranges.{Inside, inside, outside, inside_of, bytes_at-append}
use Rattle.hx_base.proofs.Memory.Written.{byte_at-write_outside, byte_at-write_inside, write-append, byte_at-clear_range_inside, byte_at-clear_range_outside}
use Rattle.il_mem.specs.Kept.{Held, page_size, place_in, byte_of, AreDistinct}
use Rattle.il_mem.specs.Holds.{HoldsBytes}
use Rattle.il_mem.proofs.PageLists.{IsSound, Begins, begins, begins_not, read_held, read_bare, place_there, place_within, byte_of_held, byte_of_bare, address_is}

-- ---- bytes in the place of as many others

abbrev pub spliced : List ℕ → ℕ → List ℕ → List ℕ
spliced b i xs = take i b ++ xs ++ drop (i + length xs) b

pub length-spliced : (b : List ℕ) (i : ℕ) (xs : List ℕ) → i + length xs ≤ length b → length (spliced b i xs) ≡ length b
length-spliced b i xs h =
    length-append (take i b ++ xs) (drop (i + length xs) b)
    ∙ rw (length-append (take i b) xs, length-take i b, length-drop (i + length xs) b) (omega arith)

front_size : (b : List ℕ) (i : ℕ) (xs : List ℕ) → i + length xs ≤ length b → length (take i b ++ xs) ≡ i + length xs
front_size b i xs h = length-append (take i b) xs ∙ rw (length-take i b) (omega arith)

pub spliced-inside : (b : List ℕ) (i : ℕ) (xs : List ℕ) (j : ℕ) → i + length xs ≤ length b → j < length xs →
    get_or (spliced b i xs) (i + j) 0 ≡ get_or xs j 0
spliced-inside b i xs j h l =
    let front = front_size b i xs h in
    let size : length (take i b) ≡ i = length-take i b ∙ omega arith in
    let at : i + j - i ≡ j = omega arith in
    get_or_append_left (take i b ++ xs) (drop (i + length xs) b) 0 (i + j) (omega (arith, front, l))
    ∙ get_or-append_right (take i b) xs i (i + j) 0 size (omega arith) ∙ rw at refl

pub spliced-outside : (b : List ℕ) (i : ℕ) (xs : List ℕ) (q : ℕ) → i + length xs ≤ length b → (q < i) ⊎ (i + length xs ≤ q) →
    get_or (spliced b i xs) q 0 ≡ get_or b q 0
spliced-outside b i xs q h (inl l) =
    let front = front_size b i xs h in
    let size : length (take i b) ≡ i = length-take i b ∙ omega arith in
    get_or_append_left (take i b ++ xs) (drop (i + length xs) b) 0 q (omega (arith, front, l))
    ∙ get_or_append_left (take i b) xs 0 q (omega (arith, size, l)) ∙ get_or-take i b q 0 l
spliced-outside b i xs q h (inr l) =
    let front = front_size b i xs h in
    let at : i + length xs + (q - (i + length xs)) ≡ q = omega arith in
    get_or-append_right (take i b ++ xs) (drop (i + length xs) b) (i + length xs) q 0 front l
    ∙ get_or-drop (i + length xs) b (q - (i + length xs)) 0 ∙ rw at refl

-- ---- memories

-- the same bytes are held of a memory that has them
pub holds_alike : (h : Held) (m m' : Memory) → m.fill ≡ m'.fill → ((a : ℕ) → byte_at m a ≡ byte_at m' a) → HoldsBytes h m → HoldsBytes h m'
holds_alike h m m' f e b = record { fill = b.fill ∙ f; bytes = λ a. b.bytes a ∙ e a }

-- it is enough to look at each page and offset
pub holds_by_page : (h : Held) (m : Memory) → h.fill ≡ m.fill →
    ((q r : ℕ) → r < page_size → byte_of h (page_size * q + r) ≡ byte_at m (page_size * q + r)) → HoldsBytes h m
holds_by_page h m f e = record {
  fill = f;
  bytes = λ a. subst (λ (x : ℕ). byte_of h x ≡ byte_at m x) (address_is a) (e (a / page_size) (a % page_size) (omega arith));
}

-- an address of another page is not in a part of a page
apart : (p o n q r : ℕ) → q ≢ p → o + n ≤ page_size → r < page_size →
    (page_size * q + r < page_size * p + o) ⊎ (page_size * p + o + n ≤ page_size * q + r)
apart p o n q r ne l u = pick (nat_lt q p) refl
  where
    pick : (b : Bool) → nat_lt q p ≡ b → (page_size * q + r < page_size * p + o) ⊎ (page_size * p + o + n ≤ page_size * q + r)
    pick true e = let below : q < p = grind (arith, nat_tests) in inl (omega arith)
    pick false e = let above : p < q = grind (arith, nat_tests, ne) in inr (omega arith)

-- ---- a part of a page that is held is written

module _ (h : Held) (m : Memory) (p k o : ℕ) (xs b : List ℕ) (s : IsSound h) (holds : HoldsBytes h m) (e : place_in h.pages p ≡ Some k)
    (fits : o + length xs ≤ page_size) (new : b ≡ spliced h.bytes (page_size * k + o) xs) where
  -- the pages behind it
  abbrev pub after : Held
  after = record { fill = h.fill; pages = h.pages; bytes = b }

  within : page_size * k + o + length xs ≤ length h.bytes
  within = let w : k < length h.pages = place_within h.pages p k e in omega (arith, s.sized, w, fits)

  -- any other byte is as it was
  other : (q j r : ℕ) → place_in h.pages q ≡ Some j → r < page_size →
      (page_size * j + r < page_size * k + o) ⊎ (page_size * k + o + length xs ≤ page_size * j + r) →
      (page_size * q + r < page_size * p + o) ⊎ (page_size * p + o + length xs ≤ page_size * q + r) →
      byte_of after (page_size * q + r) ≡ byte_at (write m (page_size * p + o) xs) (page_size * q + r)
  other q j r f l i a =
      let moved : get_or b (page_size * j + r) 0 ≡ get_or h.bytes (page_size * j + r) 0 =
      rw new (spliced-outside h.bytes (page_size * k + o) xs (page_size * j + r) within i) in
      byte_of_held after q j r f l ∙ moved ∙ sym (byte_of_held h q j r f l) ∙ holds.bytes (page_size * q + r)
      ∙ sym (byte_at-write_outside m (page_size * p + o) xs (page_size * q + r) a)

  -- a byte of the part
  here : (r : ℕ) → o ≤ r → r < o + length xs →
      byte_of after (page_size * p + r) ≡ byte_at (write m (page_size * p + o) xs) (page_size * p + r)
  here r l u =
      let j = r - o in
      let inside : j < length xs = omega arith in
      let at : page_size * k + o + j ≡ page_size * k + r = omega arith in
      let at' : page_size * p + o + j ≡ page_size * p + r = omega arith in
      let part : get_or b (page_size * k + r) 0 ≡ get_or xs j 0 =
      rw (new, ← at) (spliced-inside h.bytes (page_size * k + o) xs j within inside) in
      let written : byte_at (write m (page_size * p + o) xs) (page_size * p + r) ≡ get_or xs j 0 =
      subst (λ (x : ℕ). byte_at (write m (page_size * p + o) xs) x ≡ get_or xs j 0) at'
      (byte_at-write_inside m (page_size * p + o) xs j (get_or xs j 0) (slice_get-get_or xs j 0 inside)) in
      byte_of_held after p k r e (omega arith) ∙ part ∙ sym written

  -- a byte of the page
  own : (r : ℕ) → r < page_size → byte_of after (page_size * p + r) ≡ byte_at (write m (page_size * p + o) xs) (page_size * p + r)
  own r l = pick (nat_lt r o) (nat_lt r (o + length xs)) refl refl
    where
      pick : (v w : Bool) → nat_lt r o ≡ v → nat_lt r (o + length xs) ≡ w →
          byte_of after (page_size * p + r) ≡ byte_at (write m (page_size * p + o) xs) (page_size * p + r)
      pick true w x y = let below : r < o = grind (arith, nat_tests) in other p k r e l (inl (omega arith)) (inl (omega arith))
      pick false true x y = here r (grind (arith, nat_tests)) (grind (arith, nat_tests))
      pick false false x y = let above : o + length xs ≤ r =
          grind (arith, nat_tests) in other p k r e l (inr (omega arith)) (inr (omega arith))

  -- two pages at one place are one
  one_page : (q j : ℕ) → place_in h.pages q ≡ Some j → j ≡ k → q ≡ p
  one_page q j f z =
      let a = place_there h.pages q j f in
      let c = place_there h.pages p k e in
      let d = subst (λ (i : ℕ). slice_get h.pages i ≡ Some q) z a in
      cc

  by_page : (q r : ℕ) → r < page_size → byte_of after (page_size * q + r) ≡ byte_at (write m (page_size * p + o) xs) (page_size * q + r)
  by_page q r l = pick (place_in h.pages q) (nat_eq q p) refl refl
    where
      pick : (t : Option ℕ) (u : Bool) → place_in h.pages q ≡ t → nat_eq q p ≡ u →
          byte_of after (page_size * q + r) ≡ byte_at (write m (page_size * p + o) xs) (page_size * q + r)
      pick t true f g =
          let same : p ≡ q = grind (arith, nat_tests) in
          subst (λ (z : ℕ). byte_of after (page_size * z + r) ≡ byte_at (write m (page_size * p + o) xs) (page_size * z + r)) same (own r l)
      pick None false f g =
          let ne : q ≢ p = grind (arith, nat_tests) in
          byte_of_bare after q r f l ∙ sym (byte_of_bare h q r f l) ∙ holds.bytes (page_size * q + r)
          ∙ sym (byte_at-write_outside m (page_size * p + o) xs (page_size * q + r) (apart p o (length xs) q r ne fits l))
      pick (Some j) false f g =
          let ne : q ≢ p = grind (arith, nat_tests) in
          let ne' : j ≢ k = λ (z : j ≡ k). ne (one_page q j f z) in
          other q j r f l (apart k o (length xs) j r ne' fits l) (apart p o (length xs) q r ne fits l)

  pub put_holds : HoldsBytes after (write m (page_size * p + o) xs)
  put_holds = holds_by_page after (write m (page_size * p + o) xs) holds.fill by_page

-- ---- a part of a page is cleared

-- what is cleared has the bytes of what is written so
cleared_is_written : (m : Memory) (at n a : ℕ) → byte_at (write m at (replicate n m.fill)) a ≡ byte_at (clear_range m at n) a
cleared_is_written m at n a = pick (inside_of at n a)
  where
    pick : Inside at n a → byte_at (write m at (replicate n m.fill)) a ≡ byte_at (clear_range m at n) a
    pick (inside e l u) =
        let j = a - at in
        let at' : at + j ≡ a = omega arith in
        let size : length (replicate n m.fill) ≡ n = length-replicate n m.fill in
        let one : slice_get (replicate n m.fill) j ≡ Some m.fill = slice_get-get_or (replicate n m.fill) j m.fill (omega (arith, size))
        ∙ ap Some (get_or-replicate n j m.fill m.fill (omega arith)) in
        subst (λ (x : ℕ). byte_at (write m at (replicate n m.fill)) x ≡ m.fill) at'
        (byte_at-write_inside m at (replicate n m.fill) j m.fill one)
        ∙ sym (byte_at-clear_range_inside m at n a l u)
    pick (outside e x) =
        let size : length (replicate n m.fill) ≡ n = length-replicate n m.fill in
        byte_at-write_outside m at (replicate n m.fill) a (elim x [ inl y ↦ inl y | inr y ↦ inr (omega (arith, size, y)) ])
        ∙ sym (byte_at-clear_range_outside m at n a x)

-- of a page that is held
pub wipe_held : (h : Held) (m : Memory) (p k o n : ℕ) (b : List ℕ) → IsSound h → HoldsBytes h m → place_in h.pages p ≡ Some k →
    o + n ≤ page_size →
    b ≡ spliced h.bytes (page_size * k + o) (replicate n h.fill) →
    HoldsBytes (record { fill = h.fill; pages = h.pages; bytes = b }) (clear_range m (page_size * p + o) n)
wipe_held h m p k o n b s holds e fits new =
    let size : length (replicate n h.fill) ≡ n = length-replicate n h.fill in
    let written = put_holds h m p k o (replicate n h.fill) b s holds e (omega (arith, size, fits)) new in
    let written' = subst (λ (f : ℕ). HoldsBytes (record { fill = h.fill; pages = h.pages; bytes = b })
    (write m (page_size * p + o) (replicate n f))) holds.fill written in
    holds_alike (record { fill = h.fill; pages = h.pages; bytes = b }) (write m (page_size * p + o) (replicate n m.fill))
    (clear_range m (page_size * p + o) n) refl
    (cleared_is_written m (page_size * p + o) n) written'

-- of one that is not
pub wipe_bare : (h : Held) (m : Memory) (p o n : ℕ) → HoldsBytes h m → place_in h.pages p ≡ None → o + n ≤ page_size →
    HoldsBytes h (clear_range m (page_size * p + o) n)
wipe_bare h m p o n holds e fits = record { fill = holds.fill; bytes = λ a. pick a (inside_of (page_size * p + o) n a) }
  where
    pick : (a : ℕ) → Inside (page_size * p + o) n a → byte_of h a ≡ byte_at (clear_range m (page_size * p + o) n) a
    pick a (inside f l u) =
        let r = a - page_size * p in
        let at : page_size * p + r ≡ a = omega arith in
        subst (λ (x : ℕ). byte_of h x ≡ h.fill) at (byte_of_bare h p r e (omega arith)) ∙ holds.fill
        ∙ sym (byte_at-clear_range_inside m (page_size * p + o) n a l u)
    pick a (outside f x) = holds.bytes a ∙ sym (byte_at-clear_range_outside m (page_size * p + o) n a x)

-- ---- the same, as code has it: by an address, and by where the bytes of its page begin

-- what the place of a page says of where its bytes begin
abbrev pub BeginsAt : Held → ℕ → Option ℕ → Type 0
BeginsAt h at i = i ≡ option_map (λ k. page_size * k) (place_in h.pages (at / page_size))

pub read_done : (h : Held) (m : Memory) (at i n : ℕ) → IsSound h → HoldsBytes h m → BeginsAt h at (Some i) →
    at % page_size + n ≤ page_size →
    take n (drop (i + at % page_size) h.bytes) ≡ bytes_at m at n
read_done h m at i n s holds e fits =
    let b = begins (place_in h.pages (at / page_size)) i e in
    let r = read_held h m (at / page_size) b.place (at % page_size) n s holds b.is fits in
    let r' = subst (λ (x : ℕ). take n (drop (page_size * b.place + at % page_size) h.bytes) ≡ bytes_at m x n) (address_is at) r in
    subst (λ (x : ℕ). take n (drop (x + at % page_size) h.bytes) ≡ bytes_at m at n) (sym b.begin) r'

pub read_none : (h : Held) (m : Memory) (at n : ℕ) → HoldsBytes h m → BeginsAt h at None → at % page_size + n ≤ page_size →
    replicate n h.fill ≡ bytes_at m at n
read_none h m at n holds e fits =
    let r = read_bare h m (at / page_size) (at % page_size) n holds (begins_not (place_in h.pages (at / page_size)) e) fits in
    subst (λ (x : ℕ). replicate n h.fill ≡ bytes_at m x n) (address_is at) r

pub put_done : (h : Held) (m : Memory) (at i : ℕ) (xs b : List ℕ) → IsSound h → HoldsBytes h m → BeginsAt h at (Some i) →
    at % page_size + length xs ≤ page_size →
    b ≡ spliced h.bytes (i + at % page_size) xs → HoldsBytes (record { fill = h.fill; pages = h.pages; bytes = b }) (write m at xs)
put_done h m at i xs b s holds e fits new =
    let g = begins (place_in h.pages (at / page_size)) i e in
    let new' = subst (λ (x : ℕ). b ≡ spliced h.bytes (x + at % page_size) xs) g.begin new in
    let w = put_holds h m (at / page_size) g.place (at % page_size) xs b s holds g.is fits new' in
    subst (λ (x : ℕ). HoldsBytes (record { fill = h.fill; pages = h.pages; bytes = b }) (write m x xs)) (address_is at) w

pub wipe_done : (h : Held) (m : Memory) (at i n : ℕ) (b : List ℕ) → IsSound h → HoldsBytes h m → BeginsAt h at (Some i) →
    at % page_size + n ≤ page_size →
    b ≡ take (i + at % page_size) h.bytes ++ replicate n h.fill ++ drop (i + at % page_size + n) h.bytes →
    HoldsBytes (record { fill = h.fill; pages = h.pages; bytes = b }) (clear_range m at n)
wipe_done h m at i n b s holds e fits new =
    let g = begins (place_in h.pages (at / page_size)) i e in
    let size : length (replicate n h.fill) ≡ n = length-replicate n h.fill in
    let new' : b ≡ spliced h.bytes (i + at % page_size) (replicate n h.fill) =
    subst (λ (x : ℕ). b ≡ take (i + at % page_size) h.bytes ++ replicate n h.fill ++ drop (i + at % page_size + x) h.bytes)
    (sym size) new in
    let new'' = subst (λ (x : ℕ). b ≡ spliced h.bytes (x + at % page_size) (replicate n h.fill)) g.begin new' in
    let w = wipe_held h m (at / page_size) g.place (at % page_size) n b s holds g.is fits new'' in
    subst (λ (x : ℕ). HoldsBytes (record { fill = h.fill; pages = h.pages; bytes = b }) (clear_range m x n)) (address_is at) w

pub wipe_none : (h : Held) (m : Memory) (at n : ℕ) → HoldsBytes h m → BeginsAt h at None → at % page_size + n ≤ page_size →
    HoldsBytes h (clear_range m at n)
wipe_none h m at n holds e fits =
    subst (λ (x : ℕ). HoldsBytes h (clear_range m x n)) (address_is at)
    (wipe_bare h m (at / page_size) (at % page_size) n holds (begins_not (place_in h.pages (at / page_size)) e) fits)

-- ---- two parts, in two pages

pub parts_read : (m : Memory) (at f n : ℕ) (front back xs ys : List ℕ) → xs ≡ bytes_at m at (length front) →
    ys ≡ bytes_at m (at + f) (length back) → length front ≡ f →
    length back + f ≡ n → xs ++ ys ≡ bytes_at m at n
parts_read m at f n front back xs ys e g h k =
    let size : f + length back ≡ n = omega (arith, k) in
    rw (e, g, h) (sym (bytes_at-append m at f (length back)) ∙ ap (bytes_at m at) size)

pub parts_written : (h : Held) (m : Memory) (at f : ℕ) (xs : List ℕ) → f ≤ length xs →
    HoldsBytes h (write (write m (at + f) (take (length xs - f) (drop f xs))) at (take f xs)) → HoldsBytes h (write m at xs)
parts_written h m at f xs l held =
    let rest : take (length xs - f) (drop f xs) ≡ drop f xs = take_all (length xs - f) (drop f xs) (omega (arith, length-drop f xs)) in
    let holds = subst (λ (ys : List ℕ). HoldsBytes h (write (write m (at + f) ys) at (take f xs))) rest held in
    let size : length (take f xs) ≡ f = length-take f xs ∙ omega arith in
    let both : write m at (take f xs ++ drop f xs) ≡ write (write m (at + length (take f xs)) (drop f xs)) at (take f xs) =
    write-append m at (take f xs) (drop f xs) in
    let both' = subst (λ (x : ℕ). write m at (take f xs ++ drop f xs) ≡ write (write m (at + x) (drop f xs)) at (take f xs)) size both in
    let whole = subst (λ (ys : List ℕ). write m at ys ≡ write (write m (at + f) (drop f xs)) at (take f xs))
    (take-append-drop f xs) both' in
    subst (λ (x : Memory). HoldsBytes h x) (sym whole) holds
