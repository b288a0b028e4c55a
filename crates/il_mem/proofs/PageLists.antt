-- Where pages stand in a list, and where their bytes do.
use Rattle.std.proofs.Common.{◌≡◌, ◌≢◌, ℕ, zero, suc, ◌+◌, ◌-◌, ◌*◌, ◌/◌, ◌%◌, ◌<◌, ◌≤◌, Bool, true, false, List, [], ◌∷◌, ◌++◌, length, take, drop, replicate, get_or, Option, Some, None, refl, sym, ap, ◌∙◌, subst, arith, add-one, append_assoc, drop-cons, length-append, length-take, ◌⊎◌, inl, inr}
use Rattle.std.specs.Prelude.{nat_eq, nat_lt, slice_get, slice_index, option_map, is_some, if◌then◌else◌}
use Rattle.std.specs.HashMap.{HashMap, get}
use Rattle.std.proofs.Math.Seq.{take-append_seam}
use Rattle.std.proofs.lemmas.List.{take-append-drop}
use Rattle.std.proofs.lemmas.Bool.Decides.{nat_tests}
use Rattle.std.proofs.lemmas.Option.{slice_get_within}
use Rattle.hx_base.specs.Memory.{Memory, byte_at, bytes_at}
use Rattle.il_mem.specs.Kept.{Held, page_size, place_in, is_held, byte_in, byte_of, AreDistinct}
use Rattle.il_mem.specs.Holds.{HoldsBytes}
use Rattle.il_mem.specs.Stored.{AreEntered, AreStored}

-- ---- places

-- a page stands at its place
pub place_there : (ps : List ℕ) (p k : ℕ) → place_in ps p ≡ Some k → slice_get ps k ≡ Some p
place_there [] p k h = cc
place_there (q ∷ qs) p k h = pick (nat_eq q p) (place_in qs p) refl refl h (place_there qs p)
  where
    pick : (b : Bool) (o : Option ℕ) → nat_eq q p ≡ b → place_in qs p ≡ o → (if b then Some 0 else option_map (λ j. j + 1) o) ≡ Some k →
        ((j : ℕ) → place_in qs p ≡ Some j → slice_get qs j ≡ Some p) → slice_get (q ∷ qs) k ≡ Some p
    pick true o e f h on =
        let same : q ≡ p = grind (arith, nat_tests) in
        let first : 0 ≡ k = cc in
        subst (λ (j : ℕ). slice_get (q ∷ qs) j ≡ Some p) first (ap Some same)
    pick false None e f h on = cc
    pick false (Some j) e f h on =
        let next : suc j ≡ k = sym (add-one j) ∙ cc in
        subst (λ (i : ℕ). slice_get (q ∷ qs) i ≡ Some p) next (on j f)

-- one that is not found does not stand there
pub place_none : (ps : List ℕ) (p : ℕ) → place_in ps p ≡ None → (k : ℕ) → slice_get ps k ≡ Some p → ⊥
place_none [] p h k e = cc
place_none (q ∷ qs) p h k e = pick (nat_eq q p) (place_in qs p) k refl refl h e (place_none qs p)
  where
    pick : (b : Bool) (o : Option ℕ) (k : ℕ) → nat_eq q p ≡ b → place_in qs p ≡ o →
        (if b then Some 0 else option_map (λ j. j + 1) o) ≡ None →
        slice_get (q ∷ qs) k ≡ Some p → (place_in qs p ≡ None → (j : ℕ) → slice_get qs j ≡ Some p → ⊥) → ⊥
    pick true o k e f h g on = cc
    pick false None zero e f h g on = let same : q ≡ p = cc in absurd (grind (arith, nat_tests))
    pick false None (suc k) e f h g on = on f k g
    pick false (Some j) k e f h g on = cc

-- what stands once is found where it stands
pub place_found : (ps : List ℕ) (p k : ℕ) → AreDistinct ps → slice_get ps k ≡ Some p → place_in ps p ≡ Some k
place_found ps p k once e = pick (place_in ps p) refl
  where
    pick : (o : Option ℕ) → place_in ps p ≡ o → place_in ps p ≡ Some k
    pick None f = absurd (place_none ps p f k e)
    pick (Some j) f = f ∙ ap Some (once j k p (place_there ps p j f) e)

-- the places that are entered are those
module _ {S : Type 0} (places : HashMap ℕ ℕ S) (pages : List ℕ) (entered : AreEntered places pages) where
  pub distinct_from : AreDistinct pages
  distinct_from j k p e f =
      let a = entered.found p j e in
      let b = entered.found p k f in
      cc

  pub place_is : (p : ℕ) → place_in pages p ≡ get nat_eq places p
  place_is p = pick (get nat_eq places p) (place_in pages p) refl refl
    where
      pick : (o u : Option ℕ) → get nat_eq places p ≡ o → place_in pages p ≡ u → place_in pages p ≡ get nat_eq places p
      pick (Some k) u e f = place_found pages p k distinct_from (entered.there p k e) ∙ sym e
      pick None None e f = f ∙ sym e
      pick None (Some j) e f = let g = entered.found p j (place_there pages p j f) in cc

-- a place lies in the list
pub place_within : (ps : List ℕ) (p k : ℕ) → place_in ps p ≡ Some k → k < length ps
place_within ps p k e = slice_get_within ps k p (place_there ps p k e)

-- ---- bytes

-- what holds of pages and their bytes
pub record IsSound (h : Held) : Type 0 where
  pub once : AreDistinct h.pages
  pub sized : length h.bytes ≡ page_size * length h.pages

-- an address of a page
pub page_of : (p o : ℕ) → o < page_size → (page_size * p + o) / page_size ≡ p
page_of p o h = omega arith

pub offset_of : (p o : ℕ) → o < page_size → (page_size * p + o) % page_size ≡ o
offset_of p o h = omega arith

pub address_is : (a : ℕ) → page_size * (a / page_size) + a % page_size ≡ a
address_is a = omega arith

-- the byte of an address of a page that is held
pub byte_of_held : (h : Held) (p k o : ℕ) → place_in h.pages p ≡ Some k → o < page_size →
    byte_of h (page_size * p + o) ≡ slice_index h.bytes (page_size * k + o)
byte_of_held h p k o e l = rw (page_of p o l, offset_of p o l, e) refl

pub byte_of_bare : (h : Held) (p o : ℕ) → place_in h.pages p ≡ None → o < page_size → byte_of h (page_size * p + o) ≡ h.fill
byte_of_bare h p o e l = rw (page_of p o l, offset_of p o l, e) refl

-- a part of a page that is held
pub read_held : (h : Held) (m : Memory) (p k o n : ℕ) → IsSound h → HoldsBytes h m → place_in h.pages p ≡ Some k → o + n ≤ page_size →
    take n (drop (page_size * k + o) h.bytes) ≡ bytes_at m (page_size * p + o) n
read_held h m p k o zero s b e l = refl
read_held h m p k o (suc n) s b e l =
    let within : k < length h.pages = place_within h.pages p k e in
    let inside : page_size * k + o < length h.bytes = omega (arith, s.sized, within, l) in
    let first : get_or h.bytes (page_size * k + o) 0 ≡ byte_at m (page_size * p + o) = sym (byte_of_held h p k o e (omega arith))
    ∙ b.bytes (page_size * p + o) in
    let next : suc (page_size * k + o) ≡ page_size * k + suc o = omega arith in
    let next' : suc (page_size * p + o) ≡ page_size * p + suc o = omega arith in
    rw (drop-cons h.bytes (page_size * k + o) 0, first, next, next', read_held h m p k (suc o) n s b e (omega arith)) refl

-- of one that is not
pub read_bare : (h : Held) (m : Memory) (p o n : ℕ) → HoldsBytes h m → place_in h.pages p ≡ None → o + n ≤ page_size →
    replicate n h.fill ≡ bytes_at m (page_size * p + o) n
read_bare h m p o zero b e l = refl
read_bare h m p o (suc n) b e l =
    let first : h.fill ≡ byte_at m (page_size * p + o) = sym (byte_of_bare h p o e (omega arith)) ∙ b.bytes (page_size * p + o) in
    let next : suc (page_size * p + o) ≡ page_size * p + suc o = omega arith in
    let rest : replicate n h.fill ≡ bytes_at m (suc (page_size * p + o)) n = rw next (read_bare h m p (suc o) n b e (omega arith)) in
    let both : h.fill ∷ replicate n h.fill ≡ byte_at m (page_size * p + o) ∷ bytes_at m (suc (page_size * p + o)) n =
    rw (← rest, ← first) refl in
    both

-- where the bytes of a page begin
pub begin_at : (h : Held) (p k : ℕ) → place_in h.pages p ≡ Some k →
    Some (k * page_size) ≡ option_map (λ j. page_size * j) (place_in h.pages p)
begin_at h p k e = let turned : k * page_size ≡ page_size * k = omega arith in rw (e, turned) refl

-- all its bytes are there
pub begin_within : (h : Held) (p k : ℕ) → IsSound h → place_in h.pages p ≡ Some k → k * page_size + page_size ≤ length h.bytes
begin_within h p k s e = let within : k < length h.pages = place_within h.pages p k e in omega (arith, s.sized, within)

-- what a type promises of its fields
pub sound_from : {S : Type 0} (places : HashMap ℕ ℕ S) (h : Held) → AreStored places h.pages h.bytes → IsSound h
sound_from places h stored = record { once = distinct_from places h.pages stored.entered; sized = stored.sized }

-- the place of a page whose bytes begin somewhere
pub record Begins (o : Option ℕ) (i : ℕ) : Type 0 where
  pub place : ℕ
  pub is : o ≡ Some place
  pub begin : i ≡ page_size * place

pub begins : (o : Option ℕ) (i : ℕ) → Some i ≡ option_map (λ k. page_size * k) o → Begins o i
begins None i e = cc
begins (Some k) i e = let same : i ≡ page_size * k = cc in record { place = k; is = refl; begin = same }

pub begins_not : (o : Option ℕ) → None ≡ option_map (λ k. page_size * k) o → o ≡ None
begins_not None e = refl
begins_not (Some k) e = cc

-- ---- pages are made and given up

pub slice_get-push_last : (ps : List ℕ) (q : ℕ) → slice_get (ps ++ q ∷ []) (length ps) ≡ Some q
slice_get-push_last [] q = refl
slice_get-push_last (p ∷ ps) q = slice_get-push_last ps q

pub slice_get-push_other : (ps : List ℕ) (q k : ℕ) → k < length ps → slice_get (ps ++ q ∷ []) k ≡ slice_get ps k
slice_get-push_other [] q k h = absurd (omega arith)
slice_get-push_other (p ∷ ps) q zero h = refl
slice_get-push_other (p ∷ ps) q (suc k) h = slice_get-push_other ps q k (omega arith)

-- one more page stands last
pub place-push : (ps : List ℕ) (q p : ℕ) →
    place_in (ps ++ q ∷ []) p ≡ (if is_some (place_in ps p) then place_in ps p else if nat_eq q p then Some (length ps) else None)
place-push [] q p = refl
place-push (x ∷ xs) q p = pick (nat_eq x p) (place_in xs p) (nat_eq q p) refl refl refl (place-push xs q p)
  where
    pick : (b : Bool) (o : Option ℕ) (t : Bool) → nat_eq x p ≡ b → place_in xs p ≡ o → nat_eq q p ≡ t →
        place_in (xs ++ q ∷ []) p ≡ (if is_some (place_in xs p) then place_in xs p else if nat_eq q p then Some (length xs) else None) →
        place_in (x ∷ (xs ++ q ∷ [])) p ≡ (if is_some (place_in (x ∷ xs) p) then place_in (x ∷ xs) p else if nat_eq q p then Some
        (length (x ∷ xs)) else None)
    pick true o t e f g i = rw e refl
    pick false (Some j) t e f g i = rw (e, i, f) refl
    pick false None true e f g i = rw (e, i, f, g) (ap Some (add-one (length xs)))
    pick false None false e f g i = rw (e, i, f, g) refl

-- the same for places that are entered
pub entered-push : {S : Type 0} (old new : HashMap ℕ ℕ S) (ps : List ℕ) (q : ℕ) → AreEntered old ps → place_in ps q ≡ None →
    ((p : ℕ) → get nat_eq new p ≡ (if nat_eq q p then Some (length ps) else get nat_eq old p)) → AreEntered new (ps ++ q ∷ [])
entered-push old new ps q h fresh u = record { there = there; found = found }
  where
    last : slice_get (ps ++ q ∷ []) (length ps) ≡ Some q
    last = slice_get-push_last ps q

    there : (p k : ℕ) → get nat_eq new p ≡ Some k → slice_get (ps ++ q ∷ []) k ≡ Some p
    there p k e = pick (nat_eq q p) refl (sym (u p) ∙ e)
      where
        pick : (b : Bool) → nat_eq q p ≡ b → (if nat_eq q p then Some (length ps) else get nat_eq old p) ≡ Some k →
            slice_get (ps ++ q ∷ []) k ≡ Some p
        pick true f g =
            let same : q ≡ p = grind (arith, nat_tests) in
            let x = rw f at g in
            let at : length ps ≡ k = cc in
            rw (← at, ← same) last
        pick false f g =
            let x = rw f at g in
            let y = h.there p k x in
            slice_get-push_other ps q k (slice_get_within ps k p y) ∙ y

    found : (p k : ℕ) → slice_get (ps ++ q ∷ []) k ≡ Some p → get nat_eq new p ≡ Some k
    found p k e = pick (nat_lt k (length ps)) refl
      where
        pick : (b : Bool) → nat_lt k (length ps) ≡ b → get nat_eq new p ≡ Some k
        pick true f =
            let below : k < length ps = grind (arith, nat_tests) in
            let x : slice_get ps k ≡ Some p = sym (slice_get-push_other ps q k below) ∙ e in
            let ne : nat_eq q p ≡ false = other (nat_eq q p) refl x in
            u p ∙ (rw ne (h.found p k x))
          where
            other : (b : Bool) → nat_eq q p ≡ b → slice_get ps k ≡ Some p → nat_eq q p ≡ false
            other true g x =
                let same : q ≡ p = grind (arith, nat_tests) in
                absurd (place_none ps q fresh k (rw same x))
            other false g x = g
        pick false f =
            let size : k < length (ps ++ q ∷ []) = slice_get_within (ps ++ q ∷ []) k p e in
            let long : length (ps ++ q ∷ []) ≡ length ps + 1 = length-append ps (q ∷ []) ∙ omega arith in
            let at : k ≡ length ps = grind (arith, nat_tests) in
            let x : slice_get (ps ++ q ∷ []) (length ps) ≡ Some p = rw (← at) e in
            let this = last in
            let same : q ≡ p = cc in
            let yes : nat_eq q p ≡ true = grind (arith, nat_tests) in
            u p ∙ rw (yes, at) refl

-- the last page goes
pub entered-pop : {S : Type 0} (old new : HashMap ℕ ℕ S) (ps : List ℕ) (q : ℕ) → AreEntered old (ps ++ q ∷ []) →
    ((p : ℕ) → get nat_eq new p ≡ (if nat_eq q p then None else get nat_eq old p)) → AreEntered new ps
entered-pop old new ps q h u = record { there = there; found = found }
  where
    last : get nat_eq old q ≡ Some (length ps)
    last = h.found q (length ps) (slice_get-push_last ps q)

    there : (p k : ℕ) → get nat_eq new p ≡ Some k → slice_get ps k ≡ Some p
    there p k e = pick (nat_eq q p) refl (sym (u p) ∙ e)
      where
        pick : (b : Bool) → nat_eq q p ≡ b → (if nat_eq q p then None else get nat_eq old p) ≡ Some k → slice_get ps k ≡ Some p
        pick true f g = let x = rw f at g in cc
        pick false f g =
            let x = h.there p k (rw f at g) in
            let ne : q ≢ p = grind (arith, nat_tests) in
            sym (slice_get-push_other ps q k (below (nat_lt k (length ps)) refl x ne)) ∙ x
          where
            below : (b : Bool) → nat_lt k (length ps) ≡ b → slice_get (ps ++ q ∷ []) k ≡ Some p → q ≢ p → k < length ps
            below true z x ne = grind (arith, nat_tests)
            below false z x ne =
                let size : k < length (ps ++ q ∷ []) = slice_get_within (ps ++ q ∷ []) k p x in
                let long : length (ps ++ q ∷ []) ≡ length ps + 1 = length-append ps (q ∷ []) ∙ omega arith in
                let at : k ≡ length ps = grind (arith, nat_tests) in
                let this = slice_get-push_last ps q in
                let y : slice_get (ps ++ q ∷ []) (length ps) ≡ Some p = rw (← at) x in
                let same : q ≡ p = cc in
                absurd (ne same)

    found : (p k : ℕ) → slice_get ps k ≡ Some p → get nat_eq new p ≡ Some k
    found p k e = pick (nat_eq q p) refl (h.found p k (slice_get-push_other ps q k (slice_get_within ps k p e) ∙ e))
      where
        pick : (b : Bool) → nat_eq q p ≡ b → get nat_eq old p ≡ Some k → get nat_eq new p ≡ Some k
        pick true f g =
            let same : q ≡ p = grind (arith, nat_tests) in
            let within : k < length ps = slice_get_within ps k p e in
            let x : get nat_eq old p ≡ Some (length ps) = subst (λ (y : ℕ). get nat_eq old y ≡ Some (length ps)) same last in
            let size : k ≡ length ps = cc in
            absurd (omega arith)
        pick false f g = u p ∙ rw f g

-- pages are given up from the last on
pub record Cut {S : Type 0} (places : HashMap ℕ ℕ S) (left pages : List ℕ) (count : ℕ) : Type 0 where
  pub entered : AreEntered places left
  pub front : left ≡ take (length left) pages
  pub enough : count ≤ length left

pub cut_more : {S : Type 0} (old new : HashMap ℕ ℕ S) (now left pages : List ℕ) (q count : ℕ) → now ≡ left ++ q ∷ [] →
    Cut old now pages count → count < length now →
    ((p : ℕ) → get nat_eq new p ≡ (if nat_eq q p then None else get nat_eq old p)) → Cut new left pages count
cut_more old new now left pages q count e h l u =
    let entered = subst (λ (xs : List ℕ). AreEntered old xs) e h.entered in
    let long : length now ≡ length left + 1 = ap length e ∙ length-append left (q ∷ []) ∙ omega arith in
    let both : left ++ q ∷ [] ≡ take (length now) pages = sym e ∙ h.front in
    let rest : left ++ (q ∷ drop (length now) pages) ≡ pages =
    sym (append_assoc left (q ∷ []) (drop (length now) pages)) ∙ ap (λ (xs : List ℕ). xs ++ drop (length now) pages) both
    ∙ take-append-drop (length now) pages in
    record {
      entered = entered-pop old new left q entered u;
      front = sym (take-append_seam left (q ∷ drop (length now) pages)) ∙ ap (take (length left)) rest;
      enough = omega (arith, long, l);
    }

-- so many are left in the end
pub cut_done : {S : Type 0} (places : HashMap ℕ ℕ S) (left pages bytes : List ℕ) (count : ℕ) → Cut places left pages count →
    length left ≤ count → count ≤ length pages →
    length bytes ≡ page_size * length pages → (left ≡ take count pages) × AreStored places left (take (count * page_size) bytes)
cut_done places left pages bytes count h l within sized =
    let all : length left ≡ count = omega (arith, h.enough, l) in
    let front : left ≡ take count pages = h.front ∙ ap (λ (n : ℕ). take n pages) all in
    let size : length (take (count * page_size) bytes) ≡ page_size * length left = length-take (count * page_size) bytes
    ∙ omega (arith, all, within, sized) in
    (front, record { entered = h.entered; sized = size })

-- equal parts make equal pages
abbrev pub held : ℕ → List ℕ → List ℕ → Held
held f p b = record { fill = f; pages = p; bytes = b }

pub held_same : (f f' : ℕ) (p p' b b' : List ℕ) → f ≡ f' → p ≡ p' → b ≡ b' → held f p b ≡ held f' p' b'
held_same f f' p p' b b' e g h = rw (e, g, h) refl
