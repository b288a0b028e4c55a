-- Pages that are made, one behind the other, and given up again where memory is short.
use Rattle.std.proofs.Common.{◌≡◌, ◌≢◌, ℕ, ◌+◌, ◌*◌, ◌/◌, ◌%◌, ◌<◌, ◌≤◌, Bool, true, false, ◌&&◌, ◌||◌, List, [], ◌∷◌, ◌++◌, length, take, replicate, get_or, Option, Some, None, refl, sym, ap, ◌∙◌, subst, arith, length-append, ◌⊎◌, inl, inr}
use Rattle.std.specs.Prelude.{nat_eq, nat_lt, nat_le, slice_get, is_some, if◌then◌else◌}
use Rattle.std.proofs.lemmas.Bool.Decides.{nat_tests}
use Rattle.std.proofs.lemmas.List.{get_or_append_left, get_or-append-add, get_or-replicate, length-replicate, take_all, take-append-le}
use Rattle.std.proofs.lemmas.Option.{slice_get_within}
use Rattle.hx_base.specs.Memory.{Memory, byte_at}
use Rattle.il_mem.specs.Kept.{Held, page_size, place_in, is_held, byte_of, AreDistinct}
use Rattle.il_mem.specs.Holds.{HoldsBytes}
use Rattle.il_mem.specs.Stored.{with_page}
use Rattle.il_mem.proofs.PageLists.{IsSound, held, place-push, place_within, place_none, byte_of_held, byte_of_bare, address_is, slice_get-push_last, slice_get-push_other}

module _ (h : Held) (p : ℕ) (s : IsSound h) (fresh : place_in h.pages p ≡ None) where
  -- no byte is another
  byte_of-with_page_at : (q r : ℕ) → r < page_size → byte_of (with_page h p) (page_size * q + r) ≡ byte_of h (page_size * q + r)
  byte_of-with_page_at q r l = pick (place_in h.pages q) (nat_eq p q) refl refl (place-push h.pages p q)
    where
      pick : (o : Option ℕ) (b : Bool) → place_in h.pages q ≡ o → nat_eq p q ≡ b →
          place_in (h.pages ++ p ∷ []) q ≡ (if is_some (place_in h.pages q) then place_in h.pages q else if nat_eq p q then Some
          (length h.pages) else None) →
          byte_of (with_page h p) (page_size * q + r) ≡ byte_of h (page_size * q + r)
      pick (Some k) b e f g =
          let there : place_in (h.pages ++ p ∷ []) q ≡ Some k = rw e at g in
          let within = place_within h.pages q k e in
          let inside : page_size * k + r < length h.bytes = omega (arith, s.sized, within, l) in
          byte_of_held (with_page h p) q k r there l ∙ get_or_append_left h.bytes (replicate page_size h.fill) 0 (page_size * k + r) inside
          ∙ sym (byte_of_held h q k r e l)
      pick None true e f g =
          let there : place_in (h.pages ++ p ∷ []) q ≡ Some (length h.pages) = rw (e, f) at g in
          let at : page_size * length h.pages + r ≡ length h.bytes + r = omega (arith, s.sized) in
          byte_of_held (with_page h p) q (length h.pages) r there l ∙ ap (λ (i : ℕ). get_or (h.bytes ++ replicate page_size h.fill) i 0) at
          ∙ get_or-append-add h.bytes (replicate page_size h.fill) r 0 ∙ get_or-replicate page_size r h.fill 0 l
          ∙ sym (byte_of_bare h q r e l)
      pick None false e f g =
          let not_there : place_in (h.pages ++ p ∷ []) q ≡ None = rw (e, f) at g in
          byte_of_bare (with_page h p) q r not_there l ∙ sym (byte_of_bare h q r e l)

  pub byte_of-with_page : (a : ℕ) → byte_of (with_page h p) a ≡ byte_of h a
  byte_of-with_page a =
      subst (λ (x : ℕ). byte_of (with_page h p) x ≡ byte_of h x) (address_is a)
      (byte_of-with_page_at (a / page_size) (a % page_size) (omega arith))

  -- and one more page is held
  pub is_held-with_page : (q : ℕ) → is_held (with_page h p) q ≡ (is_held h q || nat_eq p q)
  is_held-with_page q = pick (place_in h.pages q) (nat_eq p q) refl refl (place-push h.pages p q)
    where
      pick : (o : Option ℕ) (b : Bool) → place_in h.pages q ≡ o → nat_eq p q ≡ b →
          place_in (h.pages ++ p ∷ []) q ≡ (if is_some (place_in h.pages q) then place_in h.pages q else if nat_eq p q then Some
          (length h.pages) else None) →
          is_some (place_in (h.pages ++ p ∷ []) q) ≡ (is_some (place_in h.pages q) || nat_eq p q)
      pick (Some k) b e f g = rw (g, e) refl
      pick None true e f g = rw (g, e, f) refl
      pick None false e f g = rw (g, e, f) refl

  pub sound-with_page : IsSound (with_page h p)
  sound-with_page = record {
    once = once;
    sized = length-append h.bytes (replicate page_size h.fill)
        ∙ rw (length-append h.pages (p ∷ []), length-replicate page_size h.fill, s.sized) (omega arith);
  }
    where
      -- an old page stands among the old, and the new one last
      side : (k q : ℕ) → slice_get (h.pages ++ p ∷ []) k ≡ Some q →
          ((k < length h.pages) × (slice_get h.pages k ≡ Some q)) ⊎ ((k ≡ length h.pages) × (q ≡ p))
      side k q e = pick (nat_lt k (length h.pages)) refl
        where
          pick : (b : Bool) → nat_lt k (length h.pages) ≡ b →
              ((k < length h.pages) × (slice_get h.pages k ≡ Some q)) ⊎ ((k ≡ length h.pages) × (q ≡ p))
          pick true f =
              let below : k < length h.pages = grind (arith, nat_tests) in
              inl (below, sym (slice_get-push_other h.pages p k below) ∙ e)
          pick false f =
              let size = slice_get_within (h.pages ++ p ∷ []) k q e in
              let long : length (h.pages ++ p ∷ []) ≡ length h.pages + 1 = length-append h.pages (p ∷ []) ∙ omega arith in
              let at : k ≡ length h.pages = grind (arith, nat_tests) in
              let this = slice_get-push_last h.pages p in
              let that : slice_get (h.pages ++ p ∷ []) (length h.pages) ≡ Some q = rw (← at) e in
              let same : q ≡ p = cc in
              inr (at, same)

      once : AreDistinct (h.pages ++ p ∷ [])
      once j k q e f = pick (side j q e) (side k q f)
        where
          pick : ((j < length h.pages) × (slice_get h.pages j ≡ Some q)) ⊎ ((j ≡ length h.pages) × (q ≡ p)) →
              ((k < length h.pages) × (slice_get h.pages k ≡ Some q)) ⊎ ((k ≡ length h.pages) × (q ≡ p)) → j ≡ k
          pick (inl x) (inl y) = s.once j k q x.1 y.1
          pick (inl x) (inr y) = absurd (place_none h.pages p fresh j (rw (← y.1) x.1))
          pick (inr x) (inl y) = absurd (place_none h.pages p fresh k (rw (← x.1) y.1))
          pick (inr x) (inr y) = x.0 ∙ sym y.0

-- pages from one up to another are held, behind those that were
pub record Growing (old now : Held) (before first page : ℕ) : Type 0 where
  pub sound : IsSound now
  pub fill : now.fill ≡ old.fill
  pub enough : before ≤ length now.pages
  pub pages : take before now.pages ≡ old.pages
  pub bytes : take (page_size * before) now.bytes ≡ old.bytes
  pub holds : (m : Memory) → HoldsBytes old m → HoldsBytes now m
  pub held : (p : ℕ) → is_held now p ≡ (is_held old p || (nat_le first p && nat_lt p page))

pub grows_first : (old : Held) (first : ℕ) → IsSound old → Growing old old (length old.pages) first first
grows_first old first s = record {
  sound = s;
  fill = refl;
  enough = omega arith;
  pages = take_all (length old.pages) old.pages (omega arith);
  bytes = take_all (page_size * length old.pages) old.bytes (omega (arith, s.sized));
  holds = λ m h. h;
  held = λ p. pick p (nat_le first p) (nat_lt p first) refl refl (is_held old p);
}
  where
    pick : (p : ℕ) (b c : Bool) → nat_le first p ≡ b → nat_lt p first ≡ c → (x : Bool) → x ≡ (x || (nat_le first p && nat_lt p first))
    pick p true true e f x = absurd (grind (arith, nat_tests))
    pick p true false e f true = refl
    pick p true false e f false = rw (e, f) refl
    pick p false c e f true = refl
    pick p false c e f false = rw e refl

-- the pages up to the next
next_page : (first page p : ℕ) (x : Bool) → first ≤ page →
    (x || (nat_le first p && nat_lt p page)) || nat_eq page p ≡ (x || (nat_le first p && nat_lt p (page + 1)))
next_page first page p x h = pick x (nat_le first p) (nat_lt p page) (nat_eq page p) (nat_lt p (page + 1)) refl refl refl refl
  where
    pick : (x b c d e : Bool) → nat_le first p ≡ b → nat_lt p page ≡ c → nat_eq page p ≡ d → nat_lt p (page + 1) ≡ e →
        ((x || (b && c)) || d) ≡ (x || (b && e))
    pick true b c d e f g i j = refl
    pick false true true d true f g i j = refl
    pick false true false true true f g i j = refl
    pick false true false false false f g i j = refl
    pick false false c false e f g i j = refl
    pick false true true d false f g i j = absurd (grind (arith, nat_tests))
    pick false true false true false f g i j = absurd (grind (arith, nat_tests))
    pick false true false false true f g i j = absurd (grind (arith, nat_tests))
    pick false false c true e f g i j = absurd (grind (arith, nat_tests))

-- a page that is held is passed over
pub grows_over : (old now : Held) (before first page : ℕ) → Growing old now before first page → first ≤ page → is_held now page ≡ true →
    Growing old now before first (page + 1)
grows_over old now before first page g l h = record {
  sound = g.sound;
  fill = g.fill;
  enough = g.enough;
  pages = g.pages;
  bytes = g.bytes;
  holds = g.holds;
  held = λ p. same p (nat_eq page p) refl ∙ ap (λ (b : Bool). b || nat_eq page p) (g.held p) ∙ next_page first page p (is_held old p) l;
}
  where
    same : (p : ℕ) (b : Bool) → nat_eq page p ≡ b → is_held now p ≡ (is_held now p || nat_eq page p)
    same p true e =
        let at : page ≡ p = grind (arith, nat_tests) in
        let x : is_held now p ≡ true = subst (λ (y : ℕ). is_held now y ≡ true) at h in
        rw x refl
    same p false e = rw e (plain (is_held now p))
      where
        plain : (x : Bool) → x ≡ (x || false)
        plain true = refl
        plain false = refl

-- any other is made
pub grows_more : (old now : Held) (before first page : ℕ) → Growing old now before first page → first ≤ page →
    place_in now.pages page ≡ None →
    Growing old (with_page now page) before first (page + 1)
grows_more old now before first page g l fresh = record {
  sound = sound-with_page now page g.sound fresh;
  fill = g.fill;
  enough = let long = length-append now.pages (page ∷ []) in omega (arith, long, g.enough);
  pages = take-append-le before now.pages (page ∷ []) g.enough ∙ g.pages;
  bytes = take-append-le (page_size * before) now.bytes (replicate page_size now.fill) (omega (arith, g.sound.sized, g.enough)) ∙ g.bytes;
  holds = λ m h. let b = g.holds m h in record { fill = b.fill; bytes = λ a. byte_of-with_page now page g.sound fresh a ∙ b.bytes a };
  held = λ p. is_held-with_page now page g.sound fresh p ∙ ap (λ (b : Bool). b || nat_eq page p) (g.held p)
      ∙ next_page first page p (is_held old p) l;
}

-- the next page is held
pub grows_next : (old now new : Held) (before first page : ℕ) → Growing old now before first page → first ≤ page →
    (place_in now.pages page ≡ None → new ≡ with_page now page) → (is_held now page ≡ true → new ≡ now) →
    Growing old new before first (page + 1)
grows_next old now new before first page g l made there = pick (place_in now.pages page) refl
  where
    pick : (o : Option ℕ) → place_in now.pages page ≡ o → Growing old new before first (page + 1)
    pick None e = subst (λ (h : Held). Growing old h before first (page + 1)) (sym (made e)) (grows_more old now before first page g l e)
    pick (Some k) e =
        let yes : is_held now page ≡ true = rw e refl in
        subst (λ (h : Held). Growing old h before first (page + 1)) (sym (there yes)) (grows_over old now before first page g l yes)
