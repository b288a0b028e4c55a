-- A page is given up, and the last one takes its place.
use Rattle.std.proofs.Common.{◌≡◌, ◌≢◌, ℕ, ◌+◌, ◌-◌, ◌*◌, ◌<◌, ◌≤◌, Bool, true, false, ◌&&◌, List, length, Option, Some, None, refl, sym, ap, ◌∙◌, subst, arith, ◌⊎◌, inl, inr}
use Rattle.std.specs.Prelude.{nat_eq, nat_lt, slice_get, slice_index, slice_index_or, is_some, not, if◌then◌else◌}
use Rattle.std.specs.HashMap.{HashMap, get}
use Rattle.std.proofs.lemmas.Bool.Decides.{nat_tests}
use Rattle.std.proofs.lemmas.Option.{slice_get_within, slice_get-get_or}
use Rattle.hx_base.specs.Memory.{Memory, byte_at, clear_range}
use Rattle.hx_base.proofs.Memory.Written.{byte_at-clear_range_inside, byte_at-clear_range_outside}
use Rattle.il_mem.specs.Kept.{Held, page_size, place_in, is_held, byte_of, AreDistinct}
use Rattle.il_mem.specs.Holds.{HoldsBytes}
use Rattle.il_mem.specs.Stored.{AreEntered, AreStored, source}
use Rattle.il_mem.proofs.PageLists.{IsSound, place_is, place_there, place_none, place_found, byte_of_held, byte_of_bare}
use Rattle.il_mem.proofs.PageWrites.{holds_by_page}

-- what pages are without the one at a place
pub record TakenOut (old new : List ℕ) (place last : ℕ) : Type 0 where
  pub order : place ≤ last
  pub count : length old ≡ last + 1
  pub size : length new ≡ last
  pub pages : (j : ℕ) → j < last → slice_get new j ≡ slice_get old (source place last j)

-- and their bytes
pub record Moved (h new : Held) (place last : ℕ) : Type 0 where
  pub pages : TakenOut h.pages new.pages place last
  pub fill : new.fill ≡ h.fill
  pub bytes : (j o : ℕ) → j < last → o < page_size →
      slice_index new.bytes (page_size * j + o) ≡ slice_index h.bytes (page_size * source place last j + o)

source_here : (place last : ℕ) → source place last place ≡ last
source_here place last = let e : nat_eq place place ≡ true = grind (arith, nat_tests) in rw e refl

source_other : (place last j : ℕ) → j ≢ place → source place last j ≡ j
source_other place last j h = let e : nat_eq j place ≡ false = grind (arith, nat_tests, h) in rw e refl

module _ (old new : List ℕ) (place last page : ℕ) (once : AreDistinct old) (v : TakenOut old new place last)
    (at : slice_get old place ≡ Some page) where
  -- no two come from one place, and none from that which is given up
  source_apart : (j : ℕ) → j < last → source place last j ≢ place
  source_apart j l = pick (nat_eq j place) refl
    where
      pick : (b : Bool) → nat_eq j place ≡ b → source place last j ≢ place
      pick true e = let same : j ≡ place = grind (arith, nat_tests) in λ x. (let y = rw e at x in omega arith)
      pick false e = let ne : j ≢ place = grind (arith, nat_tests) in λ x. ne (rw e at x)

  source_once : (j k : ℕ) → j < last → k < last → source place last j ≡ source place last k → j ≡ k
  source_once j k l m = pick (nat_eq j place) (nat_eq k place) refl refl
    where
      pick : (b c : Bool) → nat_eq j place ≡ b → nat_eq k place ≡ c → source place last j ≡ source place last k → j ≡ k
      pick true true e f x = grind (arith, nat_tests)
      pick true false e f x = let y = rw (e, f) at x in absurd (omega arith)
      pick false true e f x = let y = rw (e, f) at x in absurd (omega arith)
      pick false false e f x = rw (e, f) at x

  -- where a page that is left comes from
  pub comes_from : (q j : ℕ) → place_in new q ≡ Some j → (j < last) × (place_in old q ≡ Some (source place last j)) × (q ≢ page)
  comes_from q j e =
      let there = place_there new q j e in
      let below : j < last = omega (arith, slice_get_within new j q there, v.size) in
      let back : slice_get old (source place last j) ≡ Some q = sym (v.pages j below) ∙ there in
      let apart = source_apart j below in
      (below, place_found old q (source place last j) once back, λ x. apart (once (source place last j) place q back (rw x at)))

  -- one that is not left was not held, or is the one that is given up
  pub gone : (q : ℕ) → place_in new q ≡ None → (place_in old q ≡ None) ⊎ (q ≡ page)
  gone q e = pick (place_in old q) refl
    where
      pick : (o : Option ℕ) → place_in old q ≡ o → (place_in old q ≡ None) ⊎ (q ≡ page)
      pick None f = inl f
      pick (Some i) f = side (nat_eq i place) (nat_eq i last) refl refl
        where
          there : slice_get old i ≡ Some q
          there = place_there old q i f

          within : i < length old
          within = slice_get_within old i q there

          side : (b c : Bool) → nat_eq i place ≡ b → nat_eq i last ≡ c → (place_in old q ≡ None) ⊎ (q ≡ page)
          side true c x y =
              let same : i ≡ place = grind (arith, nat_tests) in
              let found : slice_get old place ≡ Some q = subst (λ (k : ℕ). slice_get old k ≡ Some q) same there in
              let both : q ≡ page = cc in
              inr both
          side false true x y =
              let ne : i ≢ place = grind (arith, nat_tests) in
              let same : i ≡ last = grind (arith, nat_tests) in
              let below : place < last = omega (arith, v.order, ne, same) in
              let moved : slice_get new place ≡ Some q = v.pages place below ∙ ap (slice_get old) (source_here place last ∙ sym same)
              ∙ there in
              absurd (place_none new q e place moved)
          side false false x y =
              let ne : i ≢ place = grind (arith, nat_tests) in
              let ne' : i ≢ last = grind (arith, nat_tests) in
              let below : i < last = omega (arith, within, v.count, ne') in
              absurd (place_none new q e i (v.pages i below ∙ ap (slice_get old) (source_other place last i ne) ∙ there))

  pub distinct_then : AreDistinct new
  distinct_then j k q e f =
      let lj : j < last = omega (arith, slice_get_within new j q e, v.size) in
      let lk : k < last = omega (arith, slice_get_within new k q f, v.size) in
      source_once j k lj lk (once (source place last j) (source place last k) q (sym (v.pages j lj) ∙ e) (sym (v.pages k lk) ∙ f))

  -- the places that are entered stay those of the pages
  pub entered_then : {S : Type 0} (before after : HashMap ℕ ℕ S) (moved : ℕ) → AreEntered before old → slice_get old last ≡ Some moved →
      ((p : ℕ) → get nat_eq after p ≡ (if nat_eq page p then None else if nat_eq moved p then Some place else get nat_eq before p)) →
      AreEntered after new
  entered_then before after moved h lies u = record {
    there = λ p k e. place_there new p k (same p ∙ e);
    found = λ p k e. sym (same p) ∙ place_found new p k distinct_then e;
  }
    where
      moved_at : place_in old moved ≡ Some last
      moved_at = place_found old moved last once lies

      same : (p : ℕ) → place_in new p ≡ get nat_eq after p
      same p = pick (place_in new p) refl
        where
          was : place_in old p ≡ get nat_eq before p
          was = place_is before old h p

          pick : (o : Option ℕ) → place_in new p ≡ o → place_in new p ≡ get nat_eq after p
          pick (Some j) e = side (nat_eq j place) (nat_eq moved p) refl refl
            where
              c : (j < last) × (place_in old p ≡ Some (source place last j)) × (p ≢ page)
              c = comes_from p j e

              other : nat_eq page p ≡ false
              other = let ne : p ≢ page = c.2 in grind (arith, nat_tests, ne)

              side : (x y : Bool) → nat_eq j place ≡ x → nat_eq moved p ≡ y → place_in new p ≡ get nat_eq after p
              side true true f g =
                  let here : j ≡ place = grind (arith, nat_tests) in
                  let to : get nat_eq after p ≡ Some place = u p ∙ rw (other, g) refl in
                  e ∙ ap Some here ∙ sym to
              side true false f g =
                  let from : place_in old p ≡ Some last = rw f at c.1 in
                  let there = place_there old p last from in
                  let one : moved ≡ p = cc in
                  absurd (grind (arith, nat_tests))
              side false true f g =
                  let one : moved ≡ p = grind (arith, nat_tests) in
                  let from : place_in old p ≡ Some j = rw f at c.1 in
                  let lie : place_in old p ≡ Some last = subst (λ (y : ℕ). place_in old y ≡ Some last) one moved_at in
                  let both : j ≡ last = cc in
                  let below : j < last = c.0 in
                  absurd (omega arith)
              side false false f g =
                  let from : place_in old p ≡ Some j = rw f at c.1 in
                  let to : get nat_eq after p ≡ get nat_eq before p = u p ∙ rw (other, g) refl in
                  e ∙ sym from ∙ was ∙ sym to
          pick None e = side (nat_eq page p) (nat_eq moved p) refl refl
            where
              side : (x y : Bool) → nat_eq page p ≡ x → nat_eq moved p ≡ y → place_in new p ≡ get nat_eq after p
              side true y f g = e ∙ sym (u p ∙ rw f refl)
              side false true f g =
                  let one : moved ≡ p = grind (arith, nat_tests) in
                  let lie : place_in old p ≡ Some last = subst (λ (y : ℕ). place_in old y ≡ Some last) one moved_at in
                  let ne : p ≢ page = grind (arith, nat_tests) in
                  elim (gone p e) [ inl x ↦ absurd cc | inr x ↦ absurd (ne x) ]
              side false false f g =
                  let ne : p ≢ page = grind (arith, nat_tests) in
                  let bare : place_in old p ≡ None = elim (gone p e) [ inl x ↦ x | inr x ↦ absurd (ne x) ] in
                  let to : get nat_eq after p ≡ get nat_eq before p = u p ∙ rw (f, g) refl in
                  e ∙ sym bare ∙ was ∙ sym to

module _ (h new : Held) (place last page : ℕ) (s : IsSound h) (v : Moved h new place last) (at : slice_get h.pages place ≡ Some page) where
  pub held_then : (p : ℕ) → is_held new p ≡ (is_held h p && not (nat_eq page p))
  held_then p = pick (place_in new.pages p) refl
    where
      pick : (o : Option ℕ) → place_in new.pages p ≡ o →
          is_some (place_in new.pages p) ≡ (is_some (place_in h.pages p) && not (nat_eq page p))
      pick (Some j) e =
          let c = comes_from h.pages new.pages place last page s.once v.pages at p j e in
          let ne : p ≢ page = c.2 in
          let other : nat_eq page p ≡ false = grind (arith, nat_tests, ne) in
          rw (e, c.1, other) refl
      pick None e = elim (gone h.pages new.pages place last page s.once v.pages at p e) [
        | inl x ↦ rw (e, x) refl
        | inr x ↦ let same : nat_eq page p ≡ true = grind (arith, nat_tests) in rw (e, same) (never (is_some (place_in h.pages p)))
      ]
        where
          never : (x : Bool) → false ≡ (x && false)
          never true = refl
          never false = refl

  -- the bytes of the page are the fill byte
  pub bytes_then : (m : Memory) → HoldsBytes h m → HoldsBytes new (clear_range m (page_size * page) page_size)
  bytes_then m b = holds_by_page new (clear_range m (page_size * page) page_size) (v.fill ∙ b.fill) by_page
    where
      beside : (q r : ℕ) → q ≢ page → r < page_size →
          (page_size * q + r < page_size * page) ⊎ (page_size * page + page_size ≤ page_size * q + r)
      beside q r ne l = pick (nat_lt q page) refl
        where
          pick : (x : Bool) → nat_lt q page ≡ x →
              (page_size * q + r < page_size * page) ⊎ (page_size * page + page_size ≤ page_size * q + r)
          pick true e = let below : q < page = grind (arith, nat_tests) in inl (omega arith)
          pick false e = let above : page < q = grind (arith, nat_tests, ne) in inr (omega arith)

      by_page : (q r : ℕ) → r < page_size →
          byte_of new (page_size * q + r) ≡ byte_at (clear_range m (page_size * page) page_size) (page_size * q + r)
      by_page q r l = pick (place_in new.pages q) refl
        where
          pick : (o : Option ℕ) → place_in new.pages q ≡ o →
              byte_of new (page_size * q + r) ≡ byte_at (clear_range m (page_size * page) page_size) (page_size * q + r)
          pick (Some j) e =
              let c = comes_from h.pages new.pages place last page s.once v.pages at q j e in
              byte_of_held new q j r e l ∙ v.bytes j r c.0 l ∙ sym (byte_of_held h q (source place last j) r c.1 l)
              ∙ b.bytes (page_size * q + r)
              ∙ sym (byte_at-clear_range_outside m (page_size * page) page_size (page_size * q + r) (beside q r c.2 l))
          pick None e = byte_of_bare new q r e l ∙ v.fill ∙ side (nat_eq q page) refl
            where
              side : (x : Bool) → nat_eq q page ≡ x → h.fill ≡ byte_at (clear_range m (page_size * page) page_size) (page_size * q + r)
              side true f =
                  let same : q ≡ page = grind (arith, nat_tests) in
                  b.fill ∙ sym (byte_at-clear_range_inside m (page_size * page) page_size (page_size * q + r) (omega (arith, same))
                  (omega (arith, same, l)))
              side false f =
                  let ne : q ≢ page = grind (arith, nat_tests) in
                  let bare : place_in h.pages q ≡ None =
                  elim (gone h.pages new.pages place last page s.once v.pages at q e) [ inl x ↦ x | inr x ↦ absurd (ne x) ] in
                  sym (byte_of_bare h q r bare l) ∙ b.bytes (page_size * q + r)
                  ∙ sym (byte_at-clear_range_outside m (page_size * page) page_size (page_size * q + r) (beside q r ne l))

-- the list behind a removal that puts the last in the place of what goes
pub taken_out : (old new : List ℕ) (place size : ℕ) → length old ≡ size → length new + 1 ≡ size → place < size →
    ((d : ℕ) → place + 1 < size → slice_index_or new place d ≡ slice_index_or old (size - 1) d) →
    ((k d : ℕ) → k ≢ place → k + 1 < size → slice_index_or new k d ≡ slice_index_or old k d) → TakenOut old new place (length new)
taken_out old new place size e f l here other = record {
  order = omega (arith, f, l);
  count = omega (arith, e, f);
  size = refl;
  pages =
      pages;
}
  where
    read : (j k : ℕ) → j < length new → k < length old → slice_index_or new j 0 ≡ slice_index_or old k 0 → slice_get new j ≡ slice_get old k
    read j k l m g = slice_get-get_or new j 0 l ∙ ap Some g ∙ sym (slice_get-get_or old k 0 m)

    pages : (j : ℕ) → j < length new → slice_get new j ≡ slice_get old (source place (length new) j)
    pages j m = pick (nat_eq j place) refl
      where
        pick : (b : Bool) → nat_eq j place ≡ b → slice_get new j ≡ slice_get old (source place (length new) j)
        pick true g =
            let at : j ≡ place = grind (arith, nat_tests) in
            let last : size - 1 ≡ length new = omega (arith, f) in
            let moved : slice_index_or new j 0 ≡ slice_index_or old (length new) 0 = rw (at, ← last) (here 0 (omega (arith, at, m, f))) in
            rw g (read j (length new) m (omega (arith, e, f)) moved)
        pick false g =
            let ne : j ≢ place = grind (arith, nat_tests) in
            rw g (read j j m (omega (arith, e, f, m)) (other j 0 ne (omega (arith, f, m))))

-- what is so when a page and its bytes are taken out
pub record GivenUp (h new : Held) (page : ℕ) : Type 0 where
  pub bytes : (m : Memory) → HoldsBytes h m → HoldsBytes new (clear_range m (page_size * page) page_size)
  pub pages : (p : ℕ) → is_held new p ≡ (is_held h p && not (nat_eq page p))

pub given_up : (h new : Held) (page place last : ℕ) → IsSound h → new.fill ≡ h.fill → slice_get h.pages place ≡ Some page →
    last ≡ length new.pages → length new.pages + 1 ≡ length h.pages →
    ((j : ℕ) → j < length new.pages → slice_get new.pages j ≡ slice_get h.pages (source place (length new.pages) j)) →
    ((j o : ℕ) → j < last → o < page_size →
    slice_index new.bytes (page_size * j + o) ≡ slice_index h.bytes (page_size * source place last j + o)) → GivenUp h new page
given_up h new page place last s f at e fewer pages bytes =
    let within = slice_get_within h.pages place page at in
    let bytes' = subst (λ (n : ℕ). (j o : ℕ) → j < n → o < page_size →
    slice_index new.bytes (page_size * j + o) ≡ slice_index h.bytes (page_size * source place n j + o)) e bytes in
    let out : TakenOut h.pages new.pages place (length new.pages) =
    record { order = omega (arith, within, fewer); count = omega (arith, fewer); size = refl; pages = pages } in
    let v : Moved h new place (length new.pages) = record { pages = out; fill = f; bytes = bytes' } in
    record { bytes = bytes_then h new place (length new.pages) page s v at; pages = held_then h new place (length new.pages) page s v at }
