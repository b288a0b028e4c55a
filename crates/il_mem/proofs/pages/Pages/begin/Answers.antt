use Rattle.std.proofs.Common.{◌≡◌, ◌+◌, ◌*◌, ◌≤◌, Some, None, refl, length, sym, ◌∙◌, subst, arith}
use Rattle.std.specs.Prelude.{option_map}
use Rattle.il_mem.specs.Kept.{Held, place_in, page_size}
use Rattle.il_mem.proofs.PageLists.{place_is, begin_at, begin_within, sound_from}
use Rattle.il_mem.proofs.pages.Pages.begin.Goals as goal

pub overflow_mul-result : goal.overflow_mul-result
overflow_mul-result c =
    let h : Held = record { fill = c.self.inside.fill; pages = c.self.inside.numbers.items; bytes = c.self.inside.bytes.items } in
    let at : place_in h.pages c.args.page ≡ Some c.in-Some.place.now =
    place_is c.self.inside.places h.pages c.self.invariant.entered c.args.page ∙ sym c.in-Some.ensures.value in
    let w = begin_within h c.args.page c.in-Some.place.now (sound_from c.self.inside.places h c.self.invariant) at in
    record { fits = omega (arith, w, c.len-room.ensures, c.len-room.type_inv) }

pub returns-in-Some : goal.returns-in-Some
returns-in-Some c =
    let h : Held = record { fill = c.self.inside.fill; pages = c.self.inside.numbers.items; bytes = c.self.inside.bytes.items } in
    let at : place_in h.pages c.args.page ≡ Some c.in-Some.place.now =
    place_is c.self.inside.places h.pages c.self.invariant.entered c.args.page ∙ sym c.in-Some.ensures.value in
    let w = begin_within h c.args.page c.in-Some.place.now (sound_from c.self.inside.places h c.self.invariant) at in
    record {
      value = subst (λ (x : Held). Some (c.in-Some.place.now * 4096) ≡
          option_map (λ k. page_size * k) (place_in x.pages c.args.page)) c.self.view_is (begin_at h c.args.page c.in-Some.place.now at);
      inside = subst (λ (x : Held). c.in-Some.place.now * 4096 + page_size ≤ length x.bytes) c.self.view_is w;
      short = omega (arith, w, c.len-room.ensures, c.len-room.type_inv);
    }

pub returns-in-None : goal.returns-in-None
returns-in-None c =
    let h : Held = record { fill = c.self.inside.fill; pages = c.self.inside.numbers.items; bytes = c.self.inside.bytes.items } in
    let at : place_in h.pages c.args.page ≡ None = place_is c.self.inside.places h.pages c.self.invariant.entered c.args.page
    ∙ sym c.in-None.ensures.value in
    record {
      value = subst (λ (x : Held). None ≡ option_map (λ k. page_size * k) (place_in x.pages c.args.page)) c.self.view_is (rw at refl);
      inside = tt;
      short = tt;
    }
