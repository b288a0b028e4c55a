use Rattle.std.proofs.Common.{◌≡◌, ◌+◌, ◌*◌, ◌&&◌, ℕ, Bool, true, false, None, refl, sym, ◌∙◌, subst, arith}
use Rattle.std.specs.Prelude.{nat_eq, not}
use Rattle.std.proofs.lemmas.Bool.Decides.{nat_tests}
use Rattle.std.proofs.lemmas.Option.{slice_get_within}
use Rattle.hx_base.specs.Memory.{clear_range}
use Rattle.il_mem.specs.Kept.{Held, page_size, place_in, is_held}
use Rattle.il_mem.specs.Holds.{HoldsBytes}
use Rattle.il_mem.proofs.PageLists.{held, place_is, sound_from}
use Rattle.il_mem.proofs.PageWrites.{wipe_bare}
use Rattle.il_mem.proofs.PageMoves.{given_up}
use Rattle.il_mem.proofs.pages.Pages.give_up.Goals as goal

-- ---- a page that is not held

pub returns-in_default-clause-bytes : goal.returns-in_default-clause-bytes
returns-in_default-clause-bytes c = λ m holds.
    let p = c.args.page in
    let bare : place_in c.self.inside.numbers.items p ≡ None =
    place_is c.self.inside.places c.self.inside.numbers.items c.self.invariant.entered p
    ∙ sym (c.in_default.ensures ∙ c.get.ensures.value) in
    let bare' = subst (λ (h : Held). place_in h.pages p ≡ None) c.self.view_is bare in
    let at : page_size * p + 0 ≡ page_size * p = omega arith in
    subst (λ (x : ℕ). HoldsBytes c.args.self.now (clear_range m x page_size)) at
    (wipe_bare c.args.self.now m p 0 page_size holds bare' (omega arith))

-- such a page is not among those that are
still : (h : Held) (page p : ℕ) → place_in h.pages page ≡ None → is_held h p ≡ (is_held h p && not (nat_eq page p))
still h page p bare = pick (nat_eq page p) refl
  where
    both : (x : Bool) → x ≡ (x && true)
    both true = refl
    both false = refl

    pick : (b : Bool) → nat_eq page p ≡ b → is_held h p ≡ (is_held h p && not (nat_eq page p))
    pick true e =
        let same : page ≡ p = grind (arith, nat_tests) in
        let none : place_in h.pages p ≡ None = subst (λ (x : ℕ). place_in h.pages x ≡ None) same bare in
        rw none refl
    pick false e = rw e (both (is_held h p))

pub returns-in_default-clause-pages : goal.returns-in_default-clause-pages
returns-in_default-clause-pages c = λ q.
    let p = c.args.page in
    let bare : place_in c.self.inside.numbers.items p ≡ None =
    place_is c.self.inside.places c.self.inside.numbers.items c.self.invariant.entered p
    ∙ sym (c.in_default.ensures ∙ c.get.ensures.value) in
    still c.args.self.now p q (subst (λ (h : Held). place_in h.pages p ≡ None) c.self.view_is bare)

-- ---- one that is

pub take_bytes_out-requires-clause-order : goal.take_bytes_out-requires-clause-order
take_bytes_out-requires-clause-order c =
    let there = c.self.invariant.entered.there c.args.page c.in-Some.place (sym (c.in-Some.ensures ∙ c.get.ensures.value)) in
    let within = slice_get_within c.self.inside.numbers.items c.in-Some.place c.args.page there in
    omega (arith, within, c.take_out.ensures.fewer, c.len-last.ensures, c.take_out.new.numbers.ok.0)

pub returns-clause-bytes : goal.returns-clause-bytes
returns-clause-bytes c = λ m holds.
    let old = c.self.inside in
    let h : Held = held old.fill old.numbers.items old.bytes.items in
    let new : Held = held old.fill c.take_out.new.numbers.items c.take_bytes_out.new.bytes.items in
    let there = c.self.invariant.entered.there c.args.page c.in-Some.place (sym (c.in-Some.ensures ∙ c.get.ensures.value)) in
    let g = given_up h new c.args.page c.in-Some.place c.len-last.result (sound_from old.places h c.self.invariant) refl there
    (omega (arith, c.len-last.ensures, c.take_out.new.numbers.ok.0)) c.take_out.ensures.fewer c.take_out.ensures.pages
    c.take_bytes_out.ensures.bytes in
    g.bytes m (subst (λ (x : Held). HoldsBytes x m) (sym c.self.view_is) holds)

pub returns-clause-pages : goal.returns-clause-pages
returns-clause-pages c = λ p.
    let old = c.self.inside in
    let h : Held = held old.fill old.numbers.items old.bytes.items in
    let new : Held = held old.fill c.take_out.new.numbers.items c.take_bytes_out.new.bytes.items in
    let there = c.self.invariant.entered.there c.args.page c.in-Some.place (sym (c.in-Some.ensures ∙ c.get.ensures.value)) in
    let g = given_up h new c.args.page c.in-Some.place c.len-last.result (sound_from old.places h c.self.invariant) refl there
    (omega (arith, c.len-last.ensures, c.take_out.new.numbers.ok.0)) c.take_out.ensures.fewer c.take_out.ensures.pages
    c.take_bytes_out.ensures.bytes in
    subst (λ (x : Held). is_held new p ≡ (is_held x p && not (nat_eq c.args.page p))) c.self.view_is (g.pages p)
