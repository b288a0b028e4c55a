use Rattle.std.proofs.Common.{◌≡◌, ℕ, ◌+◌, ◌-◌, ◌/◌, ◌≤◌, List, [], ◌∷◌, ◌++◌, length, take, drop, replicate, Some, refl, sym, ap, ◌∙◌, subst, arith}
use Rattle.std.specs.Int.{w64, from_le_bytes}
use Rattle.hx_base.specs.Memory.{bytes_at}
use Rattle.hx_base.proofs.Memory.Ranges.{length-bytes_at}
use Rattle.il_mem.specs.Kept.{Held, place_in, page_size}
use Rattle.il_mem.specs.Holds.{HoldsBytes}
use Rattle.il_mem.proofs.PageLists.{sound_from}
use Rattle.il_mem.proofs.WindowLemmas.{ends_within, read_there, zeros, from_padded}
use Rattle.il_mem.proofs.pages.Pages.number.Goals as goal

pub overflow_add-i : goal.overflow_add-i
overflow_add-i c = record { fits = c.requires.short }

pub slice_bounds-copy_from_slice-end-2 : goal.slice_bounds-copy_from_slice-end-2
slice_bounds-copy_from_slice-end-2 c =
    let h : Held = record { fill = c.self.inside.fill; pages = c.self.inside.numbers.items; bytes = c.self.inside.bytes.items } in
    let there = subst (λ (x : Held). place_in x.pages (c.args.at / page_size) ≡ Some (c.args.i / page_size)) (sym c.self.view_is)
    c.requires.held in
    let inside : c.args.i + c.args.n ≤ length h.bytes =
    ends_within h c.args.at c.args.n c.args.i (sound_from c.self.inside.places h c.self.invariant) there c.requires.offset c.requires.within in
    let items = ap (λ (xs : List ℕ). length xs) c.deref.ensures.value in
    omega (arith, inside, items)

pub returns : goal.returns
returns c = λ m holds.
    let h : Held = record { fill = c.self.inside.fill; pages = c.self.inside.numbers.items; bytes = c.self.inside.bytes.items } in
    let there = subst (λ (x : Held). place_in x.pages (c.args.at / page_size) ≡ Some (c.args.i / page_size)) (sym c.self.view_is)
    c.requires.held in
    let n = c.args.n in
    let size : c.args.i + n - c.args.i ≡ n = omega arith in
    let part : c.copy_from_slice.new.self ≡ bytes_at m c.args.at n =
    (rw (size, c.deref.ensures.value) at c.copy_from_slice.ensures.after)
    ∙ read_there h m c.args.at n c.args.i (sound_from c.self.inside.places h c.self.invariant)
    (subst (λ (x : Held). HoldsBytes x m) (sym c.self.view_is) holds) there c.requires.offset c.requires.within in
    let all : c.from_le_bytes.result ≡ from_le_bytes w64 (c.copy_from_slice.new.self ++ drop n zeros) = c.from_le_bytes.ensures in
    all ∙ ap (λ (xs : List ℕ). from_le_bytes w64 (xs ++ drop n zeros)) part
    ∙ from_padded (bytes_at m c.args.at n) n (length-bytes_at m c.args.at n) c.requires.width
