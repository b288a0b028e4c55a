use Rattle.std.proofs.Common.{◌≡◌, ℕ, ◌+◌, ◌/◌, ◌≤◌, List, length, take, Some, sym, ap, ◌∙◌, subst, arith}
use Rattle.std.proofs.lemmas.List.{with_items_is}
use Rattle.hx_base.specs.Memory.{le_bytes, write}
use Rattle.hx_base.proofs.Memory.Numbers.{length-le_bytes}
use Rattle.il_mem.specs.Kept.{Held, place_in, page_size}
use Rattle.il_mem.specs.Holds.{HoldsBytes}
use Rattle.il_mem.proofs.Calls.{low_bytes}
use Rattle.il_mem.proofs.PageLists.{sound_from}
use Rattle.il_mem.proofs.WindowLemmas.{ends_within, put_there}
use Rattle.il_mem.proofs.pages.Pages.put_number.Goals as goal

pub put_part-requires : goal.put_part-requires
put_part-requires c =
    let h : Held = record { fill = c.self.inside.fill; pages = c.self.inside.numbers.items; bytes = c.self.inside.bytes.items } in
    let there = subst (λ (x : Held). place_in x.pages (c.args.at / page_size) ≡ Some (c.args.i / page_size)) (sym c.self.view_is)
    c.requires.held in
    let inside : c.args.i + c.args.n ≤ length h.bytes =
    ends_within h c.args.at c.args.n c.args.i (sound_from c.self.inside.places h c.self.invariant) there c.requires.offset c.requires.within in
    let bytes : take c.args.n c.to_le_bytes-eight.result ≡ le_bytes c.args.n c.args.v =
    rw c.to_le_bytes-eight.ensures (low_bytes c.args.n c.args.v c.requires.width) in
    let size : length (take c.args.n c.to_le_bytes-eight.result) ≡ c.args.n = ap (λ (xs : List ℕ). length xs) bytes
    ∙ length-le_bytes c.args.n c.args.v in
    let items = ap (λ (xs : List ℕ). length xs) c.as_mut_slice.ensures.value in
    omega (arith, inside, items, size)

pub returns-clause-bytes : goal.returns-clause-bytes
returns-clause-bytes c = λ m holds.
    let h : Held = record { fill = c.self.inside.fill; pages = c.self.inside.numbers.items; bytes = c.self.inside.bytes.items } in
    let there = subst (λ (x : Held). place_in x.pages (c.args.at / page_size) ≡ Some (c.args.i / page_size)) (sym c.self.view_is)
    c.requires.held in
    let bytes : take c.args.n c.to_le_bytes-eight.result ≡ le_bytes c.args.n c.args.v =
    rw c.to_le_bytes-eight.ensures (low_bytes c.args.n c.args.v c.requires.width) in
    let size' = c.put_part.auto.bytes ∙ c.as_mut_slice.ensures.len in
    let same = with_items_is c.self.inside.bytes c.put_part.new.bytes size' in
    let size : length (take c.args.n c.to_le_bytes-eight.result) ≡ c.args.n = ap (λ (xs : List ℕ). length xs) bytes
    ∙ length-le_bytes c.args.n c.args.v in
    let put = put_there h m c.args.at c.args.n c.args.i (sound_from c.self.inside.places h c.self.invariant)
    (subst (λ (x : Held). HoldsBytes x m) (sym c.self.view_is) holds) there c.requires.offset c.requires.within
    (take c.args.n c.to_le_bytes-eight.result) c.put_part.new.bytes size (rw c.as_mut_slice.ensures.value at c.put_part.ensures) in
    subst (λ (b : List ℕ). HoldsBytes (record { fill = h.fill; pages = h.pages; bytes = b }) (write m c.args.at (le_bytes c.args.n c.args.v)))
    (sym same)
    (subst (λ (bs : List ℕ). HoldsBytes (record { fill = h.fill; pages = h.pages; bytes = c.put_part.new.bytes }) (write m c.args.at bs))
    bytes put)
