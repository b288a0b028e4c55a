use Rattle.std.proofs.Common.{◌≡◌, ◌∙◌, ℕ, List, Some, sym, subst}
use Rattle.il_mem.specs.Kept.{Held}
use Rattle.il_mem.specs.Holds.{HoldsBytes}
use Rattle.il_mem.proofs.PageLists.{sound_from}
use Rattle.std.proofs.lemmas.List.{with_items_is}
use Rattle.hx_base.specs.Memory.{write}
use Rattle.il_mem.proofs.PageWrites.{BeginsAt, put_done}
use Rattle.il_mem.proofs.pages.Pages.put.Goals as goal

pub returns-clause-bytes : goal.returns-clause-bytes
returns-clause-bytes c = λ m holds.
    let h : Held = record { fill = c.self.inside.fill; pages = c.self.inside.numbers.items; bytes = c.self.inside.bytes.items } in
    let back : c.args.self.now ≡ h = sym c.self.view_is in
    let begins = subst (λ (x : Held). BeginsAt x c.args.at (Some c.in-Some.begin)) back c.in-Some.ensures.value in
    let size = c.put_part.auto.bytes ∙ c.as_mut_slice.ensures.len in
    let same = with_items_is c.self.inside.bytes c.put_part.new.bytes size in
    let put = put_done h m c.args.at c.in-Some.begin c.args.part.now c.put_part.new.bytes
    (sound_from c.self.inside.places h c.self.invariant)
    (subst (λ (x : Held). HoldsBytes x m) back holds) begins c.requires.within
    (rw c.as_mut_slice.ensures.value at c.put_part.ensures) in
    subst (λ (b : List ℕ). HoldsBytes (record { fill = h.fill; pages = h.pages; bytes = b }) (write m c.args.at c.args.part.now))
    (sym same) put
