use Rattle.std.proofs.Common.{◌≡◌, ◌∙◌, ℕ, List, Some, sym, subst}
use Rattle.il_mem.specs.Kept.{Held}
use Rattle.il_mem.specs.Holds.{HoldsBytes}
use Rattle.il_mem.proofs.PageLists.{sound_from}
use Rattle.std.proofs.lemmas.List.{with_items_is}
use Rattle.hx_base.specs.Memory.{clear_range}
use Rattle.il_mem.proofs.PageWrites.{BeginsAt, wipe_done, wipe_none}
use Rattle.il_mem.proofs.pages.Pages.wipe.Goals as goal

pub returns-in-Some-clause-bytes : goal.returns-in-Some-clause-bytes
returns-in-Some-clause-bytes c = λ m holds.
    let h : Held = record { fill = c.self.inside.fill; pages = c.self.inside.numbers.items; bytes = c.self.inside.bytes.items } in
    let back : c.args.self.now ≡ h = sym c.self.view_is in
    let begins = subst (λ (x : Held). BeginsAt x c.args.at (Some c.in-Some.begin)) back c.in-Some.ensures.value in
    let size = c.fill_part.auto.bytes ∙ c.as_mut_slice.ensures.len in
    let same = with_items_is c.self.inside.bytes c.fill_part.new.bytes size in
    let wiped = wipe_done h m c.args.at c.in-Some.begin c.args.n c.fill_part.new.bytes (sound_from c.self.inside.places h c.self.invariant)
    (subst (λ (x : Held). HoldsBytes x m) back holds) begins c.requires (rw c.as_mut_slice.ensures.value at c.fill_part.ensures) in
    subst (λ (b : List ℕ). HoldsBytes (record { fill = h.fill; pages = h.pages; bytes = b }) (clear_range m c.args.at c.args.n))
    (sym same) wiped

pub returns-in_default-clause-bytes : goal.returns-in_default-clause-bytes
returns-in_default-clause-bytes c =
    λ m holds. wipe_none c.args.self.now m c.args.at c.args.n holds (sym c.in_default.is ∙ c.begin.ensures.value) c.requires
