use Rattle.std.proofs.Common.{◌≡◌, ◌∙◌, ◌+◌, ◌-◌, ◌%◌, ap, arith, replicate, Some, length, sym, subst}
use Rattle.il_mem.specs.Kept.{Held}
use Rattle.il_mem.specs.Holds.{HoldsBytes}
use Rattle.il_mem.proofs.PageLists.{sound_from}
use Rattle.il_mem.proofs.PageWrites.{BeginsAt, read_done, read_none}
use Rattle.il_mem.proofs.pages.Pages.get.Goals as goal

pub returns-in-Some : goal.returns-in-Some
returns-in-Some c = λ m holds.
    let h : Held = record { fill = c.self.inside.fill; pages = c.self.inside.numbers.items; bytes = c.self.inside.bytes.items } in
    let back : c.args.self.now ≡ h = sym c.self.view_is in
    let begins = subst (λ (x : Held). BeginsAt x c.args.at (Some c.in-Some.begin)) back c.in-Some.ensures.value in
    let r = read_done h m c.args.at c.in-Some.begin (length c.args.part.now) (sound_from c.self.inside.places h c.self.invariant)
    (subst (λ (x : Held). HoldsBytes x m) back holds) begins c.requires in
    let n = length c.args.part.now in
    let from = c.in-Some.begin + c.args.at % 4096 in
    let size : from + n - from ≡ n = omega arith in
    (rw (size, c.deref.ensures.value) at c.copy_from_slice.ensures.after) ∙ r

pub returns-in-None : goal.returns-in-None
returns-in-None c = λ m holds.
    let r = read_none c.args.self.now m c.args.at (length c.args.part.now) holds c.in-None.ensures.value c.requires in
    let same : c.self.inside.fill ≡ c.args.self.now.fill = ap (λ (x : Held). x.fill) c.self.view_is in
    c.fill.ensures.after (λ y e. e) ∙ ap (replicate (length c.args.part.now)) same ∙ r
