use Rattle.std.proofs.Common.{◌≡◌, ◌*◌, ◌≤◌, ℕ, length, take, sym, ◌∙◌, ap, subst, arith}
use Rattle.std.proofs.lemmas.List.{take_all}
use Rattle.il_mem.specs.Kept.{Held, page_size}
use Rattle.il_mem.proofs.PageLists.{held_same, cut_more, cut_done}
use Rattle.il_mem.proofs.pages.Pages.cut.Goals as goal

pub loop-self-init : goal.loop-self-init
loop-self-init c =
    let pages : c.self.inside.numbers.items ≡ c.args.self.now.pages = ap (λ (h : Held). h.pages) c.self.view_is in
    let all : c.self.inside.numbers.items ≡ take (length c.self.inside.numbers.items) c.args.self.now.pages =
    pages ∙ sym (take_all (length c.self.inside.numbers.items) c.args.self.now.pages (omega (arith, ap length pages))) in (
      record { entered = c.self.invariant.entered; front = all; enough = omega (arith, ap length pages, c.requires) },
      ap (λ (h : Held). h.bytes) c.self.view_is,
      ap (λ (h : Held). h.fill) c.self.view_is,
    )

pub loop-self-preserved-in-Some : goal.loop-self-preserved-in-Some
loop-self-preserved-in-Some c =
    let now = c.loop-self.self-inside.numbers in
    let more = cut_more c.loop-self.self-inside.places c.remove.new.self now.items c.pop.new.self.items c.args.self.now.pages c.in-Some.page
    c.args.count
    c.in-Some.ensures.items c.loop-self.invariant.0
    (omega (arith, now.ok.0, c.len.ensures, c.loop-self-test.true)) c.remove.ensures.updates.0 in
    (more, c.loop-self.invariant.1, c.loop-self.invariant.2)

pub invariant_of-self : goal.invariant_of-self
invariant_of-self c =
    let now = c.loop-self.self-inside in
    let pages = c.args.self.now.pages in
    let sized = subst (λ (h : Held). length h.bytes ≡ page_size * length h.pages) c.self.view_is c.self.invariant.sized in
    let few : length now.numbers.items ≤ c.args.count = omega (arith, now.numbers.ok.0, c.len.ensures, c.loop-self-test.false) in
    let done = cut_done now.places now.numbers.items pages c.args.self.now.bytes c.args.count c.loop-self.invariant.0 few c.requires
    sized in
    rw (c.truncate.ensures.items, c.loop-self.invariant.1) done.1

pub returns : goal.returns
returns c =
    let now = c.loop-self.self-inside in
    let count = c.args.count in
    let old = c.args.self.now in
    let sized = subst (λ (h : Held). length h.bytes ≡ page_size * length h.pages) c.self.view_is c.self.invariant.sized in
    let few : length now.numbers.items ≤ count = omega (arith, now.numbers.ok.0, c.len.ensures, c.loop-self-test.false) in
    let done = cut_done now.places now.numbers.items old.pages old.bytes count c.loop-self.invariant.0 few c.requires sized in
    let turned : count * 4096 ≡ page_size * count = omega arith in
    held_same now.fill old.fill now.numbers.items (take count old.pages) c.truncate.new.self.items
    (take (page_size * count) old.bytes) c.loop-self.invariant.2 done.0
    (c.truncate.ensures.items ∙ ap (take (count * 4096)) c.loop-self.invariant.1 ∙ ap (λ (n : ℕ). take n old.bytes) turned)
