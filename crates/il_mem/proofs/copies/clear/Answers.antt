use Rattle.std.proofs.Common.{◌≡◌, ◌+◌, ◌-◌, ◌*◌, ◌/◌, ◌%◌, ◌<◌, ℕ, refl, sym, ap, ◌∙◌, subst, arith}
use Rattle.std.specs.Prelude.{min}
use Rattle.hx_base.specs.Memory.{Memory, clear_range}
use Rattle.il_mem.specs.Kept.{Held, page_size}
use Rattle.il_mem.specs.Holds.{HoldsBytes}
use Rattle.il_mem.proofs.Pieces.{IsGone, gone_first, gone_piece, gone_page, clear_none, clear_page, clear_in_turn}
use Rattle.il_mem.proofs.copies.clear.Goals as goal
use Rattle.il_mem.proofs.copies.clear.Goals.{then-len-eq-PAGE, else-len-eq-PAGE}

pub loop-done-init : goal.loop-done-init
loop-done-init c = (omega arith, λ m holds. clear_none c.args.pages.now m c.args.at holds, gone_first c.args.pages.now c.args.at c.args.n, λ h. refl)

pub loop-done-preserved : goal.loop-done-preserved
loop-done-preserved c =
    let old = c.args.pages.now in
    let now = c.loop-done.pages in
    let new = c.if-len-eq-PAGE.pages in
    let at = c.args.at in
    let n = c.args.n in
    let done = c.loop-done.done in
    let len = c.min-len.result in
    let is : len ≡ min (n - done) (page_size - (at + done) % page_size) = c.min-len.ensures in
    let i = c.loop-done.invariant in
    let more = c.loop-done-test.true in
    let bytes : (m : Memory) → HoldsBytes old m → HoldsBytes new (clear_range m at (done + len)) = λ m holds.
    elim c.if-len-eq-PAGE.branch [
      | then-len-eq-PAGE w ↦
          let b = w.give_up.ensures.bytes (clear_range m at done) (i.1 m holds) in
          let b' = subst (λ (h : Held). HoldsBytes h
          (clear_range (clear_range m at done) (page_size * ((at + done) / page_size)) page_size)) (sym w.pages-is) b in
          clear_page new m at done n len is w.if-len-eq-PAGE.true b'
      | else-len-eq-PAGE w ↦
          let b = w.wipe.ensures.bytes (clear_range m at done) (i.1 m holds) in
          clear_in_turn new m at done len (subst (λ (h : Held). HoldsBytes h (clear_range (clear_range m at done) (at + done) len))
          (sym w.pages-is) b)
    ] in
    let gone : IsGone old new at (done + len) n =
    elim c.if-len-eq-PAGE.branch [
      | then-len-eq-PAGE w ↦
          subst (λ (h : Held). IsGone old h at (done + len) n) (sym w.pages-is)
          (gone_page old now w.give_up.new.self at done n len i.2 more is w.if-len-eq-PAGE.true w.give_up.ensures.pages)
      | else-len-eq-PAGE w ↦
          subst (λ (h : Held). IsGone old h at (done + len) n) (sym w.pages-is)
          (gone_piece old now w.wipe.new.self at done n len i.2 more is w.if-len-eq-PAGE.false w.wipe.ensures.pages)
    ] in
    let few : n < page_size → new.pages ≡ old.pages = λ small.
    elim c.if-len-eq-PAGE.branch [
      | then-len-eq-PAGE w ↦ absurd (omega (arith, is, w.if-len-eq-PAGE.true, small))
      | else-len-eq-PAGE w ↦ ap (λ (h : Held). h.pages) w.pages-is ∙ w.wipe.ensures.pages ∙ i.3 small
    ] in
    (omega (arith, is, more), bytes, gone, few)

pub returns-clause-bytes : goal.returns-clause-bytes
returns-clause-bytes c = λ m holds.
    let all : c.loop-done.done ≡ c.args.n = omega (arith, c.loop-done.invariant.0, c.loop-done-test.false) in
    subst (λ (k : ℕ). HoldsBytes c.loop-done.pages (clear_range m c.args.at k)) all (c.loop-done.invariant.1 m holds)

pub returns-clause-few : goal.returns-clause-few
returns-clause-few c = λ small. c.loop-done.invariant.3 small
