use Rattle.std.proofs.Common.{◌≡◌, ℕ, ◌&&◌, ◌||◌, length, sym, ◌∙◌, ap, subst, arith}
use Rattle.std.specs.Prelude.{nat_le, nat_lt}
use Rattle.il_mem.specs.Kept.{Held, is_held}
use Rattle.il_mem.proofs.PageLists.{sound_from, IsSound}
use Rattle.il_mem.proofs.PageGrowth.{Growing, grows_first, grows_next}
use Rattle.il_mem.proofs.WindowLemmas.{place_stays}
use Rattle.il_mem.proofs.pages.Pages.hold.Goals as goal

pub loop-page-init : goal.loop-page-init
loop-page-init c =
    let now = c.args.self.now in
    let sound = subst IsSound c.self.view_is (sound_from c.self.inside.places _ c.self.invariant) in
    let size : c.len-before.result ≡ length now.pages =
    omega (arith, c.len-before.ensures, c.self.inside.numbers.ok.0, ap (λ (h : Held). length h.pages) c.self.view_is) in
    (subst (λ (n : ℕ). Growing now now n c.args.first c.args.first) (sym size) (grows_first now c.args.first sound), size)

pub loop-page-preserved : goal.loop-page-preserved
loop-page-preserved c =
    let i = c.loop-page.invariant in
    let e = c.in_default.ensures in (
      grows_next c.args.self.now c.loop-page.self c.make.new.self c.len-before.result c.args.first c.loop-page.page i.0
          c.loop-page.auto.page
          e.made (λ h. (e.held h).1),
      i.1,
    )

pub returns-clause-pages : goal.returns-clause-pages
returns-clause-pages c =
    let last : c.loop-page.page ≡ c.args.end = omega (arith, c.loop-page-test.false, c.requires, c.loop-page.auto) in
    λ p. c.loop-page.invariant.0.held p ∙ ap (λ (n : ℕ). is_held c.args.self.now p || (nat_le c.args.first p && nat_lt p n)) last

pub returns-clause-stay : goal.returns-clause-stay
returns-clause-stay c = λ p k e.
    place_stays c.args.self.now.pages c.loop-page.self.pages c.len-before.result p k c.loop-page.invariant.0.pages e
