use Rattle.std.proofs.Common.{◌≡◌, length}
use Rattle.il_mem.proofs.PageGrowth.{Growing}
use Rattle.il_mem.proofs.pages.Pages.hold.Given as goal

-- the pages so far are held
abbrev pub invariant-loop-page : goal.invariant-loop-page
invariant-loop-page l = Growing l.fn.self l.self l.before l.first l.page × (l.before ≡ length l.fn.self.pages)
