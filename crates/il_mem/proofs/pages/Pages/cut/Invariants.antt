use Rattle.std.proofs.Common.{◌≡◌, vec_len}
use Rattle.il_mem.proofs.PageLists.{Cut}
use Rattle.il_mem.proofs.pages.Pages.cut.Given as goal

-- the pages that are left are the first, and their places are entered
abbrev pub invariant-loop-self : goal.invariant-loop-self
invariant-loop-self l =
    Cut l.self-inside.places l.self-inside.numbers.items l.fn.self.pages l.count
    × (l.self-inside.bytes.items ≡ l.fn.self.bytes)
    × (l.self-inside.fill ≡ l.fn.self.fill)

abbrev pub decreases-loop-self : goal.decreases-loop-self
decreases-loop-self l = vec_len l.self-inside.numbers
