use Rattle.std.proofs.Common.{subst}
use Rattle.il_mem.specs.Kept.{Held, AreDistinct}
use Rattle.il_mem.proofs.PageLists.{distinct_from}
use Rattle.il_mem.proofs.pages.Pages.len.Goals as goal

pub returns-clause-once : goal.returns-clause-once
returns-clause-once c =
    subst (λ (x : Held). AreDistinct x.pages) c.self.view_is
    (distinct_from c.self.inside.places c.self.inside.numbers.items c.self.invariant.entered)
