use Rattle.std.proofs.Common.{not, ap, ◌∙◌}
use Rattle.hare_rules.specs.Control.{block_meant}
use Rattle.hare_find.proofs.YieldsSeen.Meant.{meant-told, inside-some, inside-none, or-left, or-right}
use Rattle.hare_find.proofs.looked.means_inside.Goals as goal

pub returns-then-not-inside : goal.returns-then-not-inside
returns-then-not-inside c i e d =
    let q = c.args.inside.now in
    let name = c.args.name.now in
    let told = meant-told name _ q.labels i.labels c.in-Some.ensures e in
    or-left (not q.deferred) c.in-Some.l.now.deferred (ap not c.if-not-inside.true)
    ∙ inside-some i q.deferred c.in-Some.l.now (block_meant name i.labels) told d

pub returns-else-not-inside : goal.returns-else-not-inside
returns-else-not-inside c i e d =
    let q = c.args.inside.now in
    let name = c.args.name.now in
    let told = meant-told name _ q.labels i.labels c.in-Some.ensures e in
    or-right (not q.deferred) c.in-Some.l.now.deferred (ap not c.if-not-inside.false)
    ∙ inside-some i q.deferred c.in-Some.l.now (block_meant name i.labels) told d

pub returns-in-None : goal.returns-in-None
returns-in-None c i e d =
    let name = c.args.name.now in
    inside-none i (block_meant name i.labels) (meant-told name _ c.args.inside.now.labels i.labels c.in-None.ensures e)
