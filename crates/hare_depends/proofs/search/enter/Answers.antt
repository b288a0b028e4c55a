use Rattle.std.proofs.Common.{refl, arith}
use Rattle.hare_depends.proofs.SearchLemmas.{enters}
use Rattle.hare_depends.proofs.search.enter.Goals as goal

pub returns : goal.returns
returns c =
    enters c.args.saids.now c.args.graph.now c.args.search _ c.args.decl (record { decl = c.args.decl; left = c.in_ok-left.left; next = 0 })
    c.requires.graph c.requires.stands c.requires.first c.requires.fresh c.in_ok-left.ensures refl refl refl refl c.in_ok-push.ensures.items
