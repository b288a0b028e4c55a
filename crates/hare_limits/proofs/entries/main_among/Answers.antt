use Rattle.std.proofs.Common.{◌≤◌, length, map, sym, ◌∙◌, arith}
use Rattle.std.proofs.lemmas.List.{length-map}
use Rattle.hare_typed.specs.Erased.{erase}
use Rattle.hare_limits.specs.Homes.{is_main_by}
use Rattle.hare_limits.proofs.EntryFound.Kids.{erased-there}
use Rattle.hare_limits.proofs.EntryFound.First.{none-more, position-here, position-nowhere, below-mapped}
use Rattle.hare_limits.proofs.entries.main_among.Goals as goal

pub returns-then-is_main : goal.returns-then-is_main
returns-then-is_main c =
    let p = is_main_by c.args.homes.now.first.items c.args.homes.now.kept.items in
    position-here p (map erase c.args.decls.now) c.loop-i.i (erase c.in-Some.decl.now)
    (below-mapped erase p c.args.decls.now c.loop-i.i c.loop-i.invariant)
    (erased-there c.args.decls.now c.loop-i.i c.in-Some.decl.now c.in-Some.ensures.found)
    (sym c.is_main.ensures ∙ c.if-is_main.true)

pub loop-i-preserved : goal.loop-i-preserved
loop-i-preserved c =
    none-more (λ t. is_main_by c.args.homes.now.first.items c.args.homes.now.kept.items (erase t)) c.args.decls.now c.loop-i.i
    c.in-Some.decl.now c.in-Some.ensures.found
    (sym c.is_main.ensures ∙ c.if-is_main.false) c.loop-i.invariant

pub returns : goal.returns
returns c =
    let p = is_main_by c.args.homes.now.first.items c.args.homes.now.kept.items in
    let past : length (map erase c.args.decls.now) ≤ c.loop-i.i = omega (arith, length-map c.args.decls.now erase) in
    position-nowhere p (map erase c.args.decls.now) c.loop-i.i past (below-mapped erase p c.args.decls.now c.loop-i.i c.loop-i.invariant)
