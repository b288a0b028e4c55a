use Rattle.hare_parse.proofs.MadeTrees.Made.{file_is, file_low}
use Rattle.hare_parse.proofs.file.low_parts.Goals as goal

pub returns-in_ok-parts-in-Some-clause-made : goal.returns-in_ok-parts-in-Some-clause-made
returns-in_ok-parts-in-Some-clause-made c =
    let p = c.in_ok-parts-in-Some in
    (file_is c.args.groups.now c.trees_in.result.items p.parts.uses p.parts.decls c.requires c.trees_in.ensures p.ensures.uses
    p.ensures.decls).0

pub returns-in_ok-parts-in-Some-clause-sorts : goal.returns-in_ok-parts-in-Some-clause-sorts
returns-in_ok-parts-in-Some-clause-sorts c =
    let p = c.in_ok-parts-in-Some in
    (file_is c.args.groups.now c.trees_in.result.items p.parts.uses p.parts.decls c.requires c.trees_in.ensures p.ensures.uses
    p.ensures.decls).1

pub returns-in_ok-parts-in-Some-clause-low : goal.returns-in_ok-parts-in-Some-clause-low
returns-in_ok-parts-in-Some-clause-low c =
    let p = c.in_ok-parts-in-Some in
    let made = file_is c.args.groups.now c.trees_in.result.items p.parts.uses p.parts.decls c.requires c.trees_in.ensures p.ensures.uses
    p.ensures.decls in
    file_low c.args.groups.now c.in-Some.ensures.0 p.parts.uses p.parts.decls c.in-Some.group.now c.highest.result made.0
    c.in-Some.ensures.1 c.highest.ensures c.if-highest-le-HIGHEST.true
