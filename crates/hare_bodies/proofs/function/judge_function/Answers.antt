use Rattle.std.proofs.Common.{◌≡◌}
use Rattle.hare_modules.specs.Uses.{kid}
use Rattle.hare_modules.proofs.Trees.{kid-there}
use Rattle.hare_bodies.proofs.BodyLemmas.{body-shaped, trees-of, stops-of}
use Rattle.hare_bodies.proofs.function.judge_function.Goals as goal

pub check_body-requires-clause-shaped : goal.check_body-requires-clause-shaped
check_body-requires-clause-shaped c =
    body-shaped _ _ c.args.decl.now c.in-Some.body.now c.decl.view_is c.requires.kind c.requires.shaped c.in-Some.ensures.found

pub returns-clause-ok : goal.returns-clause-ok
returns-clause-ok c =
    let t = c.args.decl.now in
    let b = c.in-Some.body.now in
    let is : b ≡ kid t 4 = kid-there _ _ t b 4 c.decl.view_is c.in-Some.ensures.found in
    trees-of c.args.names.now c.args.known.now c.check_body.new.s c.args.number t b is c.check_body.ensures.sound c.check_body.result
    c.check_body.ensures.ok

pub returns-clause-err : goal.returns-clause-err
returns-clause-err c =
    let t = c.args.decl.now in
    let b = c.in-Some.body.now in
    let is : b ≡ kid t 4 = kid-there _ _ t b 4 c.decl.view_is c.in-Some.ensures.found in
    stops-of c.args.names.now c.args.known.now c.check_body.new.s c.args.number t b is c.check_body.result c.check_body.ensures.err
