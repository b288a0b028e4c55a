use Rattle.std.proofs.Common.{◌∙◌, ◌<◌, ◌≤◌, length, arith}
use Rattle.hare_const.proofs.NodeLemmas.{outcome-found, outcome-missing}
use Rattle.hare_const.proofs.kids.kid_at.Goals as goal

pub returns-in-Some : goal.returns-in-Some
returns-in-Some c =
    let within : c.args.i < length c.args.kids.now = omega (arith, c.in-Some.ensures.lookup) in
    outcome-found c.args.kids.now c.args.i c.in-Some.kid.now within c.in-Some.ensures.lookup.1

pub returns-in-None : goal.returns-in-None
returns-in-None c =
    let past : length c.args.kids.now ≤ c.args.i = omega (arith, c.in-None.ensures.lookup) in
    c.requires ∙ outcome-missing c.args.kids.now c.args.i past
