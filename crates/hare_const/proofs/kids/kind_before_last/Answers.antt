use Rattle.std.proofs.Common.{◌∙◌, sym, ap, ◌≤◌, length, arith}
use Rattle.hare_typed.specs.Constants.{own_kind}
use Rattle.hare_const.proofs.NodeLemmas.{kid-from-end, kid-before-first}
use Rattle.hare_const.proofs.kids.kind_before_last.Goals as goal

pub returns-then-count-lt2 : goal.returns-then-count-lt2
returns-then-count-lt2 c =
    let few : length c.t.inside.kids ≤ 1 = omega arith in
    sym (ap own_kind (kid-before-first c.args.t.now _ _ c.t.inside.kids 1 c.t.view_is few))

pub returns-in-Some : goal.returns-in-Some
returns-in-Some c =
    ap own_kind c.kid.view_is
    ∙ sym (ap own_kind (kid-from-end c.args.t.now c.in-Some.kid.now _ _ c.t.inside.kids _ 1 c.t.view_is c.in-Some.ensures.found
    (omega arith)))

pub returns-in-None : goal.returns-in-None
returns-in-None c = let none = c.in-None.ensures.none in absurd (omega arith)
