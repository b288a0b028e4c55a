use Rattle.std.proofs.Common.{◌≡◌, arith}
use Rattle.std.proofs.lemmas.Int.{ints}
use Rattle.hare_const.specs.Numbers.{number_of}
use Rattle.hare_const.proofs.CoverLemmas.{pass_tells}
use Rattle.hare_const.proofs.cover.covers.Goals as goal
use mir.Val.{to_z, of_z}
use mir.Syntax.{w128}

pub returns : goal.returns
returns c =
    let e : to_z w128 (of_z w128 c.in-Some.limits.greatest) ≡ c.in-Some.limits.greatest = omega (arith, ints) in
    rw e (pass_tells (number_of c.args.s.now c.args.t) c.args.cases.now c.as_slice-case-items.result.now c.loop-case.case-index _
    c.in-Some.limits.least c.in-Some.limits.greatest (to_z w128 c.loop-case.open-bits) c.in-Some.ensures.value c.requires
    c.loop-case-test.false
    c.loop-case.invariant.passed)
