use Rattle.std.proofs.Common.{◌∙◌, ap, ◌<◌, ◌-◌, ◌++◌, drop, arith}
use Rattle.hare_typed.specs.Repeats.{again}
use Rattle.hare_const.proofs.UnionLemmas.{more_undefined}
use Rattle.hare_const.proofs.unions.with_undefined.Goals as goal

pub returns : goal.returns
returns c =
    let one = c.push.new.self in
    let n = c.args.count in
    let some : 0 < n = omega arith in
    c.in_ok-repeat.ensures.ok
    ∙ ap (λ k. one ++ again (n - 1) (drop k one)) c.len-from.ensures
    ∙ more_undefined c.args.cells one n some c.in_ok-push.ensures.ok
