use Rattle.std.proofs.Common.{◌≡◌, ◌+◌, ◌-◌, length, ◌∙◌, arith}
use Rattle.hare_typed.proofs.ParameterLemmas.{body-last}
use Rattle.hare_typed.proofs.copied.times_in_body.Goals as goal

pub returns : goal.returns
returns c =
    let last : c.len-count.result - 1 + 1 ≡ length c.f.inside.kids = omega arith in
    c.times_in.ensures ∙ body-last c.args.node _ _ c.f.inside.kids c.args.f.now (c.len-count.result - 1) c.in_ok-body.body.now c.f.view_is
    last c.in_ok-body.ensures.found
