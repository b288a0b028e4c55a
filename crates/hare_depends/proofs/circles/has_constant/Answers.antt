use Rattle.std.proofs.Common.{◌↔◌, IsTrue, subst}
use Rattle.hare_depends.specs.Edges.{HasLabelled}
use Rattle.hare_depends.proofs.FindLemmas.{constants-common}
use Rattle.hare_depends.proofs.circles.has_constant.Goals as goal

pub returns : goal.returns
returns c =
    let r = c.has_common_constant.result in
    let ds = c.args.saids.now in
    let ahead = c.in_ok-ahead.ahead.items in
    constants-common ds c.args.forward.now c.args.backward.now c.args.decl ahead c.in_ok-behind.behind.items r
    c.in_ok-ahead.ensures c.in_ok-behind.ensures c.requires.reverse c.requires.back
    (subst (λ ks. IsTrue r ↔ HasLabelled ds ahead ks) c.deref-2.ensures.value
    (subst (λ ls. IsTrue r ↔ HasLabelled ds ls c.deref-2.result.now) c.deref.ensures.value c.has_common_constant.ensures))
