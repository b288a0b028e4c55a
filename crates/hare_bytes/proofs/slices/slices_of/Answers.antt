use Rattle.std.proofs.Common.{◌≡◌, ◌+◌, ◌-◌, length, min, subst, IfOk, arith}
use Rattle.hare_costs.specs.Amounts.{most}
use Rattle.hare_bytes.proofs.ByteLemmas.{last-slices}
use Rattle.hare_bytes.proofs.slices.slices_of.Goals as goal

pub returns-in-Some : goal.returns-in-Some
returns-in-Some c =
    let last : c.len-count.result - 1 + 1 ≡ length c.decl.inside.kids = omega arith in
    let same = last-slices c.args.s.now _ _ c.decl.inside.kids c.args.decl.now c.decl.view_is (c.len-count.result - 1) c.in-Some.value.now
    c.requires last c.in-Some.ensures.found in
    subst (λ z. IfOk c.slices_in.result (λ n. n ≡ min z most)) same c.slices_in.ensures
