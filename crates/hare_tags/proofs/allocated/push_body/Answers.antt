use Rattle.std.proofs.Common.{◌≡◌, ◌+◌, ◌-◌, ◌++◌, length, subst, OnOk, arith, sym, ◌∙◌}
use Rattle.hare_tags.proofs.TreeLemmas.{other-body, no-body, last-body}
use Rattle.hare_tags.proofs.allocated.push_body.Goals as goal

pub returns-then-not-is_function : goal.returns-then-not-is_function
returns-then-not-is_function c =
    other-body c.args.s.now _ _ c.decl.inside.kids c.args.decl.now c.decl.view_is _ (sym c.is_function.ensures ∙ c.if-not-is_function.true)

pub returns-then-count-eq0 : goal.returns-then-count-eq0
returns-then-count-eq0 c =
    no-body c.args.s.now _ _ c.decl.inside.kids c.args.decl.now c.decl.view_is (sym c.is_function.ensures ∙ c.if-not-is_function.false) _
    (sym c.len-count.ensures ∙ c.if-count-eq0.true)

pub returns-in-Some : goal.returns-in-Some
returns-in-Some c =
    let last : c.len-count.result - 1 + 1 ≡ length c.decl.inside.kids = omega arith in
    let same = last-body c.args.s.now _ _ c.decl.inside.kids c.args.decl.now c.decl.view_is (sym c.is_function.ensures
    ∙ c.if-not-is_function.false)
    (c.len-count.result - 1) c.in-Some.body.now last c.in-Some.ensures.found in
    subst (λ z. OnOk c.push_allocated.result (c.push_allocated.new.types.items ≡ c.args.types.now.items ++ z)) same c.push_allocated.ensures

pub returns-in-None : goal.returns-in-None
returns-in-None c = absurd (omega (arith, c.in-None.ensures.none))
