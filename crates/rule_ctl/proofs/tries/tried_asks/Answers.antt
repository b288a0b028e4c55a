use Rattle.std.proofs.Common.{ap, sym, ◌∙◌}
use Rattle.std.proofs.lemmas.Result.{IfOk-weaker}
use Rattle.hare_typed.specs.Erased.{erase}
use Rattle.hare_typed.specs.Order.{tree_from_front}
use Rattle.hare_rules.specs.Above.{allocates}
use Rattle.rule_judge.specs.Settings.{setting_of}
use Rattle.rule_judge.proofs.KidLemmas.{front_found, front_past}
use Rattle.rule_ctl.proofs.TryLemmas.{allocation_asked, other_unasked}
use Rattle.rule_ctl.proofs.tries.tried_asks.Goals as goal

pub returns-then-allocates-clause-tried : goal.returns-then-allocates-clause-tried
returns-then-allocates-clause-tried c =
    let xs = c.args.t.now.kids.now in
    let same = front_found xs c.args.i c.in-Some.kid.now c.in-Some.ensures.found in
    IfOk-weaker c.asks_refusable.result _ _
    (λ b h f l.
    h f l
    ∙ allocation_asked (setting_of f c.args.t.now.decls.now) c.args.t.now.case.now.hint (erase (tree_from_front c.args.i xs))
    (sym (ap (λ x. allocates (erase x)) same) ∙ sym c.allocates.ensures ∙ c.if-allocates.true))
    c.asks_refusable.ensures.value

pub returns-then-allocates-clause-forced : goal.returns-then-allocates-clause-forced
returns-then-allocates-clause-forced c =
    let xs = c.args.t.now.kids.now in
    let same = front_found xs c.args.i c.in-Some.kid.now c.in-Some.ensures.found in
    IfOk-weaker c.asks_refusable.result _ _
    (λ b h f l.
    h f l
    ∙ allocation_asked (setting_of f c.args.t.now.decls.now) c.args.t.now.case.now.hint (erase (tree_from_front c.args.i xs))
    (sym (ap (λ x. allocates (erase x)) same) ∙ sym c.allocates.ensures ∙ c.if-allocates.true))
    c.asks_refusable.ensures.value

pub returns-else-allocates-clause-tried : goal.returns-else-allocates-clause-tried
returns-else-allocates-clause-tried c f l =
    let xs = c.args.t.now.kids.now in
    let same = front_found xs c.args.i c.in-Some.kid.now c.in-Some.ensures.found in
    other_unasked (setting_of f c.args.t.now.decls.now) c.args.t.now.case.now.hint (erase (tree_from_front c.args.i xs))
    (sym (ap (λ x. allocates (erase x)) same) ∙ sym c.allocates.ensures ∙ c.if-allocates.false)

pub returns-else-allocates-clause-forced : goal.returns-else-allocates-clause-forced
returns-else-allocates-clause-forced c f l =
    let xs = c.args.t.now.kids.now in
    let same = front_found xs c.args.i c.in-Some.kid.now c.in-Some.ensures.found in
    other_unasked (setting_of f c.args.t.now.decls.now) c.args.t.now.case.now.hint (erase (tree_from_front c.args.i xs))
    (sym (ap (λ x. allocates (erase x)) same) ∙ sym c.allocates.ensures ∙ c.if-allocates.false)

pub returns-in-None-clause-tried : goal.returns-in-None-clause-tried
returns-in-None-clause-tried c f l =
    let xs = c.args.t.now.kids.now in
    other_unasked (setting_of f c.args.t.now.decls.now) c.args.t.now.case.now.hint (erase (tree_from_front c.args.i xs))
    (sym (ap (λ x. allocates (erase x)) (front_past xs c.args.i c.in-None.ensures.none)))

pub returns-in-None-clause-forced : goal.returns-in-None-clause-forced
returns-in-None-clause-forced c f l =
    let xs = c.args.t.now.kids.now in
    other_unasked (setting_of f c.args.t.now.decls.now) c.args.t.now.case.now.hint (erase (tree_from_front c.args.i xs))
    (sym (ap (λ x. allocates (erase x)) (front_past xs c.args.i c.in-None.ensures.none)))
