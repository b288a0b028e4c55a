use Rattle.std.proofs.Common.{ap, sym, ◌∙◌, subst}
use Rattle.hare_tree.specs.declared.place.Place.{Place}
use Rattle.hare_tree.specs.Node.{Node, head}
use Rattle.hare_rules.specs.Context.{store_of}
use Rattle.hare_rules.specs.Judged.{IsRefusal}
use Rattle.hare_find.proofs.YieldsSeen.Meant.{there_valued, there_taken, void_refused}
use Rattle.hare_find.proofs.looked.look_at_yield.Goals as goal

pub returns-then-not-gives_void-clause-value : goal.returns-then-not-gives_void-clause-value
returns-then-not-gives_void-clause-value c d l y m =
    let i = c.args.hint.now in
    let q = c.args.case.now in
    there_valued d q (head c.args.node.now) c.args.kids.now i y m (sym (c.gives_void.ensures d i y) ∙ c.if-not-gives_void.true)

pub returns-then-not-gives_void-clause-taken : goal.returns-then-not-gives_void-clause-taken
returns-then-not-gives_void-clause-taken c d y m =
    let i = c.args.hint.now in
    let q = c.args.case.now in
    there_taken c.args.s.now d q (head c.args.node.now) c.args.kids.now i y m (sym (c.gives_void.ensures d i y) ∙ c.if-not-gives_void.true)

pub returns-clause-err : goal.returns-clause-err
returns-clause-err c d l y =
    let i = c.args.hint.now in
    let h = head c.args.node.now in
    let gives = sym (c.gives_void.ensures d i y) ∙ c.if-not-gives_void.false in
    let lacks = sym (c.in_ok-takes_void.ensures.value (store_of d) l) ∙ c.if-branch.false in
    let place = ap (λ (t : Node). (head t).place) c.node.view_is in
    let refused = void_refused d c.args.case.now h c.args.kids.now i y gives lacks in
    rw c.number.ensures.value (subst (λ (p : Place). IsRefusal d (record { number = 25; place = p })) (sym place) refused)
