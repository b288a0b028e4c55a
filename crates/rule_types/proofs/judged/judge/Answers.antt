use Rattle.std.proofs.Common.{ap, refl, sym, ◌∙◌, subst, rules}
use Rattle.hare_tree.specs.Node.{head}
use Rattle.rule_types.specs.Answers.{IsStoppedType}
use Rattle.rule_types.proofs.OwnLemmas.{fault_at}
use Rattle.rule_types.proofs.JudgedLemmas.{stopped, unsized, met_all, sized_in_role, no_binding}
use Rattle.hare_types.proofs.LaterLemmas.{later_here}
use Rattle.hare_types.specs.ByIds.{has_size_at}
use Rattle.rule_types.proofs.judged.judge.Goals as goal
use Rattle.rule_types.proofs.judged.judge.Goals.{else-t-via-then-t+else-not-has_size, else-t-via-else-t}

pub returns-in_err-found-clause-err : goal.returns-in_err-found-clause-err
returns-in_err-found-clause-err c = search (
  rules,
  stopped c.own_type.new.s c.args.t.now c.requires.kind c.in_err-found.field-0.0
      c.in_err-found.ensures.err,
)

pub returns-then-not-has_size-clause-err : goal.returns-then-not-has_size-clause-err
returns-then-not-has_size-clause-err c =
    let p = c.node.inside.place in
    subst (IsStoppedType c.own_type.new.s c.args.t.now) (sym c.stop.ensures)
    (unsized c.own_type.new.s c.args.t.now c.requires.kind c.in_ok-found.found c.in_ok-found.ensures.ok c.if-t.true
    (λ f l. sym c.if-not-has_size.true ∙ c.has_size.ensures f l)
    (sym c.if-not-has_size.true ∙ c.has_size.ensures c.own_type.new.s (later_here c.own_type.new.s c.own_type.ensures.grown.later.sound)) p
    (fault_at 17 p) refl
    (λ f. sym (ap (λ n. (head n).place) c.node.view_is)))

pub returns-clause-ok : goal.returns-clause-ok
returns-clause-ok c =
    met_all c.own_type.new.s c.args.t.now c.requires.kind c.in_ok-found.found c.in_ok-found.ensures.ok
    (λ f l. elim c.else-t.branch [
      | else-t-via-then-t+else-not-has_size w ↦ sized_in_role c.args.t.now.bound (has_size_at f c.in_ok-found.found)
          (sym (w.has_size.ensures f l) ∙ w.if-not-has_size.false)
      | else-t-via-else-t w ↦ no_binding c.args.t.now.bound (has_size_at f c.in_ok-found.found) w.if-t.false
    ])
