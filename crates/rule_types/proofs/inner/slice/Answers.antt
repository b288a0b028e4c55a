use Rattle.std.proofs.Common.{ap, refl, sym, ◌∙◌, subst}
use Rattle.hare_tree.specs.Node.{head}
use Rattle.hare_tree.specs.declared.kind.Kind.TheVariants as ki
use Rattle.hare_types.proofs.LaterLemmas.{later_trans}
use Rattle.rule_types.specs.Answers.{IsOwnStop}
use Rattle.rule_types.proofs.OwnLemmas.{fault_at, slice_is, slice_unsized}
use Rattle.rule_types.proofs.inner.slice.Goals as goal

pub returns-then-not-has_size-clause-err : goal.returns-then-not-has_size-clause-err
returns-then-not-has_size-clause-err c =
    let p = c.node.inside.place in
    subst (IsOwnStop c.args.s.now c.args.t.now ki.TypeSlice) (sym c.stop.ensures)
    (slice_unsized c.args.s.now c.args.t.now c.part-u.result (fault_at 17 p) p c.part-u.ensures
    (λ f l. sym c.if-not-has_size.true ∙ c.has_size.ensures f l) refl
    (λ f. sym (ap (λ n. (head n).place) c.node.view_is)))

pub returns-clause-ok : goal.returns-clause-ok
returns-clause-ok c =
    slice_is c.entered.new.s c.args.t.now c.in_ok-made.made c.part-u.result c.part-u.ensures (c.in_ok-made.ensures.known refl)
    (λ f l. sym c.if-not-has_size.false ∙ c.has_size.ensures f (later_trans c.args.s.now c.entered.new.s f c.entered.ensures.grown.later l))
    c.in_ok-made.ensures.id
