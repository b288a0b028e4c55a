use Rattle.std.proofs.Common.{ap, refl, sym, ◌∙◌, subst}
use Rattle.hare_tree.specs.Node.{head}
use Rattle.hare_tree.specs.declared.kind.Kind.TheVariants as ki
use Rattle.hare_types.proofs.LaterLemmas.{later_trans}
use Rattle.rule_types.specs.Answers.{IsOwnStop}
use Rattle.rule_types.proofs.OwnLemmas.{fault_at}
use Rattle.rule_types.proofs.ArrayRows.{no_count, no_length, element_unsized, array_large, array_is}
use Rattle.rule_types.proofs.arrays.array.Goals as goal

pub returns-in_default-clause-err : goal.returns-in_default-clause-err
returns-in_default-clause-err c =
    subst (IsOwnStop c.args.s.now c.args.t.now ki.TypeArray) (sym c.stop.ensures)
    (no_length c.args.s.now c.args.t.now (fault_at 24 c.first_place.result) c.first_place.result refl (λ f. sym c.first_place.ensures)
    (λ f l. no_count c.length.result c.in_default.not-Some ∙ c.length.ensures f l))

pub returns-then-not-has_size-clause-err : goal.returns-then-not-has_size-clause-err
returns-then-not-has_size-clause-err c =
    let p = c.node.inside.place in
    subst (IsOwnStop c.args.s.now c.args.t.now ki.TypeArray) (sym c.stop-then-not-has_size.ensures)
    (element_unsized c.args.s.now c.args.t.now c.in-Some.count c.part-u.result (λ f l. sym c.in-Some.is ∙ c.length.ensures f l)
    c.part-u.ensures (fault_at 17 p) p refl
    (λ f. sym (ap (λ n. (head n).place) c.node.view_is)) (λ f l. sym c.if-not-has_size.true ∙ c.has_size.ensures f l))

pub returns-then-not-is_small-clause-err : goal.returns-then-not-is_small-clause-err
returns-then-not-is_small-clause-err c =
    let p = c.node.inside.place in
    subst (IsOwnStop c.entered.new.s c.args.t.now ki.TypeArray) (sym c.stop-then-not-is_small.ensures)
    (array_large c.entered.new.s c.args.t.now c.in-Some.count c.part-u.result
    (λ f l. sym c.in-Some.is ∙ c.length.ensures f (later_trans c.args.s.now c.entered.new.s f c.entered.ensures.grown.later l))
    c.part-u.ensures c.in_ok-made.made c.in_ok-made.ensures.id
    (λ f l. sym c.if-not-has_size.false ∙ c.has_size.ensures f (later_trans c.args.s.now c.entered.new.s f c.entered.ensures.grown.later l))
    (fault_at 18 p) p refl (λ f. sym (ap (λ n. (head n).place) c.node.view_is))
    (λ f l. c.is_small.ensures.large c.if-not-is_small.true f l))

pub returns-clause-ok : goal.returns-clause-ok
returns-clause-ok c =
    array_is c.entered.new.s c.args.t.now c.in-Some.count c.part-u.result
    (λ f l. sym c.in-Some.is ∙ c.length.ensures f (later_trans c.args.s.now c.entered.new.s f c.entered.ensures.grown.later l))
    c.part-u.ensures c.in_ok-made.made c.in_ok-made.ensures.id
    (λ f l. sym c.if-not-has_size.false ∙ c.has_size.ensures f (later_trans c.args.s.now c.entered.new.s f c.entered.ensures.grown.later l))
    (c.in_ok-made.ensures.known refl) c.in_ok-made.ensures.row (c.is_small.ensures.small c.if-not-is_small.false)
