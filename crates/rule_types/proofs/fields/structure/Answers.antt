use Rattle.std.proofs.Common.{ℕ, List, ap, refl, sym, ◌∙◌, subst}
use Rattle.std.specs.Prelude.{Contains}
use Rattle.hare_tree.specs.Node.{head}
use Rattle.hare_tree.specs.declared.kind.Kind.TheVariants as ki
use Rattle.hare_types.proofs.LaterLemmas.{later_trans}
use Rattle.hare_rules.specs.Aggregates.{but_last, field_types, all_sized}
use Rattle.rule_types.specs.Answers.{IsOwnStop}
use Rattle.rule_types.proofs.Grows.{grown_trans}
use Rattle.rule_types.proofs.OwnLemmas.{fault_at}
use Rattle.rule_types.proofs.PartLemmas.{ids_known, ids_defined, fields_below, parts_stay, parts_defined, same_ids}
use Rattle.rule_types.proofs.FieldRows.{struct_is, struct_unsized, struct_large}
use Rattle.rule_types.proofs.fields.structure.Goals as goal

pub all_sized-requires : goal.all_sized-requires
all_sized-requires c i h =
    ids_known c.args.s.now (but_last c.args.t.now.kids.now) c.in_ok-types.types c.requires c.in_ok-types.ensures i
    (subst (λ (ts : List ℕ). Contains ts i) c.as_slice.ensures h)

pub returns-then-not-all_sized-clause-err : goal.returns-then-not-all_sized-clause-err
returns-then-not-all_sized-clause-err c =
    let p = c.node.inside.place in
    subst (IsOwnStop c.args.s.now c.args.t.now ki.TypeStruct) (sym c.stop.ensures)
    (struct_unsized c.args.s.now c.args.t.now c.in_ok-types.types c.in_ok-types.ensures (fault_at 17 p) p
    (λ f. sym (ap (λ n. (head n).place) c.node.view_is)) refl
    (λ f l. sym c.if-not-all_sized.true ∙ c.all_sized.ensures f l ∙ ap (all_sized f) c.as_slice.ensures))

pub entered-requires-clause-within : goal.entered-requires-clause-within
entered-requires-clause-within c =
    fields_below c.fields.new.s c.in_ok-list.list
    (ids_known c.fields.new.s (but_last c.args.t.now.kids.now) (field_types c.in_ok-list.list)
    (parts_stay c.args.s.now c.fields.new.s c.declarations-law.ensures.sound c.fields.ensures.grown.later (but_last c.args.t.now.kids.now)
    c.requires) c.in_ok-list.ensures.types)

pub returns-in_err-made-clause-grown : goal.returns-in_err-made-clause-grown
returns-in_err-made-clause-grown c = grown_trans c.args.s.now c.fields.new.s c.entered.new.s c.fields.ensures.grown c.entered.ensures.grown

pub returns-then-not-is_small-clause-err : goal.returns-then-not-is_small-clause-err
returns-then-not-is_small-clause-err c =
    let p = c.node.inside.place in
    let same = same_ids (but_last c.args.t.now.kids.now) c.in_ok-types.types (field_types c.in_ok-list.list) c.in_ok-types.ensures
    c.in_ok-list.ensures.types in
    subst (IsOwnStop c.entered.new.s c.args.t.now ki.TypeStruct) (sym c.stop-then-not-is_small.ensures)
    (struct_large c.entered.new.s c.args.t.now c.in_ok-made.made c.in_ok-list.list c.in_ok-list.ensures.types c.in_ok-made.ensures.id
    (λ f l. sym c.if-not-all_sized.false
    ∙ c.all_sized.ensures f (later_trans c.args.s.now c.fields.new.s f c.fields.ensures.grown.later
    (later_trans c.fields.new.s c.entered.new.s f c.entered.ensures.grown.later l))
    ∙ ap (all_sized f) (c.as_slice.ensures ∙ same))
    (fault_at 18 p) p refl (λ f. sym (ap (λ n. (head n).place) c.node.view_is))
    (λ f l. c.is_small.ensures.large c.if-not-is_small.true f l))

pub returns-clause-ok : goal.returns-clause-ok
returns-clause-ok c =
    let same = same_ids (but_last c.args.t.now.kids.now) c.in_ok-types.types (field_types c.in_ok-list.list) c.in_ok-types.ensures
    c.in_ok-list.ensures.types in
    struct_is c.entered.new.s c.args.t.now c.in_ok-made.made c.in_ok-list.list c.in_ok-list.ensures.types c.in_ok-made.ensures.id
    (λ f l. sym c.if-not-all_sized.false
    ∙ c.all_sized.ensures f (later_trans c.args.s.now c.fields.new.s f c.fields.ensures.grown.later
    (later_trans c.fields.new.s c.entered.new.s f c.entered.ensures.grown.later l))
    ∙ ap (all_sized f) (c.as_slice.ensures ∙ same))
    (c.in_ok-made.ensures.known refl) c.in_ok-made.ensures.row
    (λ f l. c.in_ok-list.ensures.value f (later_trans c.fields.new.s c.entered.new.s f c.entered.ensures.grown.later l))
    (c.is_small.ensures.small c.if-not-is_small.false)

pub returns-clause-defined : goal.returns-clause-defined
returns-clause-defined c d =
    c.in_ok-made.ensures.defined (λ n e. cc)
    (ids_defined c.fields.new.s (but_last c.args.t.now.kids.now) (field_types c.in_ok-list.list)
    (parts_defined c.args.s.now c.fields.new.s c.declarations-law.ensures.sound c.fields.ensures.grown.later
    (but_last c.args.t.now.kids.now) d) c.in_ok-list.ensures.types)

pub returns-clause-grown : goal.returns-clause-grown
returns-clause-grown c = grown_trans c.args.s.now c.fields.new.s c.entered.new.s c.fields.ensures.grown c.entered.ensures.grown
