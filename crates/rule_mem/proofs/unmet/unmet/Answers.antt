use Rattle.std.proofs.Common.{Bool, cond, Some, None, ap, ap₂, sym, ◌∙◌, is_some}
use Rattle.hare_tree.specs.Node.{head}
use Rattle.hare_tree.specs.declared.place.Place.{Place}
use Rattle.hare_types.specs.Store.{Store}
use Rattle.hare_rules.specs.Aggregates.{hinted_element}
use Rattle.hare_rules.specs.Rows.{holds}
use Rattle.hare_rules.specs.declared.row_id.RowId.{RowId}
use Rattle.hare_rules.specs.declared.row_id.RowId.TheVariants as row
use Rattle.rule_judge.specs.Asked.{unmet}
use Rattle.rule_judge.specs.Turns.{context_in}
use Rattle.rule_mem.proofs.UnmetLemmas.{told_place, item_place}
use Rattle.rule_mem.proofs.unmet.unmet.Goals as goal

pub returns-in-IndexIndexable-clause-value : goal.returns-in-IndexIndexable-clause-value
returns-in-IndexIndexable-clause-value c f l =
    c.unless-in-IndexIndexable.ensures
    ∙ ap₂ (λ (b : Bool) (p : Place). cond b None (Some p)) (c.is_indexable.ensures.index f l) (ap (λ n. (head n).place) c.node.view_is)
    ∙ sym (ap (λ (r : RowId). unmet r (context_in f c.args.t.now)) c.in-IndexIndexable.is)

pub returns-in-SliceIndexable-clause-value : goal.returns-in-SliceIndexable-clause-value
returns-in-SliceIndexable-clause-value c f l =
    c.unless-in-SliceIndexable.ensures
    ∙ ap₂ (λ (b : Bool) (p : Place). cond b None (Some p)) (c.is_indexable-in-SliceIndexable.ensures.slice f l)
    (ap (λ n. (head n).place) c.node.view_is)
    ∙ sym (ap (λ (r : RowId). unmet r (context_in f c.args.t.now)) c.in-SliceIndexable.is)

pub returns-in-TupleDefaults-clause-value : goal.returns-in-TupleDefaults-clause-value
returns-in-TupleDefaults-clause-value c f l =
    c.lacking.ensures f l ∙ told_place _ (head c.args.t.now.node.now).place ∙ sym
    (ap (λ (r : RowId). unmet r (context_in f c.args.t.now)) c.in-TupleDefaults.is)

pub returns-in-ArrayFirstDefault-clause-value : goal.returns-in-ArrayFirstDefault-clause-value
returns-in-ArrayFirstDefault-clause-value c f l =
    c.unless-in-ArrayFirstDefault.ensures
    ∙ ap₂ (λ (b : Bool) (p : Place). cond b None (Some p)) (c.has_first_default.ensures f l) c.place_at.ensures
    ∙ item_place (is_some (hinted_element f c.args.t.now.case.now.hint)) c.args.t.now.kids.now (head c.args.t.now.node.now).place
    ∙ sym (ap (λ (r : RowId). unmet r (context_in f c.args.t.now)) c.in-ArrayFirstDefault.is)

pub returns-in-AllocDefault-clause-value : goal.returns-in-AllocDefault-clause-value
returns-in-AllocDefault-clause-value c f l =
    c.unless-in-AllocDefault.ensures
    ∙ ap₂ (λ (b : Bool) (p : Place). cond b None (Some p)) (c.has_object.ensures f) c.place_at-in-AllocDefault.ensures
    ∙ sym (ap (λ (r : RowId). unmet r (context_in f c.args.t.now)) c.in-AllocDefault.is)

pub returns-in-DeleteKind-clause-value : goal.returns-in-DeleteKind-clause-value
returns-in-DeleteKind-clause-value c f l =
    c.unless-in-DeleteKind.ensures
    ∙ ap₂ (λ (b : Bool) (p : Place). cond b None (Some p)) (c.is_part.ensures f) (ap (λ n. (head n).place) c.node.view_is)
    ∙ sym (ap (λ (r : RowId). unmet r (context_in f c.args.t.now)) c.in-DeleteKind.is)

pub returns-in-OffsetKind-clause-value : goal.returns-in-OffsetKind-clause-value
returns-in-OffsetKind-clause-value c f l =
    c.unless-in-OffsetKind.ensures
    ∙ ap₂ (λ (b : Bool) (p : Place). cond b None (Some p)) (c.is_member.ensures f) (ap (λ n. (head n).place) c.node.view_is)
    ∙ sym (ap (λ (r : RowId). unmet r (context_in f c.args.t.now)) c.in-OffsetKind.is)
