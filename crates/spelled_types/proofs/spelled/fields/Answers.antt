use Rattle.std.proofs.Common.{length, ap, sym, ◌∙◌, subst}
use Rattle.hare_types.specs.Rows.{FieldsBelow}
use Rattle.spelled_types.proofs.BelowLemmas.{AllBelow-get, FieldsBelow-push}
use Rattle.spelled_types.proofs.spelled.fields.Goals as goal
use Rattle.spelled_types.proofs.spelled.fields.Goals.{in-Some+in-Some-get+in_ok-text+in_ok-name+in_ok-push, in-Some+in_default-get, in_default}

pub loop-i-preserved : goal.loop-i-preserved
loop-i-preserved c =
    let n = length c.args.table.now.store.rows in
    elim c.match-get.branch [
      | in-Some+in-Some-get+in_ok-text+in_ok-name+in_ok-push w ↦ record {
        rows = ap (λ t. t.store.rows) w.table-is ∙ w.number.ensures ∙ c.loop-i.invariant.rows;
        below = subst (λ fs. FieldsBelow n fs) (sym (w.fields-is ∙ w.in_ok-push.ensures.ok))
            (FieldsBelow-push n c.loop-i.fields _ c.loop-i.invariant.below
            (AllBelow-get n c.args.types.now c.requires c.loop-i.i _ (sym w.in-Some-get.ensures)));
      }
      | in-Some+in_default-get w ↦ record {
        rows = ap (λ t. t.store.rows) w.table-is ∙ c.loop-i.invariant.rows;
        below = subst (λ fs. FieldsBelow n fs) (sym w.fields-is) c.loop-i.invariant.below;
      }
      | in_default w ↦ record {
        rows = ap (λ t. t.store.rows) w.table-is ∙ c.loop-i.invariant.rows;
        below = subst (λ fs. FieldsBelow n fs) (sym w.fields-is) c.loop-i.invariant.below;
      }
    ]
