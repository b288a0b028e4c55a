use Rattle.std.proofs.Common.{sym, subst, ap, ◌∙◌}
use Rattle.hare_types.specs.Rows.{FieldsBelow}
use Rattle.type_bench.proofs.FieldLemmas.{fields_below_push}
use Rattle.type_bench.proofs.fields.all_of.Goals as goal

pub loop-n-preserved : goal.loop-n-preserved
loop-n-preserved c = record {
  within = λ m less. subst (λ fs. FieldsBelow m fs) (sym c.in_ok-push.ensures.ok)
      (fields_below_push m c.loop-n.fields _ (c.loop-n.invariant.within m less) less);
  rows = ap (λ s. s.rows) c.in_ok-name.ensures.rest ∙ c.loop-n.invariant.rows;
}
