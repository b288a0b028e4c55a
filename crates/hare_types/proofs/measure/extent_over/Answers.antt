use Rattle.std.proofs.Common.{◌≡◌, Some, ap, sym, ◌∙◌, subst}
use Rattle.std.specs.Prelude.{option_map}
use Rattle.hare_types.specs.declared.row.Row.TheVariants as row
use Rattle.hare_types.specs.Waiting.{extents}
use Rattle.hare_types.specs.Kept.{parts_of, known, defined, all_known, extent_over}
use Rattle.hare_types.specs.Run.{no_parts, with_parts}
use Rattle.hare_types.proofs.PartLemmas.{fields_of-parts, members_of-parts}
use Rattle.hare_types.proofs.measure.extent_over.Goals as goal

pub returns-in-Some-parts-clause-value : goal.returns-in-Some-parts-clause-value
returns-in-Some-parts-clause-value c =
    let ks = known (extents c.args.kept.now) in
    let e = subst (λ r. Some c.in-Some-parts.run' ≡ option_map (with_parts no_parts) (all_known ks (parts_of r))) c.in-Struct.is
    c.in-Some-parts.ensures.value in
    subst (λ r. Some c.fields_extent.result ≡ extent_over (defined c.args.declared.now.entries) ks r) (sym c.in-Struct.is)
    (ap Some c.fields_extent.ensures.value ∙ fields_of-parts (all_known ks (parts_of (row.Struct c.in-Struct.field-0))) c.in-Some-parts.run'
    e)

pub returns-in-Some-parts-2-clause-value : goal.returns-in-Some-parts-2-clause-value
returns-in-Some-parts-2-clause-value c =
    let ks = known (extents c.args.kept.now) in
    let e = subst (λ r. Some c.in-Some-parts-2.run' ≡ option_map (with_parts no_parts) (all_known ks (parts_of r))) c.in-Tuple.is
    c.in-Some-parts-2.ensures.value in
    subst (λ r. Some c.fields_extent-in-Some-parts-2.result ≡ extent_over (defined c.args.declared.now.entries) ks r) (sym c.in-Tuple.is)
    (ap Some c.fields_extent-in-Some-parts-2.ensures.value ∙ fields_of-parts (all_known ks c.in-Tuple.field-0) c.in-Some-parts-2.run' e)

pub returns-in-Some-parts-3-clause-value : goal.returns-in-Some-parts-3-clause-value
returns-in-Some-parts-3-clause-value c =
    let ks = known (extents c.args.kept.now) in
    let e = subst (λ r. Some c.in-Some-parts-3.run' ≡ option_map (with_parts no_parts) (all_known ks (parts_of r))) c.in-Union.is
    c.in-Some-parts-3.ensures.value in
    subst (λ r. Some c.union_extent.result ≡ extent_over (defined c.args.declared.now.entries) ks r) (sym c.in-Union.is)
    (ap Some c.union_extent.ensures.value ∙ members_of-parts (all_known ks c.in-Union.field-0) c.in-Some-parts-3.run' e)
