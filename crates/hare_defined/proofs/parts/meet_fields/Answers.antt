use Rattle.std.proofs.Common.{◌∙◌, ap, sym, map, Some}
use Rattle.std.specs.Prelude.{option_map}
use Rattle.std.proofs.lemmas.Option.{slice_get-get_or, slice_get-map}
use Rattle.hare_types.specs.declared.lists.Field.{Field}
use Rattle.hare_defined.proofs.PartLemmas.{TakesIn-next, HoldsAll-next}
use Rattle.hare_defined.proofs.parts.meet_fields.Goals as goal

pub returns-in_err-meet-clause-takes : goal.returns-in_err-meet-clause-takes
returns-in_err-meet-clause-takes c =
    let here = slice_get-get_or c.args.fields.now c.loop-field.field-index c.field-item.result c.loop-field-test.true ∙ ap Some
    (sym c.field-item.is) in
    let type = slice_get-map (λ (f : Field). f.ty) c.args.fields.now c.loop-field.field-index ∙ ap (option_map (λ f. f.ty)) here in
    TakesIn-next _ _ _ (map (λ f. f.ty) c.args.fields.now) c.loop-field.field-index c.field-item.result.ty type c.in_err-meet.ensures.takes
    c.loop-field.invariant.takes

pub loop-field-preserved : goal.loop-field-preserved
loop-field-preserved c =
    let here = slice_get-get_or c.args.fields.now c.loop-field.field-index c.field-item.result c.loop-field-test.true ∙ ap Some
    (sym c.field-item.is) in
    let type = slice_get-map (λ (f : Field). f.ty) c.args.fields.now c.loop-field.field-index ∙ ap (option_map (λ f. f.ty)) here in
    let types = map (λ (f : Field). f.ty) c.args.fields.now in
    record {
      takes = TakesIn-next _ _ _ types c.loop-field.field-index c.field-item.result.ty type c.in_ok-meet.ensures.takes
          c.loop-field.invariant.takes;
      holds = HoldsAll-next c.args.met.now.keys _ _ types c.loop-field.field-index c.field-item.result.ty type c.in_ok-meet.ensures.takes
          c.in_ok-meet.ensures.ok c.loop-field.invariant.holds;
    }
