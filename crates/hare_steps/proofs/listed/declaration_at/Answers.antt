use Rattle.std.proofs.Common.{◌∙◌, ap, sym, Some}
use Rattle.std.specs.Prelude.{option_copied}
use Rattle.std.proofs.lemmas.Option.{slice_get-get_or}
use Rattle.hare_steps.proofs.PlacesListed.Places.{stands-there, no-file, in-file}
use Rattle.hare_steps.proofs.listed.declaration_at.Goals as goal

pub returns-in_err-file : goal.returns-in_err-file
returns-in_err-file c =
    let place = c.in_ok-place.place.now in
    let here = slice_get-get_or c.args.places.now c.args.number place c.in_ok-place.ensures.lookup.3.0 ∙ ap Some
    (sym c.in_ok-place.ensures.lookup.1) in
    ap option_copied c.from_residual-in_err-file.ensures
    ∙ no-file c.args.files.now place (ap option_copied (sym c.in_err-file.was) ∙ c.get-2.ensures)
    ∙ sym (stands-there c.args.files.now c.args.places.now c.requires c.args.number place here)

pub returns : goal.returns
returns c =
    let place = c.in_ok-place.place.now in
    let here = slice_get-get_or c.args.places.now c.args.number place c.in_ok-place.ensures.lookup.3.0 ∙ ap Some
    (sym c.in_ok-place.ensures.lookup.1) in
    in-file c.args.files.now place c.in_ok-file.file.now c.get-3.result c.in_ok-file.ensures c.get-3.ensures.none c.get-3.ensures.found
    ∙ sym (stands-there c.args.files.now c.args.places.now c.requires c.args.number place here)
