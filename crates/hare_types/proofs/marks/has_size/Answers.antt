use Rattle.std.proofs.Common.{◌≡◌, None, ap, sym, ◌∙◌}
use Rattle.std.specs.Prelude.{slice_get}
use Rattle.hare_types.proofs.ListLemmas.{slice_get_past, slice_get_read}
use Rattle.hare_types.proofs.MarkLemmas.{size_of_row, size_of_none}
use Rattle.hare_types.proofs.marks.has_size.Goals as goal

pub returns-in-Some : goal.returns-in-Some
returns-in-Some c =
    let rows = c.args.rows.now in
    let r = c.in-Some.row.now in
    let here = slice_get_read rows c.unmarked.result c.index.result r c.index.ensures c.in-Some.ensures.lookup.3.0
    c.in-Some.ensures.lookup.1 in
    λ s of names.
    size_of_row rows c.args.declared.now.entries c.args.t c.unmarked.result s of names (c.unmarked.ensures.sized s of) r here
    c.is_sized.result c.is_sized.ensures

pub returns-in-None : goal.returns-in-None
returns-in-None c =
    let rows = c.args.rows.now in
    let gone : slice_get rows c.unmarked.result ≡ None =
    ap (slice_get rows) (sym c.index.ensures) ∙ slice_get_past rows c.index.result c.in-None.ensures.lookup.3 in
    λ s of names. size_of_none rows c.args.declared.now.entries c.args.t c.unmarked.result s of names (c.unmarked.ensures.sized s of) gone
