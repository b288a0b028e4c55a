use Rattle.std.proofs.Common.{◌≡◌, ◌-◌, ℕ, Option, None, Some, length, ap, sym, ◌∙◌, arith}
use Rattle.std.specs.Prelude.{nat_eq, slice_get, if◌then◌else◌}
use Rattle.std.proofs.lemmas.Option.{slice_get_within, slice_get_read}
use Rattle.il_mem.proofs.PageLists.{distinct_from}
use Rattle.il_mem.proofs.PageMoves.{taken_out, entered_then}
use Rattle.il_mem.proofs.pages.take_out.Goals as goal

pub returns-clause-pages : goal.returns-clause-pages
returns-clause-pages c =
    let old = c.args.numbers.now in
    let new = c.swap_remove-page.new.self in
    let within = slice_get_within old.items c.args.place c.args.page c.requires.there in
    (taken_out old.items new.items c.args.place old.len (sym old.ok.0) (omega (arith, new.ok.0, c.swap_remove-page.ensures.len))
    (omega (arith, within, old.ok.0))
    c.swap_remove-page.ensures.by_index.0 c.swap_remove-page.ensures.by_index.1).pages

pub returns-clause-entered : goal.returns-clause-entered
returns-clause-entered c =
    let old = c.args.numbers.now in
    let new = c.swap_remove-page.new.self in
    let before = c.args.places.now in
    let within = slice_get_within old.items c.args.place c.args.page c.requires.there in
    let out = taken_out old.items new.items c.args.place old.len (sym old.ok.0) (omega (arith, new.ok.0, c.swap_remove-page.ensures.len))
    (omega (arith, within, old.ok.0))
    c.swap_remove-page.ensures.by_index.0 c.swap_remove-page.ensures.by_index.1 in
    let last : c.len-last.result - 1 ≡ length new.items = omega (arith, c.len-last.ensures, new.ok.0, c.swap_remove-page.ensures.len) in
    let moved = c.index-moved.result.now in
    let lies : slice_get old.items (length new.items) ≡ Some moved =
    rw (← last) (slice_get_read old.items old.len (c.len-last.result - 1) moved old.ok.0
    (omega (arith, within, old.ok.0, c.len-last.ensures)) c.index-moved.ensures) in
    entered_then old.items new.items c.args.place (length new.items) c.args.page
    (distinct_from before old.items c.requires.entered) out c.requires.there before c.remove.new.self moved
    c.requires.entered lies (λ p. c.remove.ensures.updates.0 p
    ∙ ap (λ (o : Option ℕ). if nat_eq c.args.page p then None else o) (c.enter.ensures p))
