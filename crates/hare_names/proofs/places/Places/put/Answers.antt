use Rattle.std.proofs.Common.{is_some, sym, ap, ◌∙◌}
use Rattle.indexmap.proofs.CallerLemmas.{insert_entry-new}
use Rattle.hare_names.specs.Keys.{place_of}
use Rattle.hare_names.specs.Tables.{meaning_at}
use Rattle.hare_modules.proofs.TableLemmas.{restored}
use Rattle.hare_names.proofs.PlaceLemmas.{lookup-seen, keyed, put-new, put-there}
use Rattle.hare_names.proofs.places.Places.put.Goals as goal

-- the place keeps its first meaning
pub returns-in_ok-insert-clause-ok : goal.returns-in_ok-insert-clause-ok
returns-in_ok-insert-clause-ok c =
    let es = c.self.inside.meanings.entries in
    let there = sym c.in_ok-first.ensures.old ∙ c.in-Some.is in
    let seen = sym (lookup-seen place_of c.args.place _
    (λ k. keyed (place_of c.key_of-key.result) (place_of k) c.args.place c.key_of-key.ensures) es) ∙ there in
    put-there place_of c.args.meaning c.in-Some.first c.args.place es c.insert-in-Some.new.self.entries c.args.self.now c.self.view_is
    (restored _ c.key_of-key.result c.args.meaning c.in-Some.first es c.insert.new.self.entries c.insert-in-Some.new.self.entries
    c.in_ok-first.ensures.entries c.in_ok-insert.ensures.entries there)
    (sym (ap (meaning_at c.args.place) c.self.view_is) ∙ seen)

-- a place that had none
pub returns-in_default-clause-ok : goal.returns-in_default-clause-ok
returns-in_default-clause-ok c =
    let es = c.self.inside.meanings.entries in
    let nowhere = sym c.in_ok-first.ensures.old ∙ c.in_default.is in
    let seen = sym (lookup-seen place_of c.args.place _
    (λ k. keyed (place_of c.key_of-key.result) (place_of k) c.args.place c.key_of-key.ensures) es) ∙ nowhere in
    put-new place_of c.key_of-key.result c.args.meaning c.args.place es c.insert.new.self.entries c.args.self.now c.self.view_is
    (c.in_ok-first.ensures.entries ∙ insert_entry-new _ c.self.inside.meanings c.key_of-key.result c.args.meaning nowhere)
    c.key_of-key.ensures (ap is_some (sym (ap (meaning_at c.args.place) c.self.view_is) ∙ seen))
