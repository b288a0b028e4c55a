use Rattle.std.proofs.Common.{is_some, refl, sym, ap, ◌∙◌}
use Rattle.indexmap.proofs.CallerLemmas.{insert_entry-new}
use Rattle.hare_modules.specs.Tables.{value_of}
use Rattle.hare_modules.proofs.TableLemmas.{lookup-seen, put-new, put-there, restored}
use Rattle.hare_modules.proofs.table.Table.enter.Goals as goal

-- the name keeps its first value
pub returns-in-Some-clause-had : goal.returns-in-Some-clause-had
returns-in-Some-clause-had g c =
    let es = c.self.inside.entries.entries in
    let x = c.args.name.now in
    sym (ap is_some (sym (ap (value_of x) c.self.view_is) ∙ lookup-seen (λ k. k.now) x es ∙ sym c.in_ok-first.ensures.old ∙ c.in-Some.is))

pub returns-in-Some-clause-ok : goal.returns-in-Some-clause-ok
returns-in-Some-clause-ok g c =
    let es = c.self.inside.entries.entries in
    let x = c.args.name.now in
    let there = sym c.in_ok-first.ensures.old ∙ c.in-Some.is in
    put-there (λ k. k.now) c.args.value c.in-Some.first x es c.insert-in-Some.new.self.entries c.args.self.now c.self.view_is
    (restored _ c.args.name c.args.value c.in-Some.first es c.insert.new.self.entries c.insert-in-Some.new.self.entries
    c.in_ok-first.ensures.entries c.in_ok-insert.ensures.entries there)
    (sym (ap (value_of x) c.self.view_is) ∙ lookup-seen (λ k. k.now) x es ∙ there)

-- a name that had none
pub returns-clause-had : goal.returns-clause-had
returns-clause-had g c =
    let es = c.self.inside.entries.entries in
    let x = c.args.name.now in
    sym (ap is_some (sym (ap (value_of x) c.self.view_is) ∙ lookup-seen (λ k. k.now) x es ∙ sym c.in_ok-first.ensures.old ∙ c.in_default.is))

pub returns-clause-ok : goal.returns-clause-ok
returns-clause-ok g c =
    let es = c.self.inside.entries.entries in
    let x = c.args.name.now in
    let nowhere = sym c.in_ok-first.ensures.old ∙ c.in_default.is in
    put-new (λ k. k.now) c.args.name c.args.value x es c.insert.new.self.entries c.args.self.now c.self.view_is
    (c.in_ok-first.ensures.entries ∙ insert_entry-new _ c.self.inside.entries c.args.name c.args.value nowhere) refl
    (ap is_some (sym (ap (value_of x) c.self.view_is) ∙ lookup-seen (λ k. k.now) x es ∙ nowhere))
