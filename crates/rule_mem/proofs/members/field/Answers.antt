use Rattle.std.proofs.Common.{sym, ◌∙◌, Some, None}
use Rattle.rule_mem.proofs.SpellingLemmas.{field_type-new, field_type-at}
use Rattle.rule_mem.proofs.members.field.Goals as goal

pub returns-in_default : goal.returns-in_default
returns-in_default c f l = sym (field_type-new c.args.s.now f l c.args.fields.now
    (c.declarations-law.ensures.sound.fields_named c.args.t c.args.fields.now c.requires) c.args.text.now c.in_default.ensures.none)

pub returns-in-Some-field : goal.returns-in-Some-field
returns-in-Some-field c f l =
    c.type_at.ensures
    ∙ sym (field_type-at c.args.s.now f l c.args.fields.now
    (c.declarations-law.ensures.sound.fields_named c.args.t c.args.fields.now c.requires) c.args.text.now c.args.t c.in-Some.name
    (Some c.in-Some-field.place) c.requires c.in-Some.ensures.found c.in-Some-field.ensures)

pub returns-in-None : goal.returns-in-None
returns-in-None c f l =
    sym (field_type-at c.args.s.now f l c.args.fields.now
    (c.declarations-law.ensures.sound.fields_named c.args.t c.args.fields.now c.requires) c.args.text.now c.args.t c.in-Some.name None
    c.requires c.in-Some.ensures.found c.in-None.ensures)
