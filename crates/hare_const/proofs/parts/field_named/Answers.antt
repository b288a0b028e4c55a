use Rattle.std.proofs.Common.{◌∙◌, ap, sym}
use Rattle.std.specs.Prelude.{unwrap_or, option_and_then}
use Rattle.hare_types.specs.ByIds.{field_at}
use Rattle.hare_const.proofs.PartLemmas.{name_at, name_nowhere}
use Rattle.hare_const.proofs.parts.field_named.Goals as goal

pub returns-in_default : goal.returns-in_default
returns-in_default c =
    sym (ap (λ o. unwrap_or (option_and_then (field_at c.args.s.now c.args.base) o) 0)
    (name_nowhere c.args.s.now c.args.text.now c.in_default.ensures.none))

pub returns : goal.returns
returns c =
    c.unwrap_or.ensures
    ∙ ap (λ o. unwrap_or o 0) c.field.ensures
    ∙ ap (λ o. unwrap_or (option_and_then (field_at c.args.s.now c.args.base) o) 0)
    (sym (name_at c.args.s.now c.declarations-law.ensures.sound c.args.text.now c.in-Some.name c.in-Some.ensures.found))
