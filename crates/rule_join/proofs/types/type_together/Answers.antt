use Rattle.std.proofs.Common.{◌≡◌, true, false, is_some, ap, sym, ◌∙◌}
use Rattle.std.specs.Prelude.{is_none}
use Rattle.hare_types.proofs.LaterLemmas.{later_here}
use Rattle.hare_rules.specs.Words.{typed_as}
use Rattle.rule_join.proofs.types.type_together.Goals as goal

pub unreachable-requires : goal.unreachable-requires
unreachable-requires c =
    let f = c.joined_type.new.s in
    let later = c.joined_type.ensures.grown.later in
    let no : false ≡ true =
    sym (ap is_some c.in-None.is) ∙ c.in_ok-joined.ensures.there f (later_here f later.sound) ∙ ap is_none (c.requires.defaults f later) in
    cc

pub returns-clause-value : goal.returns-clause-value
returns-clause-value c f l = ap typed_as (sym (c.in_ok-joined.ensures.value f l) ∙ c.in-Some.is)
