use Rattle.std.proofs.Common.{ap, sym, ◌∙◌}
use Rattle.std.specs.Prelude.{nat_eq, find, option_copied}
use Rattle.hare_rules.specs.declared.declared.DeclType.{DeclType}
use Rattle.hare_rules.specs.Values.{value_of_meaning, value_of_decl}
use Rattle.hare_find.proofs.constants.named_value.Goals as goal

pub returns-in-None : goal.returns-in-None
returns-in-None c w e =
    let n = c.in-Decl.number in
    let p = ap (find (λ (d : DeclType). nat_eq d.decl n)) e ∙ sym c.find.ensures ∙ ap option_copied c.in-None.is in
    sym (ap (value_of_meaning w) c.in-Decl.is ∙ ap value_of_decl p)

pub returns-in_ok-value-in-Some : goal.returns-in_ok-value-in-Some
returns-in_ok-value-in-Some c w e =
    let n = c.in-Decl.number in
    let p = ap (find (λ (d : DeclType). nat_eq d.decl n)) e ∙ sym c.find.ensures ∙ ap option_copied c.in-Some.is in
    c.in_ok-value-in-Some.ensures ∙ sym (ap (value_of_meaning w) c.in-Decl.is ∙ ap value_of_decl p)
