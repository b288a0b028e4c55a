use Rattle.std.proofs.Common.{sym, ◌∙◌, ap, subst}
use Rattle.hare_rules.specs.Words.{id_in}
use Rattle.hare_rules.specs.Operators.{castable_to}
use Rattle.rule_judge.specs.Defined.{IsDefinedTy}
use Rattle.rule_judge.proofs.BaseLemmas.{cast_stays}
use Rattle.rule_ops.proofs.met.castable_to.Goals as goal

pub returns-in-Of : goal.returns-in-Of
returns-in-Of c f l =
    c.castable.ensures
    ∙ sym (cast_stays c.args.s.now f c.declarations-law.ensures.sound l c.args.a.now c.in-Of.t c.requires.value
    (subst (IsDefinedTy c.args.s.now) c.in-Of.is c.requires.to))
    ∙ sym (ap (λ a. castable_to f c.args.a.now (id_in a)) c.in-Of.is)
