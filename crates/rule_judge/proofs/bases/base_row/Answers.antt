use Rattle.std.proofs.Common.{sym, ◌∙◌}
use Rattle.hare_typed.proofs.GivenLemmas.{base_within}
use Rattle.rule_judge.proofs.BaseLemmas.{base_row_is, base_there, base_held}
use Rattle.rule_judge.proofs.bases.base_row.Goals as goal

pub returns-in_err-b-clause-value : goal.returns-in_err-b-clause-value
returns-in_err-b-clause-value c f l = absurd
    (base_there c.args.s.now c.base.ensures.sound c.args.a.now c.in-Of.t c.in-Of.is c.requires (sym c.base.ensures.value ∙ c.in_err-b.was))

pub row-requires : goal.row-requires
row-requires c = base_within c.args.s.now _ c.in_ok-b.b c.in_ok-b.ensures.some

pub returns-clause-value : goal.returns-clause-value
returns-clause-value c f l =
    sym (base_row_is c.args.s.now f c.base.ensures.sound l c.args.a.now c.in-Of.t c.in_ok-b.b c.row.result.now c.in-Of.is
    (sym c.base.ensures.value ∙ c.in_ok-b.was) c.row.ensures.row)

pub returns-clause-defined : goal.returns-clause-defined
returns-clause-defined c =
    base_held c.args.s.now c.base.ensures.sound c.args.a.now c.in-Of.t c.in_ok-b.b c.row.result.now c.in-Of.is c.requires
    (sym c.base.ensures.value ∙ c.in_ok-b.was) c.row.ensures.row
