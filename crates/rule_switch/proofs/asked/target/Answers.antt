use Rattle.rule_judge.specs.Turns.{context_in, kind_in}
use Rattle.rule_switch.proofs.CaseLemmas.{operand_goes, case_goes, cases_typed}
use Rattle.rule_switch.proofs.asked.target.Goals as goal

pub returns-then-i-eq0-clause-value : goal.returns-then-i-eq0-clause-value
returns-then-i-eq0-clause-value c f l =
    operand_goes (context_in f c.args.t.now) c.args.i (kind_in c.args.t.now) c.in_ok-to.to c.requires.kind c.if-i-eq0.true
    (c.in_ok-to.ensures.value f l)

pub returns-clause-value : goal.returns-clause-value
returns-clause-value c f l =
    let x = context_in f c.args.t.now in
    let k = kind_in c.args.t.now in
    case_goes x c.args.i k c.case_target.result c.requires.kind c.if-i-eq0.false
    (c.case_target.ensures.value f (cases_typed x k c.args.ty.now c.requires.kind (c.requires.gives f l)))
