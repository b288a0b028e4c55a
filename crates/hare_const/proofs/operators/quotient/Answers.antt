use Rattle.std.proofs.Common.{◌∙◌, ap}
use Rattle.hare_typed.specs.Answers.{Gives}
use Rattle.hare_const.proofs.OperatorLemmas.{kept, quotient_given}
use Rattle.hare_const.proofs.operators.quotient.Goals as goal

pub returns : goal.returns
returns c =
    ap Gives (kept c.cut.result c.cut.type_inv ∙ c.cut.ensures)
    ∙ quotient_given c.args.t c.args.x c.args.y c.if-y-eq0.false c.requires.left c.requires.right
