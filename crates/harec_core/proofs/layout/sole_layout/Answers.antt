use Rattle.std.proofs.Common.{sym}
use Rattle.harec_core.proofs.CausesOfAnswers.Layouts.{sole_source, sole_ok, sole_err}
use Rattle.harec_core.proofs.layout.sole_layout.Goals as goal

pub returns-clause-ok : goal.returns-clause-ok
returns-clause-ok c =
    let one = sole_source c.args.srcs.now c.in-Some.src.now c.requires.one (sym c.in-Some.ensures) in
    sole_ok _ _ _ one (rw c.bytes.ensures at c.layout_of.ensures.ok)

pub returns-clause-err : goal.returns-clause-err
returns-clause-err c =
    let one = sole_source c.args.srcs.now c.in-Some.src.now c.requires.one (sym c.in-Some.ensures) in
    sole_err _ _ _ _ one (rw c.bytes.ensures at c.layout_of.ensures.err)
