-- The items are those of the globals and then those of the functions, which are tight.
use Rattle.il_emit.proofs.SameRuns.Tightened.{module_emits}
use Rattle.il_emit.proofs.module.module_of.Goals as goal

pub returns-clause-value : goal.returns-clause-value
returns-clause-value c =
    module_emits c.args.p.now c.in_ok-source.source.program.now _ _ c.put_functions.new.out _ _ c.new-items.ensures
    c.in_ok-put_globals.ensures
    c.in_ok-put_functions.ensures.value c.in_ok-source.ensures c.as_slice.ensures c.as_slice-2.ensures
