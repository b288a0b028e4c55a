use Rattle.std.proofs.Common.{refl, arith}
use Rattle.std.proofs.lemmas.Option.{slice_get_read}
use Rattle.harec_check.proofs.NameLemmas.{has_line-language, IsFaultLine-read}
use Rattle.harec_check.proofs.judged.line_of.Goals as goal

pub fault_text-requires : goal.fault_text-requires
fault_text-requires c =
    has_line-language c.args.fault.number (omega (arith, c.if-fault-eq0.false)) (omega (arith, c.if-fault-gt-LAST_FAULT.false))

pub returns : goal.returns
returns c =
    let word = slice_get_read c.args.paths.now _ _ _ refl (omega (arith, c.in-Some.ensures.lookup)) c.in-Some.ensures.lookup.1 in
    IsFaultLine-read _ _ _ _ _ c.fault_text.result word c.from-line.ensures c.from-column.ensures c.fault_text.ensures
