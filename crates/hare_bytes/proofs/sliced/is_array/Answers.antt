use Rattle.std.proofs.Common.{sym, subst}
use Rattle.hare_bytes.specs.Sliced.{TellsArray}
use Rattle.hare_bytes.proofs.SlicedLemmas.{tells-array}
use Rattle.hare_bytes.proofs.sliced.is_array.Goals as goal

pub returns-in_ok-row_of-in-Of : goal.returns-in_ok-row_of-in-Of
returns-in_ok-row_of-in-Of c =
    let s = c.args.s.now in
    let told = tells-array s c.in_ok-row_of-in-Of.ensures.sound c.in-Of.t c.in_ok-row_of-in-Of.field-0.now c.is_array_row.result
    c.in_ok-row_of-in-Of.ensures.row c.is_array_row.ensures in
    subst (λ f. TellsArray s f c.is_array_row.result) (sym c.in-Of.is) told
