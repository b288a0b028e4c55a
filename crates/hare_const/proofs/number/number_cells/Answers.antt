use Rattle.std.proofs.Common.{◌≡◌, refl, subst, to_z, of_z, List}
use Rattle.std.specs.Prelude.{IfOk}
use Rattle.std.proofs.lemmas.Int.{to_z-of_z}
use lib.IntN.{nat_abs}
use mir.Syntax.{w128}
use Rattle.hx_base.specs.Memory.{le_bytes}
use Rattle.hare_typed.specs.declared.cell.Cell.{Cell}
use Rattle.hare_typed.specs.Cells.{byte_cells}
use Rattle.hare_const.proofs.NumberLemmas.{given_cells, host_number}
use Rattle.hare_const.proofs.number.number_cells.Goals as goal

pub returns : goal.returns
returns c =
    let bytes = c.width-bytes.result in
    let number = nat_abs (to_z w128 (of_z w128 c.wrap.result)) in
    let low = host_number c.wrap.result c.args.v (to_z w128 (of_z w128 c.args.v)) _ c.wrap.type_inv c.wrap.ensures
    (to_z-of_z w128 c.args.v c.ranges.v) in
    let cells = byte_cells (le_bytes bytes number) in
    let given = given_cells c.args.s.now c.args.t c.in-Of.t c.args.v c.in-Some.shape bytes number cells c.in-Of.is c.in-Some.ensures.value
    c.width-bytes.ensures.value low refl in
    subst (λ (x : List Cell). IfOk c.byte_cells_of.result (λ cs. cs ≡ x)) given c.byte_cells_of.ensures
