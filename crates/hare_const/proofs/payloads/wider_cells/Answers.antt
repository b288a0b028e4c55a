use Rattle.hare_types.specs.declared.coercion.Ty.TheVariants as ty
use Rattle.hare_const.proofs.LaterTypes.{in_store}
use Rattle.hare_const.proofs.payloads.wider_cells.Goals as goal

pub union_cells-requires-clause-member : goal.union_cells-requires-clause-member
union_cells-requires-clause-member c = in_store c.args.s.now (ty.Of c.in-Some.member) c.in-Some.ensures.told.0
