use Rattle.std.proofs.Common.{sym}
use Rattle.hare_types.specs.Assign.{type_at, value_at, table}
use Rattle.hare_assign.proofs.FirstLemmas.{first_from-first, first_from-none}
use Rattle.hare_assign.proofs.assign.assignable.Goals as goal

pub returns-in-Some-clause-first : goal.returns-in-Some-clause-first
returns-in-Some-clause-first c = first_from-first (table c.args.s.now (value_at c.args.s.now c.args.from) (type_at c.args.s.now c.args.to))
    c.in-Some.row (sym c.in-Some.ensures)

pub returns-in-None-clause-none : goal.returns-in-None-clause-none
returns-in-None-clause-none c = first_from-none 1 (table c.args.s.now (value_at c.args.s.now c.args.from) (type_at c.args.s.now c.args.to))
    (sym c.in-None.ensures)
