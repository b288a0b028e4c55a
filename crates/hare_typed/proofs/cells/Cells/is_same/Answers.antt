use Rattle.std.proofs.Common.{rules}
use Rattle.hare_typed.proofs.StretchLemmas.{same_kept}
use Rattle.hare_typed.proofs.cells.Cells.is_same.Goals as goal

pub returns-then-are_same_repeats : goal.returns-then-are_same_repeats
returns-then-are_same_repeats c =
    same_kept c.self.inside.repeats.items c.other.inside.repeats.items c.self.inside.written.items c.other.inside.written.items
    c.args.self.now c.args.other.now c.as_slice-then-are_same_repeats.result.now c.as_slice-then-are_same_repeats-2.result.now
    c.are_same_cells.result (search rules) c.self.invariant.0 c.other.invariant.0 c.self.view_is c.other.view_is
    c.as_slice-then-are_same_repeats.ensures.value c.as_slice-then-are_same_repeats-2.ensures.value c.are_same_cells.ensures
