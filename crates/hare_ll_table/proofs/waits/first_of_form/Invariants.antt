use Rattle.std.proofs.Common.{◌≡◌, ◌-◌, length}
use Rattle.hare_tree.specs.Forms.{form_of}
use Rattle.hare_automaton.specs.Rows.{rest_of}
use Rattle.hare_ll_table.proofs.waits.first_of_form.Given as goal

abbrev pub invariant-loop-piece : goal.invariant-loop-piece
invariant-loop-piece l = rest_of l.fn.from l.fn.kind ≡ rest_of l.at l.fn.kind

abbrev pub decreases-loop-piece : goal.decreases-loop-piece
decreases-loop-piece l = length (form_of l.fn.kind) - l.at
