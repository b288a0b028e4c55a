use Rattle.std.proofs.Common.{◌≡◌, ◌-◌, ◌<◌, ◌⊎◌, ℕ, length, get_or}
use Rattle.hare_graph.specs.Graphs.{IsLabelled}
use Rattle.hare_depends.proofs.search.skip_done.Given as goal

-- the same frame, where those passed over so far have labels
abbrev pub invariant-loop-frame : goal.invariant-loop-frame
invariant-loop-frame l = record {
  decl : l.frame.decl ≡ l.fn.frame.decl;
  left : l.frame.left.items ≡ l.fn.frame.left.items;
  passed : (j : ℕ) → j < l.frame.next → j < length l.fn.frame.left.items →
      (j < l.fn.frame.next) ⊎ IsLabelled l.spent (get_or l.fn.frame.left.items j 0);
}

abbrev pub decreases-loop-frame : goal.decreases-loop-frame
decreases-loop-frame l = length l.frame.left.items - l.frame.next
