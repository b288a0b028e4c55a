use Rattle.std.proofs.Common.{◌≡◌, ◌+◌, ◌*◌, fold}
use Rattle.hare_tree.specs.Node.{nodes_of, size_of, sizes_of}
use Rattle.hare_tree.specs.Judged.{nodes_from}
use Rattle.hare_directory.specs.Seen.{tables_of}
use Rattle.hare_modules.specs.Order.{earlier}
use Rattle.hare_names.specs.Doubled.{doubled_among}
use Rattle.hare_names.proofs.WalkLemmas.{Walking}
use Rattle.hare_names.proofs.walk.+walk.Given as goal

abbrev pub decreases-walk : goal.decreases-walk
decreases-walk l = 2 * size_of l.t.now

abbrev pub decreases-walk_kids : goal.decreases-walk_kids
decreases-walk_kids l = 2 * sizes_of (nodes_of l.kids.now)

abbrev pub decreases-walk_loop : goal.decreases-walk_loop
decreases-walk_loop l = 2 * sizes_of (nodes_of l.kids.now) + 1

abbrev pub invariant-walk_kids-loop-i : goal.invariant-walk_kids-loop-i
invariant-walk_kids-loop-i l = record {
  walking : Walking (tables_of l.setting.directory.now) l.setting.file l.before l.initial.locals l.initial.notes
      (nodes_from l.from (nodes_of l.kids)) (nodes_from l.i (nodes_of l.kids)) l.behind l.locals l.notes;
  doubled : fold earlier l.doubled.first (doubled_among (nodes_from l.i (nodes_of l.kids))) ≡ fold earlier l.initial.doubled.first
      (doubled_among (nodes_from l.from (nodes_of l.kids)));
}
