use Rattle.std.proofs.Common.{◌≡◌, ◌≤◌, true, false, drop}
use Rattle.std.specs.List.{slice_range}
use Rattle.hare_tree.specs.Spell.{parts}
use Rattle.hare_tree.specs.Shape.{are_names}
use Rattle.hare_tree.specs.Judged.{names_left}
use Rattle.hare_tree.proofs.own.is_path.Given as goal

-- the part in hand and the bytes from here on are names as the whole text is
abbrev pub invariant-loop-i : goal.invariant-loop-i
invariant-loop-i l = record {
  begun : l.part.start ≤ l.i;
  empty : l.part.taken ≡ true → l.part.start ≡ l.i;
  same : names_left l.part.behind_path l.part.taken (slice_range l.text l.part.start l.i) (drop l.i l.text) ≡ are_names false
      (parts l.text);
}
