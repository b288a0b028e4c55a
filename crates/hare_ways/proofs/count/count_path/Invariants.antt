use Rattle.std.proofs.Common.{◌≡◌, ◌+◌, length, drop}
use Rattle.hare_tree.specs.declared.kind.Kind.TheVariants as ki
use Rattle.hare_tree.specs.Spell.{parts, path_tokens}
use Rattle.hare_ways.specs.Walk.{path_behind}
use Rattle.hare_ways.proofs.count.count_path.Given as goal

-- what is counted and what is left are the whole
abbrev pub invariant-loop-i : goal.invariant-loop-i
invariant-loop-i l = l.count + length (path_behind ki.None l.taken (drop l.i l.text)) ≡ length (path_tokens 0 (parts l.text))
