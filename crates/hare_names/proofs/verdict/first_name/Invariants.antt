use Rattle.std.proofs.Common.{◌≡◌, take, drop, false}
use Rattle.hare_tree.specs.Spell.{parts, parts_from}
use Rattle.hare_names.proofs.verdict.first_name.Given as goal

-- what stands since the start is no more than a part of the first name
abbrev pub invariant-loop-i : goal.invariant-loop-i
invariant-loop-i l = parts l.text ≡ parts_from false (take l.i l.text) (drop l.i l.text)
