use Rattle.std.proofs.Common.{◌≡◌, ◌++◌, drop}
use Rattle.hare_tree.specs.Spell.{path_tokens, parts, parts_from}
use Rattle.hare_tree.proofs.unparse.own.put_path.Given as goal

-- what is put so far and the path from here on is the path
abbrev pub invariant-loop-i : goal.invariant-loop-i
invariant-loop-i l =
    l.out ++ path_tokens l.file (parts_from l.taken l.part (drop l.i l.text)) ≡ l.initial.out ++ path_tokens l.file (parts l.text)
