use Rattle.std.proofs.Common.{◌≡◌, ◌++◌, drop}
use Rattle.il_code.specs.Print.{behind_commas}
use Rattle.il_code.proofs.printed.list.put_behind_commas.Given as goal

-- what is written and what is left to write is all
abbrev pub invariant-loop-item : goal.invariant-loop-item
invariant-loop-item g l = l.out ++ behind_commas g.T.Printed.text (drop l.item-index l.items) ≡
    l.initial.out ++ behind_commas g.T.Printed.text l.items
