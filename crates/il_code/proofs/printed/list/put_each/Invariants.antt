use Rattle.std.proofs.Common.{◌≡◌, ◌++◌, drop}
use Rattle.std.specs.List.{flat_map}
use Rattle.il_code.proofs.printed.list.put_each.Given as goal

-- what is written and what is left to write is all
abbrev pub invariant-loop-item : goal.invariant-loop-item
invariant-loop-item g l = l.out ++ flat_map g.T.Printed.text (drop l.item-index l.items) ≡
    l.initial.out ++ flat_map g.T.Printed.text l.items
