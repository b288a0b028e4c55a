use Rattle.std.proofs.Common.{◌≡◌, drop, nat_eq}
use Rattle.std.specs.Prelude.{find}
use Rattle.hare_rules.specs.Constants.{object_cells, cells_in}
use Rattle.rule_switch.proofs.texts.object_cells.Given as goal

-- none was found so far
abbrev pub invariant-loop-o : goal.invariant-loop-o
invariant-loop-o l = object_cells l.objects l.number ≡ cells_in (find (λ o. nat_eq o.object l.number) (drop l.o-index l.o-items))
