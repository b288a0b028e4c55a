use Rattle.std.proofs.Common.{◌≡◌, drop, fold, map}
use Rattle.std.specs.List.{filter_map}
use Rattle.hare_modules.specs.Order.{earlier, first_in}
use Rattle.hare_modules.specs.Takings.{using, unknown_module}
use Rattle.hare_modules.proofs.looks.unknown_module.Given as goal

abbrev pub invariant-loop-used : goal.invariant-loop-used
invariant-loop-used l = fold earlier l.first (filter_map unknown_module (map using (drop l.used-index l.uses))) ≡
    first_in (filter_map unknown_module (map using l.uses))
