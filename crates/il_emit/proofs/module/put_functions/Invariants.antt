-- What was put out and what is left are all items, and the names of what was put out are few.
use Rattle.std.proofs.Common.{◌≡◌, ◌++◌, length, map}
use Rattle.std.specs.List.{AllByRecursion}
use Rattle.flat_code.specs.declared.program.FlatFn.{FlatFn}
use Rattle.il_tight.specs.Tight.{tight_item}
use Rattle.il_emit.specs.Emitted.{function_item}
use Rattle.il_emit.specs.Numbered.{HasFewNames}
use Rattle.il_emit.proofs.module.put_functions.Given as goal

abbrev pub invariant-each : goal.invariant-each
invariant-each l = record {
  value : l.out ++ map (λ (f : FlatFn). tight_item (function_item l.source.program.now f)) l.left ≡ l.initial.out ++ map
      (λ (f : FlatFn). tight_item (function_item l.source.program.now f)) l.initial.left;
  fits : AllByRecursion HasFewNames l.left → AllByRecursion HasFewNames l.initial.left;
}

abbrev pub decreases-each : goal.decreases-each
decreases-each l = length l.left
