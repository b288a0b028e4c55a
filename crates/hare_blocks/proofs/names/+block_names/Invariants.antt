-- What is left holds where the whole does, and what was declared stands in front of the rest of the scope.
use Rattle.std.proofs.Common.{◌≡◌, ℕ, List, ◌++◌, drop}
use Rattle.hare_blocks.specs.Names.{names_of, statements_hold}
use Rattle.hare_blocks.specs.Sizes.{list_of_statements}
use Rattle.hare_blocks.proofs.names.+block_names.Given as goal

abbrev pub invariant-block_holds-loop-i : goal.invariant-block_holds-loop-i
invariant-block_holds-loop-i l = record {
  left : statements_hold (names_of l.scope) (list_of_statements (drop l.i l.body)) ≡
      statements_hold (names_of l.initial.scope) (list_of_statements l.body);
  grown : (ds : List (List ℕ × ℕ)) × (l.scope ≡ ds ++ l.initial.scope);
}
