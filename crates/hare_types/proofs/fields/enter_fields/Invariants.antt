use Rattle.std.proofs.Common.{◌≤◌}
use Rattle.indexmap.specs.IndexMap.{spare}
use Rattle.hare_types.proofs.FieldLemmas.{AreEntered}
use Rattle.hare_types.proofs.fields.enter_fields.Given as goal

abbrev pub invariant-loop-i : goal.invariant-loop-i
invariant-loop-i l = (l.i ≤ spare l.places) × AreEntered l.initial.places.entries l.places.entries l.t l.fields l.i
