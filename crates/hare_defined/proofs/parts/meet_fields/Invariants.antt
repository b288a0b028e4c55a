use Rattle.std.proofs.Common.{map, take}
use Rattle.hare_defined.specs.Search.{HoldsAll, TakesIn}
use Rattle.hare_defined.proofs.parts.meet_fields.Given as goal

abbrev pub invariant-loop-field : goal.invariant-loop-field
invariant-loop-field l = record {
  takes : TakesIn l.initial.met.keys l.met.keys (map (λ f. f.ty) l.fields);
  holds : HoldsAll l.met.keys (take l.field-index (map (λ f. f.ty) l.fields));
}
