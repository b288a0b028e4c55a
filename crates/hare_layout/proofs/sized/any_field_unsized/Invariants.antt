use Rattle.std.proofs.Common.{◌≡◌, false, take, map}
use Rattle.std.specs.List.{list_any}
use Rattle.hare_layout.specs.Ids.{unsized_at}
use Rattle.hare_layout.proofs.sized.any_field_unsized.Given as goal

abbrev pub invariant-loop-field : goal.invariant-loop-field
invariant-loop-field l = list_any (unsized_at l.s) (take l.field-index (map (λ f. f.ty) l.fields)) ≡ false
