use Rattle.std.proofs.Common.{◌≡◌, take}
use Rattle.hare_layout.proofs.copy.copied_fields.Given as goal

abbrev pub invariant-loop-field : goal.invariant-loop-field
invariant-loop-field l = l.copy ≡ take l.field-index l.fields
