-- Values without a constant.
use Rattle.std.specs.Prelude.{Bool}
use Rattle.hare_typed.specs.Typed.{TypedNode, mark_of}
use Rattle.hare_rules.specs.Constants.{is_absent_value}

abbrev pub is_odd : TypedNode → Bool
is_odd x = is_absent_value (mark_of x).value
