-- The laws of stages, of what waits, and of what is known of the bytes of types.
use Rattle.hare_seen.specs.Laws.{BytesFollowDefinitions}
use Rattle.hare_turns.specs.Course.{StagesBegin, StagesEnd, StepsGoTogether, StepsStop}
use Rattle.hare_turns.specs.Known.{KnownBegins, StagesAreKnown}
use Rattle.hare_turns.specs.Laws.{StagesStay, TypesGoOn, TypesStop, ValueGoesOn, ValueStops, DoneGoesOn, DoneStops}
use Rattle.hare_waits.specs.Laws.{WaitsStay}

pub record AreLaws : Type 0 where
  pub stages_begin : StagesBegin
  pub known_begins : KnownBegins
  pub stages_stay : StagesStay
  pub stages_are_known : StagesAreKnown
  pub types_go_on : TypesGoOn
  pub types_stop : TypesStop
  pub value_goes_on : ValueGoesOn
  pub value_stops : ValueStops
  pub done_goes_on : DoneGoesOn
  pub done_stops : DoneStops
  pub steps_go_together : StepsGoTogether
  pub steps_stop : StepsStop
  pub stages_end : StagesEnd
  pub waits_stay : WaitsStay
  pub bytes : BytesFollowDefinitions
