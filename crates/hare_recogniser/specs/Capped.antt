-- Trees under way as the program keeps them: the heights of their kids are counted up to 256, which is as much as the limits ask.
use Rattle.std.specs.Prelude.{min, List, map}
use Rattle.hare_nesting.specs.Marks.{Mark, Frame}
use Rattle.hare_nesting.specs.Gauge.{Step, Goes, Ends, Stuck}

abbrev pub cap_mark : Mark → Mark
cap_mark m = record { node = m.node; first = m.first; height = min m.height 256 }

abbrev pub cap_marks : List Mark → List Mark
cap_marks ms = map cap_mark ms

abbrev pub cap_frame : Frame → Frame
cap_frame f = record { at = f.at; kids = cap_marks f.kids }

abbrev pub capped : List Frame → List Frame
capped fs = map cap_frame fs

-- what comes of a token, with its trees under way as the program keeps them
abbrev pub capped_step : Step → Step
capped_step (Goes st fs) = Goes st (capped fs)
capped_step (Ends fs) = Ends (capped fs)
capped_step Stuck = Stuck
