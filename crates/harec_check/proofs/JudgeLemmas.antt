-- A fault that is told is that of the program.
use Rattle.std.proofs.Common.{ℕ, List}
use Rattle.hare_tree.specs.declared.place.Fault.{Fault}
use Rattle.hare_unit.specs.Programs.{IsFaultOfProgram, IsOnlyFaultOfProgram}
use Rattle.harec_check.specs.declared.stopped.Stopped.{Stopped}
use Rattle.harec_check.specs.declared.stopped.Stopped.TheVariants.{Refused, Unread, Memory}
use Rattle.harec_check.specs.Lines.{IsRefusal}
use Rattle.harec_check.specs.Stops.{IsJudgeStop}

-- a refusal of the first fault
pub judge_stops : (paths srcs : List (List ℕ)) (f : Fault) (s : Stopped) → IsFaultOfProgram paths srcs f →
    IsOnlyFaultOfProgram paths srcs f →
    IsRefusal paths f s → IsJudgeStop paths srcs s
judge_stops paths srcs f (Refused r) first only h = record { first = rw h.0 first; only = rw h.0 only; line = rw h.0 h.1 }
judge_stops paths srcs f (Unread number) first only h = absurd h
judge_stops paths srcs f Memory first only h = tt
