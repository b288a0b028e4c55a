-- The status of each answer.
use Rattle.std.specs.Prelude.{ℕ}
use Rattle.harec_core.specs.declared.answer.Answer.{Answer}
use Rattle.harec_core.specs.declared.answer.Answer.TheVariants.{Accepted, Exited, Usage, Refused, RefusedText, FileFault, Undefined, Memory, ReadFault, WriteFault, Spent, StackFull, Aborted}

-- a program's own status, or the one that is kept for the answer
abbrev pub status : Answer → ℕ
status Accepted = 0
status (Exited k) = k
status Usage = 64
status (Refused fault) = 65
status (RefusedText fault) = 65
status FileFault = 66
status (Undefined act) = 70
status Memory = 71
status ReadFault = 74
status WriteFault = 74
status Spent = 75
status StackFull = 76
status Aborted = 134
