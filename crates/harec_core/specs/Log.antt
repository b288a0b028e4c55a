-- The line that the log gets for an answer.
use Rattle.std.specs.Prelude.{◌≡◌, ℕ, List, [], ◌++◌, codes, slice_get, Some}
use Rattle.std.specs.Fmt.{decimal}
use Rattle.il_code.specs.declared.types.MachineFault.{MachineFault}
use Rattle.il_code.specs.declared.types.MachineFault.TheVariants.{Wild, Overlap, BadFree, BadArg, ZeroDivisor, Hlt}
use Rattle.harec_check.specs.Lines.{IsFaultLine}
use Rattle.harec_words.specs.Faults.{fault_line}
use Rattle.harec_core.specs.declared.answer.IlFault.{IlFault}
use Rattle.harec_core.specs.declared.answer.Undef.{Undef}
use Rattle.harec_core.specs.declared.answer.Undef.TheVariants.{Il, Hare}
use Rattle.harec_core.specs.declared.answer.Answer.{Answer}
use Rattle.harec_core.specs.declared.answer.Answer.TheVariants.{Accepted, Exited, Usage, Refused, RefusedText, FileFault, Undefined, Memory, ReadFault, WriteFault, Spent, StackFull, Aborted}
use Rattle.harec_core.specs.Outside.{Sent, IsSent, IsCutOff}

-- the name of a fault of the machine
abbrev pub fault_name : MachineFault → List ℕ
fault_name Wild = codes "Wild"
fault_name Overlap = codes "Overlap"
fault_name BadFree = codes "BadFree"
fault_name BadArg = codes "BadArg"
fault_name ZeroDivisor = codes "ZeroDivisor"
fault_name Hlt = codes "Hlt"

-- the same of an undefined act. Today no source is evaluated, and so none of its acts is named.
abbrev pub act_name : Undef → List ℕ
act_name (Il fault) = fault_name fault
act_name (Hare number) = []

-- words that are no command
abbrev pub usage_line : List ℕ
usage_line = codes "harec: usage\n"

-- the file of this path was not read
abbrev pub unread_line : List ℕ → List ℕ
unread_line path = path ++ codes ": file fault\n"

-- a run did what has no meaning
abbrev pub undefined_line : Undef → List ℕ
undefined_line act = codes "harec: undefined " ++ (act_name act ++ codes "\n")

-- a run spent so many units
abbrev pub spent_line : ℕ → List ℕ
spent_line units = codes "harec: spent " ++ (decimal units ++ codes " units\n")

-- the line of one of the files of these paths
pub record IsUnreadLine (paths : List (List ℕ)) (line : List ℕ) : Type 0 where
  pub number : ℕ
  pub path : List ℕ
  pub word : slice_get paths number ≡ Some path
  pub text : line ≡ unread_line path

-- the letter I, of the faults of a text of the intermediate language
abbrev pub text_letter : ℕ
text_letter = 73

-- the line of such a fault, with the word that names the file
pub record IsTextFaultLine (paths : List (List ℕ)) (f : IlFault) (line : List ℕ) : Type 0 where
  pub path : List ℕ
  pub word : slice_get paths 0 ≡ Some path
  pub text : line ≡ fault_line path text_letter f.number f.line f.column

-- The line of an answer to a command on the files of these paths, which runs with so many units if it runs, and whose run aborts with this
-- text if it aborts. A program's own exit has none, and nor has an accepted program.
abbrev pub IsLine : (paths : List (List ℕ)) (units : ℕ) (abort : List ℕ) → Answer → List ℕ → Type 0
IsLine paths units abort Accepted line = line ≡ []
IsLine paths units abort (Exited status) line = line ≡ []
IsLine paths units abort Usage line = line ≡ usage_line
IsLine paths units abort (Refused fault) line = IsFaultLine paths fault line
IsLine paths units abort (RefusedText fault) line = IsTextFaultLine paths fault line
IsLine paths units abort FileFault line = IsUnreadLine paths line
IsLine paths units abort (Undefined act) line = line ≡ undefined_line act
IsLine paths units abort Memory line = line ≡ codes "harec: memory\n"
IsLine paths units abort ReadFault line = line ≡ codes "harec: read fault\n"
IsLine paths units abort WriteFault line = line ≡ codes "harec: write fault\n"
IsLine paths units abort Spent line = line ≡ spent_line units
IsLine paths units abort StackFull line = line ≡ codes "harec: stack full\n"
IsLine paths units abort Aborted line = line ≡ abort ++ codes "\n"

-- what the call answers, where this answer was found and its line is for the log: that answer, with the whole line in the log, or the fault
-- of a log that failed, with a front of the line in it
pub data Logs (line : List ℕ) (log : Sent) (found : Answer) : Answer → Type 0 where
  told : IsSent line log → Logs line log found found
  failed : IsCutOff line log → Logs line log found WriteFault

-- Nothing was called on the log, and so it is as it was, at the answers that have no line.
abbrev pub LeavesLog : {L : Type 0} → Answer → L → L → Type 0
LeavesLog Accepted old new = new ≡ old
LeavesLog (Exited status) old new = new ≡ old
LeavesLog Usage old new = Unit {0}
LeavesLog (Refused fault) old new = Unit {0}
LeavesLog (RefusedText fault) old new = Unit {0}
LeavesLog FileFault old new = Unit {0}
LeavesLog (Undefined act) old new = Unit {0}
LeavesLog Memory old new = Unit {0}
LeavesLog ReadFault old new = Unit {0}
LeavesLog WriteFault old new = Unit {0}
LeavesLog Spent old new = Unit {0}
LeavesLog StackFull old new = Unit {0}
LeavesLog Aborted old new = Unit {0}
