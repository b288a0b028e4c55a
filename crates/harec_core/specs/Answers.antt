-- The causes of the answers to a command.
--
-- Each answer has one cause, which says besides what the text, the output and the files are then. A file that was not read, a read and a
-- write that failed have one answer each. Want of memory comes at will, and in a run only before what may want it. Behind these a file is
-- laid out by its bytes alone; or its text is run; or the program of the files is checked: where it has a fault, this is the answer; and
-- what is compiled, written out or run of it has been checked.
use Rattle.std.specs.Prelude.{◌≡◌, ℕ, ◌≤◌, ◌⊎◌, List, [], ◌∷◌, length}
use Rattle.il_code.specs.declared.types.Module.{Module}
use Rattle.il_code.specs.Machine.{End}
use Rattle.il_code.specs.Machine as machine
use Rattle.il_code.specs.Rules.{IsValidText}
use Rattle.il_code.specs.Run.{machine_end}
use Rattle.il_step.specs.declared.end.End.{End as Outcome}
use Rattle.il_step.specs.declared.end.End.TheVariants as outcome
use Rattle.hare_tree.specs.declared.place.Fault.{Fault}
use Rattle.hare_blocks.specs.Trees.{Program}
use Rattle.hare_blocks.specs.Class.{IsSource, IsNoSource}
use Rattle.hare_lines.specs.Layout.{IsLaidOut}
use Rattle.hare_sources.specs.Files.{most_of_file}
use Rattle.harec_check.specs.Stops.{Checked}
use Rattle.harec_check.specs.Programs.{IsChecked, IsFaultless, IsFaultOfProgram, IsOnlyFaultOfProgram}
use Rattle.harec_check.specs.Whole.{IsWhole}
use Rattle.harec_words.specs.Commands.{Command, Check, Emit, Run, Exec, Fmt}
use Rattle.harec_core.specs.declared.answer.IlFault.{IlFault}
use Rattle.harec_core.specs.declared.answer.Answer.{Answer}
use Rattle.harec_core.specs.declared.answer.Answer.TheVariants.{Accepted, Exited, Usage, Refused, RefusedText, FileFault, Undefined, Memory, ReadFault, WriteFault, Spent, StackFull, Aborted}
use Rattle.harec_core.specs.declared.answer.Undef.TheVariants.{Il, Hare}
use Rattle.harec_core.specs.Asked.{files_of, units_of, Checks, Compiles, Executes}
use Rattle.harec_core.specs.Outside.{Count, HasRisen, Stands, Received, Sent, IsSent, IsCutOff}
use Rattle.harec_core.specs.Class.{CarriesProgram}
use Rattle.harec_core.specs.Jobs.{Job, ReadsNothing, IsInputFor, EndsOn, LeadsTo, Answered}
use Rattle.harec_core.specs.Layouts.{HasLayout, HasNoLayout, IsLayoutFault}
use Rattle.harec_core.specs.Log.{IsLine}
use Rattle.harec_core.specs.Texts.{IsPrinted, IsTextFault}

-- a command on files
pub record Call : Type 0 where
  pub command : Command
  pub sources : List (List ℕ)  -- the bytes of its files
  pub fill : ℕ
  pub files : Count
  pub input : Received
  pub out : Sent
  pub text : List ℕ  -- what `text` holds at the return

-- nothing was written to the output
abbrev pub IsSilent : Call → Type 0
IsSilent c = IsSent [] c.out

-- no call on the files or the output failed
pub record IsQuiet (c : Call) : Type 0 where
  pub files : Stands c.files
  pub out : Stands c.out.faults

-- ---- what is checked, and what is compiled

-- The command is one on a program: all of its files were read, and their program is checked, has no fault and is whole.
pub record IsSound (c : Call) : Type 0 where
  pub checks : Checks c.command
  pub files : Stands c.files
  pub program : Checked
  pub checked : IsChecked (files_of c.command) c.sources program
  pub faultless : IsFaultless (files_of c.command) c.sources program
  pub whole : IsWhole program

-- the text is that of a module, which carries the one program of the file with these bytes, and reads nothing, since no such program does
pub record IsMade (source text : List ℕ) (m : Module) : Type 0 where
  pub program : Program
  pub file : IsSource source program
  pub only : (other : Program) → IsSource source other → other ≡ program
  pub valid : IsValidText text m
  pub carries : CarriesProgram text program
  pub unread : ReadsNothing m

-- The program of the files is checked. They are one, and the text is that of a module, which carries the program of its bytes.
pub record IsCompiled (c : Call) (m : Module) : Type 0 where
  pub compiles : Compiles c.command
  pub sound : IsSound c
  pub path : List ℕ
  pub named : files_of c.command ≡ path ∷ []
  pub source : List ℕ
  pub one : c.sources ≡ source ∷ []
  pub made : IsMade source c.text m

-- files whose program is not compiled yet: several, or one that is not of the class
abbrev pub AreNotOfClass : List (List ℕ) → Type 0
AreNotOfClass [] = Unit {0}
AreNotOfClass (source ∷ []) = IsNoSource source
AreNotOfClass (source ∷ second ∷ others) = Unit {0}

-- the fault of such files: E49 at the start of the first
abbrev pub not_built : Fault
not_built = record { number = 49; place = record { file = 0; line = 1; column = 1 } }

-- ---- what is run

-- The command is to run the text of a file, which was read and has these bytes. They are the text, whatever comes of them.
pub record IsToRun (c : Call) (source : List ℕ) : Type 0 where
  pub executes : Executes c.command
  pub files : Stands c.files
  pub one : c.sources ≡ source ∷ []
  pub text : c.text ≡ source

-- the bytes of the file are the text of this module
pub record IsReadBack (c : Call) (m : Module) : Type 0 where
  pub source : List ℕ
  pub asked : IsToRun c source
  pub printed : IsPrinted source m

-- the command runs this module with these units and arguments: that of its program, or that of its text
pub data RunsModule (c : Call) (units : ℕ) (args : List (List ℕ)) (m : Module) : Type 0 where
  compiled : (paths : List (List ℕ)) → c.command ≡ Run units paths args → IsCompiled c m → RunsModule c units args m
  read_back : (file : List (List ℕ)) → c.command ≡ Exec units file args → IsReadBack c m → RunsModule c units args m

-- a job is the one of the command
pub record IsJobOf (c : Call) (j : Job) : Type 0 where
  pub fill : j.fill ≡ c.fill
  pub runs : RunsModule c j.units j.args j.program

-- ---- what is laid out

-- The command is to lay out a file, which was read and has these bytes. No text of a program was made.
pub record IsToLayOut (c : Call) (source : List ℕ) : Type 0 where
  pub file : List (List ℕ)
  pub command : c.command ≡ Fmt file
  pub files : Stands c.files
  pub one : c.sources ≡ source ∷ []
  pub text : c.text ≡ []

-- ---- the causes

-- a file was not read
pub record NotRead (c : Call) : Type 0 where
  pub files : HasRisen c.files
  pub silent : IsSilent c
  pub text : c.text ≡ []

-- The command is one on a program: all files were read, and their program has this first fault, and no other over the stores that
-- `IsOnlyFaultOfProgram` names.
pub record NotSound (c : Call) (f : Fault) : Type 0 where
  pub checks : Checks c.command
  pub files : Stands c.files
  pub first : IsFaultOfProgram (files_of c.command) c.sources f
  pub only : IsOnlyFaultOfProgram (files_of c.command) c.sources f
  pub silent : IsSilent c
  pub text : c.text ≡ []

-- the program is checked, and it is asked for, but not compiled yet
pub record NotBuilt (c : Call) : Type 0 where
  pub compiles : Compiles c.command
  pub sound : IsSound c
  pub sources : AreNotOfClass c.sources
  pub silent : IsSilent c
  pub text : c.text ≡ []

-- the file was read, and has this fault, so that it is not laid out
pub record NotLaidOut (c : Call) (f : Fault) : Type 0 where
  pub source : List ℕ
  pub asked : IsToLayOut c source
  pub fault : HasNoLayout source f
  pub silent : IsSilent c

-- the file was read, and it is not run, since it has this fault
pub record NotRun (c : Call) (f : IlFault) : Type 0 where
  pub source : List ℕ
  pub asked : IsToRun c source
  pub fault : IsTextFault source f
  pub silent : IsSilent c

-- memory ran out, before anything was written, and not in a run
pub record NoMemory (c : Call) : Type 0 where
  pub files : Stands c.files
  pub input : Stands c.input.faults
  pub silent : IsSilent c
  pub text : (c.text ≡ []) ⊎ ((m : Module) × IsCompiled c m) ⊎ ((source : List ℕ) × IsToRun c source)

-- the program is checked, and that was all
pub record Passed (c : Call) : Type 0 where
  pub paths : List (List ℕ)
  pub command : c.command ≡ Check paths
  pub sound : IsSound c
  pub silent : IsSilent c
  pub text : c.text ≡ []

-- the text was written out
pub record Emitted (c : Call) : Type 0 where
  pub paths : List (List ℕ)
  pub command : c.command ≡ Emit paths
  pub program : Module
  pub compiled : IsCompiled c program
  pub sent : IsSent c.text c.out

-- the layout of the file was written out, and nothing else
pub record LaidOut (c : Call) : Type 0 where
  pub source : List ℕ
  pub asked : IsToLayOut c source
  pub layout : List ℕ
  pub laid : HasLayout source layout
  pub sent : IsSent layout c.out

-- The run ended so: that of the machine over the module of the command, with its arguments, units and fill byte, on the input that is left
-- where the input tells it, and on every input where the module reads nothing. All of its output was written, and no call failed.
pub record EndedIn (c : Call) (end : End) : Type 0 where
  pub job : Job
  pub asked : IsJobOf c job
  pub input : Stands c.input.faults
  pub out : Stands c.out.faults
  pub ends : (bytes : List ℕ) → IsInputFor c.input job.program bytes → EndsOn job c.input c.out end bytes
  pub leads : LeadsTo job c.input c.out end

-- The run did not come to an end: the machine wanted memory before a step that may want it, or a read of the input failed, or a write.
-- What was written is just what the steps up to there put out, or else a front of the output.
pub record StoppedIn (c : Call) (why : Outcome) : Type 0 where
  pub job : Job
  pub asked : IsJobOf c job
  pub answered : Answered job c.input c.out (λ r. Unit {0}) why

-- the output failed while the text was written
pub record CutEmit (c : Call) : Type 0 where
  pub paths : List (List ℕ)
  pub command : c.command ≡ Emit paths
  pub program : Module
  pub compiled : IsCompiled c program
  pub cut : IsCutOff c.text c.out

-- the output failed while the layout of the file was written, of which a front was
pub record CutLayout (c : Call) : Type 0 where
  pub source : List ℕ
  pub asked : IsToLayOut c source
  pub layout : List ℕ
  pub laid : HasLayout source layout
  pub cut : IsCutOff layout c.out

-- why a command has this answer
abbrev pub HasCause : Call → Answer → Type 0
HasCause c Accepted = Passed c ⊎ Emitted c ⊎ LaidOut c
HasCause c (Exited status) = EndedIn c (machine.Exit status)
HasCause c Usage = ⊥
HasCause c (Refused fault) = NotSound c fault ⊎ ((fault ≡ not_built) × NotBuilt c) ⊎ NotLaidOut c fault
HasCause c (RefusedText fault) = NotRun c fault
HasCause c FileFault = NotRead c
HasCause c (Undefined (Il fault)) = EndedIn c (machine.Fault fault)
HasCause c (Undefined (Hare number)) = ⊥
HasCause c Memory = NoMemory c ⊎ StoppedIn c outcome.Memory
HasCause c ReadFault = StoppedIn c outcome.ReadFault
HasCause c WriteFault = CutEmit c ⊎ StoppedIn c outcome.WriteFault ⊎ CutLayout c
HasCause c Spent = EndedIn c machine.Spent
HasCause c StackFull = EndedIn c machine.StackFull
HasCause c Aborted = (text : List ℕ) × EndedIn c (machine.Abort text)

-- the text of a run that aborts; of any other answer nothing is said
abbrev pub HasAbortText : Call → List ℕ → Answer → Type 0
HasAbortText c text Accepted = Unit {0}
HasAbortText c text (Exited status) = Unit {0}
HasAbortText c text Usage = Unit {0}
HasAbortText c text (Refused fault) = Unit {0}
HasAbortText c text (RefusedText fault) = Unit {0}
HasAbortText c text FileFault = Unit {0}
HasAbortText c text (Undefined act) = Unit {0}
HasAbortText c text Memory = Unit {0}
HasAbortText c text ReadFault = Unit {0}
HasAbortText c text WriteFault = Unit {0}
HasAbortText c text Spent = Unit {0}
HasAbortText c text StackFull = Unit {0}
HasAbortText c text Aborted = EndedIn c (machine.Abort text)

-- ---- exactly where

-- the answer of a run that ends so
abbrev pub answer_to : End → Answer
answer_to (machine.Exit status) = Exited status
answer_to (machine.Abort text) = Aborted
answer_to (machine.Fault fault) = Undefined (Il fault)
answer_to machine.StackFull = StackFull
answer_to machine.Spent = Spent

-- The answer is this one, or memory ran out, or the program has a fault. That a file of the class has no fault of the language is not
-- proved; where it had one, that would be the answer.
pub data Gives (c : Call) (answer this : Answer) : Type 0 where
  gives : answer ≡ this → Gives c answer this
  exhausted : answer ≡ Memory → Gives c answer this
  faulty : (f : Fault) → answer ≡ Refused f → IsFaultOfProgram (files_of c.command) c.sources f → Gives c answer this

-- the answer is this one, or memory ran out
abbrev pub IsOrMemory : (answer this : Answer) → Type 0
IsOrMemory answer this = (answer ≡ this) ⊎ (answer ≡ Memory)

-- The answer to a command has its cause and this line, and comes wherever its cause holds.
pub record Answers (c : Call) (answer : Answer) (line : List ℕ) : Type 0 where
  pub cause : HasCause c answer
  pub abort : List ℕ
  pub aborts : HasAbortText c abort answer
  pub says : IsLine (files_of c.command) (units_of c.command) abort answer line
  pub file_fault : HasRisen c.files → answer ≡ FileFault
  pub read_fault : HasRisen c.input.faults → answer ≡ ReadFault
  pub write_fault : HasRisen c.out.faults → answer ≡ WriteFault
  pub passed : (paths : List (List ℕ)) → Stands c.files → c.command ≡ Check paths → Gives c answer Accepted
  pub refused : Stands c.files → Compiles c.command → AreNotOfClass c.sources → Gives c answer (Refused not_built)
  pub accepted :
      (paths : List (List ℕ)) (source : List ℕ) (p : Program) → IsQuiet c → c.command ≡ Emit paths → c.sources ≡ source ∷ []
      → IsSource source p → Gives c answer Accepted
  pub laid_out :
      (file : List (List ℕ)) (source layout : List ℕ) → IsQuiet c → c.command ≡ Fmt file → c.sources ≡ source ∷ []
      → length source ≤ most_of_file → IsLaidOut source layout → IsOrMemory answer Accepted
  pub not_laid_out :
      (file : List (List ℕ)) (source : List ℕ) (f : Fault) → Stands c.files → c.command ≡ Fmt file → c.sources ≡ source ∷ []
      → IsLayoutFault source f → IsOrMemory answer (Refused f)
  pub not_executed :
      (source : List ℕ) (f : IlFault) → Stands c.files → Executes c.command → c.sources ≡ source ∷ [] → IsTextFault source f
      → IsOrMemory answer (RefusedText f)
  pub ended :
      (units : ℕ) (paths args : List (List ℕ)) (source : List ℕ) (p : Program) (m : Module) (bytes : List ℕ) → IsQuiet c
      → Stands c.input.faults → c.command ≡ Run units paths args → c.sources ≡ source ∷ [] → IsSource source p → IsValidText c.text m
      → Gives c answer (answer_to (machine_end m args bytes c.fill units))
  pub executed :
      (units : ℕ) (file args : List (List ℕ)) (source : List ℕ) (m : Module) (bytes : List ℕ) → IsQuiet c → Stands c.input.faults
      → c.command ≡ Exec units file args → c.sources ≡ source ∷ [] → IsPrinted source m → IsInputFor c.input m bytes
      → IsOrMemory answer (answer_to (machine_end m args bytes c.fill units))

-- a command that is done: a check leaves the output as it was
abbrev pub LeavesDone : {O : Type 0} → Command → O → O → Type 0
LeavesDone (Check paths) old new = new ≡ old
LeavesDone (Emit paths) old new = Unit {0}
LeavesDone (Run units paths args) old new = Unit {0}
LeavesDone (Exec units program args) old new = Unit {0}
LeavesDone (Fmt file) old new = Unit {0}

-- memory ran out: what is run may have put something out by then
abbrev pub LeavesUndone : {O : Type 0} → Command → O → O → Type 0
LeavesUndone (Check paths) old new = new ≡ old
LeavesUndone (Emit paths) old new = new ≡ old
LeavesUndone (Run units paths args) old new = Unit {0}
LeavesUndone (Exec units program args) old new = Unit {0}
LeavesUndone (Fmt file) old new = new ≡ old

-- Nothing was called on the output, and so it is as it was, at the answers that come before it.
abbrev pub LeavesOutput : {O : Type 0} → Command → Answer → O → O → Type 0
LeavesOutput c Accepted old new = LeavesDone c old new
LeavesOutput c (Exited status) old new = Unit {0}
LeavesOutput c Usage old new = new ≡ old
LeavesOutput c (Refused fault) old new = new ≡ old
LeavesOutput c (RefusedText fault) old new = new ≡ old
LeavesOutput c FileFault old new = new ≡ old
LeavesOutput c (Undefined act) old new = Unit {0}
LeavesOutput c Memory old new = LeavesUndone c old new
LeavesOutput c ReadFault old new = Unit {0}
LeavesOutput c WriteFault old new = Unit {0}
LeavesOutput c Spent old new = Unit {0}
LeavesOutput c StackFull old new = Unit {0}
LeavesOutput c Aborted old new = Unit {0}

-- what is read of the input at an answer to a command that runs something: nothing where nothing was run
abbrev pub LeavesUnread : {I : Type 0} → Answer → I → I → Type 0
LeavesUnread Accepted old new = new ≡ old
LeavesUnread (Exited status) old new = Unit {0}
LeavesUnread Usage old new = new ≡ old
LeavesUnread (Refused fault) old new = new ≡ old
LeavesUnread (RefusedText fault) old new = new ≡ old
LeavesUnread FileFault old new = new ≡ old
LeavesUnread (Undefined act) old new = Unit {0}
LeavesUnread Memory old new = Unit {0}
LeavesUnread ReadFault old new = Unit {0}
LeavesUnread WriteFault old new = Unit {0}
LeavesUnread Spent old new = Unit {0}
LeavesUnread StackFull old new = Unit {0}
LeavesUnread Aborted old new = Unit {0}

-- Nothing was called on the input, and so it is as it was, by a command that runs nothing, and at the answers that come before a run.
abbrev pub LeavesInput : {I : Type 0} → Command → Answer → I → I → Type 0
LeavesInput (Check paths) answer old new = new ≡ old
LeavesInput (Emit paths) answer old new = new ≡ old
LeavesInput (Run units paths args) answer old new = LeavesUnread answer old new
LeavesInput (Exec units program args) answer old new = LeavesUnread answer old new
LeavesInput (Fmt file) answer old new = new ≡ old
