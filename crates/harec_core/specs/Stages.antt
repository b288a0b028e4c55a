-- What the stages from words to the end of a run hand on. No public clause cites this file.
use Rattle.std.specs.Prelude.{◌≡◌, ◌<◌, ◌⊎◌, ℕ, List, [], ◌∷◌, length, Result, Ok, Err}
use Rattle.il_code.specs.declared.stop.Stop.{Stop}
use Rattle.il_code.specs.declared.stop.Stop.TheVariants as stop
use Rattle.il_code.specs.declared.types.Module.{Module}
use Rattle.il_code.specs.Print.{module_text}
use Rattle.il_code.specs.Rules.{IsValid}
use Rattle.il_code.specs.Run as il
use Rattle.il_step.specs.declared.end.End.{End}
use Rattle.il_step.specs.declared.end.End.TheVariants.{Exit, Abort, Fault, StackFull, Spent, ReadFault, WriteFault, Memory}
use Rattle.il_step.specs.Ends.{abort_text}
use Rattle.il_step.specs.Stands.{Reached, StandsAt}
use Rattle.hare_blocks.specs.Class.{IsSource}
use Rattle.hare_blocks.specs.Trees.{Program}
use Rattle.harec_words.specs.Commands as words
use Rattle.harec_check.specs.declared.stopped.Stopped.{Stopped}
use Rattle.harec_check.specs.declared.stopped.Stopped.TheVariants as stopped
use Rattle.harec_check.specs.Lines.{IsFaultLine}
use Rattle.harec_core.specs.declared.answer.IlFault.{IlFault}
use Rattle.harec_core.specs.declared.answer.Answer.{Answer}
use Rattle.harec_core.specs.declared.answer.Answer.TheVariants as answer
use Rattle.harec_core.specs.declared.answer.Undef.TheVariants.{Il}
use Rattle.harec_core.specs.declared.asked.Action.{Action}
use Rattle.harec_core.specs.declared.asked.Action.TheVariants.{Layout, Text as OnText, Program as OnProgram}
use Rattle.harec_core.specs.declared.asked.Purpose.{Purpose}
use Rattle.harec_core.specs.declared.asked.Purpose.TheVariants.{Check, Emit, Run}
use Rattle.harec_core.specs.declared.asked.Task.{Task}
use Rattle.harec_core.specs.declared.done.Done.{Done}
use Rattle.harec_core.specs.declared.done.Done.TheVariants as done
use Rattle.harec_core.specs.declared.done.Ran.{Ran}
use Rattle.harec_core.specs.declared.done.TextRefusal.{TextRefusal}
use Rattle.harec_core.specs.Answers.{Call, HasCause, HasAbortText, AreNotOfClass, not_built}
use Rattle.harec_core.specs.Class.{CarriesProgram}
use Rattle.harec_core.specs.Jobs.{Job, ReadsNothing, Answered}
use Rattle.harec_core.specs.Layouts.{HasNoLayout}
use Rattle.harec_core.specs.Log.{IsTextFaultLine}
use Rattle.harec_core.specs.Outside.{Received, Sent, IsSent, IsCutOff}
use Rattle.harec_core.specs.Texts.{IsTextFault}

-- ---- words

-- what is done with the program of these files, as a command
abbrev pub command_on : List (List ℕ) → Purpose → words.Command
command_on files Check = words.Check files
command_on files Emit = words.Emit files
command_on files (Run units args) = words.Run units files args.now

-- what is done with these files, as a command
abbrev pub command_for : List (List ℕ) → Action → words.Command
command_for files Layout = words.Fmt files
command_for files (OnText units args) = words.Exec units files args.now
command_for files (OnProgram purpose) = command_on files purpose

abbrev pub command_of : Task → words.Command
command_of a = command_for a.files.now a.action

-- what a program is run with
abbrev pub ArgumentsOf : Purpose → Type 0
ArgumentsOf Check = Unit {0}
ArgumentsOf Emit = Unit {0}
ArgumentsOf (Run units args) = words.AreArguments args.now

-- what is run is run with such arguments
abbrev pub ArgumentsFor : Action → Type 0
ArgumentsFor Layout = Unit {0}
ArgumentsFor (OnText units args) = words.AreArguments args.now
ArgumentsFor (OnProgram purpose) = ArgumentsOf purpose

-- a file that is laid out is the only one, and so is one whose text is run; and a program has words that name files
abbrev pub AreFilesFor : List (List ℕ) → Action → Type 0
AreFilesFor files Layout = length files ≡ 1
AreFilesFor files (OnText units args) = length files ≡ 1
AreFilesFor files (OnProgram purpose) = words.AreFiles files

-- ---- texts

-- the module of the one program of a file, which reads nothing, and whose text carries the program
pub record IsModuleOf (source : List ℕ) (m : Module) : Type 0 where
  pub program : Program
  pub file : IsSource source program
  pub only : (other : Program) → IsSource source other → other ≡ program
  pub valid : IsValid m
  pub unread : ReadsNothing m
  pub carries : CarriesProgram (module_text m) program

-- the text is that of such a module
pub record IsTextOf (source text : List ℕ) (m : Module) : Type 0 where
  pub made : IsModuleOf source m
  pub printed : text ≡ module_text m

-- the files are one, and the text is that of its module
pub record IsBuilt (srcs : List (List ℕ)) (text : List ℕ) (m : Module) : Type 0 where
  pub source : List ℕ
  pub one : srcs ≡ source ∷ []
  pub made : IsTextOf source text m

-- why no text was made of these files
abbrev pub IsBuildStop : (paths srcs : List (List ℕ)) → Stopped → Type 0
IsBuildStop paths srcs (stopped.Refused r) = (r.fault ≡ not_built) × IsFaultLine paths r.fault r.line × AreNotOfClass srcs
IsBuildStop paths srcs (stopped.Unread number) = ⊥
IsBuildStop paths srcs stopped.Memory = Unit {0}

-- why a file with these bytes has no layout
abbrev pub IsLayoutStop : (paths : List (List ℕ)) (source : List ℕ) → Stopped → Type 0
IsLayoutStop paths source (stopped.Refused r) = HasNoLayout source r.fault × IsFaultLine paths r.fault r.line
IsLayoutStop paths source (stopped.Unread number) = ⊥
IsLayoutStop paths source stopped.Memory = Unit {0}

-- why the text of a file is not run
pub record IsTextRefusal (paths : List (List ℕ)) (source : List ℕ) (r : TextRefusal) : Type 0 where
  pub fault : IsTextFault source r.fault
  pub line : IsTextFaultLine paths r.fault r.line

-- the same, where it may be that memory ran out
abbrev pub IsTextStop : (path source : List ℕ) → Stop TextRefusal → Type 0
IsTextStop path source (stop.Fault r) = IsTextRefusal (path ∷ []) source r
IsTextStop path source stop.Memory = Unit {0}

-- the same, before there is a line
abbrev pub IsPrintStop : List ℕ → Stop IlFault → Type 0
IsPrintStop source (stop.Fault f) = IsTextFault source f
IsPrintStop source stop.Memory = Unit {0}

-- ---- what is done with a text

-- the answer to a text that is written out
abbrev pub Emits : List ℕ → Sent → Done → Type 0
Emits text out d = ((d ≡ done.Accepted) × IsSent text out) ⊎ ((d ≡ done.Cut) × IsCutOff text out)

-- what a run with this job answered
abbrev pub IsRunOf : Job → Received → Sent → Ran → Type 0
IsRunOf j input out r = Answered j input out (StandsAt j.program r.machine) r.end

-- the answer of a run
abbrev pub answer_of : End → Answer
answer_of (Exit status) = answer.Exited status
answer_of Abort = answer.Aborted
answer_of (Fault fault) = answer.Undefined (Il fault)
answer_of StackFull = answer.StackFull
answer_of Spent = answer.Spent
answer_of ReadFault = answer.ReadFault
answer_of WriteFault = answer.WriteFault
answer_of Memory = answer.Memory

-- a machine that has aborted stands at a run with this text; of any other end nothing is said
abbrev pub HasAborted : List ℕ → End → Reached → Type 0
HasAborted text (Exit status) machine = Unit {0}
HasAborted text Abort machine = (m : Module) × (r : il.Run) × StandsAt m machine r × (abort_text r ≡ text)
HasAborted text (Fault fault) machine = Unit {0}
HasAborted text StackFull machine = Unit {0}
HasAborted text Spent machine = Unit {0}
HasAborted text ReadFault machine = Unit {0}
HasAborted text WriteFault machine = Unit {0}
HasAborted text Memory machine = Unit {0}

-- ---- what is found

-- the answer to a command that was carried out
abbrev pub done_answer : Done → Answer
done_answer done.Accepted = answer.Accepted
done_answer (done.Ended r) = answer_of r.end
done_answer (done.RefusedText r) = answer.RefusedText r.fault
done_answer done.Cut = answer.WriteFault

-- the answer to one that was not
abbrev pub stopped_answer : Stopped → Answer
stopped_answer (stopped.Refused r) = answer.Refused r.fault
stopped_answer (stopped.Unread number) = answer.FileFault
stopped_answer stopped.Memory = answer.Memory

abbrev pub found_answer : Result Done Stopped → Answer
found_answer (Ok d) = done_answer d
found_answer (Err s) = stopped_answer s

-- what is done brings all that its line takes: the line of a text's fault, or the text of an abort
abbrev pub BringsLine : List (List ℕ) → List ℕ → Done → Type 0
BringsLine paths text done.Accepted = Unit {0}
BringsLine paths text (done.Ended r) = HasAborted text r.end r.machine
BringsLine paths text (done.RefusedText r) = IsTextFaultLine paths r.fault r.line
BringsLine paths text done.Cut = Unit {0}

-- so does what is found
abbrev pub HasLine : List (List ℕ) → List ℕ → Result Done Stopped → Type 0
HasLine paths text (Ok d) = BringsLine paths text d
HasLine paths text (Err (stopped.Refused r)) = IsFaultLine paths r.fault r.line
HasLine paths text (Err (stopped.Unread number)) = number < length paths
HasLine paths text (Err stopped.Memory) = Unit {0}

-- what is found has its cause, and brings all that its line takes, with the text of an abort
pub record IsFound (c : Call) (paths : List (List ℕ)) (found : Result Done Stopped) : Type 0 where
  pub cause : HasCause c (found_answer found)
  pub text : List ℕ
  pub line : HasLine paths text found
  pub aborts : HasAbortText c text (found_answer found)
