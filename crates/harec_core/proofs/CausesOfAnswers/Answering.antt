-- Answers come exactly where their causes hold, and what is answered once the log was written.
use Rattle.std.proofs.Common.{◌≡◌, ◌≢◌, ℕ, ◌<◌, ◌-◌, ◌^◌, ◌≤◌, List, [], ◌∷◌, length, refl, sym, ap, ◌∙◌, subst, inl, inr, arith}
use Rattle.std.specs.Prelude.{◌⊎◌, ◌↔◌, Result}
use Rattle.il_code.specs.declared.types.Module.{Module}
use Rattle.il_code.specs.Machine as machine
use Rattle.il_code.specs.Run.{machine_end}
use Rattle.il_code.specs.Grammar.{Spells}
use Rattle.il_code.specs.Print.{module_text}
use Rattle.il_code.specs.Rules.{IsValid, IsValidText}
use Rattle.il_code.specs.TextLaws.{TextsSpellOne}
use Rattle.il_step.specs.declared.end.End.TheVariants as outcome
use Rattle.hare_tree.specs.declared.place.Fault.{Fault}
use Rattle.hare_lines.specs.Layout.{IsLaidOut}
use Rattle.hare_sources.specs.Files.{most_of_file}
use Rattle.hare_blocks.specs.Class.{IsSource}
use Rattle.hare_blocks.specs.Trees.{Program}
use Rattle.harec_words.specs.Commands.{Command, Check, Emit, Run, Exec, Fmt}
use Rattle.harec_check.specs.declared.stopped.Stopped.{Stopped}
use Rattle.harec_core.specs.declared.answer.IlFault.{IlFault}
use Rattle.harec_core.specs.declared.answer.Answer.{Answer}
use Rattle.harec_core.specs.declared.answer.Answer.TheVariants.{Accepted, Exited, Usage, Refused, RefusedText, FileFault, Undefined, Memory, ReadFault, WriteFault, Spent, StackFull, Aborted}
use Rattle.harec_core.specs.declared.answer.Undef.TheVariants.{Il, Hare}
use Rattle.harec_core.specs.declared.done.Done.{Done}
use Rattle.harec_core.specs.Answers.{Call, HasCause, HasAbortText, NotRead, NotSound, NotBuilt, NoMemory, NotRun, Passed, Emitted, NotLaidOut, LaidOut, EndedIn, StoppedIn, CutEmit, CutLayout, IsCompiled, IsJobOf, compiled, read_back, IsQuiet, AreNotOfClass, Gives, gives, exhausted, faulty, IsOrMemory, Answers, LeavesInput, answer_to, not_built}
use Rattle.harec_core.specs.Asked.{Checks, Compiles, Executes, files_of, units_of}
use Rattle.harec_core.specs.Jobs.{Job, IsInputFor}
use Rattle.harec_core.specs.Layouts.{HasLayout, IsLayoutFault, too_large, of_source}
use Rattle.harec_core.specs.Log.{IsLine, Logs, told, failed}
use Rattle.harec_core.specs.Outside.{HasRisen, Stands, Sent}
use Rattle.harec_core.specs.Stages.{IsFound, found_answer}
use Rattle.harec_core.specs.Texts.{IsPrinted, IsTextFault}
use Rattle.harec_core.specs.Texts as texts
use Rattle.harec_core.proofs.CausesOfAnswers.Causes.{apart, risen}

-- ---- the rows of the table of causes

data Row (c : Call) (a : Answer) : Type 0 where
  not_read : a ≡ FileFault → NotRead c → Row c a
  not_sound : (f : Fault) → a ≡ Refused f → NotSound c f → Row c a
  unbuilt : a ≡ Refused not_built → NotBuilt c → Row c a
  no_memory : a ≡ Memory → NoMemory c → Row c a
  passed : a ≡ Accepted → Passed c → Row c a
  emitted : a ≡ Accepted → Emitted c → Row c a
  ran : (end : machine.End) → a ≡ answer_to end → EndedIn c end → Row c a
  paused : a ≡ Memory → StoppedIn c outcome.Memory → Row c a
  cut_input : a ≡ ReadFault → StoppedIn c outcome.ReadFault → Row c a
  cut_run : a ≡ WriteFault → StoppedIn c outcome.WriteFault → Row c a
  cut_emit : a ≡ WriteFault → CutEmit c → Row c a
  not_laid : (f : Fault) → a ≡ Refused f → NotLaidOut c f → Row c a
  laid : a ≡ Accepted → LaidOut c → Row c a
  cut_layout : a ≡ WriteFault → CutLayout c → Row c a
  not_run : (f : IlFault) → a ≡ RefusedText f → NotRun c f → Row c a

row : (c : Call) (a : Answer) → HasCause c a → Row c a
row c Accepted (inl h) = passed refl h
row c Accepted (inr (inl h)) = emitted refl h
row c Accepted (inr (inr h)) = laid refl h
row c (Exited status) h = ran (machine.Exit status) refl h
row c Usage h = absurd h
row c (Refused f) (inl h) = not_sound f refl h
row c (Refused f) (inr (inl h)) = unbuilt (ap Refused h.0) h.1
row c (Refused f) (inr (inr h)) = not_laid f refl h
row c (RefusedText f) h = not_run f refl h
row c FileFault h = not_read refl h
row c (Undefined (Il f)) h = ran (machine.Fault f) refl h
row c (Undefined (Hare u)) h = absurd h
row c Memory (inl h) = no_memory refl h
row c Memory (inr h) = paused refl h
row c ReadFault h = cut_input refl h
row c WriteFault (inl h) = cut_emit refl h
row c WriteFault (inr (inl h)) = cut_run refl h
row c WriteFault (inr (inr h)) = cut_layout refl h
row c Spent h = ran machine.Spent refl h
row c StackFull h = ran machine.StackFull refl h
row c Aborted h = ran (machine.Abort h.0) refl h.1

-- ---- commands

-- a command that runs a module
abbrev Runs : Command → Type 0
Runs (Check files) = ⊥
Runs (Emit files) = ⊥
Runs (Run units files args) = Unit {0}
Runs (Exec units program args) = Unit {0}
Runs (Fmt file) = ⊥

job_runs : {c : Call} {j : Job} → IsJobOf c j → Runs c.command
job_runs {c} {j} h = elim h.runs [
  | compiled paths e k ↦ subst Runs (sym e) tt
  | read_back file e k ↦ subst Runs (sym e) tt
]

job_files : {c : Call} {j : Job} → IsJobOf c j → Stands c.files
job_files {c} {j} h = elim h.runs [ compiled paths e k ↦ k.sound.files | read_back file e k ↦ k.asked.files ]

-- a command on the text of a file is none on a program
checks_executes : (command : Command) → Checks command → Executes command → ⊥
checks_executes (Check files) k x = x
checks_executes (Emit files) k x = x
checks_executes (Run units files args) k x = x
checks_executes (Exec units program args) k x = k
checks_executes (Fmt file) k x = x

compiles_executes : (command : Command) → Compiles command → Executes command → ⊥
compiles_executes (Check files) k x = x
compiles_executes (Emit files) k x = x
compiles_executes (Run units files args) k x = x
compiles_executes (Exec units program args) k x = k
compiles_executes (Fmt file) k x = x

-- ---- what excludes each other

-- a file of the class is none of the others
of_class :
    (srcs : List (List ℕ)) (source : List ℕ) (p : Program) → srcs ≡ source ∷ [] → IsSource source p → AreNotOfClass srcs → ⊥
of_class srcs source p e s n = let other : AreNotOfClass (source ∷ []) = subst AreNotOfClass e n in other p s

-- nor is one that was compiled
compiled_is : (c : Call) (m : Module) → IsCompiled c m → AreNotOfClass c.sources → ⊥
compiled_is c m k none = of_class c.sources k.source k.made.program k.one k.made.file none

job_of_class : (c : Call) (j : Job) → IsJobOf c j → Compiles c.command → AreNotOfClass c.sources → ⊥
job_of_class c j h k none = elim h.runs [
  | compiled paths e is ↦ compiled_is c j.program is none
  | read_back file e is ↦ compiles_executes c.command k is.asked.executes
]

-- one file has one list of bytes
same_bytes : (srcs : List (List ℕ)) (source other : List ℕ) → srcs ≡ source ∷ [] → srcs ≡ other ∷ [] → source ≡ other
same_bytes srcs source other e f = head (sym e ∙ f)
  where
    head : source ∷ [] ≡ other ∷ [] → source ≡ other
    head same = cc

-- the text of a module has no fault, and a text has one fault at most
printed_faultless : (source : List ℕ) (m : Module) (f : IlFault) → IsPrinted source m → IsTextFault source f → ⊥
printed_faultless source m f p (texts.too_large l e) = absurd (omega (arith, p.small, l))
printed_faultless source m f p (texts.not_printed l none e) = none m p.valid p.printed

one_text_fault : (source : List ℕ) (f g : IlFault) → IsTextFault source f → IsTextFault source g → f ≡ g
one_text_fault source f g (texts.too_large l e) (texts.too_large k d) = e ∙ sym d
one_text_fault source f g (texts.too_large l e) (texts.not_printed k none d) = absurd (omega (arith, l, k))
one_text_fault source f g (texts.not_printed l none e) (texts.too_large k d) = absurd (omega (arith, l, k))
one_text_fault source f g (texts.not_printed l none e) (texts.not_printed k other d) = e ∙ sym d

job_faultless :
    (c : Call) (j : Job) (source : List ℕ) (f : IlFault) → IsJobOf c j → Executes c.command → c.sources ≡ source ∷ []
    → IsTextFault source f → ⊥
job_faultless c j source f h x one has = elim h.runs [
  | compiled paths e is ↦ compiles_executes c.command is.compiles x
  | read_back file e is ↦
      let same = same_bytes c.sources is.source source is.asked.one one in
      printed_faultless source j.program f (subst (λ (s : List ℕ). IsPrinted s j.program) same is.printed) has
]

-- writing out and running differ
actions_differ :
    (command : Command) (paths files : List (List ℕ)) (units : ℕ) (args : List (List ℕ)) → command ≡ Emit paths
    → command ≡ Run units files args → ⊥
actions_differ command paths files units args e r = cc

-- a run and the one that is asked for have the same end
same_end :
    (j : Job) (m : Module) (args : List (List ℕ)) (units fill : ℕ) (bytes : List ℕ) (end : machine.End) → j.program ≡ m
    → j.args ≡ args → j.units ≡ units → j.fill ≡ fill → machine_end j.program j.args bytes j.fill j.units ≡ end
    → machine_end m args bytes fill units ≡ end
same_end j m args units fill bytes end p a u f h = rw (← p, ← a, ← u, ← f) h

-- valid modules with one text are one
printed_once :
    TextsSpellOne → (m n : Module) → IsValid m → IsValid n → module_text m ≡ module_text n → m ≡ n
printed_once law m n v w e = law (module_text m) m n v.spells (subst (λ (t : List ℕ). Spells t n) (sym e) w.spells)

-- ---- counts

-- no count stands at its end as a call begins
pub record HasRoom (c : Call) : Type 0 where
  pub input : c.input.faults.before < 2 ^ 64 - 1
  pub out : c.out.faults.before < 2 ^ 64 - 1

-- the input failed, and the output did
input_risen : (c : Call) → HasRoom c → StoppedIn c outcome.ReadFault → HasRisen c.input.faults
input_risen c few h = risen c.input.faults.before c.input.faults.now few.input h.answered.counts.read

out_risen : (c : Call) → HasRoom c → StoppedIn c outcome.WriteFault → HasRisen c.out.faults
out_risen c few h = risen c.out.faults.before c.out.faults.now few.out h.answered.counts.write

-- an input that was not called has not failed
abbrev Unread : Call → Answer → Type 0
Unread c a = LeavesInput c.command a c.input.faults.before c.input.faults.now

-- by these answers it was not
unread_by : (command : Command) (before now : ℕ) → LeavesInput command FileFault before now → now ≡ before
unread_by (Check files) before now h = h
unread_by (Emit files) before now h = h
unread_by (Run units files args) before now h = h
unread_by (Exec units program args) before now h = h
unread_by (Fmt file) before now h = h

refused_unread : (command : Command) (f : Fault) (before now : ℕ) → LeavesInput command (Refused f) before now → now ≡ before
refused_unread (Check files) f before now h = h
refused_unread (Emit files) f before now h = h
refused_unread (Run units files args) f before now h = h
refused_unread (Exec units program args) f before now h = h
refused_unread (Fmt file) f before now h = h

text_unread : (command : Command) (f : IlFault) (before now : ℕ) → LeavesInput command (RefusedText f) before now → now ≡ before
text_unread (Check files) f before now h = h
text_unread (Emit files) f before now h = h
text_unread (Run units files args) f before now h = h
text_unread (Exec units program args) f before now h = h
text_unread (Fmt file) f before now h = h

accepted_unread : (command : Command) (before now : ℕ) → LeavesInput command Accepted before now → now ≡ before
accepted_unread (Check files) before now h = h
accepted_unread (Emit files) before now h = h
accepted_unread (Run units files args) before now h = h
accepted_unread (Exec units program args) before now h = h
accepted_unread (Fmt file) before now h = h

-- ---- exactly where

-- a file was not read
file_fault : (c : Call) (a : Answer) → Row c a → HasRisen c.files → a ≡ FileFault
file_fault c a (not_read e h) r = e
file_fault c a (not_sound f e h) r = absurd (apart c.files h.files r)
file_fault c a (unbuilt e h) r = absurd (apart c.files (h.sound.files) r)
file_fault c a (no_memory e h) r = absurd (apart c.files h.files r)
file_fault c a (passed e h) r = absurd (apart c.files (h.sound.files) r)
file_fault c a (emitted e h) r = absurd (apart c.files (h.compiled.sound.files) r)
file_fault c a (ran end e h) r = absurd (apart c.files (job_files h.asked) r)
file_fault c a (paused e h) r = absurd (apart c.files (job_files h.asked) r)
file_fault c a (cut_input e h) r = absurd (apart c.files (job_files h.asked) r)
file_fault c a (cut_run e h) r = absurd (apart c.files (job_files h.asked) r)
file_fault c a (cut_emit e h) r = absurd (apart c.files (h.compiled.sound.files) r)
file_fault c a (not_laid f e h) r = absurd (apart c.files (h.asked.files) r)
file_fault c a (laid e h) r = absurd (apart c.files (h.asked.files) r)
file_fault c a (cut_layout e h) r = absurd (apart c.files (h.asked.files) r)
file_fault c a (not_run f e h) r = absurd (apart c.files (h.asked.files) r)

-- the output failed
write_fault : (c : Call) (a : Answer) → Row c a → HasRisen c.out.faults → a ≡ WriteFault
write_fault c a (not_read e h) r = absurd (apart c.out.faults h.silent.stands r)
write_fault c a (not_sound f e h) r = absurd (apart c.out.faults h.silent.stands r)
write_fault c a (unbuilt e h) r = absurd (apart c.out.faults h.silent.stands r)
write_fault c a (no_memory e h) r = absurd (apart c.out.faults h.silent.stands r)
write_fault c a (passed e h) r = absurd (apart c.out.faults h.silent.stands r)
write_fault c a (emitted e h) r = absurd (apart c.out.faults h.sent.stands r)
write_fault c a (ran end e h) r = absurd (apart c.out.faults h.out r)
write_fault c a (paused e h) r = absurd (apart c.out.faults h.answered.counts.write r)
write_fault c a (cut_input e h) r = absurd (apart c.out.faults h.answered.counts.write r)
write_fault c a (cut_run e h) r = e
write_fault c a (cut_emit e h) r = e
write_fault c a (not_laid f e h) r = absurd (apart c.out.faults h.silent.stands r)
write_fault c a (laid e h) r = absurd (apart c.out.faults h.sent.stands r)
write_fault c a (cut_layout e h) r = e
write_fault c a (not_run f e h) r = absurd (apart c.out.faults h.silent.stands r)

-- the input failed
read_fault : (c : Call) (a : Answer) → Row c a → Unread c a → HasRisen c.input.faults → a ≡ ReadFault
read_fault c a (not_read e h) u r = absurd (apart c.input.faults (unread_by c.command c.input.faults.before c.input.faults.now (subst (Unread c) e u)) r)
read_fault c a (not_sound f e h) u r = absurd (apart c.input.faults (refused_unread c.command f c.input.faults.before c.input.faults.now (subst (Unread c) e u)) r)
read_fault c a (unbuilt e h) u r = absurd (apart c.input.faults (refused_unread c.command not_built c.input.faults.before c.input.faults.now (subst (Unread c) e u)) r)
read_fault c a (no_memory e h) u r = absurd (apart c.input.faults h.input r)
read_fault c a (passed e h) u r = absurd (apart c.input.faults (accepted_unread c.command c.input.faults.before c.input.faults.now (subst (Unread c) e u)) r)
read_fault c a (emitted e h) u r = absurd (apart c.input.faults (accepted_unread c.command c.input.faults.before c.input.faults.now (subst (Unread c) e u)) r)
read_fault c a (ran end e h) u r = absurd (apart c.input.faults h.input r)
read_fault c a (paused e h) u r = absurd (apart c.input.faults h.answered.counts.read r)
read_fault c a (cut_input e h) u r = e
read_fault c a (cut_run e h) u r = absurd (apart c.input.faults h.answered.counts.read r)
read_fault c a (cut_emit e h) u r = absurd (apart c.input.faults (subst (λ (x : Command). LeavesInput x a c.input.faults.before c.input.faults.now) h.command u) r)
read_fault c a (not_laid f e h) u r = absurd (apart c.input.faults (refused_unread c.command f c.input.faults.before c.input.faults.now (subst (Unread c) e u)) r)
read_fault c a (laid e h) u r = absurd (apart c.input.faults (accepted_unread c.command c.input.faults.before c.input.faults.now (subst (Unread c) e u)) r)
read_fault c a (cut_layout e h) u r = absurd (apart c.input.faults (subst (λ (x : Command). LeavesInput x a c.input.faults.before c.input.faults.now) h.asked.command u) r)
read_fault c a (not_run f e h) u r = absurd (apart c.input.faults (text_unread c.command f c.input.faults.before c.input.faults.now (subst (Unread c) e u)) r)

-- the program was only checked
only_checked :
    (c : Call) (a : Answer) (paths : List (List ℕ)) → Row c a → Stands c.files → c.command ≡ Check paths → Gives c a Accepted
only_checked c a paths (not_read e h) s k = absurd (apart c.files s h.files)
only_checked c a paths (not_sound f e h) s k = faulty f e h.first
only_checked c a paths (unbuilt e h) s k = absurd (subst Compiles k h.compiles)
only_checked c a paths (no_memory e h) s k = exhausted e
only_checked c a paths (passed e h) s k = gives e
only_checked c a paths (emitted e h) s k = gives e
only_checked c a paths (ran end e h) s k = absurd (subst Runs k (job_runs h.asked))
only_checked c a paths (paused e h) s k = exhausted e
only_checked c a paths (cut_input e h) s k = absurd (subst Runs k (job_runs h.asked))
only_checked c a paths (cut_run e h) s k = absurd (subst Runs k (job_runs h.asked))
only_checked c a paths (cut_emit e h) s k = absurd (subst Compiles k h.compiled.compiles)
only_checked c a paths (not_laid f e h) s k = absurd (subst Checks (sym k ∙ h.asked.command) tt)
only_checked c a paths (laid e h) s k = gives e
only_checked c a paths (cut_layout e h) s k = absurd (subst Checks (sym k ∙ h.asked.command) tt)
only_checked c a paths (not_run f e h) s k = absurd (subst Executes k h.asked.executes)

-- the files are not compiled
refused :
    (c : Call) (a : Answer) → Row c a → Stands c.files → Compiles c.command → AreNotOfClass c.sources
    → Gives c a (Refused not_built)
refused c a (not_read e h) s k none = absurd (apart c.files s h.files)
refused c a (not_sound f e h) s k none = faulty f e h.first
refused c a (unbuilt e h) s k none = gives e
refused c a (no_memory e h) s k none = exhausted e
refused c a (passed e h) s k none = absurd (subst Compiles h.command k)
refused c a (emitted e h) s k none = absurd (compiled_is c h.program h.compiled none)
refused c a (ran end e h) s k none = absurd (job_of_class c h.job h.asked k none)
refused c a (paused e h) s k none = exhausted e
refused c a (cut_input e h) s k none = absurd (job_of_class c h.job h.asked k none)
refused c a (cut_run e h) s k none = absurd (job_of_class c h.job h.asked k none)
refused c a (cut_emit e h) s k none = absurd (compiled_is c h.program h.compiled none)
refused c a (not_laid f e h) s k none = absurd (subst Compiles h.asked.command k)
refused c a (laid e h) s k none = absurd (subst Compiles h.asked.command k)
refused c a (cut_layout e h) s k none = absurd (subst Compiles h.asked.command k)
refused c a (not_run f e h) s k none = absurd (compiles_executes c.command k h.asked.executes)

-- the text of the file has a fault
text_refused :
    (c : Call) (a : Answer) (source : List ℕ) (g : IlFault) → Row c a → Stands c.files → Executes c.command → c.sources ≡ source ∷ []
    → IsTextFault source g → IsOrMemory a (RefusedText g)
text_refused c a source g (not_read e h) s x one has = absurd (apart c.files s h.files)
text_refused c a source g (not_sound f e h) s x one has = absurd (checks_executes c.command h.checks x)
text_refused c a source g (unbuilt e h) s x one has = absurd (checks_executes c.command h.sound.checks x)
text_refused c a source g (no_memory e h) s x one has = inr e
text_refused c a source g (passed e h) s x one has = absurd (checks_executes c.command h.sound.checks x)
text_refused c a source g (emitted e h) s x one has = absurd (checks_executes c.command h.compiled.sound.checks x)
text_refused c a source g (ran end e h) s x one has = absurd (job_faultless c h.job source g h.asked x one has)
text_refused c a source g (paused e h) s x one has = inr e
text_refused c a source g (cut_input e h) s x one has = absurd (job_faultless c h.job source g h.asked x one has)
text_refused c a source g (cut_run e h) s x one has = absurd (job_faultless c h.job source g h.asked x one has)
text_refused c a source g (cut_emit e h) s x one has = absurd (checks_executes c.command h.compiled.sound.checks x)
text_refused c a source g (not_laid f e h) s x one has = absurd (subst Executes h.asked.command x)
text_refused c a source g (laid e h) s x one has = absurd (subst Executes h.asked.command x)
text_refused c a source g (cut_layout e h) s x one has = absurd (subst Executes h.asked.command x)
text_refused c a source g (not_run f e h) s x one has =
    let same = same_bytes c.sources h.source source h.asked.one one in
    inl (e ∙ ap RefusedText (one_text_fault source f g (subst (λ (s : List ℕ). IsTextFault s f) same h.fault) has))

module _
    (c : Call) (a : Answer) (paths : List (List ℕ)) (source : List ℕ) (p : Program) (q : IsQuiet c) (one : c.sources ≡ source ∷ [])
    (s : IsSource source p) where
  -- the text was written
  accepted : Row c a → c.command ≡ Emit paths → Gives c a Accepted
  accepted (not_read e h) act = absurd (apart c.files q.files h.files)
  accepted (not_sound f e h) act = faulty f e h.first
  accepted (unbuilt e h) act = absurd (of_class c.sources source p one s h.sources)
  accepted (no_memory e h) act = exhausted e
  accepted (passed e h) act = gives e
  accepted (emitted e h) act = gives e
  accepted (ran end e h) act = absurd (subst Runs act (job_runs h.asked))
  accepted (paused e h) act = exhausted e
  accepted (cut_input e h) act = absurd (subst Runs act (job_runs h.asked))
  accepted (cut_run e h) act = absurd (subst Runs act (job_runs h.asked))
  accepted (cut_emit e h) act = absurd (apart c.out.faults q.out h.cut.risen)
  accepted (not_laid f e h) act = absurd (subst Checks (sym act ∙ h.asked.command) tt)
  accepted (laid e h) act = gives e
  accepted (cut_layout e h) act = absurd (apart c.out.faults q.out h.cut.risen)
  accepted (not_run f e h) act = absurd (subst Executes act h.asked.executes)

  module _
      (law : TextsSpellOne) (few : HasRoom c) (m : Module) (units : ℕ) (args : List (List ℕ)) (bytes : List ℕ) (still : Stands c.input.faults)
      (act : c.command ≡ Run units paths args) (v : IsValidText c.text m) where
    -- the run is that of the module of the text, which reads nothing
    run_ends : (end : machine.End) → EndedIn c end → machine_end m args bytes c.fill units ≡ end
    run_ends end h = elim h.asked.runs [
      | compiled files e k ↦
          let same = law c.text h.job.program m k.made.valid.spells v.spells in
          let given : Run h.job.units files h.job.args ≡ Run units paths args = sym e ∙ act in
          same_end h.job m args units c.fill bytes end same (cc) (cc) h.asked.fill (h.ends bytes (inr k.made.unread)).is
      | read_back file e k ↦ absurd (subst Executes act k.asked.executes)
    ]

    -- the run ended
    ends_so : Row c a → Gives c a (answer_to (machine_end m args bytes c.fill units))
    ends_so (not_read e h) = absurd (apart c.files q.files h.files)
    ends_so (not_sound f e h) = faulty f e h.first
    ends_so (unbuilt e h) = absurd (of_class c.sources source p one s h.sources)
    ends_so (no_memory e h) = exhausted e
    ends_so (passed e h) = absurd (subst Compiles (sym act ∙ h.command) tt)
    ends_so (emitted e h) = absurd (actions_differ c.command h.paths paths units args h.command act)
    ends_so (ran end e h) = gives (e ∙ ap answer_to (sym (run_ends end h)))
    ends_so (paused e h) = exhausted e
    ends_so (cut_input e h) = absurd (apart c.input.faults still (input_risen c few h))
    ends_so (cut_run e h) = absurd (apart c.out.faults q.out (out_risen c few h))
    ends_so (cut_emit e h) = absurd (actions_differ c.command h.paths paths units args h.command act)
    ends_so (not_laid f e h) = absurd (subst Checks (sym act ∙ h.asked.command) tt)
    ends_so (laid e h) = absurd (subst Checks (sym act ∙ h.asked.command) tt)
    ends_so (cut_layout e h) = absurd (subst Checks (sym act ∙ h.asked.command) tt)
    ends_so (not_run f e h) = absurd (subst Executes act h.asked.executes)

-- the text of a file is that of a module
module _
    (c : Call) (a : Answer) (law : TextsSpellOne) (few : HasRoom c) (units : ℕ) (file args : List (List ℕ)) (source : List ℕ) (m : Module)
    (bytes : List ℕ) (q : IsQuiet c) (still : Stands c.input.faults) (act : c.command ≡ Exec units file args)
    (one : c.sources ≡ source ∷ []) (p : IsPrinted source m) (input : IsInputFor c.input m bytes) where
  -- the run is that of this module
  text_ends : (end : machine.End) → EndedIn c end → machine_end m args bytes c.fill units ≡ end
  text_ends end h = elim h.asked.runs [
    | compiled files e k ↦ absurd (subst Compiles act k.compiles)
    | read_back word e k ↦
        let bytes_same = same_bytes c.sources k.source source k.asked.one one in
        let texts_same = sym k.printed.printed ∙ bytes_same ∙ p.printed in
        let same = printed_once law h.job.program m k.printed.valid p.valid texts_same in
        let given : Exec h.job.units word h.job.args ≡ Exec units file args = sym e ∙ act in
        same_end h.job m args units c.fill bytes end same (cc) (cc) h.asked.fill
        (h.ends bytes (subst (λ (x : Module). IsInputFor c.input x bytes) (sym same) input)).is
  ]

  -- the run ended
  text_ends_so : Row c a → IsOrMemory a (answer_to (machine_end m args bytes c.fill units))
  text_ends_so (not_read e h) = absurd (apart c.files q.files h.files)
  text_ends_so (not_sound f e h) = absurd (subst Checks act h.checks)
  text_ends_so (unbuilt e h) = absurd (subst Compiles act h.compiles)
  text_ends_so (no_memory e h) = inr e
  text_ends_so (passed e h) = absurd (subst Checks act h.sound.checks)
  text_ends_so (emitted e h) = absurd (subst Compiles act h.compiled.compiles)
  text_ends_so (ran end e h) = inl (e ∙ ap answer_to (sym (text_ends end h)))
  text_ends_so (paused e h) = inr e
  text_ends_so (cut_input e h) = absurd (apart c.input.faults still (input_risen c few h))
  text_ends_so (cut_run e h) = absurd (apart c.out.faults q.out (out_risen c few h))
  text_ends_so (cut_emit e h) = absurd (subst Compiles act h.compiled.compiles)
  text_ends_so (not_laid f e h) = absurd (subst Executes (sym act ∙ h.asked.command) tt)
  text_ends_so (laid e h) = absurd (subst Executes (sym act ∙ h.asked.command) tt)
  text_ends_so (cut_layout e h) = absurd (subst Executes (sym act ∙ h.asked.command) tt)
  text_ends_so (not_run f e h) =
      let same = same_bytes c.sources h.source source h.asked.one one in
      absurd (printed_faultless source m f p (subst (λ (s : List ℕ). IsTextFault s f) same h.fault))

-- a file is to be laid out
module _
    (c : Call) (a : Answer) (file : List (List ℕ)) (source : List ℕ) (act : c.command ≡ Fmt file) (one : c.sources ≡ source ∷ []) where
  -- it has a layout
  layout_given : (layout : List ℕ) → Row c a → IsQuiet c → length source ≤ most_of_file → IsLaidOut source layout → IsOrMemory a Accepted
  layout_given layout (not_read e h) q small l = absurd (apart c.files q.files h.files)
  layout_given layout (not_sound f e h) q small l = absurd (subst Checks act h.checks)
  layout_given layout (unbuilt e h) q small l = absurd (subst Compiles act h.compiles)
  layout_given layout (no_memory e h) q small l = inr e
  layout_given layout (passed e h) q small l = inl e
  layout_given layout (emitted e h) q small l = inl e
  layout_given layout (ran end e h) q small l = absurd (subst Runs act (job_runs h.asked))
  layout_given layout (paused e h) q small l = inr e
  layout_given layout (cut_input e h) q small l = absurd (subst Runs act (job_runs h.asked))
  layout_given layout (cut_run e h) q small l = absurd (subst Runs act (job_runs h.asked))
  layout_given layout (cut_emit e h) q small l = absurd (subst Compiles act h.compiled.compiles)
  layout_given layout (not_laid f e h) q small l =
      let same = same_bytes c.sources h.source source h.asked.one one in
      absurd (h.fault.none layout (rw same small) (rw same l))
  layout_given layout (laid e h) q small l = inl e
  layout_given layout (cut_layout e h) q small l = absurd (apart c.out.faults q.out h.cut.risen)
  layout_given layout (not_run f e h) q small l = absurd (subst Executes act h.asked.executes)

  -- a file that has a layout has no fault
  layout_faultless : (f : Fault) (layout : List ℕ) → HasLayout source layout → IsLayoutFault source f → ⊥
  layout_faultless f layout l (too_large large e) = absurd (omega (arith, large, l.small))
  layout_faultless f layout l (of_source small has) = l.faultless f has

  -- it has a fault
  fault_given : (f : Fault) → Row c a → Stands c.files → IsLayoutFault source f → IsOrMemory a (Refused f)
  fault_given f (not_read e h) s has = absurd (apart c.files s h.files)
  fault_given f (not_sound g e h) s has = absurd (subst Checks act h.checks)
  fault_given f (unbuilt e h) s has = absurd (subst Compiles act h.compiles)
  fault_given f (no_memory e h) s has = inr e
  fault_given f (passed e h) s has = absurd (subst Checks act h.sound.checks)
  fault_given f (emitted e h) s has = absurd (subst Compiles act h.compiled.compiles)
  fault_given f (ran end e h) s has = absurd (subst Runs act (job_runs h.asked))
  fault_given f (paused e h) s has = inr e
  fault_given f (cut_input e h) s has = absurd (subst Runs act (job_runs h.asked))
  fault_given f (cut_run e h) s has = absurd (subst Runs act (job_runs h.asked))
  fault_given f (cut_emit e h) s has = absurd (subst Compiles act h.compiled.compiles)
  fault_given f (not_laid g e h) s has =
      let same = same_bytes c.sources h.source source h.asked.one one in
      let only : f ≡ g = h.fault.only f (rw same has) in
      inl (e ∙ ap Refused (sym only))
  fault_given f (laid e h) s has =
      let same = same_bytes c.sources h.source source h.asked.one one in
      absurd (layout_faultless f h.layout (rw same at h.laid) has)
  fault_given f (cut_layout e h) s has =
      let same = same_bytes c.sources h.source source h.asked.one one in
      absurd (layout_faultless f h.layout (rw same at h.laid) has)
  fault_given f (not_run g e h) s has = absurd (subst Executes act h.asked.executes)

-- an answer with its cause and its line is the answer wherever its cause holds
pub answers :
    (law : TextsSpellOne) (c : Call) (a : Answer) (abort line : List ℕ) → HasRoom c → HasCause c a → Unread c a → HasAbortText c abort a
    → IsLine (files_of c.command) (units_of c.command) abort a line → Answers c a line
answers law c a abort line few h unread aborts is =
    let r = row c a h in
    record {
      cause = h;
      abort = abort;
      aborts = aborts;
      says = is;
      file_fault = file_fault c a r;
      read_fault = read_fault c a r unread;
      write_fault = write_fault c a r;
      passed = λ paths. only_checked c a paths r;
      refused = refused c a r;
      accepted = λ paths source p q act one s. accepted c a paths source p q one s r act;
      ended = λ units paths args source p m bytes q still act one s v.
          ends_so c a paths source p q one s law few m units args bytes still act v r;
      laid_out = λ file source layout q act one small l. layout_given c a file source act one layout r q small l;
      not_laid_out = λ file source f s act one has. fault_given c a file source act one f r s has;
      not_executed = λ source f s x one has. text_refused c a source f r s x one has;
      executed = λ units file args source m bytes q still act one p input.
          text_ends_so c a law few units file args source m bytes q still act one p input r;
    }

-- so is what is found, with its line
pub found_answers :
    (law : TextsSpellOne) (c : Call) (paths : List (List ℕ)) (units : ℕ) (found : Result Done Stopped) (line : List ℕ)
    → files_of c.command ≡ paths → units ≡ units_of c.command → HasRoom c → (f : IsFound c paths found) → Unread c (found_answer found)
    → IsLine paths units f.text (found_answer found) line → Answers c (found_answer found) line
found_answers law c paths units found line files same few f unread is =
    answers law c (found_answer found) f.text line few f.cause unread f.aborts (rw (files, ← same) is)

-- ---- the line in the log

-- an answer other than a write fault is answered where it was found and the log did not fail
pub answered_is :
    (l : List ℕ) (log : Sent) (a r x : Answer) → x ≢ WriteFault → Logs l log a r → (r ≡ x) ↔ ((a ≡ x) × Stands log.faults)
answered_is l log a r x d (told s) = (λ e. (e, s.stands), λ h. h.0)
answered_is l log a r x d (failed f) = (λ e. absurd (d (sym e)), λ h. absurd (apart log.faults h.1 f.risen))

-- a write fault is answered where it was found, or the log failed
answered_write_fault : (l : List ℕ) (log : Sent) (a r : Answer) → Logs l log a r →
    (r ≡ WriteFault) ↔ ((a ≡ WriteFault) ⊎ HasRisen log.faults)
answered_write_fault l log a r (told s) = (λ e. inl e, back)
  where
    back : (a ≡ WriteFault) ⊎ HasRisen log.faults → a ≡ WriteFault
    back (inl e) = e
    back (inr r) = absurd (apart log.faults s.stands r)
answered_write_fault l log a r (failed f) = (λ e. inr f.risen, λ h. refl)

-- ---- what is answered

-- a write fault was found where the output failed
found_write_fault : (c : Call) (a : Answer) → HasRoom c → HasCause c a → a ≡ WriteFault → HasRisen c.out.faults
found_write_fault c a few h e = cut (subst (HasCause c) e h)
  where
    cut : HasCause c WriteFault → HasRisen c.out.faults
    cut (inl k) = k.cut.risen
    cut (inr (inl k)) = out_risen c few k
    cut (inr (inr k)) = k.cut.risen

-- a file fault where a file was not read
pub found_file_fault : (c : Call) (a : Answer) → HasCause c a → a ≡ FileFault → HasRisen c.files
found_file_fault c a h e = let k : NotRead c = subst (HasCause c) e h in k.files

-- a read fault where the input failed
pub found_read_fault : (c : Call) (a : Answer) → HasRoom c → HasCause c a → a ≡ ReadFault → HasRisen c.input.faults
found_read_fault c a few h e = let k : StoppedIn c outcome.ReadFault = subst (HasCause c) e h in input_risen c few k

-- usage never, where there is a command
pub found_usage : (c : Call) (a : Answer) → HasCause c a → a ≡ Usage → ⊥
found_usage c a h e = subst (HasCause c) e h

-- a write fault is answered exactly where the output or the log failed
pub write_fault_where :
    (c : Call) (l : List ℕ) (log : Sent) (a r : Answer) → HasRoom c → Answers c a l → Logs l log a r
    → (r ≡ WriteFault) ↔ (HasRisen c.out.faults ⊎ HasRisen log.faults)
write_fault_where c l log a r few all line = (λ e. there (answered.0 e), λ h. answered.1 (back h))
  where
    answered : (r ≡ WriteFault) ↔ ((a ≡ WriteFault) ⊎ HasRisen log.faults)
    answered = answered_write_fault l log a r line

    there : (a ≡ WriteFault) ⊎ HasRisen log.faults → HasRisen c.out.faults ⊎ HasRisen log.faults
    there (inl e) = inl (found_write_fault c a few all.cause e)
    there (inr h) = inr h

    back : HasRisen c.out.faults ⊎ HasRisen log.faults → (a ≡ WriteFault) ⊎ HasRisen log.faults
    back (inl h) = inl (all.write_fault h)
    back (inr h) = inr h
