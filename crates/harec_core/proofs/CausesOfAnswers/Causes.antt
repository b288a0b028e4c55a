-- Causes of answers.
use Rattle.std.proofs.Common.{◌≡◌, ℕ, ◌<◌, ◌-◌, ◌^◌, List, [], ◌∷◌, length, Option, Some, None, IfSome, Ok, Err, refl, sym, ap, ◌∙◌, subst, inl, inr, arith, append-nil}
use Rattle.std.specs.Io.KnownBytes.{Appends}
use Rattle.hx_io.specs.Causes.{Rose}
use Rattle.il_code.specs.declared.types.Module.{Module}
use Rattle.harec_check.specs.Stops.{Checked}
use Rattle.harec_check.specs.Programs.{IsChecked, IsFaultless}
use Rattle.harec_check.specs.Whole.{IsWhole}
use Rattle.harec_words.specs.Commands.{Command, Check, Emit, Run, IsCommand}
use Rattle.harec_check.specs.declared.stopped.Stopped.{Stopped}
use Rattle.harec_check.specs.declared.stopped.Stopped.TheVariants.{Refused, Unread, Memory}
use Rattle.harec_check.specs.Files.{AreTold}
use Rattle.harec_check.specs.Stops.{IsStop, IsReadStop}
use Rattle.harec_core.specs.declared.asked.Action.{Action}
use Rattle.harec_core.specs.declared.asked.Action.TheVariants as action
use Rattle.harec_core.specs.declared.asked.Purpose.{Purpose}
use Rattle.harec_core.specs.declared.asked.Purpose.TheVariants as purpose
use Rattle.harec_core.specs.declared.done.Done.{Done}
use Rattle.harec_core.specs.declared.done.Done.TheVariants as done
use Rattle.harec_core.specs.declared.done.Ran.{Ran}
use Rattle.harec_core.specs.Answers.{Call, Passed, Emitted, CutEmit, IsMade, IsCompiled, IsSound, IsJobOf, compiled}
use Rattle.harec_core.specs.Asked.{files_of, Checks, Compiles}
use Rattle.harec_core.specs.Jobs.{Job}
use Rattle.harec_core.specs.Outside.{Count, HasRisen, Stands, Received, Sent, sent, IsSent}
use Rattle.harec_core.specs.Stages.{AreFilesFor, ArgumentsFor, IsTextOf, IsBuilt, IsBuildStop, Emits, IsRunOf, IsFound, command_on, command_for}
use Rattle.harec_core.proofs.EndsOfRuns.Running.{run_found}

-- ---- counts and bytes

-- a count does not both stand and rise
pub apart : (c : Count) → Stands c → HasRisen c → ⊥
apart c s r = omega (arith, s, r)

-- a count that is not at its end and that rose is greater than before
pub risen : (before now : ℕ) → before < 2 ^ 64 - 1 → Rose before now → before < now
risen before now few r = omega (arith, few, r)

-- nothing is written where bytes stay
Appends-none : (w : Option (List ℕ)) → Appends w w []
Appends-none None = tt
Appends-none (Some xs) = sym (append-nil xs)

-- nothing was written
pub silent : (f : ℕ) (w : Option (List ℕ)) → IsSent [] (sent f f w w)
silent f w = record { stands = refl; written = Appends-none w }

-- the bytes that files tell, and none where they tell nothing
told_by : (o : Option (List ℕ)) → (source : List ℕ) × IfSome o (λ t. source ≡ t)
told_by None = ([], tt)
told_by (Some t) = (t, refl)

all_told : (content : List ℕ → Option (List ℕ)) (paths : List (List ℕ)) → (srcs : List (List ℕ)) × AreTold content paths srcs
all_told content [] = ([], tt)
all_told content (p ∷ ps) =
    let first = told_by (content p) in
    let others = all_told content ps in
    (first.0 ∷ others.0, (first.1, others.1))

-- ---- the files of a command

pub files_of-command_on : (files : List (List ℕ)) (p : Purpose) → files_of (command_on files p) ≡ files
files_of-command_on files purpose.Check = refl
files_of-command_on files purpose.Emit = refl
files_of-command_on files (purpose.Run units args) = refl

pub files_of-command_for : (files : List (List ℕ)) (a : Action) → files_of (command_for files a) ≡ files
files_of-command_for files action.Layout = refl
files_of-command_for files (action.Text units args) = refl
files_of-command_for files (action.Program p) = files_of-command_on files p

-- what is done with a program is a command on one
pub Checks-command_on : (files : List (List ℕ)) (p : Purpose) → Checks (command_on files p)
Checks-command_on files purpose.Check = tt
Checks-command_on files purpose.Emit = tt
Checks-command_on files (purpose.Run units args) = tt

-- words ask for files, and for one that is laid out or whose text is run
pub files_asked : (words files : List (List ℕ)) (a : Action) → IsCommand words (command_for files a) → AreFilesFor files a
files_asked words files action.Layout h = ap length h.1.only
files_asked words files (action.Text units args) h = ap length h.1.only
files_asked words files (action.Program purpose.Check) h = h.1
files_asked words files (action.Program purpose.Emit) h = h.1
files_asked words files (action.Program (purpose.Run units args)) h = h.1

-- and for few arguments
pub arguments_asked : (words files : List (List ℕ)) (a : Action) → IsCommand words (command_for files a) → ArgumentsFor a
arguments_asked words files action.Layout h = tt
arguments_asked words files (action.Text units args) h = h.0.arguments
arguments_asked words files (action.Program purpose.Check) h = tt
arguments_asked words files (action.Program purpose.Emit) h = tt
arguments_asked words files (action.Program (purpose.Run units args)) h = h.0.arguments

-- ---- why nothing was done

module _
    (content : List ℕ → Option (List ℕ)) (paths : List (List ℕ)) (before now : ℕ) (few : before < 2 ^ 64 - 1) (command : Command) (out : Sent)
    (quiet : IsSent [] out) where
  -- files were not read
  pub read_stop_found :
      (s : Stopped) → IsReadStop content paths before now s
      → (srcs : List (List ℕ)) × AreTold content paths srcs
      × ((fill : ℕ) (text : List ℕ) (input : Received) → text ≡ [] → Stands input.faults → IsFound (record {
        command = command;
        sources = srcs;
        fill = fill;
        files = record { before = before; now = now };
        input = input;
        out = out;
        text = text;
      }) paths (Err s))
  read_stop_found (Refused r) h = absurd h
  read_stop_found (Unread number) h =
      let told = all_told content paths in (
        told.0,
        told.1,
        λ fill text input empty unread. record {
          cause = record { files = risen before now few h.risen; silent = quiet; text = empty };
          text = [];
          line = h.within;
          aborts = tt;
        },
      )
  read_stop_found Memory h =
      let told = all_told content paths in (
        told.0,
        told.1,
        λ fill text input empty unread. record {
          cause = inl (record { files = h; input = unread; silent = quiet; text = inl empty });
          text = [];
          line = tt;
          aborts = tt;
        },
      )

  module _ (fill : ℕ) (text : List ℕ) (input : Received) (empty : text ≡ []) (unread : Stands input.faults) where
    -- files were not checked
    pub stop_found :
        (s : Stopped) → Checks command → files_of command ≡ paths → IsStop content paths before now s
        → (srcs : List (List ℕ)) × AreTold content paths srcs × IsFound (record {
          command = command;
          sources = srcs;
          fill = fill;
          files = record { before = before; now = now };
          input = input;
          out = out;
          text = text;
        }) paths (Err s)
    stop_found (Refused r) k e h = (
      h.srcs,
      h.told,
      record {
        cause = inl (record {
          checks = k;
          files = h.stands;
          first = rw e h.refusal.first;
          only = rw e h.refusal.only;
          silent = quiet;
          text = empty;
        });
        text = [];
        line = h.refusal.line;
        aborts = tt;
      },
    )
    stop_found (Unread number) k e h =
        let (srcs, told, found) = read_stop_found (Unread number) h in
        (srcs, told, found fill text input empty unread)
    stop_found Memory k e h =
        let (srcs, told, found) = read_stop_found Memory h in
        (srcs, told, found fill text input empty unread)

-- ---- what is compiled

-- a list of one
pub single : (xs : List (List ℕ)) → length xs ≡ 1 → (x : List ℕ) × (xs ≡ x ∷ [])
single [] e = absurd (omega (arith, e))
single (x ∷ []) e = (x, refl)
single (x ∷ y ∷ ys) e = absurd (omega (arith, e))

-- a text of the stages is one that was made
made_of : (source text : List ℕ) (m : Module) → IsTextOf source text m → IsMade source text m
made_of source text m t = record {
  program = t.made.program;
  file = t.made.file;
  only = t.made.only;
  unread = t.made.unread;
  valid = rw t.printed t.made.valid;
  carries = rw t.printed t.made.carries;
}

-- a call on a program: its files, and what is done with them
module _
    (files : List (List ℕ)) (p : Purpose) (srcs : List (List ℕ)) (fill : ℕ) (count : Count) (input : Received) (out : Sent) (text : List ℕ)
    (s : Stands count) (c : (c : Checked) × IsChecked files srcs c × IsFaultless files srcs c × IsWhole c) where
  abbrev pub call_on : Call
  call_on = record {
    command = command_on files p;
    sources = srcs;
    fill = fill;
    files = count;
    input = input;
    out = out;
    text = text;
  }

  -- a checked program without a fault
  pub sound_on : IsSound call_on
  sound_on =
      let same = files_of-command_on files p in
      record { checks = Checks-command_on files p; files = s; program = c.0; checked = rw same c.1; faultless = rw same c.2; whole = c.3 }

  -- of a checked program no text was made
  pub unbuilt_found :
      (why : Stopped) → Compiles (command_on files p) → Stands input.faults → IsSent [] out → text ≡ [] → IsBuildStop files srcs why
      → IsFound call_on files (Err why)
  unbuilt_found (Refused r) k unread quiet empty h = record {
    cause = inr (inl (h.0, record { compiles = k; sound = sound_on; sources = h.2; silent = quiet; text = empty }));
    text = [];
    line = h.1;
    aborts = tt;
  }
  unbuilt_found (Unread number) k unread quiet empty h = absurd h
  unbuilt_found Memory k unread quiet empty h = record {
    cause = inl (record { files = s; input = unread; silent = quiet; text = inl empty });
    text = [];
    line = tt;
    aborts = tt;
  }

  -- a checked program that is compiled
  pub compiled_on :
      (m : Module) → Compiles (command_on files p) → length srcs ≡ length files → IsBuilt srcs text m → IsCompiled call_on m
  compiled_on m k paired b =
      let same = files_of-command_on files p in
      let one : length files ≡ 1 = sym paired ∙ ap length b.one in
      let (path, named) = single files one in
      record {
        compiles = k;
        sound = sound_on;
        path = path;
        named = same ∙ named;
        source = b.source;
        one = b.one;
        made = made_of b.source text m b.made;
      }

-- ---- what is done with a text

-- a text that was written out
pub emit_found :
    (c : Call) (m : Module) (d : Done) (paths files : List (List ℕ)) → c.command ≡ Emit paths → IsCompiled c m → Emits c.text c.out d
    → IsFound c files (Ok d)
emit_found c m d paths files e k (inl h) =
    let cause : Emitted c = record { paths = paths; command = e; program = m; compiled = k; sent = h.1 } in
    subst (λ (x : Done). IsFound c files (Ok x)) (sym h.0)
    (record { cause = inr (inl cause); text = []; line = tt; aborts = tt })
emit_found c m d paths files e k (inr h) =
    let cut : CutEmit c = record { paths = paths; command = e; program = m; compiled = k; cut = h.1 } in
    subst (λ (x : Done). IsFound c files (Ok x)) (sym h.0) (record { cause = inl cut; text = []; line = tt; aborts = tt })

-- a program that is only checked
pub passed_found :
    (c : Call) (paths files : List (List ℕ)) → c.command ≡ Check paths → IsSound c → IsSent [] c.out → c.text ≡ []
    → IsFound c files (Ok done.Accepted)
passed_found c paths files e sound quiet empty =
    let cause : Passed c = record { paths = paths; command = e; sound = sound; silent = quiet; text = empty } in
    record { cause = inl cause; text = []; line = tt; aborts = tt }

-- a module that is compiled and run
pub ran_found :
    (c : Call) (m : Module) (units : ℕ) (paths args files : List (List ℕ)) (r : Ran) → c.command ≡ Run units paths args → IsCompiled c m
    → IsRunOf (record { program = m; args = args; fill = c.fill; units = units }) c.input c.out r → IsFound c files (Ok (done.Ended r))
ran_found c m units paths args files r e k h =
    let job : Job = record { program = m; args = args; fill = c.fill; units = units } in
    let asked : IsJobOf c job = record { fill = refl; runs = compiled paths e k } in
    run_found c files job asked r.machine r.end h

-- memory ran out before it was run
pub compiled_memory_found :
    (c : Call) (m : Module) (files : List (List ℕ)) → IsCompiled c m → Stands c.input.faults → IsSent [] c.out
    → IsFound c files (Err Memory)
compiled_memory_found c m files k unread quiet = record {
  cause = inl (record { files = k.sound.files; input = unread; silent = quiet; text = inr (inl (m, k)) });
  text = [];
  line = tt;
  aborts = tt;
}
