-- What comes of the text of a file.
use Rattle.std.proofs.Common.{◌≡◌, ℕ, List, [], ◌∷◌, length, get_or, Option, IfSome, Ok, Err, refl, sym, ap, inl, inr, arith}
use Rattle.hx_io.specs.Causes.{Rose}
use Rattle.il_code.specs.declared.types.Module.{Module}
use Rattle.harec_words.specs.Commands.{Exec}
use Rattle.harec_words.specs.Faults.{fault_line}
use Rattle.harec_check.specs.declared.stopped.Stopped.TheVariants as stopped
use Rattle.harec_check.specs.Files.{AreTold, IsFirstUnread}
use Rattle.harec_core.specs.declared.answer.IlFault.{IlFault}
use Rattle.harec_core.specs.declared.done.Done.TheVariants as done
use Rattle.harec_core.specs.declared.done.Ran.{Ran}
use Rattle.harec_core.specs.declared.done.TextRefusal.{TextRefusal}
use Rattle.harec_core.specs.Answers.{Call, IsToRun, IsJobOf, read_back}
use Rattle.harec_core.specs.Jobs.{Job}
use Rattle.harec_core.specs.Log.{text_letter}
use Rattle.harec_core.specs.Outside.{Count, Stands, Received, Sent, IsSent}
use Rattle.harec_core.specs.Stages.{IsTextRefusal, IsRunOf, IsFound}
use Rattle.harec_core.specs.Texts.{IsPrinted, IsTextFault}
use Rattle.harec_core.proofs.EndsOfRuns.Running.{run_found}

-- the first of one path
pub sole_path : (paths : List (List ℕ)) (path : List ℕ) → length paths ≡ 1 → path ≡ get_or paths 0 path → paths ≡ path ∷ []
sole_path [] path n e = absurd (omega (arith, n))
sole_path (p ∷ []) path n e = ap (λ (q : List ℕ). q ∷ []) (sym e)
sole_path (p ∷ q ∷ ps) path n e = absurd (omega (arith, n))

module _ (content : List ℕ → Option (List ℕ)) (paths : List (List ℕ)) (path : List ℕ) (one : paths ≡ path ∷ []) where
  -- the one file was read
  pub told_one : (source : List ℕ) → IfSome (content path) (λ told. source ≡ told) → AreTold content paths (source ∷ [])
  told_one source told = rw one (told, tt)

  -- it was not
  pub unread_one : (before now : ℕ) → Rose before now → IsFirstUnread content paths before now 0
  unread_one before now risen = record { within = rw one (omega arith); srcs = []; told = tt; risen = risen }

-- a refusal of a text, with its line
pub text_refusal :
    (path source : List ℕ) (f : IlFault) (line : List ℕ) → IsTextFault source f
    → line ≡ fault_line path text_letter f.number f.line f.column
    → IsTextRefusal (path ∷ []) source (record { fault = f; line = line })
text_refusal path source f line has e = record { fault = has; line = record { path = path; word = refl; text = e } }

-- ---- the call

module _
    (units fill : ℕ) (paths args : List (List ℕ)) (source : List ℕ) (count : Count) (input : Received) (out : Sent)
    (stands : Stands count) where
  abbrev call_of : Call
  call_of = record {
    command = Exec units paths args;
    sources = source ∷ [];
    fill = fill;
    files = count;
    input = input;
    out = out;
    text = source;
  }

  to_run : IsToRun call_of source
  to_run = record { executes = tt; files = stands; one = refl; text = refl }

  -- the text is refused
  pub text_refused_found :
      (r : TextRefusal) → IsTextRefusal paths source r → IsSent [] out → IsFound call_of paths (Ok (done.RefusedText r))
  text_refused_found r h quiet = record {
    cause = record { source = source; asked = to_run; fault = h.fault; silent = quiet };
    text = [];
    line = h.line;
    aborts = tt;
  }

  -- memory ran out before it was run
  pub text_memory_found : Stands input.faults → IsSent [] out → IsFound call_of paths (Err stopped.Memory)
  text_memory_found unread quiet = record {
    cause = inl (record { files = stands; input = unread; silent = quiet; text = inr (inr (source, to_run)) });
    text = [];
    line = tt;
    aborts = tt;
  }

  -- it was run
  pub text_ran_found :
      (m : Module) → IsPrinted source m → (r : Ran) → IsRunOf (record { program = m; args = args; fill = fill; units = units }) input out r
      → IsFound call_of paths (Ok (done.Ended r))
  text_ran_found m p r h =
      let job : Job = record { program = m; args = args; fill = fill; units = units } in
      let asked : IsJobOf call_of job =
      record { fill = refl; runs = read_back paths refl (record { source = source; asked = to_run; printed = p }) } in
      run_found call_of paths job asked r.machine r.end h
