-- Worked command lines: the command that they are, or that they are none. Words stand between blanks, so a blank more makes an empty word.
use Prim.Native.String.{String}
use Rattle.std.proofs.Common.{◌≡◌, ℕ, ◌==◌, List, [], Some, None, codes, sym, ◌∙◌}
use Rattle.std.specs.List.{slice_split}
use Rattle.harec_words.specs.Commands.{Command, Check, Emit, Run, Exec, Fmt, IsCommand, IsNoCommand}
use Rattle.harec_words.specs.Reading.{command_in}
use Rattle.harec_words.proofs.ReadCommands.Commands.{reads, tells}

abbrev pub spaced : String → List (List ℕ)
spaced s = slice_split (λ c. c == 32) (codes s)

-- a command, with its words spaced as well
pub data Told : Type 0 where
  Checks : (files : String) → Told
  Emits : (files : String) → Told
  Runs : (units : ℕ) (files : String) → Told
  RunsWith : (units : ℕ) (files args : String) → Told
  Executes : (units : ℕ) (program : String) → Told
  ExecutesWith : (units : ℕ) (program args : String) → Told
  LaysOut : (file : String) → Told

abbrev pub told : Told → Command
told (Checks files) = Check (spaced files)
told (Emits files) = Emit (spaced files)
told (Runs units files) = Run units (spaced files) []
told (RunsWith units files args) = Run units (spaced files) (spaced args)
told (Executes units program) = Exec units (spaced program) []
told (ExecutesWith units program args) = Exec units (spaced program) (spaced args)
told (LaysOut file) = Fmt (spaced file)

pub record Is (line : String) (t : Told) : Type 0 where
  pub command : IsCommand (spaced line) (told t)

pub is : {line : String} {t : Told} → command_in (spaced line) ≡ Some (told t) → Is line t
is {line} {t} e = record { command = reads (spaced line) (told t) e }

pub record IsNone (line : String) : Type 0 where
  pub command : IsNoCommand (spaced line)

pub no_command : (words : List (List ℕ)) → command_in words ≡ None → IsNoCommand words
no_command words e c h = let some = sym e ∙ tells words c h in absurd cc

pub none : {line : String} → command_in (spaced line) ≡ None → IsNone line
none {line} e = record { command = no_command (spaced line) e }
