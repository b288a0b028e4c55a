-- What comes of the check of files: their bytes, or why it stopped.
use Rattle.std.specs.Prelude.{◌≡◌, ℕ, List, Option}
pub use Rattle.hare_unit.specs.declared.checked.Checked.{Checked}
use Rattle.hare_unit.specs.Programs.{IsChecked, IsFaultless, IsFaultOfProgram, IsOnlyFaultOfProgram}
use Rattle.hare_unit.specs.Whole.{IsWhole}
use Rattle.harec_words.specs.Commands as words
use Rattle.harec_check.specs.declared.stopped.Refusal.{Refusal}
use Rattle.harec_check.specs.declared.stopped.Stopped.{Stopped}
use Rattle.harec_check.specs.declared.stopped.Stopped.TheVariants.{Refused, Unread, Memory}
use Rattle.harec_check.specs.Files.{AreTold, IsFirstUnread}
use Rattle.harec_check.specs.Lines.{IsFaultLine}

-- the fault is the first of the program of these files, and the only one over the stores that `IsOnlyFaultOfProgram` names; the line is
-- its own
pub record IsFirstFault (paths srcs : List (List ℕ)) (r : Refusal) : Type 0 where
  pub first : IsFaultOfProgram paths srcs r.fault
  pub only : IsOnlyFaultOfProgram paths srcs r.fault
  pub line : IsFaultLine paths r.fault r.line

-- files, by their paths and what they hold, where that is told, and how often a read had failed before and has failed now
module _ (content : List ℕ → Option (List ℕ)) (paths : List (List ℕ)) (before now : ℕ) where
  -- All were read, these are their bytes, and the program of these is checked and has no fault. Where the paths are words that name files,
  -- it is whole.
  pub record AreChecked (srcs : List (List ℕ)) : Type 0 where
    pub stands : now ≡ before
    pub told : AreTold content paths srcs
    pub program : Checked
    pub checked : IsChecked paths srcs program
    pub faultless : IsFaultless paths srcs program
    pub whole : words.AreFiles paths → IsWhole program

  -- all were read, and the program of their bytes has this first fault
  pub record AreRefused (r : Refusal) : Type 0 where
    pub stands : now ≡ before
    pub srcs : List (List ℕ)
    pub told : AreTold content paths srcs
    pub refusal : IsFirstFault paths srcs r

  -- why the check stopped; want of memory is no fault of files
  abbrev pub IsStop : Stopped → Type 0
  IsStop (Refused r) = AreRefused r
  IsStop (Unread number) = IsFirstUnread content paths before now number
  IsStop Memory = now ≡ before

  -- why reading stopped
  abbrev pub IsReadStop : Stopped → Type 0
  IsReadStop (Refused r) = ⊥
  IsReadStop (Unread number) = IsFirstUnread content paths before now number
  IsReadStop Memory = now ≡ before

-- Why the program of these files is not checked. No public clause cites this.
abbrev pub IsJudgeStop : (paths srcs : List (List ℕ)) → Stopped → Type 0
IsJudgeStop paths srcs (Refused r) = IsFirstFault paths srcs r
IsJudgeStop paths srcs (Unread number) = ⊥
IsJudgeStop paths srcs Memory = Unit {0}
