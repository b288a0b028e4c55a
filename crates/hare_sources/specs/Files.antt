-- The files of a program, which are looked at one after another: each for its size, and then for its tokens and its tree. One is done with
-- before the next is looked at, so that a fault of syntax in a file stands before the size of a later one.
use Rattle.std.specs.Prelude.{◌≡◌, ℕ, suc, ◌+◌, ◌<◌, ◌≤◌, ◌⊎◌, List, [], ◌∷◌, length, sum_by, Result, MatchResult}
use Rattle.hare_tree.specs.declared.place.Fault as fault
use Rattle.hare_tree.specs.declared.stop.Stop.{Stop}
use Rattle.hare_tree.specs.declared.stop.Stop.TheVariants.{Fault, Memory}
use Rattle.hare_tree.specs.declared.tree.FileTree.{FileTree}
use Rattle.hare_tree.specs.Spell.{start_of}
use Rattle.hare_decl.specs.Answers.{IsSource, HasSourceFault}

-- ---- sizes

-- the most bytes that a file may have, and all files together
abbrev pub most_of_file : ℕ
most_of_file = 1048576

abbrev pub most_of_all : ℕ
most_of_all = 4194304

-- the bytes of files together
abbrev pub bytes_of : List (List ℕ) → ℕ
bytes_of = sum_by length

-- The file has no more bytes than it may, nor have the files up to it, of which those in front of it have so many.
pub record IsSmall (before : ℕ) (text : List ℕ) : Type 0 where
  pub alone : length text ≤ most_of_file
  pub together : before + length text ≤ most_of_all

-- ---- one file

-- The file with this number and these bytes has this tree. The files in front of it have so many bytes together.
pub record IsRead (before file : ℕ) (text : List ℕ) (tree : FileTree) : Type 0 where
  pub small : IsSmall before text
  pub source : IsSource file text tree

-- the fault of a file: of its own size, or of the size of all up to it, at its start; or else its first fault of tokens and syntax
pub data IsFaultOfFile (before file : ℕ) (text : List ℕ) (f : fault.Fault) : Type 0 where
  too_large : most_of_file < length text → f ≡ record { number = 1; place = start_of file } → IsFaultOfFile before file text f
  too_many : length text ≤ most_of_file → most_of_all < before + length text → f ≡ record { number = 2; place = start_of file } →
      IsFaultOfFile before file text f
  of_source : IsSmall before text → HasSourceFault file text f → IsFaultOfFile before file text f

-- ---- all files

-- the trees of these files, which are numbered from `file` on
abbrev pub AreReadFrom : (before file : ℕ) → List (List ℕ) → List FileTree → Type 0
AreReadFrom before file [] [] = Unit {0}
AreReadFrom before file [] (t ∷ ts) = ⊥
AreReadFrom before file (s ∷ ss) [] = ⊥
AreReadFrom before file (s ∷ ss) (t ∷ ts) = IsRead before file s t × AreReadFrom (before + length s) (suc file) ss ts

-- the first fault of these files: that of the first of them; or it has a tree, and the fault is the first of those behind it
abbrev pub IsFaultFrom : (before file : ℕ) → List (List ℕ) → fault.Fault → Type 0
IsFaultFrom before file [] f = ⊥
IsFaultFrom before file (s ∷ ss) f =
    IsFaultOfFile before file s f ⊎ ((t : FileTree) × IsRead before file s t × IsFaultFrom (before + length s) (suc file) ss f)

-- the trees of the files of a program
abbrev pub AreRead : List (List ℕ) → List FileTree → Type 0
AreRead = AreReadFrom 0 0

-- the first fault of the files of a program
abbrev pub IsFaultOfFiles : List (List ℕ) → fault.Fault → Type 0
IsFaultOfFiles = IsFaultFrom 0 0

-- ---- what a call answers

-- the call gives these trees, or there was not enough memory
abbrev pub GivesTrees : List FileTree → Result (List FileTree) (Stop fault.Fault) → Type 0
GivesTrees ts result = MatchResult result (λ us. us ≡ ts) (λ e. e ≡ Memory)

-- the call gives this fault, or there was not enough memory
abbrev pub GivesFault : {A : Type 0} → fault.Fault → Result A (Stop fault.Fault) → Type 0
GivesFault f result = MatchResult result (λ a. ⊥) (λ e. (e ≡ Memory) ⊎ (e ≡ Fault f))
