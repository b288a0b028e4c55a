-- The commands, in the words behind the program's name:
--
--   check FILES
--   emit FILES
--   run [--units N] FILES [-- ARGS]
--   exec [--units N] IL [-- ARGS]
--   fmt FILE
--
-- Any other words are no command.
use Rattle.std.specs.Prelude.{◌≡◌, ℕ, ◌^◌, ◌≤◌, ◌⊎◌, List, [], ◌∷◌, ◌++◌, true, false, codes, length, sum_by, All, Contains}
use Rattle.std.specs.Char.{is_ascii_digit}
use Rattle.std.specs.List.{list_all}
use Rattle.std.specs.Str.Parse.{digits_value}
use Rattle.hare_tree.specs.Levels.{is_name}

-- a command, with the words that it names
pub data Command : Type 0 where
  Check : (files : List (List ℕ)) → Command
  Emit : (files : List (List ℕ)) → Command
  Run : (units : ℕ) (files args : List (List ℕ)) → Command
  Exec : (units : ℕ) (program args : List (List ℕ)) → Command
  Fmt : (file : List (List ℕ)) → Command

-- ---- FILES

-- the slash, which stands behind each directory of a path
abbrev pub slash : ℕ
slash = 47

-- directories, each with a slash behind it, and a file's own name
abbrev pub spelled : List (List ℕ) → List ℕ → List ℕ
spelled [] own = own
spelled (d ∷ ds) own = d ++ slash ∷ spelled ds own

-- the word is a name of the language, and no keyword or word left out of it
abbrev pub IsName : List ℕ → Type 0
IsName word = is_name false word ≡ true

-- A file's own name: no slash, and `.ha` at the end, with anything or nothing before it.
pub record IsOwnName (own : List ℕ) : Type 0 where
  pub flat : ¬ (Contains own slash)
  pub ended : (stem : List ℕ) × (own ≡ stem ++ codes ".ha")

-- Directories that are names, and a file's own name. No absolute path is one, since no name is empty.
pub record IsPath (path : List ℕ) : Type 0 where
  pub directories : List (List ℕ)
  pub own : List ℕ
  pub spells : path ≡ spelled directories own
  pub named : All IsName directories
  pub file : IsOwnName own

-- A word that names a file: at most 1,024 bytes, which are such a path, or one `./` and such a path.
pub record IsFile (word : List ℕ) : Type 0 where
  pub within : length word ≤ 1024
  pub path : List ℕ
  pub dotted : (word ≡ path) ⊎ (word ≡ codes "./" ++ path)
  pub relative : IsPath path

-- 1 to 65,536 words that name files
pub record AreFiles (files : List (List ℕ)) : Type 0 where
  pub some : 1 ≤ length files
  pub few : length files ≤ 65536
  pub named : All IsFile files

-- one word that names a file
pub record IsOneFile (file : List (List ℕ)) : Type 0 where
  pub word : List ℕ
  pub only : file ≡ word ∷ []
  pub named : IsFile word

-- ---- IL

-- one word, which does not begin with two dashes
pub record IsProgram (program : List (List ℕ)) : Type 0 where
  pub word : List ℕ
  pub only : program ≡ word ∷ []
  pub plain : (rest : List ℕ) → ¬ (word ≡ codes "--" ++ rest)

-- ---- units and arguments

-- A number of units: at most 20 decimal digits, leading zeros among them, with a value from 1 to 10 ^ 12.
pub record IsUnits (word : List ℕ) (units : ℕ) : Type 0 where
  pub decimal : list_all is_ascii_digit word ≡ true
  pub short : length word ≤ 20
  pub value : digits_value 10 word ≡ units
  pub least : 1 ≤ units
  pub most : units ≤ 10 ^ 12

-- the units of a run whose words name none
abbrev pub default_units : ℕ
default_units = 1000000000

-- what stands in front of what is run: nothing, or `--units` and a number
abbrev pub Limits : List (List ℕ) → ℕ → Type 0
Limits front units =
    ((front ≡ []) × (units ≡ default_units)) ⊎ ((word : List ℕ) × (front ≡ codes "--units" ∷ word ∷ []) × IsUnits word units)

-- what stands behind it: nothing, or `--` and the arguments
abbrev pub Brings : List (List ℕ) → List (List ℕ) → Type 0
Brings behind args = ((behind ≡ []) × (args ≡ [])) ⊎ (behind ≡ codes "--" ∷ args)

-- The words of a program's arguments: at most 1,048,576, which have at most 2 ^ 30 bytes together.
pub record AreArguments (args : List (List ℕ)) : Type 0 where
  pub few : length args ≤ 1048576
  pub small : sum_by length args ≤ 2 ^ 30

-- the words are this name, and behind it these units, what is run, and these arguments
pub record Runs (words : List (List ℕ)) (name : List ℕ) (units : ℕ) (named args : List (List ℕ)) : Type 0 where
  pub front : List (List ℕ)
  pub behind : List (List ℕ)
  pub spelled : words ≡ name ∷ (front ++ named ++ behind)
  pub limited : Limits front units
  pub brought : Brings behind args
  pub arguments : AreArguments args

-- ---- commands

-- the words are this command
abbrev pub IsCommand : List (List ℕ) → Command → Type 0
IsCommand words (Check files) = (words ≡ codes "check" ∷ files) × AreFiles files
IsCommand words (Emit files) = (words ≡ codes "emit" ∷ files) × AreFiles files
IsCommand words (Run units files args) = Runs words (codes "run") units files args × AreFiles files
IsCommand words (Exec units program args) = Runs words (codes "exec") units program args × IsProgram program
IsCommand words (Fmt file) = (words ≡ codes "fmt" ∷ file) × IsOneFile file

-- the words are no command
abbrev pub IsNoCommand : List (List ℕ) → Type 0
IsNoCommand words = (c : Command) → ¬ (IsCommand words c)

-- A list of words is at most one command.
abbrev pub MeanOneCommand : Type 0
MeanOneCommand = (words : List (List ℕ)) (a b : Command) → IsCommand words a → IsCommand words b → a ≡ b
