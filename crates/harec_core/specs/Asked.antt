-- What a command asks for.
use Rattle.std.specs.Prelude.{ℕ, List}
use Rattle.harec_words.specs.Commands.{Command, Check, Emit, Run, Exec, Fmt}

-- the words that name what a command is about
abbrev pub files_of : Command → List (List ℕ)
files_of (Check files) = files
files_of (Emit files) = files
files_of (Run units files args) = files
files_of (Exec units program args) = program
files_of (Fmt file) = file

-- the units of a command, 0 where nothing is run
abbrev pub units_of : Command → ℕ
units_of (Check files) = 0
units_of (Emit files) = 0
units_of (Run units files args) = units
units_of (Exec units program args) = units
units_of (Fmt file) = 0

-- a command whose files are checked, as those of one program
abbrev pub Checks : Command → Type 0
Checks (Check files) = Unit {0}
Checks (Emit files) = Unit {0}
Checks (Run units files args) = Unit {0}
Checks (Exec units program args) = ⊥
Checks (Fmt file) = ⊥

-- a command for which a program is compiled
abbrev pub Compiles : Command → Type 0
Compiles (Check files) = ⊥
Compiles (Emit files) = Unit {0}
Compiles (Run units files args) = Unit {0}
Compiles (Exec units program args) = ⊥
Compiles (Fmt file) = ⊥

-- the command to run the text of a file
abbrev pub Executes : Command → Type 0
Executes (Check files) = ⊥
Executes (Emit files) = ⊥
Executes (Run units files args) = ⊥
Executes (Exec units program args) = Unit {0}
Executes (Fmt file) = ⊥
