-- The reading of words, as functions that compute. No public clause cites this file.
use Rattle.std.specs.Prelude.{ℕ, ◌^◌, List, [], ◌∷◌, Bool, true, false, ◌&&◌, ◌==◌, nat_le, nat_eq, bytes_eq, codes, drop, length, sum_by, Option, Some, None, option_and_then, option_map, if◌then◌else◌}
use Rattle.std.specs.Char.{is_ascii_digit}
use Rattle.std.specs.List.{list_all, slice_split, starts_with, ends_with, before_first, after_first}
use Rattle.std.specs.Str.Parse.{digits_value}
use Rattle.hare_tree.specs.Levels.{is_name}
use Rattle.harec_words.specs.Commands.{Command, Check, Emit, Run, Exec, Fmt, default_units}

-- ---- FILES

abbrev pub is_slash : ℕ → Bool
is_slash c = c == 47

abbrev pub ends_in_ha : List ℕ → Bool
ends_in_ha own = ends_with nat_eq own (codes ".ha")

-- the parts between the slashes of a path are directories, and behind them the file's own name
abbrev pub are_parts : List (List ℕ) → Bool
are_parts [] = false
are_parts (own ∷ []) = ends_in_ha own
are_parts (d ∷ e ∷ es) = is_name false d && are_parts (e ∷ es)

abbrev pub is_path : List ℕ → Bool
is_path path = are_parts (slice_split is_slash path)

-- the word without a leading `./`
abbrev pub without_dot : List ℕ → List ℕ
without_dot word = if starts_with nat_eq word (codes "./") then drop 2 word else word

abbrev pub is_file : List ℕ → Bool
is_file word = if nat_le (length word) 1024 then is_path (without_dot word) else false

abbrev pub are_files : List (List ℕ) → Bool
are_files files = if nat_le 1 (length files) && nat_le (length files) 65536 then list_all is_file files else false

abbrev pub is_one_file : List (List ℕ) → Bool
is_one_file (word ∷ []) = is_file word
is_one_file [] = false
is_one_file (v ∷ w ∷ ws) = false

-- ---- IL

abbrev pub begins_with_dashes : List ℕ → Bool
begins_with_dashes word = starts_with nat_eq word (codes "--")

abbrev pub is_program : List (List ℕ) → Bool
is_program (word ∷ []) = if begins_with_dashes word then false else true
is_program [] = false
is_program (v ∷ w ∷ ws) = false

-- ---- units and arguments

abbrev pub is_units : List ℕ → Bool
is_units word =
    list_all is_ascii_digit word && nat_le (length word) 20 && nat_le 1 (digits_value 10 word) && nat_le (digits_value 10 word) (10 ^ 12)

abbrev pub units_of : List ℕ → Option ℕ
units_of word = if is_units word then Some (digits_value 10 word) else None

-- the units behind `--units`, and how many words stand before what is run
abbrev pub number_in : List (List ℕ) → Option (ℕ × ℕ)
number_in [] = None
number_in (w ∷ ws) = option_map (λ n. (n, 3)) (units_of w)

-- the units that stand behind the name of the command, or else the default, and how many words stand before what is run
abbrev pub units_behind : List (List ℕ) → Option (ℕ × ℕ)
units_behind [] = Some (default_units, 1)
units_behind (w ∷ ws) = if bytes_eq w (codes "--units") then number_in ws else Some (default_units, 1)

abbrev pub units_in : List (List ℕ) → Option (ℕ × ℕ)
units_in words = units_behind (drop 1 words)

abbrev pub is_dashes : List ℕ → Bool
is_dashes w = bytes_eq w (codes "--")

-- what is run, and the arguments, in the words behind the units
abbrev pub named_in : List (List ℕ) → List (List ℕ)
named_in = before_first is_dashes

abbrev pub args_in : List (List ℕ) → List (List ℕ)
args_in = after_first is_dashes

abbrev pub are_arguments : List (List ℕ) → Bool
are_arguments args = nat_le (length args) 1048576 && nat_le (sum_by length args) (2 ^ 30)

-- ---- commands

-- the command with these units, where what is run and the arguments are what they have to be
abbrev pub run_of : (List (List ℕ) → Bool) → (ℕ → List (List ℕ) → List (List ℕ) → Command) → ℕ → List (List ℕ) → Option Command
run_of test make units rest =
    if test (named_in rest) && are_arguments (args_in rest) then Some (make units (named_in rest) (args_in rest)) else None

abbrev pub run_in : (List (List ℕ) → Bool) → (ℕ → List (List ℕ) → List (List ℕ) → Command) → List (List ℕ) → Option Command
run_in test make words = option_and_then (λ u. run_of test make u.0 (drop u.1 words)) (units_in words)

-- the words behind the name of a command on files alone
abbrev pub files_behind : List (List ℕ) → Option (List (List ℕ))
files_behind words = if are_files (drop 1 words) then Some (drop 1 words) else None

-- the one word behind the name of a command on a file
abbrev pub file_behind : List (List ℕ) → Option (List (List ℕ))
file_behind words = if is_one_file (drop 1 words) then Some (drop 1 words) else None

abbrev pub command_named : List ℕ → List (List ℕ) → Option Command
command_named name words =
    if bytes_eq name (codes "check") then option_map Check (files_behind words)
    else if bytes_eq name (codes "emit") then option_map Emit (files_behind words)
    else if bytes_eq name (codes "run") then run_in are_files Run words
    else if bytes_eq name (codes "exec") then run_in is_program Exec words
    else if bytes_eq name (codes "fmt") then option_map Fmt (file_behind words)
    else None

abbrev pub command_in : List (List ℕ) → Option Command
command_in [] = None
command_in (name ∷ rest) = command_named name (name ∷ rest)
