-- Rows of `emit`, of `run`, and of words that are no command.
use Rattle.std.proofs.Common.{refl}
use Rattle.harec_words.specs.Commands.{default_units}
use Rattle.harec_words.proofs.WorkedRows.Worked.{Emits, Runs, RunsWith, Is, is, IsNone, none}

emit_one : Is "emit x.ha" (Emits "x.ha")
emit_one = is refl

emit_two : Is "emit a/x.ha ./b/y.ha" (Emits "a/x.ha ./b/y.ha")
emit_two = is refl

run_one : Is "run x.ha" (Runs default_units "x.ha")
run_one = is refl

run_two : Is "run x.ha a/y.ha" (Runs default_units "x.ha a/y.ha")
run_two = is refl

run_no_arguments : Is "run x.ha --" (Runs default_units "x.ha")
run_no_arguments = is refl

run_arguments : Is "run x.ha -- a b" (RunsWith default_units "x.ha" "a b")
run_arguments = is refl

run_dashes : Is "run x.ha -- --" (RunsWith default_units "x.ha" "--")
run_dashes = is refl

run_all_behind : Is "run x.ha -- -- --units 5 --" (RunsWith default_units "x.ha" "-- --units 5 --")
run_all_behind = is refl

run_a_file_as_argument : Is "run x.ha -- y.ha" (RunsWith default_units "x.ha" "y.ha")
run_a_file_as_argument = is refl

run_empty_argument : Is "run x.ha -- " (RunsWith default_units "x.ha" "")
run_empty_argument = is refl

run_units : Is "run --units 5 x.ha" (Runs 5 "x.ha")
run_units = is refl

run_zeros : Is "run --units 0005 x.ha" (Runs 5 "x.ha")
run_zeros = is refl

run_least : Is "run --units 1 x.ha" (Runs 1 "x.ha")
run_least = is refl

run_most : Is "run --units 1000000000000 x.ha" (Runs 1000000000000 "x.ha")
run_most = is refl

run_twenty_digits : Is "run --units 00000000000000000001 x.ha" (Runs 1 "x.ha")
run_twenty_digits = is refl

run_whole : Is "run --units 7 x.ha y.ha -- a --units 9" (RunsWith 7 "x.ha y.ha" "a --units 9")
run_whole = is refl

run_units_of_default : Is "run --units 1000000000 x.ha" (Runs default_units "x.ha")
run_units_of_default = is refl

run_dashed_files : Is "run --x.ha --y.ha -- --z.ha" (RunsWith default_units "--x.ha --y.ha" "--z.ha")
run_dashed_files = is refl

no_past_most : IsNone "run --units 1000000000001 x.ha"
no_past_most = none refl

no_past_all : IsNone "run --units 99999999999999999999 x.ha"
no_past_all = none refl

no_twenty_one_digits : IsNone "run --units 000000000000000000001 x.ha"
no_twenty_one_digits = none refl

no_zero : IsNone "run --units 0 x.ha"
no_zero = none refl

no_zeros : IsNone "run --units 00 x.ha"
no_zeros = none refl

no_no_number : IsNone "run --units  x.ha"
no_no_number = none refl

no_minus : IsNone "run --units -5 x.ha"
no_minus = none refl

no_plus : IsNone "run --units +5 x.ha"
no_plus = none refl

no_letter : IsNone "run --units 5k x.ha"
no_letter = none refl

no_point : IsNone "run --units 5.0 x.ha"
no_point = none refl

no_hexadecimal : IsNone "run --units 0x5 x.ha"
no_hexadecimal = none refl

no_units_alone : IsNone "run --units"
no_units_alone = none refl

no_units_and_number : IsNone "run --units 5"
no_units_and_number = none refl

no_units_and_arguments : IsNone "run --units 5 -- a"
no_units_and_arguments = none refl

no_run_alone : IsNone "run"
no_run_alone = none refl

no_run_dashes_alone : IsNone "run --"
no_run_dashes_alone = none refl

no_run_dashes_first : IsNone "run -- x.ha"
no_run_dashes_first = none refl

no_units_behind : IsNone "run x.ha --units 5"
no_units_behind = none refl

no_units_twice : IsNone "run --units 5 --units 6 x.ha"
no_units_twice = none refl

no_unit : IsNone "run --unit 5 x.ha"
no_unit = none refl

no_units_joined : IsNone "run --units=5 x.ha"
no_units_joined = none refl

no_units_without_number : IsNone "run --units x.ha"
no_units_without_number = none refl

no_run_no_file : IsNone "run x.ha y"
no_run_no_file = none refl

no_run_no_file_before_dashes : IsNone "run x.ha a -- b"
no_run_no_file_before_dashes = none refl

no_one_dash : IsNone "run x.ha - a"
no_one_dash = none refl

no_three_dashes : IsNone "run x.ha --- a"
no_three_dashes = none refl

no_run_absolute : IsNone "run /x.ha"
no_run_absolute = none refl

no_run_keyword : IsNone "run use/x.ha"
no_run_keyword = none refl

no_units_of_units : IsNone "run --units --units x.ha"
no_units_of_units = none refl

no_arguments_of_emit : IsNone "emit x.ha -- a"
no_arguments_of_emit = none refl

no_units_of_emit : IsNone "emit --units 5 x.ha"
no_units_of_emit = none refl

no_emit_alone : IsNone "emit"
no_emit_alone = none refl

no_eval : IsNone "eval x.ha"
no_eval = none refl

no_eval_turns : IsNone "eval --turns 5 x.ha"
no_eval_turns = none refl

no_run_turns : IsNone "run --turns 5 x.ha"
no_run_turns = none refl

no_big : IsNone "big 1 2"
no_big = none refl

no_help : IsNone "--help"
no_help = none refl

no_version : IsNone "--version"
no_version = none refl

no_empty : IsNone ""
no_empty = none refl
