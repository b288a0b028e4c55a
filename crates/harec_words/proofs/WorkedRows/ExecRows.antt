-- Rows of `exec`.
use Rattle.std.proofs.Common.{refl}
use Rattle.harec_words.specs.Commands.{default_units}
use Rattle.harec_words.proofs.WorkedRows.Worked.{Executes, ExecutesWith, Is, is, IsNone, none}

exec_one : Is "exec x.ssa" (Executes default_units "x.ssa")
exec_one = is refl

exec_any : Is "exec x" (Executes default_units "x")
exec_any = is refl

exec_source : Is "exec x.ha" (Executes default_units "x.ha")
exec_source = is refl

exec_absolute : Is "exec /a//b/x.ssa" (Executes default_units "/a//b/x.ssa")
exec_absolute = is refl

exec_keyword : Is "exec for/../x" (Executes default_units "for/../x")
exec_keyword = is refl

exec_empty : Is "exec " (Executes default_units "")
exec_empty = is refl

exec_dash : Is "exec -" (Executes default_units "-")
exec_dash = is refl

exec_dash_word : Is "exec -x--" (Executes default_units "-x--")
exec_dash_word = is refl

exec_no_arguments : Is "exec x.ssa --" (Executes default_units "x.ssa")
exec_no_arguments = is refl

exec_arguments : Is "exec x.ssa -- a b" (ExecutesWith default_units "x.ssa" "a b")
exec_arguments = is refl

exec_dashes : Is "exec x.ssa -- -- --" (ExecutesWith default_units "x.ssa" "-- --")
exec_dashes = is refl

exec_units : Is "exec --units 7 x.ssa" (Executes 7 "x.ssa")
exec_units = is refl

exec_whole : Is "exec --units 7 x.ssa -- a --units 9" (ExecutesWith 7 "x.ssa" "a --units 9")
exec_whole = is refl

no_alone : IsNone "exec"
no_alone = none refl

no_dashes : IsNone "exec --"
no_dashes = none refl

no_dashed : IsNone "exec --x.ssa"
no_dashed = none refl

no_units_as_a_file : IsNone "exec --units.ssa"
no_units_as_a_file = none refl

no_units_alone : IsNone "exec --units"
no_units_alone = none refl

no_two : IsNone "exec x y"
no_two = none refl

no_word_before_dashes : IsNone "exec x.ssa a -- b"
no_word_before_dashes = none refl

no_units_and_number : IsNone "exec --units 5"
no_units_and_number = none refl

no_dashed_behind_units : IsNone "exec --units 5 --x"
no_dashed_behind_units = none refl

no_units_without_number : IsNone "exec --units x.ssa"
no_units_without_number = none refl

no_zero : IsNone "exec --units 0 x.ssa"
no_zero = none refl

no_past_most : IsNone "exec --units 1000000000001 x.ssa"
no_past_most = none refl

no_units_behind : IsNone "exec x.ssa --units 5"
no_units_behind = none refl

no_dashes_first : IsNone "exec -- x.ssa"
no_dashes_first = none refl

no_units_twice : IsNone "exec --units 5 --units 6 x.ssa"
no_units_twice = none refl
