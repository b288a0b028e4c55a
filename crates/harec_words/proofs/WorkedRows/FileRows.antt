-- Rows of the words that name files.
use Rattle.std.proofs.Common.{refl}
use Rattle.harec_words.proofs.WorkedRows.Worked.{Checks, Is, is, IsNone, none}

one_file : Is "check x.ha" (Checks "x.ha")
one_file = is refl

in_a_directory : Is "check a/x.ha" (Checks "a/x.ha")
in_a_directory = is refl

in_directories : Is "check a/b/c/x.ha" (Checks "a/b/c/x.ha")
in_directories = is refl

dotted : Is "check ./x.ha" (Checks "./x.ha")
dotted = is refl

dotted_directory : Is "check ./a/x.ha" (Checks "./a/x.ha")
dotted_directory = is refl

no_stem : Is "check ./.ha" (Checks "./.ha")
no_stem = is refl

bare_end : Is "check .ha" (Checks ".ha")
bare_end = is refl

bare_end_in_a_directory : Is "check a/.ha" (Checks "a/.ha")
bare_end_in_a_directory = is refl

dotted_bare_end : Is "check ./a/.ha" (Checks "./a/.ha")
dotted_bare_end = is refl

two_files : Is "check x.ha y.ha" (Checks "x.ha y.ha")
two_files = is refl

one_file_twice : Is "check x.ha x.ha" (Checks "x.ha x.ha")
one_file_twice = is refl

two_modules : Is "check main.ha m/x.ha" (Checks "main.ha m/x.ha")
two_modules = is refl

a_dot_in_the_own_name : Is "check x.y.ha" (Checks "x.y.ha")
a_dot_in_the_own_name = is refl

dots_in_the_own_name : Is "check ..ha" (Checks "..ha")
dots_in_the_own_name = is refl

a_dash : Is "check -x.ha" (Checks "-x.ha")
a_dash = is refl

dashes : Is "check --x.ha" (Checks "--x.ha")
dashes = is refl

dashes_alone : Is "check --.ha" (Checks "--.ha")
dashes_alone = is refl

units_as_a_file : Is "check --units.ha" (Checks "--units.ha")
units_as_a_file = is refl

an_underscore_before : Is "check _a/x.ha" (Checks "_a/x.ha")
an_underscore_before = is refl

a_digit_behind : Is "check a1/x.ha" (Checks "a1/x.ha")
a_digit_behind = is refl

capitals : Is "check A_b9/Z.ha" (Checks "A_b9/Z.ha")
capitals = is refl

begins_like_a_left_out_word : Is "check nomems/x.ha" (Checks "nomems/x.ha")
begins_like_a_left_out_word = is refl

begins_like_a_keyword : Is "check fors/x.ha" (Checks "fors/x.ha")
begins_like_a_keyword = is refl

end_twice : Is "check x.ha.ha" (Checks "x.ha.ha")
end_twice = is refl

digit_name : Is "check 0.ha" (Checks "0.ha")
digit_name = is refl

runtime_directory : Is "check rt/x.ha" (Checks "rt/x.ha")
runtime_directory = is refl

keyword_as_the_own_name : Is "check for.ha" (Checks "for.ha")
keyword_as_the_own_name = is refl

keyword_in_a_directory : Is "check a/if.ha" (Checks "a/if.ha")
keyword_in_a_directory = is refl

command_as_a_directory : Is "check check/x.ha" (Checks "check/x.ha")
command_as_a_directory = is refl

mark_in_the_own_name : Is "check a+b,c.ha" (Checks "a+b,c.ha")
mark_in_the_own_name = is refl

no_files : IsNone "check"
no_files = none refl

empty_word : IsNone "check "
empty_word = none refl

other_word : IsNone "checks x.ha"
other_word = none refl

capital_word : IsNone "Check x.ha"
capital_word = none refl

cut_word : IsNone "chec x.ha"
cut_word = none refl

files_alone : IsNone "x.ha"
files_alone = none refl

word_behind : IsNone "x.ha check"
word_behind = none refl

no_end : IsNone "check x"
no_end = none refl

cut_end : IsNone "check x.h"
cut_end = none refl

end_without_dot : IsNone "check ha"
end_without_dot = none refl

capital_end : IsNone "check x.HA"
capital_end = none refl

empty_word_behind : IsNone "check x.ha "
empty_word_behind = none refl

absolute : IsNone "check /x.ha"
absolute = none refl

absolute_twice : IsNone "check //x.ha"
absolute_twice = none refl

empty_directory : IsNone "check a//x.ha"
empty_directory = none refl

dotted_twice : IsNone "check ././x.ha"
dotted_twice = none refl

parent : IsNone "check ../x.ha"
parent = none refl

parent_within : IsNone "check a/../x.ha"
parent_within = none refl

dot_within : IsNone "check a/./x.ha"
dot_within = none refl

dot_and_empty : IsNone "check .//x.ha"
dot_and_empty = none refl

dot_alone : IsNone "check ./"
dot_alone = none refl

directory_alone : IsNone "check a/"
directory_alone = none refl

directory_with_the_end : IsNone "check a.ha/"
directory_with_the_end = none refl

directory_of_the_end : IsNone "check a.ha/x"
directory_of_the_end = none refl

keyword_directory : IsNone "check for/x.ha"
keyword_directory = none refl

keyword_within : IsNone "check a/for/x.ha"
keyword_within = none refl

dotted_keyword : IsNone "check ./if/x.ha"
dotted_keyword = none refl

type_keyword : IsNone "check size/x.ha"
type_keyword = none refl

left_out_directory : IsNone "check enum/x.ha"
left_out_directory = none refl

nomem_directory : IsNone "check nomem/x.ha"
nomem_directory = none refl

nomem_within : IsNone "check a/nomem/x.ha"
nomem_within = none refl

underscore_directory : IsNone "check _/x.ha"
underscore_directory = none refl

digit_directory : IsNone "check 1a/x.ha"
digit_directory = none refl

dash_directory : IsNone "check a-b/x.ha"
dash_directory = none refl

dot_directory : IsNone "check a.b/x.ha"
dot_directory = none refl

blank_file_behind : IsNone "check x.ha y"
blank_file_behind = none refl

blank_file_before : IsNone "check y x.ha"
blank_file_before = none refl

arguments_of_check : IsNone "check x.ha -- a"
arguments_of_check = none refl

dashes_of_check : IsNone "check x.ha --"
dashes_of_check = none refl

dashes_before : IsNone "check -- x.ha"
dashes_before = none refl

units_of_check : IsNone "check --units 5 x.ha"
units_of_check = none refl
