-- Rows on bytes of no token and on tokens that no module goes on with. Each text with its first fault, worked out by hand: number, line and
-- column, or none.
use Rattle.std.proofs.Common.{◌≡◌, None, Some, refl, codes}
use Rattle.il_code.specs.Rules.{is_runtime_call}
use Rattle.il_code.proofs.FirstFault.{first_fault}

-- ---- nothing to be found

-- a module of one function
least_module : first_fault (codes "export function $main() {\n@s\n\tret\n}\n") ≡ None
unfolding is_runtime_call
least_module = refl

-- `export` behind another, over line feeds and a comment
export_again : first_fault (codes "export\n# again\n\nexport function $main() { @s\n\tret\n}") ≡ None
unfolding is_runtime_call
export_again = refl

-- commas behind the last, and line feeds in the braces of data
loose_marks : first_fault (codes "data $x = {\n b 1 \"a b\",\n z 2,\n l $x + 0 $x\n+ 8 }\n\nexport function $main ( ) {\n@s\n\tret\n}\n") ≡
    None
unfolding is_runtime_call
loose_marks = refl

-- `loadw` is `loadsw`
load_of_a_word : first_fault (codes "export function $main() {\n@s\n\t%a =l alloc4 4\n\t%b =w loadw %a\n\tret\n}\n") ≡ None
unfolding is_runtime_call
load_of_a_word = refl

-- the greatest number, the least and minus 0
numbers_at_their_ends : first_fault (codes "data $x = { l 18446744073709551615 -9223372036854775808 -0 000018446744073709551615 }\nexport function $main() {\n@s\n\tret\n}\n") ≡ None
unfolding is_runtime_call
numbers_at_their_ends = refl

-- 2 ^ 30 bytes of data
data_of_all_bytes : first_fault (codes "data $x = { z 1073741823, b 1 }\nexport function $main() {\n@s\n\tret\n}\n") ≡ None
unfolding is_runtime_call
data_of_all_bytes = refl

-- a blit of 2 ^ 30 bytes
blit_of_all_bytes : first_fault (codes "export function $main() {\n@s\n\tblit 0, 0, 1073741824\n\tret\n}\n") ≡ None
unfolding is_runtime_call
blit_of_all_bytes = refl

-- `#` in a string begins no comment
quoted_comment : first_fault (codes "data $x = { b \"# &\" }\nexport function $main() {\n@s\n\tret\n}\n") ≡ None
unfolding is_runtime_call
quoted_comment = refl

-- ---- bytes of no token (2)

-- the first byte
stray_at_start : first_fault (codes "&") ≡ Some (2, 1, 1)
unfolding is_runtime_call
stray_at_start = refl

-- in the middle of a line
stray_in_middle : first_fault (codes "data $x = * { }") ≡ Some (2, 1, 11)
unfolding is_runtime_call
stray_in_middle = refl

-- behind comments and line feeds
stray_behind_comments : first_fault (codes "# one\n\n# two\n \t!") ≡ Some (2, 4, 3)
unfolding is_runtime_call
stray_behind_comments = refl

-- behind a carriage return, which is a blank
stray_carriage_return : first_fault (codes "data\r\t;") ≡ Some (2, 1, 7)
unfolding is_runtime_call
stray_carriage_return = refl

-- a sigil without a name
symbol_without_name : first_fault (codes "data $ = { }") ≡ Some (2, 1, 6)
unfolding is_runtime_call
symbol_without_name = refl

-- a sigil in front of a digit
temporary_without_name : first_fault (codes "function $f() {\n@s\n\t%1 =w copy 1\n") ≡ Some (2, 3, 2)
unfolding is_runtime_call
temporary_without_name = refl

-- a sigil in front of a line feed
label_without_name : first_fault (codes "function $f() {\n@\n") ≡ Some (2, 2, 1)
unfolding is_runtime_call
label_without_name = refl

-- a `%` that is no token, where a call's target stands
target_without_name : first_fault (codes "function $f() {\n@s\n\tcall % ()\n") ≡ Some (2, 3, 7)
unfolding is_runtime_call
target_without_name = refl

-- a minus without digits
minus_without_digits : first_fault (codes "data $x = { b - }") ≡ Some (2, 1, 15)
unfolding is_runtime_call
minus_without_digits = refl

-- a string that meets a line feed
string_over_lines : first_fault (codes "data $x = { b \"ab\n\" }") ≡ Some (2, 1, 15)
unfolding is_runtime_call
string_over_lines = refl

-- a string that meets a backslash
string_with_backslash : first_fault (codes "data $x = { b 1 \"a\\\" }") ≡ Some (2, 1, 17)
unfolding is_runtime_call
string_with_backslash = refl

-- a string that meets the end
string_without_end : first_fault (codes "data $x = { b \"a") ≡ Some (2, 1, 15)
unfolding is_runtime_call
string_without_end = refl

-- a colon where no class stands
colon_without_class : first_fault (codes "data :x = { }") ≡ Some (2, 1, 6)
unfolding is_runtime_call
colon_without_class = refl

-- a colon where a letter of data stands
colon_in_data : first_fault (codes "data $x = { : 1 }") ≡ Some (2, 1, 13)
unfolding is_runtime_call
colon_in_data = refl

-- ---- what no module goes on with (3)

-- the first token
mark_at_start : first_fault (codes "}") ≡ Some (3, 1, 1)
unfolding is_runtime_call
mark_at_start = refl

-- a token that is left out
equals_missing : first_fault (codes "data $x { }") ≡ Some (3, 1, 9)
unfolding is_runtime_call
equals_missing = refl

-- a token in front of a stray byte
earlier_than_a_stray : first_fault (codes "data = &") ≡ Some (3, 1, 6)
unfolding is_runtime_call
earlier_than_a_stray = refl

-- the end, behind a blank
end_of_data : first_fault (codes "data $x = ") ≡ Some (3, 1, 11)
unfolding is_runtime_call
end_of_data = refl

-- the end, behind a comment
end_behind_export : first_fault (codes "export\n\n# more") ≡ Some (3, 3, 7)
unfolding is_runtime_call
end_behind_export = refl

-- the end, in the first column
end_in_function : first_fault (codes "function $f() {\n@s\n\tret\n") ≡ Some (3, 4, 1)
unfolding is_runtime_call
end_in_function = refl

-- letters of data are no classes
letter_of_no_part : first_fault (codes "data $x = { s 1 }") ≡ Some (3, 1, 13)
unfolding is_runtime_call
letter_of_no_part = refl

-- a part without values
value_missing : first_fault (codes "data $x = { b }") ≡ Some (3, 1, 15)
unfolding is_runtime_call
value_missing = refl

-- two commas
commas_in_data : first_fault (codes "data $x = { b 1,\n, }") ≡ Some (3, 2, 1)
unfolding is_runtime_call
commas_in_data = refl

-- a comma without a parameter
comma_of_no_parameter : first_fault (codes "function $f(,)") ≡ Some (3, 1, 13)
unfolding is_runtime_call
comma_of_no_parameter = refl

-- the last block has no jump
last_block_falls : first_fault (codes "function $f() {\n@s\n}\n") ≡ Some (3, 3, 1)
unfolding is_runtime_call
last_block_falls = refl

-- a function without blocks
no_block : first_fault (codes "function $f() { }") ≡ Some (3, 1, 17)
unfolding is_runtime_call
no_block = refl

-- a label ends its line
label_without_line : first_fault (codes "function $f() {\n@s ret\n}\n") ≡ Some (3, 2, 4)
unfolding is_runtime_call
label_without_line = refl

-- a sum of one operand, at the line feed
operand_missing : first_fault (codes "function $f() {\n@s\n\t%a =w add 1\n\n\tret\n}\n") ≡ Some (3, 3, 13)
unfolding is_runtime_call
operand_missing = refl

-- a copy of two
operand_too_many : first_fault (codes "function $f() {\n@s\n\t%a =w copy 1, 2\n") ≡ Some (3, 3, 14)
unfolding is_runtime_call
operand_too_many = refl

-- no operation
operation_unknown : first_fault (codes "function $f() {\n@s\n\t%a =w adds 1, 2\n") ≡ Some (3, 3, 8)
unfolding is_runtime_call
operation_unknown = refl

-- a line behind the jump
line_behind_jump : first_fault (codes "function $f() {\n@s\n\tret\n\tret\n") ≡ Some (3, 4, 2)
unfolding is_runtime_call
line_behind_jump = refl

-- a phi without arguments
phi_without_argument : first_fault (codes "function $f() {\n@s\n\t%a =w phi\n") ≡ Some (3, 3, 11)
unfolding is_runtime_call
phi_without_argument = refl

-- an instruction over two lines
line_feed_in_line : first_fault (codes "function $f() {\n@s\n\t%a =w\n\tcopy 1\n") ≡ Some (3, 3, 7)
unfolding is_runtime_call
line_feed_in_line = refl

-- a line feed outside the braces
line_feed_behind_align : first_fault (codes "data $x = align\n8 { }") ≡ Some (3, 1, 16)
unfolding is_runtime_call
line_feed_behind_align = refl

-- `s` where a value stands
class_of_float_as_value : first_fault (codes "function $f() {\n@s\n\tret s\n") ≡ Some (3, 3, 6)
unfolding is_runtime_call
class_of_float_as_value = refl

-- `dbgloc` where no instruction begins
debug_behind_jump : first_fault (codes "function $f() {\n@s\n\tret\n\tdbgloc 1\n") ≡ Some (3, 4, 2)
unfolding is_runtime_call
debug_behind_jump = refl

-- `section` where no definition begins
section_in_definition : first_fault (codes "data $x = section { }") ≡ Some (3, 1, 11)
unfolding is_runtime_call
section_in_definition = refl
