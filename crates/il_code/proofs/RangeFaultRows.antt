-- Rows on what the language leaves out, and on numbers out of their ranges. Each text with its first fault, worked out by hand: number,
-- line and column, or none.
use Rattle.std.proofs.Common.{◌≡◌, Some, refl, codes}
use Rattle.il_code.specs.Rules.{is_runtime_call}
use Rattle.il_code.proofs.FirstFault.{first_fault}

-- ---- what the language leaves out (4)

-- class `s`
single_class : first_fault (codes "function $f() {\n@s\n\t%a =s copy 1\n") ≡ Some (4, 3, 6)
unfolding is_runtime_call
single_class = refl

-- class `d`, of a function
double_function : first_fault (codes "function d $f()") ≡ Some (4, 1, 10)
unfolding is_runtime_call
double_function = refl

-- class `sb`, of a parameter
byte_parameter : first_fault (codes "function $f(w %a, sb %b)") ≡ Some (4, 1, 19)
unfolding is_runtime_call
byte_parameter = refl

-- class `uh`, of an argument
half_argument : first_fault (codes "function $f() {\n@s\n\tcall $g(uh 1)\n") ≡ Some (4, 3, 10)
unfolding is_runtime_call
half_argument = refl

-- an aggregate type, of an argument
aggregate_argument : first_fault (codes "function $f() {\n@s\n\tcall $g(:pair %a)\n") ≡ Some (4, 3, 10)
unfolding is_runtime_call
aggregate_argument = refl

-- an aggregate type, of a result
aggregate_result : first_fault (codes "function $f() {\n@s\n\t%a =:pair call $g()\n") ≡ Some (4, 3, 6)
unfolding is_runtime_call
aggregate_result = refl

-- a type at the start
aggregate_type : first_fault (codes "type :t = { w }") ≡ Some (4, 1, 1)
unfolding is_runtime_call
aggregate_type = refl

-- thread-local data behind `export`
thread_behind_export : first_fault (codes "export thread data $x = { }") ≡ Some (4, 1, 8)
unfolding is_runtime_call
thread_behind_export = refl

-- a section behind a definition
section_behind_item : first_fault (codes "export function $main() {\n@s\n\tret\n}\nsection \"x\" data $x = { }") ≡ Some (4, 5, 1)
unfolding is_runtime_call
section_behind_item = refl

-- `dbgfile` behind a comment
debug_file : first_fault (codes "# file\ndbgfile \"a\"") ≡ Some (4, 2, 1)
unfolding is_runtime_call
debug_file = refl

-- `dbgloc` where an instruction begins
debug_line : first_fault (codes "function $f() {\n@s\n\tdbgloc 1\n") ≡ Some (4, 3, 2)
unfolding is_runtime_call
debug_line = refl

-- `env` in parameters
environment : first_fault (codes "function $f(env %e)") ≡ Some (4, 1, 13)
unfolding is_runtime_call
environment = refl

-- `...` in parameters
variadic : first_fault (codes "function $f(w %a, ...)") ≡ Some (4, 1, 19)
unfolding is_runtime_call
variadic = refl

-- `vastart`
variadic_start : first_fault (codes "function $f() {\n@s\n\tvastart %a\n") ≡ Some (4, 3, 2)
unfolding is_runtime_call
variadic_start = refl

-- `vaarg`
variadic_argument : first_fault (codes "function $f() {\n@s\n\t%a =w vaarg %b\n") ≡ Some (4, 3, 8)
unfolding is_runtime_call
variadic_argument = refl

-- `env` where no parameter stands
environment_anywhere : first_fault (codes "data $x = env") ≡ Some (4, 1, 11)
unfolding is_runtime_call
environment_anywhere = refl

-- a call through a temporary
call_of_temporary : first_fault (codes "function $f() {\n@s\n\tcall %f()\n") ≡ Some (4, 3, 7)
unfolding is_runtime_call
call_of_temporary = refl

-- ---- numbers and limits (12)

-- a number over 2 ^ 64 - 1
number_too_great : first_fault (codes "data $x = { l 18446744073709551616 }") ≡ Some (12, 1, 15)
unfolding is_runtime_call
number_too_great = refl

-- a number under -2 ^ 63
number_too_small : first_fault (codes "data $x = { l 1\n-9223372036854775809 }") ≡ Some (12, 2, 1)
unfolding is_runtime_call
number_too_small = refl

-- where no number stands
number_out_of_place : first_fault (codes "data 99999999999999999999") ≡ Some (12, 1, 6)
unfolding is_runtime_call
number_out_of_place = refl

-- a count that is no number of the language stands by itself
zeros_out_of_range : first_fault (codes "data $x = { z 18446744073709551616 }") ≡ Some (12, 1, 15)
unfolding is_runtime_call
zeros_out_of_range = refl

-- an alignment of 3
align_of_three : first_fault (codes "data $x = align 3 { }") ≡ Some (12, 1, 17)
unfolding is_runtime_call
align_of_three = refl

-- an alignment under 0
align_below_zero : first_fault (codes "data $x = align -8 { }") ≡ Some (12, 1, 17)
unfolding is_runtime_call
align_below_zero = refl

-- a count of zeros under 0
zeros_below_zero : first_fault (codes "data $x = { z -1 }") ≡ Some (12, 1, 15)
unfolding is_runtime_call
zeros_below_zero = refl

-- more than 2 ^ 30 zeros, at their letter
zeros_too_many : first_fault (codes "data $x = { z 1073741825 }") ≡ Some (12, 1, 13)
unfolding is_runtime_call
zeros_too_many = refl

-- the part with which the data passes 2 ^ 30 bytes
data_too_long : first_fault (codes "data $x = { z 1073741824, b 0 }") ≡ Some (12, 1, 27)
unfolding is_runtime_call
data_too_long = refl

-- the same over two items
data_too_long_together : first_fault (codes "data $x = { z 1073741823 }\ndata $y = { b 1, w 1 }") ≡ Some (12, 2, 18)
unfolding is_runtime_call
data_too_long_together = refl

-- the same by a string
data_too_long_by_string : first_fault (codes "data $x = { z 1073741822,\n b \"abc\" }") ≡ Some (12, 2, 2)
unfolding is_runtime_call
data_too_long_by_string = refl

-- the same by the last of two values
data_too_long_by_symbol : first_fault (codes "data $x = { z 1073741810, l $x + 1\n$x }") ≡ Some (12, 1, 27)
unfolding is_runtime_call
data_too_long_by_symbol = refl

-- the data passes its limit in front of a stray byte
too_long_before_end : first_fault (codes "data $x = { z 1073741824, b 0 &") ≡ Some (12, 1, 27)
unfolding is_runtime_call
too_long_before_end = refl

-- and a stray byte in front of that
stray_before_too_long : first_fault (codes "data $x = { z 1073741824, b & 0") ≡ Some (2, 1, 29)
unfolding is_runtime_call
stray_before_too_long = refl

-- a blit of more than 2 ^ 30 bytes
blit_too_long : first_fault (codes "function $f() {\n@s\n\tblit 0, 0, 1073741825\n") ≡ Some (12, 3, 13)
unfolding is_runtime_call
blit_too_long = refl

-- a blit of bytes under 0
blit_below_zero : first_fault (codes "function $f() {\n@s\n\tblit %a, $x, -1\n") ≡ Some (12, 3, 15)
unfolding is_runtime_call
blit_below_zero = refl
