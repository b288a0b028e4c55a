-- Rows on the rules that texts break, and on which fault comes first. Each text with its first fault, worked out by hand: number, line and
-- column, or none.
use Rattle.std.proofs.Common.{◌≡◌, None, Some, refl, codes}
use Rattle.il_code.specs.Rules.{is_runtime_call}
use Rattle.il_code.proofs.FirstFault.{first_fault}

-- ---- names (5)

-- a second definition of a symbol
symbol_twice : first_fault (codes "data $x = { }\ndata $x = { }\nexport function $main() {\n@s\n\tret\n}\n") ≡ Some (5, 2, 6)
unfolding is_runtime_call
symbol_twice = refl

-- the second of three
symbol_thrice : first_fault (codes "data $x = { }\nexport\ndata $x = { } data $x = { }\nexport function $main() {\n@s\n\tret\n}\n") ≡
    Some (5, 3, 6)
unfolding is_runtime_call
symbol_thrice = refl

-- a function of the name of data
function_as_data : first_fault (codes "data $main = { }\nexport function $main() {\n@s\n\tret\n}\n") ≡ Some (5, 2, 17)
unfolding is_runtime_call
function_as_data = refl

-- a symbol of the runtime
symbol_of_runtime : first_fault (codes "data $rt.x = { }\nexport function $main() {\n@s\n\tret\n}\n") ≡ Some (5, 1, 6)
unfolding is_runtime_call
symbol_of_runtime = refl

-- a second equal parameter
parameter_twice : first_fault (codes "export function $main() {\n@s\n\tret\n}\nfunction $f(w %a, l %b, w %a) {\n@s\n\tret\n}") ≡
    Some (5, 5, 27)
unfolding is_runtime_call
parameter_twice = refl

-- a second equal label
label_twice : first_fault (codes "export function $main() {\n@s\n\tjmp @a\n@a\n\tret\n\n# again\n@a\n\tret\n}") ≡ Some (5, 8, 1)
unfolding is_runtime_call
label_twice = refl

-- ---- labels (6)

-- a jump to no label
label_unknown : first_fault (codes "export function $main() {\n@s\n\tjmp @a\n}") ≡ Some (6, 3, 6)
unfolding is_runtime_call
label_unknown = refl

-- the second label of a jump
second_label_unknown : first_fault (codes "export function $main() {\n@s\n\tjnz 1, @a, @b\n@a\n\tret\n}") ≡ Some (6, 3, 13)
unfolding is_runtime_call
second_label_unknown = refl

-- a label of another function
label_of_another : first_fault (codes "export function $main() {\n@s\n\tret\n}\nfunction $f() {\n@a\n\tjmp @s\n}") ≡ Some (6, 7, 6)
unfolding is_runtime_call
label_of_another = refl

-- ---- temporaries (7)

-- an operand that nothing sets
temporary_unknown : first_fault (codes "export function $main() {\n@s\n\t%a =w copy %b\n\tret\n}\n") ≡ Some (7, 3, 13)
unfolding is_runtime_call
temporary_unknown = refl

-- the second operand
second_operand_unknown : first_fault (codes "export function $main() {\n@s\n\t%a =w add %a, %b\n\tret\n}\n") ≡ Some (7, 3, 16)
unfolding is_runtime_call
second_operand_unknown = refl

-- a value of a jump
returned_unknown : first_fault (codes "export function w $main() {\n@s\n\tret %a\n}") ≡ Some (7, 3, 6)
unfolding is_runtime_call
returned_unknown = refl

-- an argument of a call
argument_unknown : first_fault (codes "export function $main() {\n@s\n\tcall $rt.exit(w %a)\n\tret\n}\n") ≡ Some (7, 3, 18)
unfolding is_runtime_call
argument_unknown = refl

-- a parameter of another function
temporary_of_another : first_fault (codes "function $f(w %p) {\n@s\n\tret\n}\nexport function $main() {\n@s\n\t%a =w neg %p\n\tret\n}\n") ≡
    Some (7, 7, 12)
unfolding is_runtime_call
temporary_of_another = refl

-- what is set later in the text is set
set_behind : first_fault (codes "export function $main() {\n@s\n\t%a =w copy %b\n\t%b =w copy 1\n\tret\n}\n") ≡ None
unfolding is_runtime_call
set_behind = refl

-- ---- classes (8)

-- a temporary is set at another class than the first time
two_classes : first_fault (codes "export function $main() {\n@s\n\t%a =w copy 1\n\t%a =l copy 1\n\tret\n}\n") ≡ Some (8, 4, 2)
unfolding is_runtime_call
two_classes = refl

-- a parameter has its class
class_of_parameter : first_fault (codes "export function $main() {\n@s\n\tret\n}\nfunction $f(l %a) {\n@s\n\t%a =w copy 1\n\tret\n}") ≡
    Some (8, 7, 2)
unfolding is_runtime_call
class_of_parameter = refl

-- a w temporary where l is wanted
word_for_long : first_fault (codes "export function $main() {\n@s\n\t%a =w copy 1\n\t%b =l copy %a\n\tret\n}\n") ≡ Some (8, 4, 13)
unfolding is_runtime_call
word_for_long = refl

-- a w temporary as an address
word_for_address : first_fault (codes "export function $main() {\n@s\n\t%a =w copy 1\n\tstoreb 1, %a\n\tret\n}\n") ≡ Some (8, 4, 12)
unfolding is_runtime_call
word_for_address = refl

-- a symbol where w is wanted
symbol_for_word : first_fault (codes "export function $main() {\n@s\n\t%a =w copy $main\n\tret\n}\n") ≡ Some (8, 3, 13)
unfolding is_runtime_call
symbol_for_word = refl

-- the amount of a shift is a word
symbol_shifts : first_fault (codes "export function $main() {\n@s\n\t%a =l shl 1, $main\n\tret\n}\n") ≡ Some (8, 3, 15)
unfolding is_runtime_call
symbol_shifts = refl

-- `extsw` at class w
extended_word : first_fault (codes "export function $main() {\n@s\n\t%a =w extsw 1\n\tret\n}\n") ≡ Some (8, 3, 8)
unfolding is_runtime_call
extended_word = refl

-- an alloc at class w
address_word : first_fault (codes "export function $main() {\n@s\n\t%a =w alloc8 8\n\tret\n}\n") ≡ Some (8, 3, 8)
unfolding is_runtime_call
address_word = refl

-- a string behind `h`
string_of_halves : first_fault (codes "data $x = { b \"a\", h 1 \"a\" }\nexport function $main() {\n@s\n\tret\n}\n") ≡ Some (8, 1, 24)
unfolding is_runtime_call
string_of_halves = refl

-- a symbol behind `w`
symbol_of_words : first_fault (codes "data $x = { l $x,\n w $x }\nexport function $main() {\n@s\n\tret\n}\n") ≡ Some (8, 2, 4)
unfolding is_runtime_call
symbol_of_words = refl

-- a call with too few arguments
argument_missing : first_fault (codes "export function $main() {\n@s\n\tcall $rt.puts(l 0)\n\tret\n}\n") ≡ Some (8, 3, 2)
unfolding is_runtime_call
argument_missing = refl

-- a call with an argument of another class
argument_of_word : first_fault (codes "export function $main() {\n@s\n\tcall $rt.exit(l 0)\n\tret\n}\n") ≡ Some (8, 3, 2)
unfolding is_runtime_call
argument_of_word = refl

-- a call takes a result where none is given
result_of_none : first_fault (codes "export function $main() {\n@s\n\t%a =w call $main()\n\tret\n}\n") ≡ Some (8, 3, 8)
unfolding is_runtime_call
result_of_none = refl

-- a call may drop a result
result_dropped : first_fault (codes "export function $main() {\n@s\n\tcall $rt.nargs()\n\tret\n}\n") ≡ None
unfolding is_runtime_call
result_dropped = refl

-- a value is returned where none is wanted
value_of_none : first_fault (codes "export function $main() {\n@s\n\tret 1\n}") ≡ Some (8, 3, 2)
unfolding is_runtime_call
value_of_none = refl

-- no value is returned where one is wanted
none_of_value : first_fault (codes "export function w $main() {\n@s\n\tret\n}") ≡ Some (8, 3, 2)
unfolding is_runtime_call
none_of_value = refl

-- `$main` with a parameter
main_with_parameter : first_fault (codes "export function $main(w %a) {\n@s\n\tret\n}") ≡ Some (8, 1, 17)
unfolding is_runtime_call
main_with_parameter = refl

-- `$main` of class l
main_of_long : first_fault (codes "function l $main() {\n@s\n\tret 1\n}") ≡ Some (8, 1, 12)
unfolding is_runtime_call
main_of_long = refl

-- ---- symbols (9)

-- a symbol that is not defined
symbol_unknown : first_fault (codes "export function $main() {\n@s\n\t%a =l copy $x\n\tret\n}\n") ≡ Some (9, 3, 13)
unfolding is_runtime_call
symbol_unknown = refl

-- the same in data
symbol_unknown_in_data : first_fault (codes "data $x = { l $main $y + 8 }\nexport function $main() {\n@s\n\tret\n}\n") ≡ Some (9, 1, 21)
unfolding is_runtime_call
symbol_unknown_in_data = refl

-- a call of what is not defined
target_unknown : first_fault (codes "export function $main() {\n@s\n\t%a =w call $f(w %a)\n\tret\n}\n") ≡ Some (9, 3, 13)
unfolding is_runtime_call
target_unknown = refl

-- a call of data
call_of_data : first_fault (codes "data $x = { }\nexport function $main() {\n@s\n\tcall $x()\n\tret\n}\n") ≡ Some (9, 4, 7)
unfolding is_runtime_call
call_of_data = refl

-- a function of the runtime has no address
runtime_as_operand : first_fault (codes "export function $main() {\n@s\n\t%a =l copy $rt.puts\n\tret\n}\n") ≡ Some (9, 3, 13)
unfolding is_runtime_call
runtime_as_operand = refl

-- no `$main`, at the end of an empty text
no_items : first_fault (codes "") ≡ Some (9, 1, 1)
unfolding is_runtime_call
no_items = refl

-- data is no `$main`
main_of_data : first_fault (codes "data $main = { }\n\n# end") ≡ Some (9, 3, 6)
unfolding is_runtime_call
main_of_data = refl

-- no `$main`, in the first column
no_main : first_fault (codes "function $f() {\n@s\n\tret\n}\n") ≡ Some (9, 5, 1)
unfolding is_runtime_call
no_main = refl

-- ---- phis (10)

-- a phi in the first block
phi_at_start : first_fault (codes "export function $main() {\n@s\n\t%a =w phi @s 1\n\tret\n}\n") ≡ Some (10, 3, 8)
unfolding is_runtime_call
phi_at_start = refl

-- a phi behind an instruction
phi_behind_instruction : first_fault
    (codes "export function $main() {\n@s\n@a\n\t%a =w phi @s 1\n\t%b =w copy 1\n\t%c =w phi @s 1\n\tret\n}") ≡ Some (10, 6, 8)
unfolding is_runtime_call
phi_behind_instruction = refl

-- a phi without one of the predecessors
phi_lacks_predecessor : first_fault (codes "export function $main() {\n@s\n\tjnz 1, @a, @b\n@a\n@b\n\t%a =w phi @s 1\n\tret\n}") ≡
    Some (10, 6, 8)
unfolding is_runtime_call
phi_lacks_predecessor = refl

-- a phi with a label that is no predecessor
phi_of_other : first_fault (codes "export function $main() {\n@s\n@a\n\t%a =w phi @s 1, @a 2\n\tret\n}") ≡ Some (10, 4, 8)
unfolding is_runtime_call
phi_of_other = refl

-- a phi with a predecessor twice
phi_twice_of_one : first_fault (codes "export function $main() {\n@s\n@a\n\t%a =w phi @s 1, @s 1\n\tret\n}") ≡ Some (10, 4, 8)
unfolding is_runtime_call
phi_twice_of_one = refl

-- a phi with both predecessors
phi_of_both : first_fault (codes "export function $main() {\n@s\n\tjnz 1, @a, @b\n@a\n@b\n\t%a =w phi @s 1, @a %a\n\tret\n}") ≡ None
unfolding is_runtime_call
phi_of_both = refl

-- ---- jumps to the start (11)

-- `jmp`
jump_to_start : first_fault (codes "export function $main() {\n@s\n\tjmp @s\n}") ≡ Some (11, 3, 2)
unfolding is_runtime_call
jump_to_start = refl

-- `jnz`, by its second label
branch_to_start : first_fault (codes "export function $main() {\n@s\n\tjmp @a\n@a\n\tjnz 1, @a, @s\n}") ≡ Some (11, 5, 2)
unfolding is_runtime_call
branch_to_start = refl

-- ---- which comes first

-- what is found while reading comes before an earlier broken rule
read_before_rules : first_fault (codes "data $x = { }\ndata $x = { }\n)") ≡ Some (3, 3, 1)
unfolding is_runtime_call
read_before_rules = refl

-- also a number out of range
range_before_rules : first_fault (codes "data $x = { l $y }\ndata $y = align 7 { }\n") ≡ Some (12, 2, 17)
unfolding is_runtime_call
range_before_rules = refl

-- the lesser place, whatever the numbers
lesser_place : first_fault (codes "export function $main() {\n@s\n\t%a =l copy $x\n\t%b =w copy %c\n\tret\n}\n") ≡ Some (9, 3, 13)
unfolding is_runtime_call
lesser_place = refl

-- at one token the smaller number: a second `$main` with a parameter
lesser_number : first_fault (codes "export function $main() {\n@s\n\tret\n}\nfunction $main(w %a) {\n@s\n\tret\n}") ≡ Some (5, 5, 10)
unfolding is_runtime_call
lesser_number = refl

-- a second equal parameter of another class
parameter_of_two_classes : first_fault (codes "export function $main() {\n@s\n\tret\n}\nfunction $f(w %a, l %a) {\n@s\n\tret\n}") ≡
    Some (5, 5, 21)
unfolding is_runtime_call
parameter_of_two_classes = refl

-- an undefined symbol where w is wanted
word_before_unknown : first_fault (codes "export function $main() {\n@s\n\t%a =w copy $x\n\tret\n}\n") ≡ Some (8, 3, 13)
unfolding is_runtime_call
word_before_unknown = refl

-- a phi in front of its unknown label
phi_hides_label : first_fault (codes "export function $main() {\n@s\n@a\n\t%a =w phi @none 1\n\tret\n}") ≡ Some (10, 4, 8)
unfolding is_runtime_call
phi_hides_label = refl

-- a jump in front of its unknown label
start_hides_label : first_fault (codes "export function $main() {\n@s\n\tjnz 1, @s, @none\n}") ≡ Some (11, 3, 2)
unfolding is_runtime_call
start_hides_label = refl

-- a call in front of its argument
call_hides_argument : first_fault (codes "export function $main() {\n@s\n\tcall $rt.puts(l %a)\n\tret\n}\n") ≡ Some (8, 3, 2)
unfolding is_runtime_call
call_hides_argument = refl

-- a broken rule comes before the missing `$main`
rules_before_main : first_fault (codes "data $x = { l $y }\n") ≡ Some (9, 1, 15)
unfolding is_runtime_call
rules_before_main = refl
