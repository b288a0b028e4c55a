-- Rows of the line of a fault.
use Rattle.std.proofs.Common.{◌≡◌, ◌^◌, ◌-◌, Some, None, true, false, codes, length, refl}
use Rattle.std.specs.Fmt.{digits}
use Rattle.harec_words.specs.Faults.{language_faults, text_faults, name_of, has_line, fault_line}

-- the tables are whole
language_faults_all : length language_faults ≡ 49
language_faults_all = refl

text_faults_all : length text_faults ≡ 13
text_faults_all = refl

-- names by letter and number
first_of_language : name_of 69 1 ≡ Some (codes "FileTooLarge")
first_of_language = refl

syntax : name_of 69 8 ≡ Some (codes "Syntax")
syntax = refl

left_out : name_of 69 10 ≡ Some (codes "LeftOut")
left_out = refl

not_assignable : name_of 69 25 ≡ Some (codes "NotAssignable")
not_assignable = refl

not_exhaustive : name_of 69 37 ≡ Some (codes "NotExhaustive")
not_exhaustive = refl

missing_return : name_of 69 45 ≡ Some (codes "MissingReturn")
missing_return = refl

last_of_language : name_of 69 49 ≡ Some (codes "NotBuilt")
last_of_language = refl

past_language : name_of 69 50 ≡ None
past_language = refl

before_language : name_of 69 0 ≡ None
before_language = refl

first_of_text : name_of 73 1 ≡ Some (codes "TooLarge")
first_of_text = refl

class_mismatch : name_of 73 8 ≡ Some (codes "ClassMismatch")
class_mismatch = refl

last_of_text : name_of 73 13 ≡ Some (codes "NotPrinted")
last_of_text = refl

past_text : name_of 73 14 ≡ None
past_text = refl

-- undefined acts have a line and no name
no_name_of_an_act : name_of 85 1 ≡ None
no_name_of_an_act = refl

first_act : has_line 85 1 ≡ true
first_act = refl

last_act : has_line 85 8 ≡ true
last_act = refl

past_acts : has_line 85 9 ≡ false
past_acts = refl

before_acts : has_line 85 0 ≡ false
before_acts = refl

other_letter : has_line 70 1 ≡ false
other_letter = refl

-- lines
assigned : fault_line (codes "main.ha") 69 25 1 17 ≡ codes "main.ha:1:17: E25 NotAssignable\n"
unfolding digits
assigned = refl

-- the path is the word as it was given
dotted : fault_line (codes "./a/x.ha") 69 46 1 1 ≡ codes "./a/x.ha:1:1: E46 MainShape\n"
unfolding digits
dotted = refl

of_a_text : fault_line (codes "x.ssa") 73 8 1048576 999 ≡ codes "x.ssa:1048576:999: I8 ClassMismatch\n"
unfolding digits
of_a_text = refl

of_an_act : fault_line (codes "m/x.ha") 85 7 (2 ^ 64 - 1) 0 ≡ codes "m/x.ha:18446744073709551615:0: U7\n"
unfolding digits
of_an_act = refl
