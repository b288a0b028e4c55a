-- The line of a fault: `PATH:LINE:COLUMN: E25 NotAssignable`.
use Rattle.std.specs.Prelude.{ℕ, ◌-◌, List, [], ◌∷◌, ◌++◌, Bool, ◌&&◌, ◌||◌, ◌==◌, nat_le, codes, slice_get, Option, Some, None, is_some, if◌then◌else◌}
use Rattle.std.specs.Fmt.{decimal}

-- ---- names

-- the faults of the language, E1 to E49
abbrev pub language_faults : List (List ℕ)
language_faults =
    codes "FileTooLarge" ∷ codes "SourcesTooLarge" ∷ codes "NotUtf8" ∷ codes "BadByte" ∷ codes "BadEscape"
    ∷ codes "Unterminated" ∷ codes "NumberTooLarge" ∷ codes "Syntax" ∷ codes "TooDeep" ∷ codes "LeftOut"
    ∷ codes "UnknownModule" ∷ codes "Duplicate" ∷ codes "Unknown" ∷ codes "NotExported" ∷ codes "UnknownMember"
    ∷ codes "ModuleCycle" ∷ codes "InfiniteType" ∷ codes "TypeTooLarge" ∷ codes "EmptyUnion" ∷ codes "UnionTooWide"
    ∷ codes "NotConstant" ∷ codes "OutOfRange" ∷ codes "ConstantCycle" ∷ codes "BadLength" ∷ codes "NotAssignable"
    ∷ codes "NotCastable" ∷ codes "OperandMismatch" ∷ codes "NotAPlace" ∷ codes "NotMutable" ∷ codes "WrongArity"
    ∷ codes "NotCallable" ∷ codes "NoField" ∷ codes "NotIndexable" ∷ codes "Fields" ∷ codes "NotTagged" ∷ codes "NotMember"
    ∷ codes "NotExhaustive" ∷ codes "DuplicateCase" ∷ codes "BranchMismatch" ∷ codes "BadLabel" ∷ codes "DeferEscape"
    ∷ codes "NoErrorMember" ∷ codes "ErrorNotReturned" ∷ codes "ErrorDropped" ∷ codes "MissingReturn" ∷ codes "MainShape"
    ∷ codes "FrameTooLarge" ∷ codes "ProgramTooLarge" ∷ codes "NotBuilt" ∷ []

-- the faults of a text of the intermediate language, I1 to I13
abbrev pub text_faults : List (List ℕ)
text_faults =
    codes "TooLarge" ∷ codes "BadByte" ∷ codes "Syntax" ∷ codes "LeftOut" ∷ codes "Duplicate" ∷ codes "UnknownLabel"
    ∷ codes "UnknownTemporary" ∷ codes "ClassMismatch" ∷ codes "UnknownSymbol" ∷ codes "PhiPlace" ∷ codes "JumpToStart"
    ∷ codes "NumberRange" ∷ codes "NotPrinted" ∷ []

-- the name with this number, counted from 1
abbrev pub numbered : List (List ℕ) → ℕ → Option (List ℕ)
numbered names n = if nat_le 1 n then slice_get names (n - 1) else None

-- the name of a fault, by the letter E or I and its number
abbrev pub name_of : ℕ → ℕ → Option (List ℕ)
name_of letter number =
    if letter == 69 then numbered language_faults number else if letter == 73 then numbered text_faults number else None

-- there is a fault with this letter and number that has a name, or an undefined act, which has none: U1 to U8
abbrev pub has_line : ℕ → ℕ → Bool
has_line letter number = is_some (name_of letter number) || (letter == 85 && nat_le 1 number && nat_le number 8)

-- ---- lines

-- a path, a line and a column
abbrev pub place_text : List ℕ → ℕ → ℕ → List ℕ
place_text path line column = path ++ codes ":" ++ decimal line ++ codes ":" ++ decimal column

-- what stands behind the number of a fault: a blank and its name, if it has one
abbrev pub naming : Option (List ℕ) → List ℕ
naming None = []
naming (Some name) = 32 ∷ name

-- the line of a fault, with its line feed
abbrev pub fault_line : List ℕ → ℕ → ℕ → ℕ → ℕ → List ℕ
fault_line path letter number line column =
    place_text path line column ++ codes ": " ++ letter ∷ decimal number ++ naming (name_of letter number) ++ codes "\n"
