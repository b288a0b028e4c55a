-- Rows of `if`, of unions, and of pointers that may be null.
use Rattle.std.proofs.Common.{◌≡◌, ℕ, [], ◌∷◌, codes, refl}
use Rattle.std.specs.Fmt.{digits}
use Rattle.hare_tree.specs.declared.kind.Kind.TheVariants as kind
use Rattle.hare_types.specs.declared.coercion.Ty.TheVariants as kept
use Rattle.hare_typed.specs.declared.cell.Cell.TheVariants.{Byte as byte}
use Rattle.hare_typed.specs.Typed.{TypedNode}
use Rattle.hare_typed.specs.Words.{three}
use Rattle.hare_typed.specs.Scalars.{Address}
use Rattle.hare_typed.specs.State.{Exit, Abort}
use Rattle.hare_meaning.proofs.Samples.{void, bool, u8, int, pointer, nullable, failure, int_or_bool, int_or_failure, int_bool_or_failure, void_or_failure}
use Rattle.hare_meaning.proofs.Trees.{at, to, of_type, absent, node, one, main, function, call, puts, text, giving, outcome, ends, shows, exit, tell, bind, local, hand, when, either, yes, no, n8, num, type_node, known}

-- ---- if

if_true : ends (exit (either u8 yes (n8 1) (n8 2)) ∷ []) 0 ≡ Exit 1
if_true = refl

if_false : ends (exit (either u8 no (n8 1) (n8 2)) ∷ []) 0 ≡ Exit 2
if_false = refl

if_without_else : shows (when no (puts 0 (codes "a")) absent ∷ when yes (puts 1 (codes "b")) absent ∷ []) 0 ≡ codes "b"
if_without_else = refl

-- ---- members of unions

-- an int, and a bool, as `(int | bool)`
abbrev an_int : TypedNode
an_int = to 9 int_or_bool (num int 5)

abbrev a_bool : TypedNode
a_bool = to 9 int_or_bool yes

abbrev taken : ℕ → TypedNode → TypedNode
taken t e = node kind.As [] 0 t (e ∷ type_node t ∷ [])

abbrev is : ℕ → TypedNode → TypedNode
is t e = node kind.Is [] 0 bool (e ∷ type_node t ∷ [])

as_its_member : ends (bind an_int ∷ tell (taken int (local 0 int_or_bool)) ∷ []) 0 ≡ Exit 5
as_its_member = refl

as_another : ends (bind a_bool ∷ tell (at 5 (taken int (local 0 int_or_bool))) ∷ []) 0 ≡ Abort (codes "m.ha:1:5: abort 1")
unfolding digits
as_another = refl

is_its_member : ends (bind an_int ∷ exit (either u8 (is int (local 0 int_or_bool)) (n8 1) (n8 2)) ∷ []) 0 ≡ Exit 1
is_its_member = refl

is_another : ends (bind an_int ∷ exit (either u8 (is bool (local 0 int_or_bool)) (n8 1) (n8 2)) ∷ []) 0 ≡ Exit 2
is_another = refl

-- ---- pointers that may be null

abbrev null : TypedNode
null = to 6 nullable (of_type kind.Null [] 0 kept.Null [])

abbrev address : TypedNode
address = to 5 nullable (one kind.Addr pointer (local 0 int))

null_as_a_pointer : ends (bind (num int 5) ∷ bind null ∷ tell (one kind.Deref int (at 5 (taken pointer (local 1 nullable)))) ∷ []) 0
    ≡ Abort (codes "m.ha:1:5: abort 1")
unfolding digits
null_as_a_pointer = refl

address_as_a_pointer : ends (bind (num int 5) ∷ bind address ∷ tell (one kind.Deref int (taken pointer (local 1 nullable))) ∷ []) 0
    ≡ Exit 5
address_as_a_pointer = refl

null_is_no_pointer : ends (bind null ∷ exit (either u8 (is pointer (local 0 nullable)) (n8 1) (n8 2)) ∷ []) 0 ≡ Exit 2
null_is_no_pointer = refl

-- ---- match

abbrev case : TypedNode → TypedNode → TypedNode
case p s = node kind.Case [] 0 void (p ∷ s ∷ [])

abbrev binds : ℕ → TypedNode
binds t = node kind.PatternLet [] 0 void (type_node t ∷ [])

-- `match (x) { case let i: int => a; case bool => b; }`, of the binding before it
abbrev by_member : TypedNode → TypedNode
by_member x = node kind.Match [] 0 void (x ∷ case (binds int) (tell (local 1 int)) ∷ case (type_node bool) (exit (n8 9)) ∷ [])

match_binds : ends (bind an_int ∷ by_member (local 0 int_or_bool) ∷ []) 0 ≡ Exit 5
match_binds = refl

match_of_a_type : ends (bind a_bool ∷ by_member (local 0 int_or_bool) ∷ []) 0 ≡ Exit 9
match_of_a_type = refl

match_of_all_others : ends (bind a_bool ∷ node kind.Match [] 0 void (local 0 int_or_bool ∷ case (type_node int) (exit (n8 1))
    ∷ case absent (exit (n8 2)) ∷ []) ∷ []) 0 ≡ Exit 2
match_of_all_others = refl

-- a case gives what is yielded to it
match_gives : ends (bind an_int
    ∷ exit (node kind.Match [] 0 u8
    (local 0 int_or_bool ∷ node kind.Case [] 0 u8 (type_node int ∷ hand (n8 4) ∷ []) ∷ node kind.Case [] 0 u8 (absent ∷ hand (n8 6)
    ∷ []) ∷ [])) ∷ []) 0 ≡ Exit 4
match_gives = refl

-- and runs what is deferred in it
match_defers : shows (bind an_int
    ∷ node kind.Match [] 0 void (local 0 int_or_bool ∷ node kind.Case [] 0 void (absent ∷ one kind.Defer void (puts 0 (codes "a"))
    ∷ puts 1 (codes "b") ∷ []) ∷ [])
    ∷ puts 2 (codes "c") ∷ []) 0 ≡ codes "bac"
match_defers = refl

abbrev by_pointer : TypedNode → TypedNode
by_pointer x =
    node kind.Match [] 0 void
    (x ∷ case (node kind.PatternNull [] 0 void []) (exit (n8 1)) ∷ case (binds pointer) (tell (one kind.Deref int (local 2 pointer)))
    ∷ [])

match_null : ends (bind (num int 5) ∷ bind null ∷ by_pointer (local 1 nullable) ∷ []) 0 ≡ Exit 1
match_null = refl

match_pointer : ends (bind (num int 5) ∷ bind address ∷ by_pointer (local 1 nullable) ∷ []) 0 ≡ Exit 5
match_pointer = refl

-- ---- switch

abbrev constant_of : ℕ → TypedNode
constant_of n = known (byte n ∷ []) (n8 n)

abbrev values : TypedNode → TypedNode → TypedNode
values a b = node kind.Values [] 0 void (a ∷ b ∷ absent ∷ [])

abbrev switch_case : TypedNode → TypedNode → TypedNode
switch_case vs s = node kind.SwitchCase [] 0 void (vs ∷ s ∷ [])

-- `switch (x) { case 1, 2 => exit(7); case 3, 4 => exit(8); case => exit(9); }`
abbrev by_value : TypedNode → TypedNode
by_value x =
    node kind.Switch [] 0 void
    (x ∷ switch_case (values (constant_of 1) (constant_of 2)) (exit (n8 7))
    ∷ switch_case (values (constant_of 3) (constant_of 4)) (exit (n8 8)) ∷ switch_case absent (exit (n8 9)) ∷ [])

switch_first : ends (by_value (n8 1) ∷ []) 0 ≡ Exit 7
switch_first = refl

switch_second : ends (by_value (n8 4) ∷ []) 0 ≡ Exit 8
switch_second = refl

switch_others : ends (by_value (n8 5) ∷ []) 0 ≡ Exit 9
switch_others = refl

-- the constant of a text leads to the object of its node: here the second string of the function
abbrev text_constant : TypedNode
text_constant = known (three (record { data_at = Address 4294967297 0; length = 2; capacity = 2 })) (text 1 (codes "ab"))

abbrev by_text : TypedNode → TypedNode
by_text x = node kind.Switch [] 0 void (x ∷ switch_case (node kind.Values [] 0 void (text_constant ∷ absent ∷ [])) (exit (n8 7))
    ∷ switch_case absent (exit (n8 9)) ∷ [])

switch_text : ends (by_text (text 0 (codes "ab")) ∷ []) 0 ≡ Exit 7
switch_text = refl

switch_other_text : ends (by_text (text 0 (codes "aX")) ∷ []) 0 ≡ Exit 9
switch_other_text = refl

switch_text_of_another_length : ends (by_text (text 0 (codes "abc")) ∷ []) 0 ≡ Exit 9
switch_text_of_another_length = refl

-- ---- errors

-- void as the error `!void`
abbrev an_error : TypedNode
an_error = node kind.Cast [] 0 failure (node kind.Void [] 0 void [] ∷ type_node failure ∷ [])

-- `fn f(fails: bool) (int | !void) = if (fails) error else 5`
abbrev may_fail : TypedNode
may_fail = function (bool
    ∷ []) int_or_failure (either int_or_failure (local 0 bool) (to 9 int_or_failure an_error) (to 9 int_or_failure (num int 5)))

force_gives : outcome (main (tell (one kind.Force int (call 1 int_or_failure (no ∷ []))) ∷ []) ∷ may_fail ∷ []) 1 ≡ Exit 5
force_gives = refl

force_aborts : outcome (main (tell (at 5 (one kind.Force int (call 1 int_or_failure (yes ∷ [])))) ∷ []) ∷ may_fail ∷ []) 1
    ≡ Abort (codes "m.ha:1:5: abort 7")
unfolding digits
force_aborts = refl

-- `fn g(fails: bool) (void | !void) = { exit(f(fails)?); }`
abbrev passes_on : TypedNode
passes_on =
    function (bool ∷ []) void_or_failure
    (giving void_or_failure (tell (one kind.Try int (call 1 int_or_failure (local 0 bool ∷ []))) ∷ []))

try_gives : outcome (main (one kind.Force void (call 2 void_or_failure (no ∷ [])) ∷ []) ∷ may_fail ∷ passes_on ∷ []) 2 ≡ Exit 5
try_gives = refl

try_returns : outcome
    (main (exit (either u8 (is failure (call 2 void_or_failure (yes ∷ []))) (n8 1) (n8 2)) ∷ []) ∷ may_fail ∷ passes_on ∷ []) 2 ≡ Exit 1
try_returns = refl

-- of several members that are no errors a union is left
force_leaves_a_union : ends (bind (one kind.Force int_or_bool (to 9 int_bool_or_failure (num int 5)))
    ∷ tell (taken int (local 0 int_or_bool)) ∷ []) 0 ≡ Exit 5
force_leaves_a_union = refl
