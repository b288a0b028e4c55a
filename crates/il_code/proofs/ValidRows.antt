-- Rows on the grammar and the rules: small texts with their tokens, and small modules that are valid or break one rule.
use Rattle.std.proofs.Common.{◌≡◌, ℕ, ◌^◌, ◌-◌, List, [], ◌∷◌, true, false, ◌&&◌, None, Some, refl, sym, ◌∙◌, codes, inr, lit<, lit≤}
use Rattle.std.proofs.lemmas.Bool.{false≢true}
use Rattle.hx_base.specs.declared.Class.{Class}
use Rattle.hx_base.specs.declared.Class.TheVariants.{W, L}
use Rattle.il_code.specs.declared.op.IlOp.TheVariants as op
use Rattle.il_code.specs.declared.types.IlItem.{IlItem}
use Rattle.il_code.specs.declared.types.IlItem.TheVariants.{Data, Function}
use Rattle.il_code.specs.declared.types.Module.{Module}
use Rattle.il_code.specs.declared.types.Part.TheVariants.{Values, Zero}
use Rattle.il_code.specs.declared.types.PartValue.TheVariants as part
use Rattle.il_code.specs.declared.types.IlParam.{IlParam}
use Rattle.il_code.specs.declared.types.Block.{Block}
use Rattle.il_code.specs.declared.types.PhiArg.{PhiArg}
use Rattle.il_code.specs.declared.types.IlValue.{IlValue}
use Rattle.il_code.specs.declared.types.IlValue.TheVariants.{Number, Temp, Symbol}
use Rattle.il_code.specs.declared.types.IlArg.{IlArg}
use Rattle.il_code.specs.declared.types.Inst.{Inst}
use Rattle.il_code.specs.declared.types.Inst.TheVariants.{Set, Blit, Call}
use Rattle.il_code.specs.declared.types.Jump.{Jump}
use Rattle.il_code.specs.declared.types.Jump.TheVariants.{Fall, Jmp, Jnz, Ret}
use Rattle.il_code.specs.Tokens.{Word, TempName, Numeral, Mark, LineEnd, Tokens}
use Rattle.il_code.specs.Rules.{IsValid, is_runtime_call, call_is_right}
use Rattle.il_code.specs.Shaped.{is_shaped, is_lawful}
use Rattle.il_code.proofs.Validates.{valid_is}

-- ---- texts

-- a comment ends before its line does, and blanks stand between tokens
comment_and_blanks : Tokens (codes "# f\n\t%x =w # g") (LineEnd ∷ TempName (codes "x") ∷ Mark 61 ∷ Word (codes "w") ∷ [])
comment_and_blanks = (
  codes "\n",
  _,
  refl,
  (refl, refl),
  refl,
  (codes "%x", _, refl, (refl, refl), refl, (codes "=", _, refl, (refl, refl), refl, (codes "w", _, refl, (refl, refl), refl, refl))),
)

-- a number below 0 stands for its 64 bits, and a word may stand right behind a number
minus_one : Tokens (codes "-1w") (Numeral (2 ^ 64 - 1) ∷ Word (codes "w") ∷ [])
minus_one = (
  codes "-1",
  codes "w",
  refl,
  (
    refl,
    inr
        (record { digits = codes "1"; is = refl; all = refl; some = lit< tt; range = lit≤ tt; value = refl }),
  ),
  refl,
  (codes "w", [], refl, (refl, refl), refl, refl),
)

-- ---- modules

refuses : (m : Module) → (is_shaped m && is_lawful m.items) ≡ false → ¬ (IsValid m)
refuses m h = λ v. let k = (valid_is m).1 v in false≢true (sym h ∙ k)

abbrev block : List ℕ → List Inst → Jump → Block
block label insts jump = record { label = label; phis = []; insts = insts; jump = jump }

abbrev main : List Block → IlItem
main blocks = Function true None (codes "main") [] blocks

abbrev of : List IlItem → Module
of items = record { items = items }

abbrev done : IlItem
done = main (block (codes "s") [] (Ret None) ∷ [])

-- a module whose `$main` is these instructions, on one block
abbrev one : List Inst → Module
one insts = of (main (block (codes "s") insts (Ret None) ∷ []) ∷ [])

abbrev word : List ℕ → IlValue → Inst
word t v = Set t W op.Copy v None

abbrev long : List ℕ → IlValue → Inst
long t v = Set t L op.Copy v None

abbrev a : List ℕ
a = codes "a"

abbrev b : List ℕ
b = codes "b"

abbrev param : List ℕ → Class → IlParam
param name class = record { name = name; class = class }

abbrev arg : Class → IlValue → IlArg
arg class value = record { class = class; value = value }

-- three blocks: `s` goes to `b` or to `c`, and `b` falls to `c`, which has one phi with arguments for these labels
abbrev meets : List PhiArg → Module
meets args = of (main (block (codes "s") [] (Jnz (Number 0) b (codes "c")) ∷ block b [] Fall ∷
    record { label = codes "c"; phis = record { temp = a; class = L; args = args } ∷ []; insts = []; jump = Ret None } ∷ []) ∷ [])

abbrev phi_arg : List ℕ → PhiArg
phi_arg label = record { label = label; value = Number 1 }

-- one block that returns
empty_main : IsValid (of (done ∷ []))
unfolding is_shaped is_lawful is_runtime_call call_is_right
empty_main = (valid_is (of (done ∷ []))).0 refl

-- no function `$main` (9)
nothing_at_all : ¬ (IsValid (of []))
unfolding is_shaped is_lawful is_runtime_call call_is_right
nothing_at_all = refuses (of []) refl

-- data does not count as `$main` (9)
data_main : ¬ (IsValid (of (Data false (codes "main") 8 [] ∷ [])))
unfolding is_shaped is_lawful is_runtime_call call_is_right
data_main = refuses (of (Data false (codes "main") 8 [] ∷ [])) refl

-- a symbol is defined twice (5)
symbol_twice : ¬ (IsValid (of (done ∷ done ∷ [])))
unfolding is_shaped is_lawful is_runtime_call call_is_right
symbol_twice = refuses (of (done ∷ done ∷ [])) refl

-- a symbol begins as those of the runtime (5)
symbol_of_the_runtime : ¬ (IsValid (of (done ∷ Data false (codes "rt.x") 8 [] ∷ [])))
unfolding is_shaped is_lawful is_runtime_call call_is_right
symbol_of_the_runtime = refuses (of (done ∷ Data false (codes "rt.x") 8 [] ∷ [])) refl

-- a label stands twice (5)
label_twice : ¬ (IsValid (of (main (block a [] Fall ∷ block a [] (Ret None) ∷ []) ∷ [])))
unfolding is_shaped is_lawful is_runtime_call call_is_right
label_twice = refuses (of (main (block a [] Fall ∷ block a [] (Ret None) ∷ []) ∷ [])) refl

-- a parameter stands twice (5)
parameter_twice : ¬ (IsValid (of (done ∷ Function false None (codes "f") (param a W ∷ param a W ∷ []) (block (codes "s") [] (Ret None) ∷ [])
    ∷ [])))
unfolding is_shaped is_lawful is_runtime_call call_is_right
parameter_twice = refuses (of (done ∷ Function false None (codes "f") (param a W ∷ param a W ∷ []) (block (codes "s") [] (Ret None) ∷ []) ∷
    [])) refl

-- a jump to a label that the function does not have (6)
label_unknown : ¬ (IsValid (of (main (block (codes "s") [] (Jmp a) ∷ []) ∷ [])))
unfolding is_shaped is_lawful is_runtime_call call_is_right
label_unknown = refuses (of (main (block (codes "s") [] (Jmp a) ∷ []) ∷ [])) refl

-- a temporary that nothing sets (7)
temporary_unknown : ¬ (IsValid (one (word a (Temp b) ∷ [])))
unfolding is_shaped is_lawful is_runtime_call call_is_right
temporary_unknown = refuses (one (word a (Temp b) ∷ [])) refl

-- a temporary is set at both classes (8)
two_classes : ¬ (IsValid (one (word a (Number 1) ∷ long a (Number 1) ∷ [])))
unfolding is_shaped is_lawful is_runtime_call call_is_right
two_classes = refuses (one (word a (Number 1) ∷ long a (Number 1) ∷ [])) refl

-- a w temporary where l is wanted (8)
word_for_a_long : ¬ (IsValid (one (word a (Number 1) ∷ long b (Temp a) ∷ [])))
unfolding is_shaped is_lawful is_runtime_call call_is_right
word_for_a_long = refuses (one (word a (Number 1) ∷ long b (Temp a) ∷ [])) refl

-- an l temporary where w is wanted is cut
long_for_a_word : IsValid (one (long a (Number 1) ∷ word b (Temp a) ∷ []))
unfolding is_shaped is_lawful is_runtime_call call_is_right
long_for_a_word = (valid_is (one (long a (Number 1) ∷ word b (Temp a) ∷ []))).0 refl

-- a symbol where w is wanted (8)
symbol_for_a_word : ¬ (IsValid (one (word a (Symbol (codes "main")) ∷ [])))
unfolding is_shaped is_lawful is_runtime_call call_is_right
symbol_for_a_word = refuses (one (word a (Symbol (codes "main")) ∷ [])) refl

-- a symbol where l is wanted
symbol_for_a_long : IsValid (one (long a (Symbol (codes "main")) ∷ []))
unfolding is_shaped is_lawful is_runtime_call call_is_right
symbol_for_a_long = (valid_is (one (long a (Symbol (codes "main")) ∷ []))).0 refl

-- extsw at class w (8)
extended_word_at_w : ¬ (IsValid (one (Set a W op.Extsw (Number 1) None ∷ [])))
unfolding is_shaped is_lawful is_runtime_call call_is_right
extended_word_at_w = refuses (one (Set a W op.Extsw (Number 1) None ∷ [])) refl

-- a comparison of longs takes no w temporary (8)
compared_words : ¬ (IsValid (one (word a (Number 1) ∷ Set b W op.Ceql (Temp a) (Some (Number 0)) ∷ [])))
unfolding is_shaped is_lawful is_runtime_call call_is_right
compared_words = refuses (one (word a (Number 1) ∷ Set b W op.Ceql (Temp a) (Some (Number 0)) ∷ [])) refl

-- a string behind another letter than b (8)
string_behind_h : ¬ (IsValid (of (done ∷ Data false a 8 (Values 2 (part.Str (codes "x") ∷ []) ∷ []) ∷ [])))
unfolding is_shaped is_lawful is_runtime_call call_is_right
string_behind_h = refuses (of (done ∷ Data false a 8 (Values 2 (part.Str (codes "x") ∷ []) ∷ []) ∷ [])) refl

-- a symbol behind another letter than l (8)
symbol_behind_w : ¬ (IsValid (of (done ∷ Data false a 8 (Values 4 (part.Symbol a 0 ∷ []) ∷ []) ∷ [])))
unfolding is_shaped is_lawful is_runtime_call call_is_right
symbol_behind_w = refuses (of (done ∷ Data false a 8 (Values 4 (part.Symbol a 0 ∷ []) ∷ []) ∷ [])) refl

-- numbers, a string, a symbol with an offset, and zeros
data_of_all_kinds : IsValid (of (Data true a 16
    (Values 1 (part.Str (codes "x y") ∷ part.Number 255 ∷ []) ∷ Values 8 (part.Symbol a 4 ∷ []) ∷ Zero 3 ∷ []) ∷ done ∷ []))
unfolding is_shaped is_lawful is_runtime_call call_is_right
data_of_all_kinds = (valid_is (of (Data true a 16
    (Values 1 (part.Str (codes "x y") ∷ part.Number 255 ∷ []) ∷ Values 8 (part.Symbol a 4 ∷ []) ∷ Zero 3 ∷ []) ∷ done ∷ []))).0 refl

-- a call with too few arguments (8)
argument_too_few : ¬ (IsValid (one (Call None (codes "rt.puts") (arg L (Number 0) ∷ []) ∷ [])))
unfolding is_shaped is_lawful is_runtime_call call_is_right
argument_too_few = refuses (one (Call None (codes "rt.puts") (arg L (Number 0) ∷ []) ∷ [])) refl

-- a call with an argument of another class (8)
argument_of_another_class : ¬ (IsValid (one (Call None (codes "rt.exit") (arg L (Number 0) ∷ []) ∷ [])))
unfolding is_shaped is_lawful is_runtime_call call_is_right
argument_of_another_class = refuses (one (Call None (codes "rt.exit") (arg L (Number 0) ∷ []) ∷ [])) refl

-- a call may drop its result
result_dropped : IsValid (one (Call None (codes "rt.nargs") [] ∷ []))
unfolding is_shaped is_lawful is_runtime_call call_is_right
result_dropped = (valid_is (one (Call None (codes "rt.nargs") [] ∷ []))).0 refl

-- a call takes a result that the function does not give (8)
result_of_none : ¬ (IsValid (one (Call (Some (param a W)) (codes "main") [] ∷ [])))
unfolding is_shaped is_lawful is_runtime_call call_is_right
result_of_none = refuses (one (Call (Some (param a W)) (codes "main") [] ∷ [])) refl

-- a value is returned by a function without a class (8)
value_returned_of_none : ¬ (IsValid (of (main (block (codes "s") [] (Ret (Some (Number 0))) ∷ []) ∷ [])))
unfolding is_shaped is_lawful is_runtime_call call_is_right
value_returned_of_none = refuses (of (main (block (codes "s") [] (Ret (Some (Number 0))) ∷ []) ∷ [])) refl

-- `$main` has class l (8)
long_main : ¬ (IsValid (of (Function true (Some L) (codes "main") [] (block (codes "s") [] (Ret (Some (Number 0))) ∷ []) ∷ [])))
unfolding is_shaped is_lawful is_runtime_call call_is_right
long_main = refuses (of (Function true (Some L) (codes "main") [] (block (codes "s") [] (Ret (Some (Number 0))) ∷ []) ∷ [])) refl

-- a symbol that is not defined (9)
symbol_unknown : ¬ (IsValid (one (long a (Symbol b) ∷ [])))
unfolding is_shaped is_lawful is_runtime_call call_is_right
symbol_unknown = refuses (one (long a (Symbol b) ∷ [])) refl

-- a call of data (9)
call_of_data : ¬ (IsValid (of (Data false a 8 [] ∷ main (block (codes "s") (Call None a [] ∷ []) (Ret None) ∷ []) ∷ [])))
unfolding is_shaped is_lawful is_runtime_call call_is_right
call_of_data = refuses (of (Data false a 8 [] ∷ main (block (codes "s") (Call None a [] ∷ []) (Ret None) ∷ []) ∷ [])) refl

-- a phi with an argument for each predecessor
phi_of_both : IsValid (meets (phi_arg (codes "s") ∷ phi_arg b ∷ []))
unfolding is_shaped is_lawful is_runtime_call call_is_right
phi_of_both = (valid_is (meets (phi_arg (codes "s") ∷ phi_arg b ∷ []))).0 refl

-- a phi that lacks a predecessor (10)
phi_of_one : ¬ (IsValid (meets (phi_arg (codes "s") ∷ [])))
unfolding is_shaped is_lawful is_runtime_call call_is_right
phi_of_one = refuses (meets (phi_arg (codes "s") ∷ [])) refl

-- a phi with a label that is no predecessor (10)
phi_of_itself : ¬ (IsValid (meets (phi_arg (codes "s") ∷ phi_arg b ∷ phi_arg (codes "c") ∷ [])))
unfolding is_shaped is_lawful is_runtime_call call_is_right
phi_of_itself = refuses (meets (phi_arg (codes "s") ∷ phi_arg b ∷ phi_arg (codes "c") ∷ [])) refl

-- a phi with a predecessor twice (10)
phi_of_one_twice : ¬ (IsValid (meets (phi_arg (codes "s") ∷ phi_arg b ∷ phi_arg b ∷ [])))
unfolding is_shaped is_lawful is_runtime_call call_is_right
phi_of_one_twice = refuses (meets (phi_arg (codes "s") ∷ phi_arg b ∷ phi_arg b ∷ [])) refl

-- a jump to the first block (11)
jump_to_start : ¬ (IsValid (of (main (block (codes "s") [] (Jmp (codes "s")) ∷ []) ∷ [])))
unfolding is_shaped is_lawful is_runtime_call call_is_right
jump_to_start = refuses (of (main (block (codes "s") [] (Jmp (codes "s")) ∷ []) ∷ [])) refl

-- a loop behind the first block
loop_behind_start : IsValid (of (main (block (codes "s") [] Fall ∷ block b [] (Jmp b) ∷ []) ∷ []))
unfolding is_shaped is_lawful is_runtime_call call_is_right
loop_behind_start = (valid_is (of (main (block (codes "s") [] Fall ∷ block b [] (Jmp b) ∷ []) ∷ []))).0 refl

-- an alignment that is none (12)
alignment_of_three : ¬ (IsValid (of (done ∷ Data false a 3 [] ∷ [])))
unfolding is_shaped is_lawful is_runtime_call call_is_right
alignment_of_three = refuses (of (done ∷ Data false a 3 [] ∷ [])) refl

-- more than 2 ^ 30 zeros (12)
zeros_too_many : ¬ (IsValid (of (done ∷ Data false a 8 (Zero 1073741825 ∷ []) ∷ [])))
unfolding is_shaped is_lawful is_runtime_call call_is_right
zeros_too_many = refuses (of (done ∷ Data false a 8 (Zero 1073741825 ∷ []) ∷ [])) refl

-- more than 2 ^ 30 bytes of data (12)
data_too_long : ¬ (IsValid (of (done ∷ Data false a 8 (Zero 1073741824 ∷ Values 1 (part.Number 0 ∷ []) ∷ []) ∷ [])))
unfolding is_shaped is_lawful is_runtime_call call_is_right
data_too_long = refuses (of (done ∷ Data false a 8 (Zero 1073741824 ∷ Values 1 (part.Number 0 ∷ []) ∷ []) ∷ [])) refl

-- a blit of more than 2 ^ 30 bytes (12)
blit_too_long : ¬ (IsValid (one (Blit (Number 0) (Number 0) 1073741825 ∷ [])))
unfolding is_shaped is_lawful is_runtime_call call_is_right
blit_too_long = refuses (one (Blit (Number 0) (Number 0) 1073741825 ∷ [])) refl

-- control falls out of the last block, which the grammar does not have
last_block_falls : ¬ (IsValid (of (main (block (codes "s") [] Fall ∷ []) ∷ [])))
unfolding is_shaped is_lawful is_runtime_call call_is_right
last_block_falls = refuses (of (main (block (codes "s") [] Fall ∷ []) ∷ [])) refl

-- a function without blocks is not written
no_block : ¬ (IsValid (of (main [] ∷ [])))
unfolding is_shaped is_lawful is_runtime_call call_is_right
no_block = refuses (of (main [] ∷ [])) refl

-- nor are values of three bytes
width_of_three : ¬ (IsValid (of (done ∷ Data false a 8 (Values 3 (part.Number 0 ∷ []) ∷ []) ∷ [])))
unfolding is_shaped is_lawful is_runtime_call call_is_right
width_of_three = refuses (of (done ∷ Data false a 8 (Values 3 (part.Number 0 ∷ []) ∷ []) ∷ [])) refl

-- nor a part without values
no_values : ¬ (IsValid (of (done ∷ Data false a 8 (Values 1 [] ∷ []) ∷ [])))
unfolding is_shaped is_lawful is_runtime_call call_is_right
no_values = refuses (of (done ∷ Data false a 8 (Values 1 [] ∷ []) ∷ [])) refl

-- nor a string with a quote
quote_in_a_string : ¬ (IsValid (of (done ∷ Data false a 8 (Values 1 (part.Str (34 ∷ []) ∷ []) ∷ []) ∷ [])))
unfolding is_shaped is_lawful is_runtime_call call_is_right
quote_in_a_string = refuses (of (done ∷ Data false a 8 (Values 1 (part.Str (34 ∷ []) ∷ []) ∷ []) ∷ [])) refl

-- nor a name that begins with a digit
digit_first : ¬ (IsValid (one (word (codes "1") (Number 1) ∷ [])))
unfolding is_shaped is_lawful is_runtime_call call_is_right
digit_first = refuses (one (word (codes "1") (Number 1) ∷ [])) refl

-- nor a sum of one operand
operand_missing : ¬ (IsValid (one (Set a W op.Add (Number 1) None ∷ [])))
unfolding is_shaped is_lawful is_runtime_call call_is_right
operand_missing = refuses (one (Set a W op.Add (Number 1) None ∷ [])) refl

-- nor a copy of two
operand_too_many : ¬ (IsValid (one (Set a W op.Copy (Number 1) (Some (Number 1)) ∷ [])))
unfolding is_shaped is_lawful is_runtime_call call_is_right
operand_too_many = refuses (one (Set a W op.Copy (Number 1) (Some (Number 1)) ∷ [])) refl
