-- Which programs of flat code are well formed: those that code of the intermediate language can be made of.
use Rattle.std.specs.Prelude.{ℕ, zero, suc, ◌+◌, ◌^◌, List, [], ◌∷◌, Option, None, Some, Bool, true, false, not, length, ◌||◌, ◌&&◌, nat_le, nat_lt, ◌==◌, codes, bytes_eq, IsTrue, sum_by, count_by, if◌then◌else◌}
use Rattle.std.specs.List.{list_all, list_any}
use Rattle.hx_base.specs.declared.Class.{Class}
use Rattle.hx_base.specs.declared.Class.TheVariants.{W, L}
use Rattle.flat_code.specs.declared.program.FlatFn.{FlatFn}
use Rattle.flat_code.specs.declared.program.FlatProgram.{FlatProgram}
use Rattle.flat_code.specs.declared.program.Data.{Data}
use Rattle.flat_code.specs.declared.program.Item.{Item}
use Rattle.flat_code.specs.declared.program.Item.TheVariants as item
use Rattle.flat_code.specs.declared.value.Value.{Value}
use Rattle.flat_code.specs.declared.value.Value.TheVariants.{Temp, Number, Symbol, Frame}
use Rattle.flat_code.specs.Code.{Code, Codes, none, more, Seq, Set, Load, Store, Move, If, Loop, Leave, Call, Ret}
use Rattle.flat_code.specs.Shape.{code_of}
use Rattle.flat_code.specs.Addresses.{item_size}
use Rattle.flat_code.specs.Evaluation.{function_named}
use Rattle.flat_code.specs.Kinds.{op_kind, takes_two, first_class, second_class, may_give}
use Rattle.hx_runtime.specs.Functions.{runtime_params, runtime_result, runtime_function}
use Rattle.hx_runtime.specs.declared.runtime.RuntimeFunction.{RuntimeFunction}
pub use Rattle.hx_runtime.specs.Functions.{is_reserved}
use Rattle.flat_code.specs.Temps.{is_set, has_one_class}

-- ---- nesting

-- how many statements may stand within one another
abbrev pub deepest : ℕ
deepest = 65536

-- no more than so many statements of the code stand within one another
abbrev mutual
  pub nests_within : Code → ℕ → Bool
  nests_within (Seq cs) zero = false
  nests_within (Seq cs) (suc n) = each_nests_within cs n
  nests_within (Set temp class op a b) n = nat_lt 0 n
  nests_within (Load temp how at) n = nat_lt 0 n
  nests_within (Store width value at) n = nat_lt 0 n
  nests_within (Move to from bytes) n = nat_lt 0 n
  nests_within (If cond a b) zero = false
  nests_within (If cond a b) (suc n) = nests_within a n && nests_within b n
  nests_within (Loop c) zero = false
  nests_within (Loop c) (suc n) = nests_within c n
  nests_within (Leave k) n = nat_lt 0 n
  nests_within (Call temp name args) n = nat_lt 0 n
  nests_within (Ret value) n = nat_lt 0 n

  pub each_nests_within : Codes → ℕ → Bool
  each_nests_within none n = true
  each_nests_within (more c cs) n = nests_within c n && each_nests_within cs n

-- ---- numbers

-- a number of 64 bits
abbrev pub is_bits : ℕ → Bool
is_bits n = nat_lt n (2 ^ 64)

-- a width of 1, 2, 4 or 8 bytes
abbrev pub is_width : ℕ → Bool
is_width width = width == 1 || width == 2 || width == 4 || width == 8

-- an alignment of 1, 2, 4, 8 or 16 bytes
abbrev pub is_alignment : ℕ → Bool
is_alignment n = n == 1 || n == 2 || n == 4 || n == 8 || n == 16

-- 2 ^ 30: how many bytes zeros, a Move and all globals may have, and how many globals there may be
abbrev pub most : ℕ
most = 1073741824

-- 2 ^ 28
abbrev pub most_functions : ℕ
most_functions = 268435456

-- ---- operands

abbrev pub is_long : Class → Bool
is_long W = false
is_long L = true

-- An operand is right at the class at which it is wanted, in a function of a program. A temporary is set in the function, and where a long
-- is wanted not as a word: so a word may be given a long, of which the low half is read, and never the other way. An address is a long, of
-- a global that is there or of a place of the frame.
abbrev pub is_operand : FlatProgram → FlatFn → Class → Value → Bool
is_operand p f class (Number n) = is_bits n
is_operand p f W (Temp t) = is_set p f t W || is_set p f t L
is_operand p f L (Temp t) = is_set p f t L && not (is_set p f t W)
is_operand p f class (Symbol i offset) = is_long class && (nat_lt i (length p.globals) && is_bits offset)
is_operand p f class (Frame offset) = is_long class && nat_lt offset f.frame

-- what stands where an operation has no second operand: the number 0
abbrev pub is_zero : Value → Bool
is_zero (Number n) = n == 0
is_zero (Temp t) = false
is_zero (Symbol i offset) = false
is_zero (Frame offset) = false

-- the second operand of an operation that takes two, or one
abbrev pub is_second : FlatProgram → FlatFn → Class → Bool → Value → Bool
is_second p f class true b = is_operand p f class b
is_second p f class false b = is_zero b

-- operands of these classes, in their order
abbrev pub are_args : FlatProgram → FlatFn → List Class → List Value → Bool
are_args p f [] [] = true
are_args p f [] (v ∷ vs) = false
are_args p f (c ∷ cs) [] = false
are_args p f (c ∷ cs) (v ∷ vs) = is_operand p f c v && are_args p f cs vs

-- ---- statements

-- a temporary of the function, which is set at no other class
abbrev pub is_target : FlatProgram → FlatFn → ℕ → Class → Bool
is_target p f t class = nat_lt t f.temps && has_one_class p f t class

-- what a call's result goes to, if it is kept: there is a result then
abbrev pub takes_result : FlatProgram → FlatFn → Option ℕ → Option Class → Bool
takes_result p f None given = true
takes_result p f (Some t) None = false
takes_result p f (Some t) (Some class) = is_target p f t class

-- a call of a function of the runtime, if there is one
abbrev pub is_runtime_call : FlatProgram → FlatFn → Option ℕ → List Value → Option RuntimeFunction → Bool
is_runtime_call p f temp args None = false
is_runtime_call p f temp args (Some g) = are_args p f (runtime_params g) args && takes_result p f temp (runtime_result g)

-- a call of a function of the program, if there is one, with as many arguments as it has parameters, each at its class; else it is of the
-- runtime
abbrev pub is_call : FlatProgram → FlatFn → Option ℕ → List ℕ → List Value → Option FlatFn → Bool
is_call p f temp name args None = is_runtime_call p f temp args (runtime_function name)
is_call p f temp name args (Some g) = are_args p f g.params args && takes_result p f temp g.result

-- a value is returned exactly by a function with a result, at its class
abbrev pub is_return : FlatProgram → FlatFn → Option Class → Option Value → Bool
is_return p f None None = true
is_return p f None (Some v) = false
is_return p f (Some class) None = false
is_return p f (Some class) (Some v) = is_operand p f class v

-- the class at which a number is stored, by its width in bytes
abbrev pub stored_class : ℕ → Class
stored_class width = if width == 8 then L else W

-- a statement with `around` Seqs and Loops round it, of which there are no more than may stand within one another
abbrev mutual
  pub is_right : FlatProgram → FlatFn → ℕ → Code → Bool
  is_right p f around (Seq cs) = nat_lt around deepest && are_right p f (suc around) cs
  is_right p f around (Set temp class op a b) =
      is_target p f temp class && (may_give (op_kind op) class &&
      (is_operand p f (first_class (op_kind op) class) a && is_second p f (second_class (op_kind op) class)
      (takes_two (op_kind op)) b))
  is_right p f around (Load temp how at) = is_target p f temp L && is_operand p f L at
  is_right p f around (Store width value at) =
      is_width width && (is_operand p f (stored_class width) value && is_operand p f L at)
  is_right p f around (Move to from bytes) = nat_le bytes most && (is_operand p f L to && is_operand p f L from)
  is_right p f around (If cond a b) = is_operand p f W cond && (is_right p f around a && is_right p f around b)
  is_right p f around (Loop c) = nat_lt around deepest && is_right p f (suc around) c
  is_right p f around (Leave k) = nat_lt k around
  is_right p f around (Call temp name args) = is_call p f temp name args (function_named p.functions name)
  is_right p f around (Ret value) = is_return p f f.result value

  pub are_right : FlatProgram → FlatFn → ℕ → Codes → Bool
  are_right p f around none = true
  are_right p f around (more c cs) = is_right p f around c && are_right p f around cs

-- ---- names

abbrev pub is_digit_byte : ℕ → Bool
is_digit_byte c = nat_le 48 c && nat_le c 57

-- a byte of an identifier: a letter, a digit, an underscore or a dot
abbrev pub is_name_byte : ℕ → Bool
is_name_byte c = (nat_le 97 c && nat_le c 122) || (nat_le 65 c && nat_le c 90) || is_digit_byte c || c == 95 || c == 46

-- an identifier of the QBE IL reference: bytes of identifiers, of which the first is no digit
abbrev pub is_identifier : List ℕ → Bool
is_identifier [] = false
is_identifier (c ∷ s) = not (is_digit_byte c) && list_all is_name_byte (c ∷ s)

-- a symbol of a program: an identifier that is none of the runtime's
abbrev pub is_symbol : List ℕ → Bool
is_symbol name = is_identifier name && not (is_reserved name)

-- how many functions and globals have a name
abbrev pub how_many : FlatProgram → List ℕ → ℕ
how_many p name = count_by (λ (f : FlatFn). bytes_eq f.name name) p.functions + count_by (λ (d : Data). bytes_eq d.name name) p.globals

-- ---- functions

abbrev pub is_main : FlatFn → Bool
is_main f = bytes_eq f.name (codes "main")

-- whether a class is not l
abbrev pub no_long : Option Class → Bool
no_long None = true
no_long (Some c) = not (is_long c)

-- `main` has no parameters, and its result, if it has one, is a word
abbrev pub is_main_right : FlatFn → Bool
is_main_right f = not (is_main f) || (length f.params == 0 && no_long f.result)

-- each parameter from number `at` on is set at no other class
abbrev pub params_have_one_class : FlatProgram → FlatFn → ℕ → List Class → Bool
params_have_one_class p f at [] = true
params_have_one_class p f at (c ∷ cs) = has_one_class p f at c && params_have_one_class p f (suc at) cs

-- a function, in a program
abbrev pub is_function_right : FlatProgram → FlatFn → Bool
is_function_right p f =
    is_symbol f.name && (is_main_right f && (nat_le (length f.params) f.temps && (nests_within (code_of f.body) deepest &&
    (params_have_one_class p f 0 f.params && is_right p f 0 (code_of f.body)))))

-- ---- globals

abbrev pub has_global : FlatProgram → List ℕ → Bool
has_global p name = list_any (λ (d : Data). bytes_eq d.name name) p.globals

-- a number has one of four widths, and a symbol is a global's
abbrev pub is_item : FlatProgram → Item → Bool
is_item p (item.Number width n) = is_width width && is_bits n
is_item p (item.Bytes bytes) = true
is_item p (item.Symbol name offset) = has_global p name && is_bits offset
is_item p (item.Zero n) = nat_le n most

abbrev pub is_global : FlatProgram → Data → Bool
is_global p d = is_symbol d.name && (is_alignment d.align && list_all (is_item p) d.items)

-- the bytes of a global's items
abbrev pub global_size : Data → ℕ
global_size d = sum_by item_size d.items

-- ---- programs

pub record IsWellFormed (p : FlatProgram) : Type 0 where
  -- each function and each global has a name of its own
  pub functions_differ : IsTrue (list_all (λ (f : FlatFn). how_many p f.name == 1) p.functions)
  pub globals_differ : IsTrue (list_all (λ (d : Data). how_many p d.name == 1) p.globals)
  -- there is a function `main`
  pub main : IsTrue (list_any is_main p.functions)
  pub functions : IsTrue (list_all (is_function_right p) p.functions)
  pub globals : IsTrue (list_all (is_global p) p.globals)
  -- there are no more functions, globals and bytes of globals than the intermediate language admits
  pub few_functions : IsTrue (nat_le (length p.functions) most_functions)
  pub few_globals : IsTrue (nat_le (length p.globals) most)
  pub few_bytes : IsTrue (nat_le (sum_by global_size p.globals) most)

-- ---- the test of a program. No public clause cites it.

abbrev pub are_few : FlatProgram → Bool
are_few p = nat_le (length p.functions) most_functions && (nat_le (length p.globals) most && nat_le (sum_by global_size p.globals) most)

unfoldable pub passes : FlatProgram → Bool
passes p =
    list_all (λ (f : FlatFn). how_many p f.name == 1) p.functions && (list_all (λ (d : Data). how_many p d.name == 1) p.globals
    && (list_any is_main p.functions && (list_all (is_function_right p) p.functions &&
    (list_all (is_global p) p.globals && are_few p))))
