-- What a module must keep beside its grammar, and when it is valid.
use Rattle.std.specs.Prelude.{ℕ, List, [], ◌∷◌, Option, None, Some, Bool, true, false, not, length, ◌||◌, ◌&&◌, nat_le, ◌==◌, codes, bytes_eq, IsTrue, sum_by, count_by, zip, if◌then◌else◌}
use Rattle.std.specs.List.{list_all, list_any}
use Rattle.hx_base.specs.declared.Class.{Class}
use Rattle.hx_base.specs.declared.Class.TheVariants.{W, L}
use Rattle.il_code.specs.declared.types.IlItem.{IlItem}
use Rattle.il_code.specs.declared.types.IlItem.TheVariants.{Data, Function}
use Rattle.il_code.specs.declared.types.Module.{Module}
use Rattle.il_code.specs.declared.types.Part.{Part}
use Rattle.il_code.specs.declared.types.Part.TheVariants.{Values, Zero}
use Rattle.il_code.specs.declared.types.PartValue.{PartValue}
use Rattle.il_code.specs.declared.types.PartValue.TheVariants as part
use Rattle.il_code.specs.declared.types.IlParam.{IlParam}
use Rattle.il_code.specs.declared.types.Block.{Block}
use Rattle.il_code.specs.declared.types.Phi.{Phi}
use Rattle.il_code.specs.declared.types.PhiArg.{PhiArg}
use Rattle.il_code.specs.declared.types.IlValue.{IlValue}
use Rattle.il_code.specs.declared.types.IlValue.TheVariants.{Number, Temp, Symbol}
use Rattle.il_code.specs.declared.types.IlArg.{IlArg}
use Rattle.il_code.specs.declared.types.Inst.{Inst}
use Rattle.il_code.specs.declared.types.Inst.TheVariants.{Set, Store, Blit, Call}
use Rattle.il_code.specs.declared.types.Jump.{Jump}
use Rattle.il_code.specs.declared.types.Jump.TheVariants.{Fall, Jmp, Jnz, Ret, Hlt}
use Rattle.hx_runtime.specs.Functions.{runtime_params, runtime_result, runtime_function}
use Rattle.hx_runtime.specs.declared.runtime.RuntimeFunction.{RuntimeFunction}
pub use Rattle.hx_runtime.specs.Functions.{is_reserved}
use Rattle.il_code.specs.Items.{Code, function_named}
pub use Rattle.il_code.specs.Items.{item_name}
use Rattle.il_code.specs.Classes.{op_kind, first_class, second_class, may_give}
use Rattle.il_code.specs.Print.{module_text}
use Rattle.il_code.specs.Grammar.{Spells}

-- ---- names

-- how many have this name
abbrev pub how_many : {A : Type 0} → (A → List ℕ) → List ℕ → List A → ℕ
how_many name_of name xs = count_by (λ x. bytes_eq (name_of x) name) xs

-- no two have one name
abbrev pub are_distinct : {A : Type 0} → (A → List ℕ) → List A → Bool
are_distinct name_of xs = list_all (λ x. how_many name_of (name_of x) xs == 1) xs

-- one has this name
abbrev pub has_named : {A : Type 0} → (A → List ℕ) → List ℕ → List A → Bool
has_named name_of name xs = list_any (λ x. bytes_eq (name_of x) name) xs

-- Duplicate (5): a symbol is defined once and is none of the runtime's, and a function's labels and parameters differ.
abbrev pub has_own_names : IlItem → Bool
has_own_names (Data export name align parts) = not (is_reserved name)
has_own_names (Function export class name params blocks) =
    not (is_reserved name) && (are_distinct (λ p. p.name) params && are_distinct (λ b. b.label) blocks)

-- ---- jumps

-- Unknown label (6): the function has the label
abbrev pub has_label : List Block → List ℕ → Bool
has_label blocks label = has_named (λ b. b.label) label blocks

-- every label that a jump names passes the test
abbrev pub targets_pass : (List ℕ → Bool) → Jump → Bool
targets_pass test Fall = true
targets_pass test (Jmp a) = test a
targets_pass test (Jnz v a b) = test a && test b
targets_pass test (Ret v) = true
targets_pass test Hlt = true

-- the labels that the jumps and the phis name are labels of the function
abbrev pub phi_labels_known : List Block → Phi → Bool
phi_labels_known blocks p = list_all (λ (a : PhiArg). has_label blocks a.label) p.args

abbrev pub block_labels_known : List Block → Block → Bool
block_labels_known blocks b = targets_pass (has_label blocks) b.jump && list_all (phi_labels_known blocks) b.phis

abbrev pub labels_known : List Block → Bool
labels_known blocks = list_all (block_labels_known blocks) blocks

-- Jump to the start (11): no jump names the first block's label.
abbrev pub start_is_no_target : List Block → Bool
start_is_no_target [] = true
start_is_no_target (first ∷ rest) = list_all (λ b. targets_pass (λ l. not (bytes_eq l first.label)) b.jump) (first ∷ rest)

-- whether control may go from the first of these blocks to the block with this label
abbrev pub goes_to : List ℕ → Jump → List Block → Bool
goes_to label Fall [] = false
goes_to label Fall (next ∷ rest) = bytes_eq next.label label
goes_to label (Jmp a) next = bytes_eq a label
goes_to label (Jnz v a b) next = bytes_eq a label || bytes_eq b label
goes_to label (Ret v) next = false
goes_to label Hlt next = false

-- Phi place (10): the block named `from` is a predecessor, in the order of the text, of the block named `to`.
abbrev pub is_edge : List ℕ → List ℕ → List Block → Bool
is_edge from to [] = false
is_edge from to (b ∷ bs) = (bytes_eq b.label from && goes_to to b.jump bs) || is_edge from to bs

-- the phi of the block named `to` has an argument for this block, in front of these, if it is a predecessor
abbrev pub is_covered : List PhiArg → List ℕ → Block → List Block → Bool
is_covered args to b bs = not (goes_to to b.jump bs) || has_named (λ (a : PhiArg). a.label) b.label args

-- every predecessor of the block named `to` has an argument of the phi
abbrev pub covers : List PhiArg → List ℕ → List Block → Bool
covers args to [] = true
covers args to (b ∷ bs) = is_covered args to b bs && covers args to bs

-- the labels of a phi are exactly the block's predecessors, each once
abbrev pub phi_is_placed : List Block → List ℕ → Phi → Bool
phi_is_placed blocks to p = are_distinct (λ (a : PhiArg). a.label) p.args &&
    (list_all (λ (a : PhiArg). is_edge a.label to blocks) p.args && covers p.args to blocks)

-- so it is with all phis, and the first block has none
abbrev pub phis_are_placed : List Block → Bool
phis_are_placed [] = true
phis_are_placed (first ∷ rest) = (length first.phis == 0) && list_all (λ b. list_all (phi_is_placed (first ∷ rest) b.label) b.phis) rest

-- ---- temporaries and classes

abbrev pub same_class : Class → Class → Bool
same_class W W = true
same_class W L = false
same_class L W = false
same_class L L = true

abbrev pub other_class : Class → Class
other_class W = L
other_class L = W

-- a temporary of this name and class is what is set
abbrev pub sets : List ℕ → Class → List ℕ → Class → Bool
sets name class temp c = bytes_eq temp name && same_class c class

abbrev pub result_sets : List ℕ → Class → Option IlParam → Bool
result_sets name class None = false
result_sets name class (Some p) = sets name class p.name p.class

abbrev pub inst_sets : List ℕ → Class → Inst → Bool
inst_sets name class (Set temp c op a b) = sets name class temp c
inst_sets name class (Store width value at) = false
inst_sets name class (Blit from to bytes) = false
inst_sets name class (Call result target args) = result_sets name class result

abbrev pub block_sets : List ℕ → Class → Block → Bool
block_sets name class b = list_any (λ (p : Phi). sets name class p.temp p.class) b.phis || list_any (inst_sets name class) b.insts

-- a parameter, a phi or an instruction of the function sets the temporary at the class
abbrev pub is_set : List IlParam → List Block → List ℕ → Class → Bool
is_set params blocks name class = list_any (λ (p : IlParam). sets name class p.name p.class) params || list_any (block_sets name class)
    blocks

-- Class mismatch (8): a temporary has one class.
abbrev pub has_one_class : List IlParam → List Block → List ℕ → Class → Bool
has_one_class params blocks name class = not (is_set params blocks name (other_class class))

abbrev pub inst_has_one_class : List IlParam → List Block → Inst → Bool
inst_has_one_class params blocks (Set temp c op a b) = has_one_class params blocks temp c
inst_has_one_class params blocks (Store width value at) = true
inst_has_one_class params blocks (Blit from to bytes) = true
inst_has_one_class params blocks (Call None target args) = true
inst_has_one_class params blocks (Call (Some p) target args) = has_one_class params blocks p.name p.class

abbrev pub block_has_one_class : List IlParam → List Block → Block → Bool
block_has_one_class params blocks b = list_all (λ (p : Phi). has_one_class params blocks p.temp p.class) b.phis && list_all
    (inst_has_one_class params blocks) b.insts

abbrev pub each_has_one_class : List IlParam → List Block → Bool
each_has_one_class params blocks = list_all (λ (p : IlParam). has_one_class params blocks p.name p.class) params && list_all
    (block_has_one_class params blocks) blocks

-- ---- operands

abbrev pub is_long : Class → Bool
is_long W = false
is_long L = true

-- An operand is right at the class at which it is wanted. A temporary is set in the function (else unknown temporary, 7), and not at class
-- w where l is wanted (else class mismatch, 8); a symbol is wanted at l (else 8) and defined (else unknown symbol, 9).
abbrev pub is_right : List IlItem → List IlParam → List Block → Class → IlValue → Bool
is_right items params blocks class (Number n) = true
is_right items params blocks W (Temp t) = is_set params blocks t W || is_set params blocks t L
is_right items params blocks L (Temp t) = is_set params blocks t L && not (is_set params blocks t W)
is_right items params blocks class (Symbol s) = is_long class && has_named item_name s items

-- ---- calls

-- an argument and the class beside it are of one class, as far as both lists go
abbrev pub each_has_class : List IlArg → List Class → Bool
each_has_class args wanted = list_all (λ (p : IlArg × Class). same_class p.0.class p.1) (zip args wanted)

abbrev pub each_has_class_of : List IlArg → List IlParam → Bool
each_has_class_of args params = list_all (λ (p : IlArg × IlParam). same_class p.0.class p.1.class) (zip args params)

-- the arguments have these classes, in their order
abbrev pub has_classes : List IlArg → List Class → Bool
has_classes args wanted = length args == length wanted && each_has_class args wanted

-- the same, where parameters say which classes
abbrev pub has_classes_of : List IlArg → List IlParam → Bool
has_classes_of args params = length args == length params && each_has_class_of args params

-- a result is taken at the class at which it is given; it may be dropped
abbrev pub takes_result : Option IlParam → Option Class → Bool
takes_result None given = true
takes_result (Some p) None = false
takes_result (Some p) (Some c) = same_class p.class c

-- a call of a function of the runtime, if there is one, at its classes
abbrev pub is_runtime_call_of : Option IlParam → List IlArg → Option RuntimeFunction → Bool
is_runtime_call_of result args None = false
is_runtime_call_of result args (Some f) = takes_result result (runtime_result f) && has_classes args (runtime_params f)

-- the call is of a function of the runtime, at its classes
unfoldable pub is_runtime_call : Option IlParam → List ℕ → List IlArg → Bool
is_runtime_call result target args = is_runtime_call_of result args (runtime_function target)

-- a call of a function of the module, if there is one, at its classes; else it is of the runtime
abbrev pub is_call_of : Option IlParam → List ℕ → List IlArg → Option Code → Bool
is_call_of result target args None = is_runtime_call result target args
is_call_of result target args (Some f) = takes_result result f.class && has_classes_of args f.params

-- A call is of a function of the module or of the runtime (else unknown symbol, 9), with its number and classes of arguments and its result
-- (else class mismatch, 8). Which one it is, is decided as the machine does.
abbrev pub is_call_right : List IlItem → Option IlParam → List ℕ → List IlArg → Bool
is_call_right items result target args = is_call_of result target args (function_named items target)

-- ---- instructions, phis and jumps

abbrev pub second_is_right : List IlItem → List IlParam → List Block → Class → Option IlValue → Bool
second_is_right items params blocks class None = true
second_is_right items params blocks class (Some b) = is_right items params blocks class b

-- the class at which a store takes its value, by its width in bytes
abbrev pub stored_class : ℕ → Class
stored_class width = if width == 1 || width == 2 || width == 4 then W else L

unfoldable pub call_is_right : List IlItem → List IlParam → List Block → Option IlParam → List ℕ → List IlArg → Bool
call_is_right items params blocks result target args =
    is_call_right items result target args && list_all (λ (a : IlArg). is_right items params blocks a.class a.value) args

abbrev pub inst_is_right : List IlItem → List IlParam → List Block → Inst → Bool
inst_is_right items params blocks (Set temp class op a b) =
    may_give (op_kind op) class && (is_right items params blocks (first_class (op_kind op) class) a && second_is_right items params blocks
    (second_class (op_kind op) class) b)
inst_is_right items params blocks (Store width value at) =
    is_right items params blocks (stored_class width) value && is_right items params blocks L at
inst_is_right items params blocks (Blit from to bytes) = is_right items params blocks L from && is_right items params blocks L to
inst_is_right items params blocks (Call result target args) = call_is_right items params blocks result target args

abbrev pub phi_is_right : List IlItem → List IlParam → List Block → Phi → Bool
phi_is_right items params blocks p = list_all (λ (a : PhiArg). is_right items params blocks p.class a.value) p.args

-- a value is returned exactly by a function with a class, at this class
abbrev pub return_is_right : List IlItem → List IlParam → List Block → Option Class → Option IlValue → Bool
return_is_right items params blocks None None = true
return_is_right items params blocks None (Some v) = false
return_is_right items params blocks (Some c) None = false
return_is_right items params blocks (Some c) (Some v) = is_right items params blocks c v

abbrev pub jump_is_right : List IlItem → List IlParam → List Block → Option Class → Jump → Bool
jump_is_right items params blocks class Fall = true
jump_is_right items params blocks class (Jmp l) = true
jump_is_right items params blocks class (Jnz v a b) = is_right items params blocks W v
jump_is_right items params blocks class (Ret v) = return_is_right items params blocks class v
jump_is_right items params blocks class Hlt = true

abbrev pub block_is_right : List IlItem → List IlParam → List Block → Option Class → Block → Bool
block_is_right items params blocks class b =
    list_all (phi_is_right items params blocks) b.phis &&
    (list_all (inst_is_right items params blocks) b.insts && jump_is_right items params blocks class b.jump)

-- ---- data

-- A string stands behind `b` alone, and a symbol behind `l` alone (else class mismatch, 8); the symbol is defined (else unknown symbol, 9).
abbrev pub part_value_is_right : List IlItem → ℕ → PartValue → Bool
part_value_is_right items width (part.Number n) = true
part_value_is_right items width (part.Str s) = width == 1
part_value_is_right items width (part.Symbol s n) = width == 8 && has_named item_name s items

abbrev pub part_is_right : List IlItem → Part → Bool
part_is_right items (Values width values) = list_all (part_value_is_right items width) values
part_is_right items (Zero n) = true

-- ---- numbers

-- 2 ^ 30
abbrev pub most : ℕ
most = 1073741824

-- Number range (12): an alignment is 1, 2, 4, 8 or 16, and no zeros and no blit have more than 2 ^ 30 bytes.
abbrev pub is_alignment : ℕ → Bool
is_alignment n = n == 1 || n == 2 || n == 4 || n == 8 || n == 16

abbrev pub part_is_small : Part → Bool
part_is_small (Values width values) = true
part_is_small (Zero n) = nat_le n most

abbrev pub inst_is_small : Inst → Bool
inst_is_small (Set temp class op a b) = true
inst_is_small (Store width value at) = true
inst_is_small (Blit from to bytes) = nat_le bytes most
inst_is_small (Call result target args) = true

abbrev pub item_is_small : IlItem → Bool
item_is_small (Data export name align parts) = is_alignment align && list_all part_is_small parts
item_is_small (Function export class name params blocks) = list_all (λ (b : Block). list_all inst_is_small b.insts) blocks

abbrev pub is_function : IlItem → Bool
is_function (Data export name align parts) = false
is_function (Function export class name params blocks) = true

-- how many bytes a value, a part and an item take as data
abbrev pub value_size : ℕ → PartValue → ℕ
value_size width (part.Number n) = width
value_size width (part.Str s) = length s
value_size width (part.Symbol s n) = width

abbrev pub part_size : Part → ℕ
part_size (Values width values) = sum_by (value_size width) values
part_size (Zero n) = n

abbrev pub item_size : IlItem → ℕ
item_size (Data export name align parts) = sum_by part_size parts
item_size (Function export class name params blocks) = 0

-- at most 2 ^ 28 functions, 2 ^ 30 data items, and 2 ^ 30 bytes of data
abbrev pub is_small : List IlItem → Bool
is_small items = nat_le (count_by is_function items) 268435456 &&
    (nat_le (count_by (λ i. not (is_function i)) items) most && nat_le (sum_by item_size items) most)

-- ---- items

-- whether a class is not l
abbrev pub no_long : Option Class → Bool
no_long None = true
no_long (Some c) = not (is_long c)

-- `$main` has no parameters and no class l
abbrev pub is_main_right : List ℕ → Option Class → List IlParam → Bool
is_main_right name class params = not (bytes_eq name (codes "main")) || (length params == 0 && no_long class)

-- what each item must keep: duplicates apart from symbols (5), labels (6), phis (10), the first block (11), numbers (12), and temporaries,
-- classes and symbols (7, 8, 9)
abbrev pub item_is_right : List IlItem → IlItem → Bool
item_is_right items (Data export name align parts) = list_all (part_is_right items) parts
item_is_right items (Function export class name params blocks) =
    is_main_right name class params && (each_has_one_class params blocks && list_all (block_is_right items params blocks class) blocks)

abbrev pub flow_is_right : IlItem → Bool
flow_is_right (Data export name align parts) = true
flow_is_right (Function export class name params blocks) = labels_known blocks && (start_is_no_target blocks && phis_are_placed blocks)

-- there is a function `$main`
abbrev pub is_main : IlItem → Bool
is_main (Data export name align parts) = false
is_main (Function export class name params blocks) = bytes_eq name (codes "main")

-- a module without a violation
pub record IsLawful (items : List IlItem) : Type 0 where
  -- duplicate (5)
  pub once : IsTrue (are_distinct item_name items)
  pub names : IsTrue (list_all has_own_names items)
  -- unknown label (6), phi place (10), jump to the start (11)
  pub flow : IsTrue (list_all flow_is_right items)
  -- unknown temporary (7), class mismatch (8), unknown symbol (9)
  pub operands : IsTrue (list_all (item_is_right items) items)
  -- unknown symbol (9)
  pub main : IsTrue (list_any is_main items)
  -- number range (12)
  pub numbers : IsTrue (list_all item_is_small items)
  pub small : IsTrue (is_small items)

-- the text is that of a module without a violation
pub record IsValidText (text : List ℕ) (m : Module) : Type 0 where
  pub spells : Spells text m
  pub lawful : IsLawful m.items

-- a module is valid where its printed text is valid with this same module
abbrev pub IsValid : Module → Type 0
IsValid m = IsValidText (module_text m) m
