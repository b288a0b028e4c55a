-- The lines of a function: labels, instructions and jumps, as they are made of flat code.
use Rattle.std.specs.Prelude.{ℕ, zero, suc, ◌+◌, ◌-◌, Bool, true, false, List, [], ◌∷◌, ◌++◌, length, slice_get, slice_index_or, Option, None, Some, ◌==◌, not, if◌then◌else◌}
use Rattle.hx_base.specs.declared.Class.{Class}
use Rattle.hx_base.specs.declared.Class.TheVariants.{L}
use Rattle.flat_code.specs.declared.program.Data.{Data}
use Rattle.flat_code.specs.declared.op.LoadKind.{LoadKind}
use Rattle.flat_code.specs.declared.op.Op.{Op}
use Rattle.flat_code.specs.declared.program.FlatFn.{FlatFn}
use Rattle.flat_code.specs.declared.program.FlatProgram.{FlatProgram}
use Rattle.flat_code.specs.declared.value.Value.{Value}
use Rattle.flat_code.specs.declared.value.Value.TheVariants.{Temp, Number, Symbol, Frame}
use Rattle.flat_code.specs.Code.{Code, Codes, none, more, Seq, Set, Load, Store, Move, If, Loop, Leave, Call, Ret}
use Rattle.flat_code.specs.Shape.{code_of}
use Rattle.flat_code.specs.Costs.{addressed}
use Rattle.flat_code.specs.Evaluation.{function_named}
use Rattle.flat_code.specs.Kinds.{op_kind, takes_two}
use Rattle.hx_runtime.specs.Functions.{runtime_params, runtime_function}
use Rattle.hx_runtime.specs.declared.runtime.RuntimeFunction.{RuntimeFunction}
use Rattle.flat_code.specs.Temps.{result_class}
use Rattle.il_code.specs.declared.op.IlOp.TheVariants as op
use Rattle.il_code.specs.declared.types.IlArg.{IlArg}
use Rattle.il_code.specs.declared.types.IlParam.{IlParam}
use Rattle.il_code.specs.declared.types.IlValue.{IlValue}
use Rattle.il_code.specs.declared.types.IlValue.TheVariants as il
use Rattle.il_code.specs.declared.types.Inst.{Inst}
use Rattle.il_code.specs.declared.types.Inst.TheVariants as inst
use Rattle.il_code.specs.declared.types.Jump.{Jump}
use Rattle.il_code.specs.declared.types.Jump.TheVariants as jump
use Rattle.il_emit.specs.declared.goal.Goal.{Goal}
use Rattle.il_emit.specs.declared.goal.Goal.TheVariants.{Next, Near, Far}
use Rattle.il_emit.specs.Names.{temp_name, address_name, frame_name, label_name}
use Rattle.il_emit.specs.Ops.{il_op, load_op}

-- a line
pub data Line : Type 0 where
  Label : (number : ℕ) → Line
  Do : (i : Inst) → Line
  End : (j : Jump) → Line

-- ---- operands

-- the name of a global, if there is one
abbrev pub name_of : Option Data → List ℕ
name_of None = []
name_of (Some d) = d.name

-- the name of a global, by its place in the list
abbrev pub name_at : List Data → ℕ → List ℕ
name_at globals i = name_of (slice_get globals i)

-- an operand. `k` is the number of the first address that is not computed yet.
abbrev pub operand : List Data → Value → ℕ → IlValue
operand globals (Temp t) k = il.Temp (temp_name t)
operand globals (Number n) k = il.Number n
operand globals (Symbol i offset) k = if offset == 0 then il.Symbol (name_at globals i) else il.Temp (address_name k)
operand globals (Frame offset) k = il.Temp (address_name k)

-- the address of number `k` is that of a global and an offset
abbrev pub address_inst : List Data → ℕ → ℕ → ℕ → Inst
address_inst globals i offset k = inst.Set (address_name k) L op.Add (il.Symbol (name_at globals i)) (Some (il.Number offset))

-- the address of number `k` is that of a place of the frame
abbrev pub place_inst : ℕ → ℕ → Inst
place_inst offset k = inst.Set (address_name k) L op.Add (il.Temp frame_name) (Some (il.Number offset))

-- what computes the address of an operand that needs it: a symbol with an offset, or a place of the frame
abbrev pub address_lines : List Data → Value → ℕ → List Line
address_lines globals (Temp t) k = []
address_lines globals (Number n) k = []
address_lines globals (Symbol i offset) k = if offset == 0 then [] else Do (address_inst globals i offset k) ∷ []
address_lines globals (Frame offset) k = Do (place_inst offset k) ∷ []

-- the second operand, where there are two
abbrev pub second : Bool → IlValue → Option IlValue
second true v = Some v
second false v = None

-- ---- calls

-- the classes of the parameters of a function of the runtime
abbrev pub call_params : Option RuntimeFunction → List Class
call_params None = []
call_params (Some f) = runtime_params f

-- the classes of the parameters of what a name calls: of a function of the program, else of the runtime
abbrev pub called_params : Option FlatFn → List ℕ → List Class
called_params (Some g) name = g.params
called_params None name = call_params (runtime_function name)

-- what a call's result goes to
abbrev pub result_param : Option ℕ → Option Class → Option IlParam
result_param None class = None
result_param (Some t) None = None
result_param (Some t) (Some class) = Some (record { name = temp_name t; class = class })

abbrev pub arg_lines : List Data → List Value → ℕ → List Line
arg_lines globals [] k = []
arg_lines globals (v ∷ vs) k = address_lines globals v k ++ arg_lines globals vs (k + addressed v)

-- a value at the first of some classes
abbrev pub first_arg : List Class → IlValue → List IlArg
first_arg [] v = []
first_arg (c ∷ cs) v = record { class = c; value = v } ∷ []

-- the classes behind the first
abbrev pub rest_of : List Class → List Class
rest_of [] = []
rest_of (c ∷ cs) = cs

-- arguments with the classes of their parameters
abbrev pub args_of : List Data → List Class → List Value → ℕ → List IlArg
args_of globals cs [] k = []
args_of globals cs (v ∷ vs) k = first_arg cs (operand globals v k) ++ args_of globals (rest_of cs) vs (k + addressed v)

abbrev pub all_addressed : List Value → ℕ
all_addressed [] = 0
all_addressed (v ∷ vs) = addressed v + all_addressed vs

-- ---- statements

-- Where control goes behind a statement is its goal: on to the next lines, which stand in the same block, to a label that stands right
-- behind the statement, or to one that does not, so that a jump is needed.

abbrev pub is_next : Goal → Bool
is_next Next = true
is_next (Near x) = false
is_next (Far x) = false

-- one label, where there has to be one
abbrev pub fresh : Bool → ℕ
fresh true = 1
fresh false = 0

-- whether there are statements
abbrev pub is_more : Codes → Bool
is_more none = false
is_more (more c cs) = true

-- whether a statement has none within it
abbrev pub is_single : Code → Bool
is_single (Seq cs) = false
is_single (Set temp class op a b) = true
is_single (Load temp how at) = true
is_single (Store width value at) = true
is_single (Move to from bytes) = true
is_single (If cond a b) = false
is_single (Loop c) = false
is_single (Leave j) = true
is_single (Call temp name args) = true
is_single (Ret value) = true

-- whether a side of an If has lines. Nothing, or a Leave, has none: the branch goes where that goes.
abbrev pub has_lines : Code → Bool
has_lines (Seq cs) = is_more cs
has_lines (Set temp class op a b) = true
has_lines (Load temp how at) = true
has_lines (Store width value at) = true
has_lines (Move to from bytes) = true
has_lines (If cond a b) = true
has_lines (Loop c) = true
has_lines (Leave j) = false
has_lines (Call temp name args) = true
has_lines (Ret value) = true

-- how many labels code takes, by whether its goal is the next lines
abbrev mutual
  pub labels_in : Code → Bool → ℕ
  labels_in (Seq cs) next = fresh next + labels_in_all cs
  labels_in (Set temp class op a b) next = 0
  labels_in (Load temp how at) next = 0
  labels_in (Store width value at) next = 0
  labels_in (Move to from bytes) next = 0
  labels_in (If cond a b) next =
      fresh next + fresh (has_lines a) + fresh (has_lines b) + labels_in a false + labels_in b false
  labels_in (Loop c) next = fresh next + suc (labels_in c true)
  labels_in (Leave j) next = fresh next
  labels_in (Call temp name args) next = 0
  labels_in (Ret value) next = fresh next

  -- those of a Seq, of which the last has the goal of the Seq, that is a label
  pub labels_in_all : Codes → ℕ
  labels_in_all none = 0
  labels_in_all (more c cs) = labels_in c (is_more cs) + labels_in_all cs

-- how many addresses a value that may be missing takes
abbrev pub addresses_of : Option Value → ℕ
addresses_of None = 0
addresses_of (Some v) = addressed v

-- how many addresses code takes
abbrev mutual
  pub addresses_in : Code → ℕ
  addresses_in (Seq cs) = addresses_in_all cs
  addresses_in (Set temp class op a b) = addressed a + addressed b
  addresses_in (Load temp how at) = addressed at
  addresses_in (Store width value at) = addressed value + addressed at
  addresses_in (Move to from bytes) = addressed to + addressed from
  addresses_in (If cond a b) = addressed cond + addresses_in a + addresses_in b
  addresses_in (Loop c) = addresses_in c
  addresses_in (Leave j) = 0
  addresses_in (Call temp name args) = all_addressed args
  addresses_in (Ret value) = addresses_of value

  pub addresses_in_all : Codes → ℕ
  addresses_in_all none = 0
  addresses_in_all (more c cs) = addresses_in c + addresses_in_all cs

-- the label of the goal of the Seq or Loop number `j` round a statement, counted from the inside, where `exits` are those of all, the
-- outermost first
abbrev pub exit_at : List ℕ → ℕ → ℕ
exit_at exits j = slice_index_or exits (length exits - suc j) 0

-- ---- goals

-- the label of a goal, which is the statement's own, `n`, where that is the next lines
abbrev pub goal_label : Goal → (n : ℕ) → ℕ
goal_label Next n = n
goal_label (Near x) n = x
goal_label (Far x) n = x

-- the goal of what stands last within a statement
abbrev pub inner : Goal → (n : ℕ) → Goal
inner Next n = Near n
inner (Near x) n = Near x
inner (Far x) n = Far x

-- the goal of a statement that stands in front of these
abbrev pub in_front : Codes → Goal → Goal
in_front none goal = goal
in_front (more c cs) goal = Next

-- the goal of the first side of an If, by whether the other has lines
abbrev pub first_goal : Bool → Goal → (n : ℕ) → Goal
first_goal true goal n = Far (goal_label goal n)
first_goal false goal n = inner goal n

-- how control goes to a goal
abbrev pub go_lines : Goal → List Line
go_lines Next = []
go_lines (Near x) = []
go_lines (Far x) = End (jump.Jmp (label_name x)) ∷ []

-- the label of a statement's own behind it
abbrev pub own_label : Goal → (n : ℕ) → List Line
own_label Next n = Label n ∷ []
own_label (Near x) n = []
own_label (Far x) n = []

-- The lines of single statements: those of the addresses of their operands, whose numbers begin with `k`, and then one instruction or
-- jump. Behind a Ret stands the label `n` where other lines stand behind it.
module _ (globals : List Data) where
  -- an operation on its operands
  abbrev pub set_lines : ℕ → Class → Op → (a b : Value) → (k : ℕ) → List Line
  set_lines t class o a b k =
      address_lines globals a k ++ (address_lines globals b (k + addressed a)
      ++ (Do (inst.Set (temp_name t) class (il_op o) (operand globals a k)
      (second (takes_two (op_kind o)) (operand globals b (k + addressed a)))) ∷ []))

  abbrev pub load_lines : ℕ → LoadKind → Value → (k : ℕ) → List Line
  load_lines t how at k =
      address_lines globals at k ++ (Do (inst.Set (temp_name t) L (load_op how) (operand globals at k) None) ∷ [])

  abbrev pub store_lines : ℕ → (value at : Value) → (k : ℕ) → List Line
  store_lines width value at k =
      address_lines globals value k ++ (address_lines globals at (k + addressed value)
      ++ (Do (inst.Store width (operand globals value k) (operand globals at (k + addressed value))) ∷ []))

  -- a Move is a blit, which names the address that bytes come from first
  abbrev pub move_lines : (to from : Value) → (bytes k : ℕ) → List Line
  move_lines to from bytes k =
      address_lines globals to k ++ (address_lines globals from (k + addressed to)
      ++ (Do (inst.Blit (operand globals from (k + addressed to)) (operand globals to k) bytes) ∷ []))

  -- a call of a name, with the classes of what it calls
  abbrev pub call_lines : (params : List Class) → (result : Option Class) → Option ℕ → List ℕ → List Value → (k : ℕ) → List Line
  call_lines params result temp name args k =
      arg_lines globals args k ++ (Do (inst.Call (result_param temp result) name (args_of globals params args k)) ∷ [])

  -- a branch on a condition
  abbrev pub branch_lines : Value → (one other k : ℕ) → List Line
  branch_lines cond one other k =
      address_lines globals cond k ++ (End (jump.Jnz (operand globals cond k) (label_name one) (label_name other)) ∷ [])

  abbrev pub return_lines : Option Value → Goal → (n k : ℕ) → List Line
  return_lines None goal n k = End (jump.Ret None) ∷ own_label goal n
  return_lines (Some v) goal n k = address_lines globals v k ++ (End (jump.Ret (Some (operand globals v k))) ∷ own_label goal n)

-- A Leave to the label `x`. No jump goes to the label right behind it.
abbrev pub leave_lines : (x : ℕ) → Goal → (n : ℕ) → List Line
leave_lines x Next n = End (jump.Jmp (label_name x)) ∷ Label n ∷ []
leave_lines x (Near y) n = if x == y then [] else End (jump.Jmp (label_name x)) ∷ []
leave_lines x (Far y) n = End (jump.Jmp (label_name x)) ∷ []

-- where a side of an If goes that has no lines; `x` is the label behind the If
abbrev pub target : Code → (exits : List ℕ) → (x : ℕ) → ℕ
target (Seq cs) exits x = x
target (Set temp class op a b) exits x = x
target (Load temp how at) exits x = x
target (Store width value at) exits x = x
target (Move to from bytes) exits x = x
target (If cond a b) exits x = x
target (Loop c) exits x = x
target (Leave j) exits x = exit_at exits j
target (Call temp name args) exits x = x
target (Ret value) exits x = x

-- the label to which a branch goes for a side: where it goes that has no lines, and else its own
abbrev pub way : Code → (exits : List ℕ) → (x own : ℕ) → ℕ
way c exits x own = if has_lines c then own else target c exits x

-- the lines of a side, if it has any, behind its label
abbrev pub side : Bool → (own : ℕ) → List Line → List Line
side true own lines = Label own ∷ lines
side false own lines = []

-- the end of a Seq, by whether it has no statements
abbrev pub seq_end : Bool → Goal → (n : ℕ) → List Line
seq_end true goal n = go_lines (inner goal n) ++ own_label goal n
seq_end false goal n = own_label goal n

-- the branch of an If to its sides
abbrev pub if_branch : List Data → Value → (a b : Code) → Goal → (n k : ℕ) → (exits : List ℕ) → List Line
if_branch globals cond a b goal n k exits =
    let x = goal_label goal n in
    let one = n + fresh (is_next goal) in
    branch_lines globals cond (way a exits x one) (way b exits x (one + fresh (has_lines a))) k

-- a call of a function of a program, else of the runtime
abbrev pub named_call_lines : FlatProgram → Option ℕ → List ℕ → List Value → (k : ℕ) → List Line
named_call_lines p temp name args k =
    call_lines p.globals (called_params (function_named p.functions name) name) (result_class p name) temp name args k

-- The lines of a statement, whose labels have the numbers from `n` on and whose addresses those from `k` on. Where lines stand behind a
-- Leave or a Ret, they have a block of their own. A Loop is entered by a written jump and has one backward jump.
module _ (p : FlatProgram) where
  abbrev mutual
    pub code_lines : Code → Goal → (n k : ℕ) → (exits : List ℕ) → List Line
    code_lines (Seq cs) goal n k exits =
        each_lines cs (inner goal n) (n + fresh (is_next goal)) k (exits ++ goal_label goal n ∷ [])
        ++ seq_end (not (is_more cs)) goal n
    code_lines (Set t class o a b) goal n k exits = set_lines p.globals t class o a b k ++ go_lines goal
    code_lines (Load t how at) goal n k exits = load_lines p.globals t how at k ++ go_lines goal
    code_lines (Store width value at) goal n k exits = store_lines p.globals width value at k ++ go_lines goal
    code_lines (Move to from bytes) goal n k exits = move_lines p.globals to from bytes k ++ go_lines goal
    code_lines (If cond a b) goal n k exits =
        let one = n + fresh (is_next goal) in
        let other = one + fresh (has_lines a) in
        let m = other + fresh (has_lines b) in
        if_branch p.globals cond a b goal n k exits
        ++ (side (has_lines a) one (code_lines a (first_goal (has_lines b) goal n) m (k + addressed cond) exits)
        ++ (side (has_lines b) other (code_lines b (inner goal n) (m + labels_in a false) (k + addressed cond + addresses_in a) exits)
        ++ own_label goal n))
    code_lines (Loop c) goal n k exits =
        let begin = n + fresh (is_next goal) in
        End (jump.Jmp (label_name begin)) ∷ Label begin ∷
        (code_lines c Next (suc begin) k (exits ++ goal_label goal n ∷ []) ++ (End (jump.Jmp (label_name begin)) ∷ own_label goal n))
    code_lines (Leave j) goal n k exits = leave_lines (exit_at exits j) goal n
    code_lines (Call temp name args) goal n k exits =
        named_call_lines p temp name args k ++ go_lines goal
    code_lines (Ret value) goal n k exits = return_lines p.globals value goal n k

    pub each_lines : Codes → Goal → (n k : ℕ) → (exits : List ℕ) → List Line
    each_lines none goal n k exits = []
    each_lines (more c cs) goal n k exits =
        code_lines c (in_front cs goal) n k exits ++ each_lines cs goal (n + labels_in c (is_more cs)) (k + addresses_in c) exits

-- ---- functions

-- the frame of a function is taken from the stack by one alloc of its bytes; one of no bytes takes nothing
abbrev pub frame_lines : ℕ → List Line
frame_lines zero = []
frame_lines (suc n) = Do (inst.Set frame_name L op.Alloc16 (il.Number (suc n)) None) ∷ []

-- what a body that ends without a Ret returns
abbrev pub end_value : Option Class → Option IlValue
end_value None = None
end_value (Some class) = Some (il.Number 0)

-- the lines of a function between its first label and its last return
abbrev pub inner_lines : FlatProgram → FlatFn → List Line
inner_lines p f = frame_lines f.frame ++ code_lines p (code_of f.body) Next 1 0 []

-- the lines of a function. Its frame is taken in the first block, and no jump goes to the label of that.
abbrev pub function_lines : FlatProgram → FlatFn → List Line
function_lines p f = Label 0 ∷ (inner_lines p f ++ (End (jump.Ret (end_value f.result)) ∷ []))
