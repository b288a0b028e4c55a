-- What flat code does within a number of turns, and how many flat steps it takes.
--
-- A Loop's turn hands one turn less to its body and to the turns behind it, and a call of a function of the program hands one less to the
-- function.
-- Nothing else uses a turn. Where a turn or such a call begins and none is left, the end is Spent.
--
-- Each statement that begins is one flat step, each turn of a Loop being one that begins. A call takes one more for each argument, and a
-- Move and a call of the runtime one more for each 64 bytes moved.
use Rattle.std.specs.Prelude.{ℕ, zero, suc, ◌+◌, ◌-◌, ◌/◌, max, Bool, true, false, List, [], ◌∷◌, length, map, Option, None, Some, bytes_eq, ◌==◌, if◌then◌else◌}
use Rattle.hx_base.specs.declared.Class.{Class}
use Rattle.hx_base.specs.declared.Class.TheVariants.{W, L}
use Rattle.hx_base.specs.Memory.{Memory, round_up, map_range, unmap_range, load, store, move}
use Rattle.hx_base.specs.Runtime.{Act, Gives, Exits, Aborts, Faults, Full, RuntimeFault}
use Rattle.hx_base.specs.Runtime as runtime
use Rattle.flat_code.specs.declared.op.Op.{Op}
use Rattle.flat_code.specs.declared.op.Op.TheVariants.{Copy, Extsb, Extub, Extsh, Extuh, Extsw, Extuw}
use Rattle.flat_code.specs.declared.op.LoadKind.{LoadKind}
use Rattle.flat_code.specs.declared.op.LoadKind.TheVariants as how
use Rattle.flat_code.specs.declared.program.FlatFn.{FlatFn}
use Rattle.flat_code.specs.declared.program.FlatProgram.{FlatProgram}
use Rattle.flat_code.specs.declared.value.Value.{Value}
use Rattle.flat_code.specs.Code.{Code, Codes, none, more, Seq, Set, Load, Store, Move, If, Loop, Leave, Call, Ret}
use Rattle.flat_code.specs.Shape.{code_of}
use Rattle.flat_code.specs.Costs.{call_cost}
use Rattle.hx_runtime.specs.Functions.{runtime_params, runtime_result, act, runtime_function}
use Rattle.hx_runtime.specs.declared.runtime.RuntimeFunction.{RuntimeFunction}
pub use Rattle.hx_runtime.specs.Ranges.{overlap}
use Rattle.flat_code.specs.Operations.{gives}
use Rattle.flat_code.specs.State.{State, cut, value_of, set_temp, give, with_memory, stepped, FlatFault, Wild, Overlap, BadFree, BadArg, ZeroDivisor, NoFunction, Next, Left, Returned, Exit, Abort, Fault, HeapFull, Spent, Result, then_go, caught, then_turn, spends}

-- ---- operations

-- a temporary is set to what an operation gives
abbrev pub computed : State → ℕ → Class → Option ℕ → Result
computed s t class None = (Fault ZeroDivisor, s)
computed s t class (Some v) = (Next, set_temp s t class v)

-- ---- memory

-- how many bytes are loaded
abbrev pub load_bytes : LoadKind → ℕ
load_bytes how.Sb = 1
load_bytes how.Ub = 1
load_bytes how.Sh = 2
load_bytes how.Uh = 2
load_bytes how.Sw = 4
load_bytes how.Uw = 4
load_bytes how.L = 8

-- the operation that extends what is loaded
abbrev pub extension : LoadKind → Op
extension how.Sb = Extsb
extension how.Ub = Extub
extension how.Sh = Extsh
extension how.Uh = Extuh
extension how.Sw = Extsw
extension how.Uw = Extuw
extension how.L = Copy

-- a temporary is set to the number loaded, extended to 64 bits
abbrev pub loaded : State → ℕ → LoadKind → Option ℕ → Result
loaded s t how None = (Fault Wild, s)
loaded s t how (Some v) = computed s t L (gives L (extension how) v 0)

-- a store, by the memory behind it, if all bytes are mapped
abbrev pub stored : State → Option Memory → Result
stored s None = (Fault Wild, s)
stored s (Some m) = (Next, with_memory s m)

-- a Move of `n` bytes, by whether the ranges overlap and by the memory behind it. That a byte is not mapped is looked at first.
abbrev pub moved : State → ℕ → Bool → Option Memory → Result
moved s n overlaps None = (Fault Wild, s)
moved s n true (Some m) = (Fault Overlap, s)
moved s n false (Some m) = (Next, stepped (n / 64) (with_memory s m))

-- ---- calls of the runtime

-- the fault of flat code for one of the runtime
abbrev pub fault_of : RuntimeFault → FlatFault
fault_of runtime.Wild = Wild
fault_of runtime.BadFree = BadFree
fault_of runtime.BadArg = BadArg

-- values, each cut to its class. Those without a class are dropped.
abbrev pub cut_each : List Class → List ℕ → List ℕ
cut_each [] vs = []
cut_each (c ∷ cs) [] = []
cut_each (c ∷ cs) (v ∷ vs) = cut c v ∷ cut_each cs vs

-- a call of a function of the runtime, by what it does
abbrev pub acted : State → Option ℕ → Option Class → Act → Result
acted s t class (Gives v bytes w) = (Next, give (stepped (bytes / 64) (record s { world = w })) t class v)
acted s t class (Exits status) = (Exit status, s)
acted s t class (Aborts text) = (Abort text, s)
acted s t class (Faults f) = (Fault (fault_of f), s)
acted s t class Full = (HeapFull, s)

-- a call of the function of the runtime with a name, if there is one
abbrev pub runtime_called : State → Option ℕ → Option RuntimeFunction → List ℕ → Result
runtime_called s t None vs = (Fault NoFunction, s)
runtime_called s t (Some f) vs = acted s t (runtime_result f) (act f (cut_each (runtime_params f) vs) s.world)

-- ---- calls of functions of the program

-- the first function with a name
abbrev pub function_named : List FlatFn → List ℕ → Option FlatFn
function_named [] name = None
function_named (f ∷ fs) name = if bytes_eq f.name name then Some f else function_named fs name

-- values in the temporaries from number `t` on
abbrev pub in_temps : ℕ → List ℕ → List (ℕ × ℕ)
in_temps t [] = []
in_temps t (v ∷ vs) = (t, v) ∷ in_temps (suc t) vs

-- memory with a frame mapped, where it has bytes
abbrev pub framed : Memory → ℕ → ℕ → Memory
framed m at zero = m
framed m at (suc n) = map_range m at (suc n)

-- the state as a function begins: its arguments stand in the first temporaries, and its frame is mapped and keeps the bytes that stand
-- there. A frame of no bytes takes nothing.
abbrev pub entered : State → FlatFn → List ℕ → State
entered s f vs = record s {
  world = record s.world { memory = framed s.world.memory s.top f.frame };
  temps = in_temps 0 (cut_each f.params vs);
  frame = s.top;
  top = s.top + round_up f.frame 16;
  cost = s.cost + call_cost f;
  most = max s.most (s.cost + call_cost f);
}

-- the state of a call that goes on, from that in which a function returned: what the function had above it is unmapped and keeps its bytes
abbrev pub left : State → State → State
left s s' = record s {
  world = record s'.world { memory = unmap_range s'.world.memory s.top (s'.top - s.top) };
  steps = s'.steps;
  most = s'.most;
}

-- a call, by what the body of its function gives. A body that ends without a Ret returns 0.
abbrev pub back : State → Option ℕ → Option Class → Result → Result
back s t class (Next, s') = (Next, give (left s s') t class 0)
back s t class (Left k, s') = (Next, give (left s s') t class 0)
back s t class (Returned v, s') = (Next, give (left s s') t class v)
back s t class (Exit k, s') = (Exit k, s')
back s t class (Abort b, s') = (Abort b, s')
back s t class (Fault f, s') = (Fault f, s')
back s t class (HeapFull, s') = (HeapFull, s')
back s t class (Spent, s') = (Spent, s')

-- what code does with one turn less, which a form of code is handed
abbrev pub Less : Type 0
Less = Code → State → Result

-- a call of a function of the program, else of the runtime
abbrev pub called : ℕ → Less → State → Option ℕ → List ℕ → Option FlatFn → List ℕ → Result
called n less s t name None vs = runtime_called s t (runtime_function name) vs
called n less s t name (Some f) vs = spends n (Spent, s) (back s t f.result (less (code_of f.body) (entered s f vs)))

-- ---- statements

-- the value that a Ret returns
abbrev pub returns : FlatProgram → State → Option Value → Result
returns p s None = (Returned 0, s)
returns p s (Some v) = (Returned (value_of p s v), s)

module _ (p : FlatProgram) where
  abbrev mutual
    -- what a statement does that has begun, and so has counted one flat step
    pub flat_begun : ℕ → Less → Code → State → Result
    flat_begun n less (Seq cs) s = caught (flats_in n less cs s)
    flat_begun n less (Set t class op a b) s = computed s t class (gives class op (value_of p s a) (value_of p s b))
    flat_begun n less (Load t how at) s = loaded s t how (load s.world.memory (value_of p s at) (load_bytes how))
    flat_begun n less (Store width value at) s = stored s (store s.world.memory (value_of p s at) width (value_of p s value))
    flat_begun n less (Move to from bytes) s =
        let a = value_of p s to in
        let b = value_of p s from in
        moved s bytes (overlap a b bytes) (move s.world.memory a b bytes)
    flat_begun n less (If cond a b) s = if cut W (value_of p s cond) == 0 then flat_begun n less b (stepped 1 s) else flat_begun n less a
        (stepped 1 s)
    flat_begun n less (Loop c) s = spends n (Spent, s) (then_turn (less c s) (less (Loop c)))
    flat_begun n less (Leave k) s = (Left k, s)
    flat_begun n less (Call t name args) s =
        called n less (stepped (length args) s) t name (function_named p.functions name) (map (value_of p s) args)
    flat_begun n less (Ret value) s = returns p s value

    -- what the statements of a Seq do
    pub flats_in : ℕ → Less → Codes → State → Result
    flats_in n less none s = (Next, s)
    flats_in n less (more c cs) s = then_go (flat_begun n less c (stepped 1 s)) (flats_in n less cs)

  -- what code does where one turn less than `n` is left
  abbrev pub flat_below : ℕ → Less
  flat_below zero c s = (Spent, s)
  flat_below (suc n) c s = flat_begun n (flat_below n) c (stepped 1 s)

  -- what code does where `n` turns are left
  abbrev pub flat : ℕ → Code → State → Result
  flat n c s = flat_begun n (flat_below n) c (stepped 1 s)
