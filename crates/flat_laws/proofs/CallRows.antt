-- A run of each form, with frame, top, cost, most and steps before and behind.
use Rattle.std.proofs.Common.{[], ◌∷◌, Some, None, refl}
use Rattle.std.specs.Prelude.{codes}
use Rattle.hx_base.specs.declared.Class.TheVariants.{W, L}
use Rattle.flat_code.specs.declared.op.Op.TheVariants.{Add, Udiv}
use Rattle.flat_code.specs.declared.op.LoadKind.TheVariants as how
use Rattle.flat_code.specs.declared.value.Value.TheVariants.{Temp, Number, Symbol, Frame}
use Rattle.flat_code.specs.Code.{Set, Load, Store, Move, If, Loop, Leave, Call, Ret}
use Rattle.flat_code.specs.State.{Next, Left, Returned, Exit, Abort, Fault, Spent, Wild, Overlap, ZeroDivisor, NoFunction, BadFree}
use Rattle.flat_code.proofs.RowPrograms.{seq}
use Rattle.flat_laws.proofs.RowStates.{Stays, Rises}

-- ---- forms that go on

set : Stays 0 (Set 0 L Add (Number 1) (Number 2)) Next 6 300
set = (refl, refl, refl, refl, refl, refl)

loaded : Stays 0 (Load 0 how.Uw (Frame 8)) Next 6 300
loaded = (refl, refl, refl, refl, refl, refl)

stored : Stays 0 (Store 4 (Number 9) (Frame 28)) Next 6 300
stored = (refl, refl, refl, refl, refl, refl)

moved : Stays 0 (Move (Frame 0) (Symbol 0 0) 2) Next 6 300
moved = (refl, refl, refl, refl, refl, refl)

branched : Stays 0 (If (Number 1) (Leave 3) (seq [])) (Left 3) 7 300
branched = (refl, refl, refl, refl, refl, refl)

branched_not : Stays 0 (If (Number 0) (Leave 3) (seq [])) Next 7 300
branched_not = (refl, refl, refl, refl, refl, refl)

empty : Stays 0 (seq []) Next 6 300
empty = (refl, refl, refl, refl, refl, refl)

-- two statements of a Seq, of which the first leaves it
left_seq : Stays 0 (seq (Leave 0 ∷ Ret None ∷ [])) Next 7 300
left_seq = (refl, refl, refl, refl, refl, refl)

left_loop : Stays 1 (Loop (Leave 0)) Next 7 300
left_loop = (refl, refl, refl, refl, refl, refl)

-- a turn, which sets a temporary that was not set to 0, and a second that leaves
turned : Stays 2 (Loop (If (Temp 0) (Set 0 W Add (Number 0) (Number 0)) (Leave 0))) Next 11 300
turned = (refl, refl, refl, refl, refl, refl)

left : Stays 0 (Leave 2) (Left 2) 6 300
left = (refl, refl, refl, refl, refl, refl)

returned : Stays 0 (Ret (Some (Number 9))) (Returned 9) 6 300
returned = (refl, refl, refl, refl, refl, refl)

returned_none : Stays 0 (Ret None) (Returned 0) 6 300
returned_none = (refl, refl, refl, refl, refl, refl)

-- ---- calls that go on

-- 88 more than 200 are below the most
called_small : Stays 1 (Call None (codes "small") []) Next 7 300
called_small = (refl, refl, refl, refl, refl, refl)

-- 120 more are above it
called : Stays 1 (Call (Some 0) (codes "next") (Number 8 ∷ [])) Next 10 320
called = (refl, refl, refl, refl, refl, refl)

-- two calls within one, each of 120 above the 96 of the first
called_twice : Stays 2 (Call (Some 0) (codes "twice") []) Next 18 416
called_twice = (refl, refl, refl, refl, refl, refl)

-- a large frame costs its bytes
called_large : Stays 1 (Call None (codes "large") []) Next 8 100280
called_large = (refl, refl, refl, refl, refl, refl)

-- the runtime costs nothing
called_runtime : Stays 0 (Call (Some 0) (codes "rt.nargs") []) Next 6 300
called_runtime = (refl, refl, refl, refl, refl, refl)

allocated : Stays 0 (Call (Some 0) (codes "rt.malloc") (Number 8 ∷ [])) Next 7 300
allocated = (refl, refl, refl, refl, refl, refl)

read : Stays 0 (Call (Some 0) (codes "rt.read") (Frame 0 ∷ Number 32 ∷ [])) Next 8 300
read = (refl, refl, refl, refl, refl, refl)

-- ---- ends of the program: in the call in which the code began, or in one above it

exited : Stays 0 (Call None (codes "rt.exit") (Number 3 ∷ [])) (Exit 3) 7 300
exited = (refl, refl, refl, refl, refl, refl)

exited_above : Rises 1 (Call None (codes "quit") []) (Exit 3) 80 320 9 320
exited_above = (refl, refl, refl, refl, refl, refl)

spent : Stays 0 (Loop (seq [])) Spent 6 300
spent = (refl, refl, refl, refl, refl, refl)

spent_call : Stays 0 (Call None (codes "small") []) Spent 6 300
spent_call = (refl, refl, refl, refl, refl, refl)

spent_above : Rises 1 (Call None (codes "turns") []) Spent 48 288 8 300
spent_above = (refl, refl, refl, refl, refl, refl)

aborted : Stays 0 (Call None (codes "rt.abort") (Symbol 0 0 ∷ Number 2 ∷ [])) (Abort (codes "ab")) 8 300
aborted = (refl, refl, refl, refl, refl, refl)

wild : Stays 0 (Load 0 how.L (Frame 25)) (Fault Wild) 6 300
wild = (refl, refl, refl, refl, refl, refl)

overlapped : Stays 0 (Move (Frame 0) (Frame 1) 2) (Fault Overlap) 6 300
overlapped = (refl, refl, refl, refl, refl, refl)

divided : Stays 0 (Set 0 L Udiv (Number 1) (Number 0)) (Fault ZeroDivisor) 6 300
divided = (refl, refl, refl, refl, refl, refl)

freed_wrong : Stays 0 (Call None (codes "rt.free") (Frame 0 ∷ [])) (Fault BadFree) 7 300
freed_wrong = (refl, refl, refl, refl, refl, refl)

no_function : Stays 9 (Call None (codes "none") []) (Fault NoFunction) 6 300
no_function = (refl, refl, refl, refl, refl, refl)
