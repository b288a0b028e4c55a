-- Rows of the interpreter, worked out over forms of their own.
use Rattle.std.proofs.Common.{◌≡◌, ℕ, suc, ◌+◌, true, false, Bool, List, [], ◌∷◌, None, codes, refl}
use Rattle.std.specs.Prelude.{map}
use Rattle.hare_tree.specs.declared.kind.Kind.{Kind}
use Rattle.hare_tree.specs.declared.kind.Kind.TheVariants as kind
use Rattle.hare_tree.specs.declared.token.Meaning.TheVariants as meant
use Rattle.hare_tree.specs.declared.token.Suffix.TheVariants as suffix
use Rattle.hare_types.specs.declared.coercion.Ty.TheVariants as kept
use Rattle.hare_typed.specs.declared.constant.Const.TheVariants as constant
use Rattle.hare_typed.specs.Typed.{TypedNode, TypedNodes, marked, typed_none, typed_more, typed_nodes, head_of, kids_of}
use Rattle.hare_typed.specs.Constants.{own_kind}
use Rattle.hare_typed.specs.Scalars.{Null, Address}
use Rattle.hare_typed.specs.Objects.{Object, Local, Heap}
use Rattle.hare_typed.specs.State.{State, Scope, AsValue, Mode, Outcome, Value, Reached, Break, Exit, Undefined, Spent}
use Rattle.hare_typed.specs.Acts.{Act, end, look, put, make, tick, say, take_in, kid, part, within, turn, call, Round, Task, Turn, Call}
use Rattle.hare_typed.specs.Sequence.{value, place, values}
use Rattle.hare_typed.specs.Interpreter.{Forms, evaluate}
use Rattle.hare_typed.proofs.Samples.{bytes}

-- ---- forms in few words

abbrev start : Round
start = record { data_at = Null; length = 0; next = 0 }

abbrev object : Object
object = record { cells = bytes (7 ∷ []); kind = Local; align = 1; alive = true }

abbrev heap_object : Object
heap_object = record { cells = bytes (7 ∷ []); kind = Heap; align = 16; alive = true }

-- a string puts itself out, a block runs two kids, a tuple three, a loop takes turns with its first kid, a call calls declaration 9
abbrev acts_of : Kind → TypedNode → Mode → Scope → Act
acts_of kind.Str t mode sc = say (head_of t).text (end (Value (bytes (1 ∷ []))))
acts_of kind.Block t mode sc = value 0 sc λ a. value 1 sc λ b. end (Value b)
acts_of kind.Tuple t mode sc = values 0 3 sc λ cs. end (Value [])
acts_of kind.For t mode sc = turn t start sc end
acts_of kind.Call t mode sc = call 9 [] end
acts_of kind.Break t mode sc = end (Break [])
acts_of kind.Abort t mode sc = end (Undefined 1 (head_of t).place)
acts_of kind.Defer t mode sc = part 0 0 AsValue sc end
acts_of kind.If t mode sc = within (make None object λ o. make None heap_object λ h. value 0 sc λ c. end (Value c)) λ o. end o
acts_of kind.Let t mode sc = make None object λ o. end (Reached (Address o 0))
acts_of kind.Addr t mode sc = place 0 sc λ p. end (Reached p)
acts_of kind.Len t mode sc = tick 3 (take_in 2 λ bs. say bs (end (Value (bytes bs))))
acts_of kind.Try t mode sc = kid 0 AsValue sc λ o. end (Exit 1)
acts_of kind.Match t mode sc = look λ m. put (record m { live = m.live + 5 }) (end (Value []))
acts_of kind.Return t mode sc = end (Exit sc.own)
acts_of kind.Yield t mode sc = end (Exit sc.first)
acts_of kind.Const t mode sc = value 0 sc λ c. end (Value c)
acts_of _ t mode sc = end (Value [])

-- a turn runs the first kid and takes the next turn; a called function runs its own first kid
abbrev task_acts : Task → Scope → Act
task_acts (Turn t r) sc = value 0 sc λ c. turn t (record r { next = suc r.next }) sc end
task_acts (Call d cs) sc = kid 0 AsValue sc end

abbrev node : Kind → List ℕ → List TypedNode → TypedNode
node k x ts =
    marked record { kind = k; place = record { file = 0; line = 1; column = 1 }; text = x; number = 0; suffix = suffix.None }
    record { node = 0; ty = kept.Empty; coerce = record { row = 1; to = kept.Empty }; meaning = meant.None; value = constant.Absent }
    (typed_nodes ts)

-- the function that is called returns
abbrev task_kids : Task → TypedNodes
task_kids (Turn t r) = kids_of t
task_kids (Call d cs) = typed_more (node kind.Return [] []) typed_none

abbrev forms : Forms
forms = record { node = λ t mode sc. acts_of (own_kind t) t mode sc; task = task_acts; kids = task_kids }

abbrev puts : List ℕ → TypedNode
puts x = node kind.Str x []

abbrev before : State
before =
    record {
      memory = record { objects = record { made = []; named = [] }; live = 0; taken = 0; stack = 0 };
      input = 1 ∷ 2 ∷ 3 ∷ [];
      output = [];
      ticks = 0;
    }

abbrev scope : Scope
scope = record { own = 4; first = 2; locals = [] }

abbrev outcome : ℕ → TypedNode → Outcome
outcome n t = (evaluate forms n t AsValue scope before).0

abbrev left : ℕ → TypedNode → State
left n t = (evaluate forms n t AsValue scope before).1

-- ---- kids

-- each kid runs once, from left to right
kids_in_order : (left 0 (node kind.Block [] (puts (codes "a") ∷ puts (codes "b") ∷ []))).output ≡ codes "ab"
kids_in_order = refl

several_in_order : (left 0 (node kind.Tuple [] (puts (codes "a") ∷ puts (codes "b") ∷ puts (codes "c") ∷ []))).output ≡ codes "abc"
several_in_order = refl

other_outcome_passes : outcome 0 (node kind.Block [] (node kind.Break [] [] ∷ puts (codes "b") ∷ [])) ≡ Break []
other_outcome_passes = refl

nothing_runs_behind_it : (left 0 (node kind.Block [] (node kind.Break [] [] ∷ puts (codes "b") ∷ []))).output ≡ []
nothing_runs_behind_it = refl

undefined_has_its_place : outcome 0 (node kind.Block [] (puts (codes "a") ∷ node kind.Abort [] [] ∷ []))
    ≡ Undefined 1 (record { file = 0; line = 1; column = 1 })
undefined_has_its_place = refl

missing_kid_gives_none : outcome 0 (node kind.Block [] (puts (codes "a") ∷ [])) ≡ Value []
missing_kid_gives_none = refl

kid_of_a_kid : (left 0 (node kind.Defer [] (node kind.Abort [] (puts (codes "d") ∷ []) ∷ []))).output ≡ codes "d"
kid_of_a_kid = refl

no_kid_of_a_kid : outcome 0 (node kind.Defer [] (puts (codes "d") ∷ [])) ≡ Value []
no_kid_of_a_kid = refl

place_of_a_kid : outcome 0 (node kind.Addr [] (node kind.Let [] [] ∷ [])) ≡ Reached (Address 0 0)
place_of_a_kid = refl

-- ---- bindings that begin before a node

abbrev yield : TypedNode
yield = node kind.Yield [] []

-- two begin before the block
none_in_between : outcome 0 (node kind.Block [] (puts (codes "a") ∷ yield ∷ [])) ≡ Exit 2
none_in_between = refl

one_in_the_kid_before : outcome 0 (node kind.Block [] (node kind.Const [] (puts (codes "a") ∷ []) ∷ yield ∷ [])) ≡ Exit 3
one_in_the_kid_before = refl

-- also where it stands deeper
two_in_the_kid_before : outcome 0 (node kind.Block [] (node kind.Const [] (node kind.Const [] (puts (codes "a") ∷ []) ∷ []) ∷ yield ∷ [])) ≡
    Exit 4
two_in_the_kid_before = refl

-- a binding begins before its own kids
own_binding : outcome 0 (node kind.Const [] (yield ∷ [])) ≡ Exit 3
own_binding = refl

-- a kid of a kid has those of both, and of the kids before either
bindings_of_a_part : outcome 0 (node kind.Defer [] (node kind.Let [] (yield ∷ []) ∷ [])) ≡ Exit 3
bindings_of_a_part = refl

-- ---- turns and calls

no_turn_is_left : outcome 0 (node kind.For [] (puts (codes "x") ∷ [])) ≡ Spent
no_turn_is_left = refl

nothing_runs_then : (left 0 (node kind.For [] (puts (codes "x") ∷ []))).output ≡ []
nothing_runs_then = refl

as_many_turns : (left 3 (node kind.For [] (puts (codes "x") ∷ []))).output ≡ codes "xxx"
as_many_turns = refl

then_it_is_spent : outcome 3 (node kind.For [] (puts (codes "x") ∷ [])) ≡ Spent
then_it_is_spent = refl

left_by_a_break : outcome 3 (node kind.For [] (node kind.Break [] [] ∷ [])) ≡ Break []
left_by_a_break = refl

-- the inner loop has the turns that are left, not turns of its own
turns_are_shared : (left 3 (node kind.For [] (node kind.For [] (puts (codes "x") ∷ []) ∷ []))).output ≡ codes "xx"
turns_are_shared = refl

no_turn_for_a_call : outcome 0 (node kind.Call [] []) ≡ Spent
no_turn_for_a_call = refl

-- the called function is in its own declaration
call_has_its_scope : outcome 1 (node kind.Call [] []) ≡ Exit 9
call_has_its_scope = refl

-- what is spent is caught by nothing
spent_is_not_caught : outcome 0 (node kind.Try [] (node kind.Call [] [] ∷ [])) ≡ Spent
spent_is_not_caught = refl

other_ends_are_caught : outcome 1 (node kind.Try [] (node kind.Break [] [] ∷ [])) ≡ Exit 1
other_ends_are_caught = refl

-- ---- objects

alive_of : State → List Bool
alive_of s = map (λ o. o.alive) s.memory.objects.made

local_dies_with_its_scope : alive_of (left 0 (node kind.If [] (puts (codes "a") ∷ []))) ≡ false ∷ true ∷ []
unfolding alive_of
local_dies_with_its_scope = refl

-- by whatever outcome
local_dies_at_a_break : alive_of (left 0 (node kind.If [] (node kind.Break [] [] ∷ []))) ≡ false ∷ true ∷ []
unfolding alive_of
local_dies_at_a_break = refl

outcome_passes_a_scope : outcome 0 (node kind.If [] (node kind.Break [] [] ∷ [])) ≡ Break []
outcome_passes_a_scope = refl

-- what stood before a scope stands behind it
earlier_local_lives : alive_of (left 0 (node kind.Block [] (node kind.If [] (node kind.Void [] [] ∷ []) ∷ node kind.Let [] [] ∷ [])))
    ≡ false ∷ true ∷ true ∷ []
unfolding alive_of
earlier_local_lives = refl

-- ---- the rest of the state

takes_what_it_asks : outcome 0 (node kind.Len [] []) ≡ Value (bytes (1 ∷ 2 ∷ []))
takes_what_it_asks = refl

leaves_the_rest : (left 0 (node kind.Len [] [])).input ≡ 3 ∷ []
leaves_the_rest = refl

takes_what_is_left : (left 0 (node kind.Block [] (node kind.Len [] [] ∷ node kind.Len [] [] ∷ []))).output ≡ 1 ∷ 2 ∷ 3 ∷ []
takes_what_is_left = refl

adds_ticks : (left 0 (node kind.Block [] (node kind.Len [] [] ∷ node kind.Len [] [] ∷ []))).ticks ≡ 6
adds_ticks = refl

puts_memory_alone : left 0 (node kind.Match [] [])
    ≡ record before { memory = record { objects = record { made = []; named = [] }; live = 5; taken = 0; stack = 0 } }
puts_memory_alone = refl
