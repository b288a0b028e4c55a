-- Evaluation: what acts come to, bounded by turns.
use Rattle.std.specs.Prelude.{ℕ, zero, suc, ◌+◌, [], ◌++◌, length, take, drop, Option, Some, None}
use Rattle.hare_typed.specs.Typed.{TypedNode, TypedNodes, marked, typed_none, typed_more}
use Rattle.hare_typed.specs.Bindings.{own_bindings, bindings_in}
use Rattle.hare_typed.specs.Objects.{Object, Objects, with_new, with_named, close_scope}
use Rattle.hare_typed.specs.State.{Memory, State, Scope, Mode, Outcome, Value, Spent, Result}
use Rattle.hare_typed.specs.Acts.{Act, end, look, put, make, tick, say, take_in, kid, part, within, turn, call, Task, Turn, Call}

-- what a node gives in a mode and a scope, and the state that it leaves
abbrev pub Evaluation : Type 0
Evaluation = Mode → Scope → State → Result

-- what a task gives in a scope
abbrev pub Tasks : Type 0
Tasks = Task → Scope → State → Result

-- The acts of nodes and of tasks, and the kids that a task evaluates. Everything below is said for any forms.
pub record Forms : Type 0 where
  pub node : TypedNode → Mode → Scope → Act
  pub task : Task → Scope → Act
  pub kids : Task → TypedNodes

-- ---- steps of acts

-- Goes on with an outcome, unless it is Spent: what is spent is caught by nothing.
abbrev pub after : Result → (Outcome → State → Result) → Result
after (Spent, s) go = (Spent, s)
after (o, s) go = go o s

abbrev pub with_memory : State → Memory → State
with_memory s m = record s { memory = m }

abbrev pub with_objects : State → Objects → State
with_objects s os = with_memory s (record s.memory { objects = os })

-- a static object has its name as its number, and any other comes last in the list
abbrev pub made_object : Option ℕ → Object → Objects → Objects
made_object None o os = with_new os o
made_object (Some name) o os = with_named os name o

abbrev pub number_made : Option ℕ → Objects → ℕ
number_made None os = length os.made
number_made (Some name) os = name

-- the end of a scope that began when there were so many objects
abbrev pub closed : ℕ → Result → Result
closed n r = (r.0, with_objects r.1 (close_scope n r.1.memory.objects))

-- A kid that is not there gives no cells, as a part does that was left out.
abbrev pub no_kid : Evaluation
no_kid mode sc s = (Value [], s)

-- what the kids of a node give, by how many stand before them, and what their kids give
pub record Kids : Type 0 where
  pub kid : ℕ → Evaluation
  pub part : ℕ → ℕ → Evaluation

-- a called function has no names of its caller in scope
abbrev pub scope_of_call : ℕ → Scope
scope_of_call d = record { own = d; first = 0; locals = [] }

-- what an act comes to, where the kids of its node give what `ks` says, and tasks with one turn less come to what `less` says
abbrev pub act : Kids → Tasks → Act → State → Result
act ks less (end o) s = (o, s)
act ks less (look f) s = act ks less (f s.memory) s
act ks less (put m a) s = act ks less a (with_memory s m)
act ks less (make name o f) s =
    act ks less (f (number_made name s.memory.objects)) (with_objects s (made_object name o s.memory.objects))
act ks less (tick n a) s = act ks less a (record s { ticks = s.ticks + n })
act ks less (say bs a) s = act ks less a (record s { output = s.output ++ bs })
act ks less (take_in n f) s = act ks less (f (take n s.input)) (record s { input = drop n s.input })
act ks less (kid i mode sc f) s = after (ks.kid i mode sc s) (λ o s'. act ks less (f o) s')
act ks less (part i j mode sc f) s = after (ks.part i j mode sc s) (λ o s'. act ks less (f o) s')
act ks less (within a f) s = after (closed (length s.memory.objects.made) (act ks less a s)) (λ o s'. act ks less (f o) s')
act ks less (turn t r sc f) s = after (less (Turn t r) sc s) (λ o s'. act ks less (f o) s')
act ks less (call d cs f) s = after (less (Call d cs) (scope_of_call d) s) (λ o s'. act ks less (f o) s')

-- ---- trees and turns

-- what is given behind so many bindings
abbrev pub behind : ℕ → Evaluation → Evaluation
behind n m mode sc s = m mode (record sc { first = sc.first + n }) s

module _ (fs : Forms) where
  -- A node's own binding begins before its kids, and those of a kid before the next one.
  abbrev mutual
    pub node_act : Tasks → TypedNode → Evaluation
    node_act less (marked h m ts) mode sc s =
        act (record {
          kid = λ i. behind (own_bindings h.kind) (kid_act less ts i);
          part = λ i j. behind (own_bindings h.kind)
              (part_act less ts i j);
        })
        less (fs.node (marked h m ts) mode sc) s

    pub kid_act : Tasks → TypedNodes → ℕ → Evaluation
    kid_act less typed_none i = no_kid
    kid_act less (typed_more t ts) zero = node_act less t
    kid_act less (typed_more t ts) (suc i) = behind (bindings_in t) (kid_act less ts i)

    pub part_act : Tasks → TypedNodes → ℕ → ℕ → Evaluation
    part_act less typed_none i j = no_kid
    part_act less (typed_more (marked h m us) ts) zero j = behind (own_bindings h.kind) (kid_act less us j)
    part_act less (typed_more t ts) (suc i) j = behind (bindings_in t) (part_act less ts i j)

  abbrev pub task_act : Tasks → Tasks
  task_act less k sc s = act (record { kid = kid_act less (fs.kids k); part = part_act less (fs.kids k) }) less (fs.task k sc) s

  -- what a task comes to with one turn less than n; with none left it is Spent, whatever else would come of it
  abbrev pub fewer_than : ℕ → Tasks
  fewer_than zero k sc s = (Spent, s)
  fewer_than (suc n) k sc s = task_act (fewer_than n) k sc s

  -- the evaluation of a node with n turns
  abbrev pub evaluate : ℕ → TypedNode → Evaluation
  evaluate n t = node_act (fewer_than n) t
