-- What the acts of constants leave alone.
use Rattle.std.specs.Prelude.{◌≡◌, ℕ, ◌+◌, ◌≤◌, false, List, ◌++◌, length, slice_get, None, Option}
use Rattle.hare_typed.specs.Typed.{TypedNode}
use Rattle.hare_typed.specs.Objects.{Object}
use Rattle.hare_typed.specs.State.{State, Memory, Scope, Mode, AsValue, Outcome, Result}
use Rattle.hare_typed.specs.Acts.{Act, end, look, make, tick, kid}
use Rattle.hare_typed.specs.Interpreter.{evaluate}
use Rattle.hare_typed.specs.World.{World}
use Rattle.hare_typed.specs.Constancy.{first_inconstant}
use Rattle.hare_typed.specs.ConstantValues.{constant_node, constant_forms}

-- ---- acts

-- the act ends, looks, makes objects, adds ticks and evaluates kids, and does nothing else
pub data IsQuiet : Act → Type 0 where
  ends : (o : Outcome) → IsQuiet (end o)
  looks : (f : Memory → Act) → ((m : Memory) → IsQuiet (f m)) → IsQuiet (look f)
  makes : (name : Option ℕ) (b : Object) (f : ℕ → Act) → ((n : ℕ) → IsQuiet (f n)) → IsQuiet (make name b f)
  ticks : (n : ℕ) (a : Act) → IsQuiet a → IsQuiet (tick n a)
  asks : (i : ℕ) (mode : Mode) (sc : Scope) (f : Outcome → Act) → ((o : Outcome) → IsQuiet (f o)) → IsQuiet (kid i mode sc f)

-- ---- states

-- From s to s' nothing changed but for ticks, which were added, and new objects, which came behind the others.
pub record Keeps (s s' : State) : Type 0 where
  pub made : (new : List Object) × (s'.memory.objects.made ≡ s.memory.objects.made ++ new)
  pub named : (new : List (ℕ × Object)) × (s'.memory.objects.named ≡ s.memory.objects.named ++ new)
  pub live : s'.memory.live ≡ s.memory.live
  pub taken : s'.memory.taken ≡ s.memory.taken
  pub stack : s'.memory.stack ≡ s.memory.stack
  pub input : s'.input ≡ s.input
  pub output : s'.output ≡ s.output
  pub ticks : s.ticks ≤ s'.ticks

-- ---- the law

-- What a constant comes to rests on no number of turns, and it leaves all as it was but for ticks and new objects.
pub record ConstantsAreQuiet : Type 0 where
  pub acts : (w : World) (t : TypedNode) (mode : Mode) (sc : Scope) → IsQuiet (constant_node w t mode sc)
  pub turns : (w : World) (n m : ℕ) (t : TypedNode) (mode : Mode) (sc : Scope) (s : State) →
      evaluate (constant_forms w) n t mode sc s ≡ evaluate (constant_forms w) m t mode sc s
  pub keeps : (w : World) (n : ℕ) (t : TypedNode) (mode : Mode) (sc : Scope) (s : State) →
      Keeps s (evaluate (constant_forms w) n t mode sc s).1

-- ---- what constants look at

-- Two states in which static objects are the same, and in which a new object has the same number.
pub record SameStatics (w : World) (s s' : State) : Type 0 where
  pub as_many : length s.memory.objects.made ≡ length s'.memory.objects.made
  pub static : (name : ℕ) → slice_get s.memory.objects.made (w.home name) ≡ slice_get s'.memory.objects.made (w.home name)
  pub named : s.memory.objects.named ≡ s'.memory.objects.named

-- From s to r and from s' to r' the same was done: the outcomes are equal, the same objects were made, and as many ticks were added.
pub record DoesTheSame (s s' : State) (r r' : Result) : Type 0 where
  pub outcome : r.0 ≡ r'.0
  pub made : (new : List Object) × (r.1.memory.objects.made ≡ s.memory.objects.made ++ new)
      × (r'.1.memory.objects.made ≡ s'.memory.objects.made ++ new)
  pub named : r.1.memory.objects.named ≡ r'.1.memory.objects.named
  pub ticks : (n : ℕ) × (r.1.ticks ≡ s.ticks + n) × (r'.1.ticks ≡ s'.ticks + n)

-- The value of a tree that is constant rests on no object but static ones and those that its evaluation made.
pub record ConstantsLookAtStatics : Type 0 where
  pub alike : (w : World) (n : ℕ) (t : TypedNode) (sc : Scope) (s s' : State) →
      first_inconstant w.types (λ u. false) t ≡ None →
      SameStatics w s s' →
      DoesTheSame s s' (evaluate (constant_forms w) n t AsValue sc s) (evaluate (constant_forms w) n t AsValue sc s')
