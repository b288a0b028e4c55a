-- The objects that the evaluation of a tree makes where it comes to cells: one for each array that becomes a slice, in the order of
-- evaluation.
use Rattle.std.specs.Prelude.{ℕ, suc, Bool, false, nat_lt, nat_le, ◌==◌, ◌&&◌, ◌||◌, List, [], ◌∷◌, ◌++◌, if◌then◌else◌}
use Rattle.hare_tree.specs.declared.kind.Kind.{Kind}
use Rattle.hare_tree.specs.declared.kind.Kind.TheVariants as kind
use Rattle.hare_types.specs.Store.{Store}
use Rattle.hare_typed.specs.declared.cell.Cell.{Cell}
use Rattle.hare_typed.specs.declared.constant.ConstObject.{ConstObject}
use Rattle.hare_typed.specs.Typed.{TypedNode, TypedNodes, marked, typed_none, typed_more, head_of, kids_of}
use Rattle.hare_typed.specs.Weight.{items_of}
use Rattle.hare_typed.specs.Arithmetic.{logic_of, leaves_open}
use Rattle.hare_typed.specs.Evaluated.{is_evaluated, makes_slice}
use Rattle.hare_typed.specs.ConstantForms.{truth}
use Rattle.hare_const.specs.declared.operands.Operands.{Operands}
use Rattle.hare_const.specs.declared.operands.Operands.TheVariants.{NoKid, OneKid, TwoKids, RightIfOpen, Components, Fields, Elements}
use Rattle.hare_const.specs.declared.outcome.Outcome.{Outcome}
use Rattle.hare_const.specs.declared.outcome.Outcome.TheVariants.{Known, Aborts, Undefined}
use Rattle.hare_const.specs.NodeValues.{object_number, operands_of, kid_at, own_value, kid_values}

-- ---- kids

-- whether the value of the left operand leaves the answer of a logic operator open
abbrev pub is_open : TypedNode → Outcome → Bool
is_open t (Known a) = leaves_open (logic_of (head_of t).text) (truth a)
is_open t Aborts = false
is_open t Undefined = false

-- whether the kid with so many before it is evaluated for the value of its node; `first` is the value of the first kid
abbrev pub is_taken : TypedNode → Operands → (first : Outcome) → ℕ → Bool
is_taken t NoKid first i = false
is_taken t OneKid first i = i == 0
is_taken t TwoKids first i = nat_lt i 2
is_taken t RightIfOpen first i = (i == 0) || ((i == 1) && is_open t first)
is_taken t Components first i = nat_lt i (items_of kind.Tuple (kids_of t))
is_taken t Fields first i = nat_le 1 i && nat_le i (items_of kind.StructLit (kids_of t))
is_taken t Elements first i = nat_lt i (items_of kind.Array (kids_of t))

-- of lists that are counted from one on: those that are taken, one behind another
abbrev pub taken_from : ℕ → (ℕ → Bool) → List (List ConstObject) → List ConstObject
taken_from i takes [] = []
taken_from i takes (m ∷ ms) = (if takes i then m else []) ++ taken_from (suc i) takes ms

-- what the kids of a node make that are evaluated
abbrev pub made_by_kids : TypedNode → Operands → List Outcome → List (List ConstObject) → List ConstObject
made_by_kids t x os ms = taken_from 0 (is_taken t x (kid_at 0 os)) ms

-- ---- nodes

-- the object of an array that becomes a slice has the number of its node, and the cells of the array
abbrev pub own_object : Store → (own : ℕ) → TypedNode → List Cell → List ConstObject
own_object s own t cs = if makes_slice s t then record { object = object_number own t; cells = cs } ∷ [] else []

abbrev pub made_of_value : Store → (own : ℕ) → TypedNode → Outcome → List ConstObject
made_of_value s own t (Known cs) = own_object s own t cs
made_of_value s own t Aborts = []
made_of_value s own t Undefined = []

-- beside what its kids make
abbrev pub made_of_node : Store → (own : ℕ) → TypedNode → Kind → List Outcome → List ConstObject
made_of_node s own t k os = if is_evaluated k then made_of_value s own t (own_value s own t os) else []

abbrev pub made_by_node : Store → (own : ℕ) → TypedNode → Kind → List Outcome → List (List ConstObject) → List ConstObject
made_by_node s own t k os ms = made_by_kids t (operands_of k) os ms ++ made_of_node s own t k os

-- ---- trees

abbrev mutual
  pub made_by : Store → (own : ℕ) → TypedNode → List ConstObject
  made_by s own (marked h m ts) = made_by_node s own (marked h m ts) h.kind (kid_values s own ts) (made_by_each s own ts)

  pub made_by_each : Store → (own : ℕ) → TypedNodes → List (List ConstObject)
  made_by_each s own typed_none = []
  made_by_each s own (typed_more t ts) = made_by s own t ∷ made_by_each s own ts
