-- What stands round a node of a body: which bindings are in scope and what they are, where a jump may go, and what the function gives.
use Rattle.std.specs.Prelude.{ℕ, zero, suc, ◌+◌, Bool, nat_eq, List, [], ◌∷◌, ◌++◌, length, Option, Some, None, if◌then◌else◌}
use Rattle.hare_tree.specs.declared.kind.Kind.{Kind}
use Rattle.hare_tree.specs.declared.kind.Kind.TheVariants as kind
use Rattle.hare_types.specs.declared.coercion.Ty.{Ty}
use Rattle.hare_types.specs.declared.coercion.Ty.TheVariants as kept
use Rattle.hare_typed.specs.Typed.{TypedNode, TypedNodes, typed_none, typed_more, head_of, kids_of}
use Rattle.hare_typed.specs.Order.{kid_from_front}
use Rattle.hare_typed.specs.Constants.{own_kind}
use Rattle.hare_typed.specs.Numbers.{parameters_of}
use Rattle.hare_typed.specs.Bindings.{bindings_in, own_bindings}
use Rattle.hare_typed.specs.Given.{given, element}
use Rattle.hare_typed.specs.State.{Label}
use Rattle.hare_typed.specs.ConstantForms.{own_type, type_of_kid}
use Rattle.hare_meaning.specs.Code.{Code, declaration}
use Rattle.hare_meaning.specs.Steps.{bindings_before, is_meant}
use Rattle.hare_meaning.specs.Loops.{binds_address}
use Rattle.hare_meaning.specs.Choices.{pattern_type}
use Rattle.hare_meaning.specs.Calls.{type_of_parameter}

-- ---- bindings in scope

-- what a binding is: an object of a type, or the address of one
pub data Bound : Type 0 where
  Holds : Ty → Bound
  PointsTo : ℕ → Bound

-- by their numbers, the innermost first
abbrev pub Bindings : Type 0
Bindings = List (ℕ × Bound)

abbrev pub bound_at : Bindings → ℕ → Option Bound
bound_at [] x = None
bound_at (b ∷ bs) x = if nat_eq b.0 x then Some b.1 else bound_at bs x

-- ---- where a jump may go

-- a loop; a block or a case, which has no label; each with the type of what it gives
pub data Goal : Type 0 where
  Loop : Label → Ty → Goal
  Block : Label → Ty → Goal

-- what the nearest loop gives to which a `break` or `continue` with the label goes
abbrev pub loop_for : Label → List Goal → Option Ty
loop_for l [] = None
loop_for l (Loop own f ∷ gs) = if is_meant own l then Some f else loop_for l gs
loop_for l (Block own f ∷ gs) = loop_for l gs

-- the same of the nearest block or case, and a `yield`
abbrev pub block_for : Label → List Goal → Option Ty
block_for l [] = None
block_for l (Loop own f ∷ gs) = block_for l gs
block_for l (Block own f ∷ gs) = if is_meant own l then Some f else block_for l gs

-- ---- what stands round a node

pub record Around : Type 0 where
  pub code : Code
  pub own : ℕ  -- in which declaration
  pub first : ℕ  -- how many of its bindings begin before the node
  pub bindings : Bindings  -- those in scope
  pub goals : List Goal  -- the innermost first; within a deferred expression none of those outside
  pub result : Option Ty  -- what a `return` gives; none within a deferred expression

-- ---- what the parts of a node bind

-- a statement, where n bindings begin before it
abbrev pub bound_by : ℕ → TypedNode → Kind → Bindings
bound_by n t kind.Let = (n, Holds (type_of_kid 1 t)) ∷ []
bound_by n t kind.Const = (n, Holds (type_of_kid 1 t)) ∷ []
bound_by n t _ = []

-- so many of some statements, the last first
abbrev pub bound_before : (n many : ℕ) → TypedNodes → Bindings
bound_before n zero ts = []
bound_before n (suc i) typed_none = []
bound_before n (suc i) (typed_more t ts) = bound_before (n + bindings_in t) i ts ++ bound_by n t (own_kind t)

-- the pattern of a case
abbrev pub bound_by_pattern : ℕ → TypedNode → Kind → Bindings
bound_by_pattern n p kind.PatternLet = (n, Holds (pattern_type p)) ∷ []
bound_by_pattern n p _ = []

-- an element that a loop goes over, or its address
abbrev pub element_bound : ℕ → Bool → Option ℕ → Bindings
element_bound n by_address None = []
element_bound n by_address (Some x) = (n, if by_address then PointsTo x else Holds (kept.Of x)) ∷ []

-- Which bindings kid number i has in scope beside those of the node, where n begin before the node: those of the statements before it; the
-- one of a case's pattern in its statements; that of a loop's head behind the head; and the element of a loop in its body.
abbrev pub bound_for : Around → TypedNode → ℕ → Kind → Bindings
bound_for a t i kind.Block = bound_before a.first i (kids_of t)
bound_for a t zero kind.Case = []
bound_for a t (suc i) kind.Case =
    bound_before a.first (suc i) (kids_of t) ++ bound_by_pattern a.first (kid_from_front 0 t) (own_kind (kid_from_front 0 t))
bound_for a t i kind.SwitchCase = bound_before a.first i (kids_of t)
bound_for a t zero kind.For = []
bound_for a t (suc i) kind.For = bound_by a.first (kid_from_front 0 t) (own_kind (kid_from_front 0 t))
bound_for a t zero kind.ForEach = []
bound_for a t (suc zero) kind.ForEach = []
bound_for a t (suc (suc i)) kind.ForEach = element_bound a.first (binds_address t) (element a.code.types (type_of_kid 1 t))
bound_for a t i _ = []

-- ---- goals

-- what a node is to the jumps in its kid number i: a loop to all of its parts, and a case to its statements alone
abbrev pub goals_for : TypedNode → ℕ → List Goal → Kind → List Goal
goals_for t i gs kind.For = Loop (head_of t).text (own_type t) ∷ gs
goals_for t i gs kind.ForEach = Loop (head_of t).text (own_type t) ∷ gs
goals_for t i gs kind.Block = Block (head_of t).text (own_type t) ∷ gs
goals_for t zero gs kind.Case = gs
goals_for t (suc i) gs kind.Case = Block [] (own_type t) ∷ gs
goals_for t zero gs kind.SwitchCase = gs
goals_for t (suc i) gs kind.SwitchCase = Block [] (own_type t) ∷ gs
goals_for t i gs kind.Defer = []
goals_for t i gs _ = gs

abbrev pub result_for : Option Ty → Kind → Option Ty
result_for r kind.Defer = None
result_for r _ = r

-- ---- round a kid

-- what stands round kid number i of a node
abbrev pub around_kid : Around → TypedNode → ℕ → Around
around_kid a t i =
    record a {
      first = a.first + own_bindings (own_kind t) + bindings_before i (kids_of t);
      bindings = bound_for a t i (own_kind t) ++ a.bindings;
      goals = goals_for t i a.goals (own_kind t);
      result = result_for a.result (own_kind t);
    }

-- ---- round a body

-- the parameters of a function from a number on, the last first
abbrev pub parameter_bindings : ℕ → List TypedNode → Bindings
parameter_bindings n [] = []
parameter_bindings n (p ∷ ps) = parameter_bindings (n + 1) ps ++ (n, Holds (type_of_parameter p)) ∷ []

-- what a function gives
abbrev pub result_of_function : TypedNode → Ty
result_of_function f = given (kid_from_front 3 f)

-- what stands round the body of the function with this number
abbrev pub around_body : Code → ℕ → List TypedNode → Ty → Around
around_body c d ps r =
    record { code = c; own = d; first = length ps; bindings = parameter_bindings 0 ps; goals = []; result = Some r }

-- the same, of the function as it is declared
abbrev pub around_function : Code → ℕ → Around
around_function c d =
    let f = declaration c.declarations d in
    around_body c d (parameters_of f) (result_of_function f)
