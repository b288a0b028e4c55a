-- The constant that the tree of a node carries by its role.
use Rattle.std.specs.Prelude.{ℕ}
use Rattle.hare_types.specs.Store.{Store}
use Rattle.hare_typed.specs.declared.constant.Const.{Const}
use Rattle.hare_typed.specs.Typed.{TypedNode, marked, mark_of}
use Rattle.hare_typed.specs.Coats.{with_coercion}
use Rattle.hare_typed.specs.Folded.{folded}
use Rattle.hare_rules.specs.declared.hint.Hint.{Hint}
use Rattle.hare_rules.specs.Context.{Role, Ordinary, Callee, Length, BindingType, CaseValue, DeclaredValue}
use Rattle.hare_rules.specs.Settles.{own_coercion}
use Rattle.hare_rules.specs.Values.{declared_coercion}

-- the tree with this constant at its root
abbrev pub with_constant : Const → TypedNode → TypedNode
with_constant v (marked h m ts) = marked h (record m { value = v }) ts

-- The constant of a tree that is asked for this: a value of a case and the value of a declaration are folded as they will be, any other
-- tree has what stands in it.
abbrev pub constant_in : Role → Store → Hint → (own : ℕ) → TypedNode → Const
constant_in CaseValue s h own t = folded s own (with_coercion (own_coercion s h (mark_of t).ty) t)
constant_in DeclaredValue s h own t = folded s own (with_coercion (declared_coercion s h (mark_of t).ty) t)
constant_in Ordinary s h own t = (mark_of t).value
constant_in Callee s h own t = (mark_of t).value
constant_in Length s h own t = (mark_of t).value
constant_in BindingType s h own t = (mark_of t).value
