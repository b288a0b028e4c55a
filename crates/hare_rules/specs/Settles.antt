-- What a node's turn settles: its own coercion, by its hint, and the coercions of kids and of yielded values that were given no hint of
-- a type.
use Rattle.std.specs.Prelude.{ℕ, zero, suc, Bool, true, false, not, ◌&&◌, nat_eq, nat_lt, List, [], ◌∷◌, ◌++◌, length, Option, Some, None, is_none}
use Rattle.std.specs.Option.{unwrap_or}
use Rattle.hare_tree.specs.declared.kind.Kind.{Kind}
use Rattle.hare_tree.specs.declared.kind.Kind.TheVariants as ki
use Rattle.hare_types.specs.declared.coercion.Ty.{Ty}
use Rattle.hare_types.specs.declared.coercion.Coercion.{Coercion}
use Rattle.hare_types.specs.Store.{Store}
use Rattle.hare_types.specs.Assign.{coercion}
use Rattle.hare_typed.specs.Typed.{TypedNode, mark_of}
use Rattle.hare_typed.specs.Coats.{with_coercion}
use Rattle.hare_rules.specs.declared.hint.Hint.{Hint}
use Rattle.hare_rules.specs.declared.hint.Hint.TheVariants as hint
use Rattle.hare_rules.specs.Words.{id_in, common, common_type, are_iconsts, default_in}
use Rattle.std.specs.Option.{option_or}
use Rattle.hare_rules.specs.Context.{Context, Given, store_of, kid, own_type}
use Rattle.hare_rules.specs.Joined.{joined}
use Rattle.hare_rules.specs.Operators.{first_seen, second_seen, goes_to_other, is_shift_sign, written}
use Rattle.hare_rules.specs.Aggregates.{tuple_items, is_hinted_tuple, array_items, hinted_element, has_capacity}
use Rattle.hare_rules.specs.Control.{has_written_type, type_kid_of, has_else, branches, block_values, case_values}
use Rattle.hare_rules.specs.Constants.{switched}
use Rattle.hare_rules.specs.Above.{object_hint, hint_id}

-- the coercion of what stays as it is
abbrev pub same : Ty → Coercion
same a = record { row = 1; to = a }

-- what becomes of the value of one node
pub record Settled : Type 0 where
  pub node : ℕ
  pub coercion : Coercion

-- A value goes to the type, where there is one and it may be assigned to it; else it stays as it is.
abbrev pub to_type : Store → Ty → Option ℕ → Coercion
to_type s a None = same a
to_type s a (Some t) = unwrap_or (coercion s a t) (same a)

-- ---- kids. Each is named by its place among the kids, from 0.

abbrev pub default_at : Context → ℕ → Option ℕ
default_at c i = default_in (store_of c) (own_type (kid c i))

abbrev pub only_where : {A : Type 0} → Bool → Option A → Option A
only_where true o = o
only_where false o = None

-- operands with a common type go to it
abbrev pub common_target : Context → Option ℕ
common_target c = common_type (common (store_of c) (first_seen c) (second_seen c))

-- `null` and `*X` go to the type of the other operand, where that may be null
abbrev pub other_target : Context → Ty → Ty → Option ℕ
other_target c a b = only_where (goes_to_other (store_of c) a b) (id_in b)

abbrev pub equal_target : Context → ℕ → Option ℕ
equal_target c zero = option_or (common_target c) (other_target c (first_seen c) (second_seen c))
equal_target c (suc i) = option_or (common_target c) (other_target c (second_seen c) (first_seen c))

-- the left operand of a shift goes to its default, unless both are whole numbers without a suffix; the right one stays
abbrev pub shift_target : Context → ℕ → Option ℕ
shift_target c i = only_where (nat_eq i 0 && not (are_iconsts (first_seen c) (second_seen c))) (default_at c i)

-- the right side goes to the type of the left one, but for a shift
abbrev pub op_assign_target : Context → ℕ → Option ℕ
op_assign_target c i = only_where (nat_eq i 1 && not (is_shift_sign c.head.text)) (id_in (first_seen c))

abbrev pub tuple_target : Context → ℕ → Option ℕ
tuple_target c i = only_where (not (is_hinted_tuple c) && nat_lt i (length (tuple_items c))) (default_at c i)

abbrev pub array_target : Context → ℕ → Option ℕ
array_target c i = only_where (nat_eq i 0 && nat_lt 0 (length (array_items c)) && is_none (hinted_element (store_of c) c.hint))
    (default_at c i)

-- the operand of `alloc` goes to its default, where no hint says what the object is
abbrev pub alloc_target : Context → ℕ → Option ℕ
alloc_target c i = only_where (nat_eq i 0 && not (has_capacity c) && is_none (hint_id (object_hint c.setting c.hint))) (default_at c i)

abbrev pub binding_target : Context → ℕ → Option ℕ
binding_target c i = only_where (nat_eq i (suc (type_kid_of c.head.kind)) && not (has_written_type c)) (default_at c i)

-- values that are joined go to their type, unless a hint has been given to them
abbrev pub joined_target : Store → Hint → List Given → Option ℕ
joined_target s hint.None vs = joined s hint.None vs
joined_target s hint.Drop vs = None
joined_target s (hint.Of t) vs = None

abbrev pub branch_target : Context → ℕ → Option ℕ
branch_target c i = only_where (nat_lt 0 i && has_else c) (joined_target (store_of c) c.hint (branches c))

abbrev pub case_target : Context → ℕ → Option ℕ
case_target c i = only_where (nat_lt 0 i) (joined_target (store_of c) c.hint (case_values c))

abbrev pub switch_target : Context → ℕ → Option ℕ
switch_target c zero = switched c
switch_target c (suc i) = case_target c (suc i)

-- The type to which a kid goes that was given no hint of a type; none where it stays as it is.
abbrev pub target_of : Context → Kind → ℕ → Option ℕ
target_of c ki.Arith i = common_target c
target_of c ki.Less i = common_target c
target_of c ki.Equal i = equal_target c i
target_of c ki.Shift i = shift_target c i
target_of c ki.OpAssign i = op_assign_target c i
target_of c ki.Cast i = only_where (nat_eq i 0) (written c 1)
target_of c ki.Tuple i = tuple_target c i
target_of c ki.Array i = array_target c i
target_of c ki.Alloc i = alloc_target c i
target_of c ki.Let i = binding_target c i
target_of c ki.Const i = binding_target c i
target_of c ki.Def i = binding_target c i
target_of c ki.GlobalLet i = binding_target c i
target_of c ki.GlobalConst i = binding_target c i
target_of c ki.If i = branch_target c i
target_of c ki.Match i = case_target c i
target_of c ki.Switch i = switch_target c i
target_of c _ i = None

-- the coercion of a kid that was given no hint of a type
abbrev pub kid_coercion : Context → ℕ → Coercion
kid_coercion c i = to_type (store_of c) (own_type (kid c i)) (target_of c c.head.kind i)

abbrev pub settled_where : Context → TypedNode → ℕ → Option ℕ → List Settled
settled_where c x i None = []
settled_where c x i (Some t) = record { node = (mark_of x).node; coercion = kid_coercion c i } ∷ []

abbrev pub settles_from : Context → ℕ → List TypedNode → List Settled
settles_from c i [] = []
settles_from c i (x ∷ xs) = settled_where c x i (target_of c c.head.kind i) ++ settles_from c (suc i) xs

-- what is settled of the kids
abbrev pub settles_kids : Context → List Settled
settles_kids c = settles_from c 0 c.kids

-- ---- the kids behind the node's turn

abbrev pub settled_kid : Context → ℕ → Option ℕ → TypedNode → TypedNode
settled_kid c i None x = x
settled_kid c i (Some t) x = with_coercion (kid_coercion c i) x

abbrev pub settled_from : Context → ℕ → List TypedNode → List TypedNode
settled_from c i [] = []
settled_from c i (x ∷ xs) = settled_kid c i (target_of c c.head.kind i) x ∷ settled_from c (suc i) xs

-- the kids with the coercions that the node settles of them
abbrev pub settled_kids : Context → List TypedNode
settled_kids c = settled_from c 0 c.kids

-- ---- the node itself

-- A value goes to its hint; without one it stays as it is.
abbrev pub own_coercion : Store → Hint → Ty → Coercion
own_coercion s (hint.Of t) a = to_type s a (Some t)
own_coercion s hint.Drop a = same a
own_coercion s hint.None a = same a

-- ---- yielded values

abbrev pub given_to : Store → Option ℕ → Option ℕ → Option Ty → List Settled
given_to s (Some t) (Some n) (Some a) = record { node = n; coercion = to_type s a (Some t) } ∷ []
given_to s _ _ _ = []

abbrev pub each_given_to : Store → Option ℕ → List Given → List Settled
each_given_to s o [] = []
each_given_to s o (g ∷ gs) = given_to s o g.node g.ty ++ each_given_to s o gs

-- What is settled of the values that are yielded to a block or a case. They stand anywhere below it, so no row reads it: it is written
-- when the body is done.
abbrev pub settles_late : Context → Kind → List Settled
settles_late c ki.Block = each_given_to (store_of c) (joined_target (store_of c) c.hint (block_values c)) c.yields
settles_late c ki.Case = each_given_to (store_of c) (joined_target (store_of c) c.hint (block_values c)) c.yields
settles_late c ki.SwitchCase = each_given_to (store_of c) (joined_target (store_of c) c.hint (block_values c)) c.yields
settles_late c _ = []
