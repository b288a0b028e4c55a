-- What has been seen when a node's turn comes: the bindings so far, the values yielded so far, and the coercions that are settled.
use Rattle.std.specs.Prelude.{ℕ, Bool, true, false, not, cond, ◌==◌, nat_eq, List, [], ◌∷◌, ◌++◌, filter, length, map, slice_set, Option, Some, None}
use Rattle.hare_tree.specs.declared.kind.Kind.{Kind}
use Rattle.hare_tree.specs.declared.kind.Kind.TheVariants as ki
use Rattle.hare_tree.specs.declared.place.Place.{Place}
use Rattle.hare_tree.specs.declared.token.Meaning.{Meaning}
use Rattle.hare_tree.specs.Node.{Head}
use Rattle.hare_types.specs.declared.coercion.Ty.{Ty}
use Rattle.hare_types.specs.declared.coercion.Ty.TheVariants as ty
use Rattle.hare_types.specs.declared.coercion.Coercion.{Coercion}
use Rattle.hare_typed.specs.Typed.{TypedNode, marked, typed_none, typed_more, mark_of}
use Rattle.hare_typed.specs.Coats.{coat}
use Rattle.hare_typed.specs.Order.{tree_from_front}
use Rattle.hare_typed.specs.Copies.{has_defers as takes_yields}
use Rattle.hare_typed.specs.Given.{base_row, element_in}
use Rattle.hare_rules.specs.Words.{id_in}
use Rattle.hare_rules.specs.Context.{Setting, Context, Entry, Later, Known, Odd, Open, Given, place_of, is_there, own_type, store_of}
use Rattle.hare_typed.specs.Given.{given as seen}
use Rattle.hare_rules.specs.Aggregates.{pointer_to, callee_meaning}
use Rattle.hare_rules.specs.Control.{yield_level, binding_type}
use Rattle.hare_rules.specs.Settles.{Settled, same, own_coercion, settles_kids, settles_late}
use Rattle.hare_rules.specs.Types.{type_of}
use Rattle.hare_rules.specs.Rows.{is_judged}
use Rattle.hare_tree.specs.declared.token.Meaning.TheVariants as means
use Rattle.hare_rules.specs.Above.{Above}

-- a value that was yielded, and how many labels stand round its block or case
pub record Yielded : Type 0 where
  pub level : ℕ
  pub given : Given

pub record Flow : Type 0 where
  pub locals : List Entry  -- by the numbers of bindings
  pub yields : List Yielded  -- those whose block or case has not been judged yet
  pub coercions : List Coercion  -- one for each node that has been judged, in check order
  pub late : List Settled  -- what is settled of yielded values, and is written when the body is done

-- how many nodes have been judged
abbrev pub count : Flow → ℕ
count f = length f.coercions

-- ---- coercions

-- each node that is settled gets its coercion
abbrev pub write_each : List Settled → List Coercion → List Coercion
write_each [] cs = cs
write_each (x ∷ xs) cs = write_each xs (slice_set cs x.node x.coercion)

-- ---- yields

abbrev pub is_at : ℕ → Yielded → Bool
is_at n y = y.level == n

-- what was yielded to a block or case round which so many labels stand
abbrev pub yields_to : Kind → ℕ → List Yielded → List Given
yields_to k n ys = cond (takes_yields k) (map (λ y. y.given) (filter (is_at n) ys)) []

-- The value that a `yield` hands on; without one, the void that its absent part has, at the `yield`.
abbrev pub yielded : Head → TypedNode → Given
yielded h x = cond (is_there x) (record { place = place_of x; ty = Some (own_type x); node = Some (mark_of x).node })
    (record { place = h.place; ty = None; node = None })

abbrev pub add_yield : Head → List TypedNode → Option ℕ → List Yielded → List Yielded
add_yield h xs None ys = ys
add_yield h xs (Some n) ys = ys ++ record { level = n; given = yielded h (tree_from_front 0 xs) } ∷ []

abbrev pub yields_after : Kind → List Open → Head → List TypedNode → List Yielded → List Yielded
yields_after ki.Yield ls h xs ys = add_yield h xs (yield_level h.text ls) ys
yields_after k ls h xs ys = cond (takes_yields k) (filter (λ y. not (is_at (length ls) y)) ys) ys

-- ---- bindings

abbrev pub known_as : Bool → Option ℕ → Entry
known_as is_mutable None = Later
known_as is_mutable (Some t) = Known (record { ty = t; mutable = is_mutable })

-- A `let` and a `const` bind their value, and the `let` of a case that of its operand: each is known behind its node.
abbrev pub locals_after : Context → Kind → ℕ → List Entry → List Entry
locals_after c ki.Let n ls = slice_set ls n (known_as true (binding_type c))
locals_after c ki.Const n ls = slice_set ls n (known_as false (binding_type c))
locals_after c ki.PatternLet n ls = slice_set ls n (known_as true (id_in (own_type (tree_from_front 0 c.kids))))
locals_after c _ n ls = ls

abbrev pub is_by_reference : TypedNode → Bool
is_by_reference (marked h m typed_none) = false
is_by_reference (marked h m (typed_more t ts)) = is_there t

-- what the binding of a for-each is bound to: an element, or a pointer to it
abbrev pub bound_element : Setting → TypedNode → Option ℕ → Option ℕ
bound_element w x o = cond (is_by_reference x) (pointer_to w.store o) o

abbrev pub each_entry_of : Place → Option ℕ → Option ℕ → Entry
each_entry_of p None o = Odd p
each_entry_of p (Some t) None = Later
each_entry_of p (Some t) (Some u) = Known (record { ty = u; mutable = true })

-- the binding of a for-each is known behind the operand; over what is no array and no slice it is odd
abbrev pub each_entry : Setting → Head → List TypedNode → Entry
each_entry w h (x ∷ y ∷ []) = each_entry_of h.place (element_in (base_row w.store (seen y)))
    (bound_element w x (element_in (base_row w.store (seen y))))
each_entry w h xs = Later

abbrev pub is_behind_operand : Kind → ℕ → Bool
is_behind_operand ki.ForEach n = nat_eq n 2
is_behind_operand _ n = false

-- what has been seen when the kid behind these begins
abbrev pub flow_before : Setting → Above → Head → List TypedNode → Flow → Flow
flow_before w a h xs f =
    cond (is_behind_operand h.kind (length xs)) (record f { locals = slice_set f.locals a.first (each_entry w h xs) }) f

-- ---- a node's turn

abbrev pub is_path_kind : Kind → Bool
is_path_kind ki.Path = true
is_path_kind ki.TypePath = true
is_path_kind _ = false

-- what the names say of a path; a node that is none means nothing
abbrev pub meaning_of : Setting → Head → Meaning
meaning_of w h = cond (is_path_kind h.kind) (w.means h.place) means.None

-- what the names say of the path of a node: of itself, of the callee of a call, or of the type of a struct literal
abbrev pub path_meaning : Setting → Head → Kind → List TypedNode → Meaning
path_meaning w h ki.Call xs = callee_meaning (tree_from_front 0 xs)
path_meaning w h ki.StructLit xs = (mark_of (tree_from_front 0 xs)).meaning
path_meaning w h k xs = meaning_of w h

-- The context of a node, from what stands over it and what has been seen. The kids carry what is settled by now.
abbrev pub context : Setting → Above → Head → List TypedNode → Flow → Context
context w a h xs f =
    record {
      setting = w;
      locals = f.locals;
      head = h;
      node = count f;
      meaning = path_meaning w h h.kind xs;
      hint = a.hint;
      inside = a.inside;
      kids = map (coat f.coercions) xs;
      yields = yields_to h.kind (length a.inside.labels) f.yields;
    }

-- the coercion that a node has behind its turn
abbrev pub own_settled : Context → Ty → Coercion
own_settled c a = cond (is_judged c) (own_coercion (store_of c) c.hint a) (same a)

abbrev pub settled_type : Context → Option Ty → Coercion
settled_type c None = same ty.Null
settled_type c (Some a) = own_settled c a

-- what has been seen behind a node, of which this is the context
abbrev pub flow_with : Context → Above → Head → List TypedNode → Flow → Flow
flow_with c a h xs f =
    record {
      locals = locals_after c h.kind a.first f.locals;
      yields = yields_after h.kind a.inside.labels h xs f.yields;
      coercions = write_each (settles_kids c) (f.coercions ++ settled_type c (type_of c) ∷ []);
      late = f.late ++ settles_late c h.kind;
    }

abbrev pub flow_after : Setting → Above → Head → List TypedNode → Flow → Flow
flow_after w a h xs f = flow_with (context w a h xs f) a h xs f

-- all that is settled, when the body is done
abbrev pub all_settled : Flow → List Coercion
all_settled f = write_each f.late f.coercions

-- before a body of which these are the bindings: those of its parameters are known
abbrev pub flow_at : List Entry → Flow
flow_at ls = record { locals = ls; yields = []; coercions = []; late = [] }
