-- The kids of the node of a declaration, its value as it is in the end, and what the judging of a node with such kids comes to. No public
-- clause cites this.
use Rattle.std.specs.Prelude.{◌≡◌, ℕ, Bool, true, false, cond, List, [], ◌∷◌, Option, None, option_map}
use Rattle.hare_tree.specs.declared.place.Fault.{Fault}
use Rattle.hare_tree.specs.declared.place.Place.{Place}
use Rattle.hare_tree.specs.declared.stop.Stop.{Stop}
use Rattle.hare_tree.specs.declared.stop.Stop.TheVariants.{Fault as Refused, Memory}
use Rattle.hare_tree.specs.declared.token.Meaning.TheVariants as means
use Rattle.hare_tree.specs.Node.{Node, head}
use Rattle.hare_types.specs.declared.coercion.Ty.TheVariants as ty
use Rattle.hare_types.specs.Store.{Store}
use Rattle.hare_types.specs.Later.{IsLater}
use Rattle.hare_typed.specs.declared.constant.Const.TheVariants as constant
use Rattle.hare_typed.specs.Typed.{TypedNode, Mark, marked, typed_none, mark_of}
use Rattle.hare_typed.specs.Coats.{with_coercion}
use Rattle.hare_typed.specs.Folded.{inconstant}
use Rattle.hare_typed.specs.Order.{tree_from_front}
use Rattle.hare_rules.specs.declared.hint.Hint.TheVariants as hint
use Rattle.hare_rules.specs.declared.judged.Case.{Case}
use Rattle.hare_rules.specs.Constants.{is_absent_value}
use Rattle.hare_rules.specs.Context.{Setting, place_of, own_type, is_there}
use Rattle.hare_rules.specs.Rows.{first_failing}
use Rattle.hare_rules.specs.Settles.{same}
use Rattle.hare_rules.specs.Values.{to_default}
use Rattle.hare_modules.specs.Uses.{kid}
use Rattle.hare_whole.specs.Declared.{own_context}
use Rattle.hare_whole.specs.Turns.{plain_of, type_or_plain}
use Rattle.hare_bindings.specs.Bindings.{FailsAt}

-- ---- kids

-- what a tree carries of which nothing is asked, where this is the id of void
abbrev pub void_mark : ℕ → Mark
void_mark void = record { node = 0; ty = ty.Of void; coerce = same (ty.Of void); meaning = means.None; value = constant.Absent }

abbrev pub void_leaf : ℕ → Node → TypedNode
void_leaf void t = marked (head t) (void_mark void) typed_none

-- the written type, or what stands in its place
abbrev pub type_or_leaf : ℕ → Node → List TypedNode → TypedNode
type_or_leaf void t [] = void_leaf void t
type_or_leaf void t (x ∷ xs) = x

abbrev pub kids_with : ℕ → Node → List TypedNode → TypedNode → List TypedNode
kids_with void t ts v = void_leaf void (kid t 0) ∷ void_leaf void (kid t 1) ∷ type_or_leaf void (kid t 2) ts ∷ v ∷ []

-- in each later store these are the kids of the node
abbrev pub AreKidsOf : Store → Node → List TypedNode → TypedNode → List TypedNode → Type 0
AreKidsOf s t ts v xs =
    (w : Setting) → IsLater s w.store → xs ≡ plain_of w (kid t 0) ∷ plain_of w (kid t 1) ∷ type_or_plain w (kid t 2) ts ∷ v ∷ []

-- ---- the value

-- the value as it is in the end: without a written type it goes to its default
abbrev pub in_the_end : Store → Bool → TypedNode → TypedNode
in_the_end f written v = cond written v (with_coercion (to_default f (own_type v)) v)

-- that of a node with these kids
abbrev pub value_among : Store → List TypedNode → TypedNode
value_among f xs = in_the_end f (is_there (tree_from_front 2 xs)) (tree_from_front 3 xs)

-- where the first node of a value stands that is not constant or would abort
abbrev pub place_inside : Store → ℕ → TypedNode → Option Place
place_inside f n v = option_map place_of (inconstant f n v)

-- where the value among these kids is not constant, in each later store, where it has no constant
abbrev pub IsPlaceAmong : Store → ℕ → List TypedNode → Option Place → Type 0
IsPlaceAmong s n xs o =
    is_absent_value (mark_of (tree_from_front 3 xs)).value ≡ true → (f : Store) → IsLater s f → o ≡ place_inside f n (value_among f xs)

-- ---- the node

-- Nothing is asked of a declaration, and nothing stands round it. No row of its kinds reads the result.
abbrev pub case_of : ℕ → ℕ → Case
case_of own result =
    record {
      hint = hint.None;
      meaning = means.None;
      yields = [];
      inside = record { own = own; result = result; labels = []; deferred = false; body = false };
    }

-- over each later store the node with these kids meets its rows
abbrev pub MeetsRows : Store → ℕ → Node → List TypedNode → Type 0
MeetsRows s n t xs = (w : Setting) → IsLater s w.store → first_failing (own_context w n (head t) xs) ≡ None

-- over each later store a fault that is told is that of the first row that it fails
abbrev pub IsRowsStop : Store → ℕ → Node → List TypedNode → Stop Fault → Type 0
IsRowsStop s n t xs Memory = Unit {0}
IsRowsStop s n t xs (Refused e) = (w : Setting) → IsLater s w.store → FailsAt (own_context w n (head t) xs) e
