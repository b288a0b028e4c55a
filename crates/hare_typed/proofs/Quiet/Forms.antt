-- The acts of the constant kinds end, look, make objects, add ticks and evaluate kids, and do nothing else.
use Rattle.std.proofs.Common.{ℕ, zero, suc, Bool, true, false, List, [], ◌∷◌, Option, Some, None}
use Rattle.std.specs.Prelude.{ℤ, if◌then◌else◌, not}
use Rattle.hare_tree.specs.declared.kind.Kind.{Kind}
use Rattle.hare_tree.specs.declared.kind.Kind.TheVariants as kind
use Rattle.hare_tree.specs.Node.{Head}
use Rattle.hare_typed.specs.declared.cell.Cell.{Cell}
use Rattle.hare_typed.specs.Typed.{TypedNode, head_of}
use Rattle.hare_typed.specs.Constants.{own_kind}
use Rattle.hare_typed.specs.Answers.{Answer, Gives, Aborts, IsUndefined}
use Rattle.hare_typed.specs.Scalars.{Pointer, Null}
use Rattle.hare_typed.specs.Objects.{reading}
use Rattle.hare_typed.specs.Words.{Words, words, same_text}
use Rattle.hare_typed.specs.State.{Scope, Mode, AsValue, AsPlace, Outcome, Value, Reached}
use Rattle.hare_typed.specs.Acts.{Act}
use Rattle.hare_typed.specs.World.{World, answered}
use Rattle.hare_typed.specs.Sequence.{on_value, on_place, value, place, values}
use Rattle.hare_typed.specs.Evaluated.{ValueForm, PlaceForm, is_evaluated, is_place, makes_slice, with_coercion, coerced_from, by_value, by_reading, place_as_value, place_in_mode, value_in_mode, evaluated, gives}
use Rattle.hare_typed.specs.ConstantForms.{with_numbers, arith_answer, shift_answer, Equality, OfNumbers, OfPointers, OfTexts, with_texts, with_equality, own_type, is_iconst}
use Rattle.hare_typed.specs.ConstantValues.{constant_form, constant_place, constant_node}
use Rattle.hare_typed.specs.Quiet.{IsQuiet, ends, looks, makes, ticks, asks}

-- ---- what acts are made of

quiet_if : (b : Bool) (x y : Act) → IsQuiet x → IsQuiet y → IsQuiet (if b then x else y)
quiet_if true x y p q = p
quiet_if false x y p q = q

-- whatever cells follow it, it is quiet
abbrev pub QuietBehind : (List Cell → Act) → Type 0
QuietBehind k = (cs : List Cell) → IsQuiet (k cs)

quiet_on_value : (k : List Cell → Act) → QuietBehind k → (o : Outcome) → IsQuiet (on_value k o)
quiet_on_value k h (Value cs) = h cs
quiet_on_value k h _ = ends _

quiet_on_place : (k : Pointer → Act) → ((p : Pointer) → IsQuiet (k p)) → (o : Outcome) → IsQuiet (on_place k o)
quiet_on_place k h (Reached p) = h p
quiet_on_place k h _ = ends _

quiet_answered : {A : Type 0} (w : World) (h : Head) (a : Answer A) (k : A → Act) → ((x : A) → IsQuiet (k x)) → IsQuiet (answered w h a k)
quiet_answered w h (Gives a) k q = q a
quiet_answered w h (Aborts r) k q = ends _
quiet_answered w h (IsUndefined u) k q = ends _

quiet_value : (i : ℕ) (sc : Scope) (k : List Cell → Act) → QuietBehind k → IsQuiet (value i sc k)
quiet_value i sc k h = asks i AsValue sc (on_value k) (quiet_on_value k h)

quiet_place_of : (i : ℕ) (sc : Scope) (k : Pointer → Act) → ((p : Pointer) → IsQuiet (k p)) → IsQuiet (place i sc k)
quiet_place_of i sc k h = asks i AsPlace sc (on_place k) (quiet_on_place k h)

quiet_values : (i n : ℕ) (sc : Scope) (k : List (List Cell) → Act) → ((cs : List (List Cell)) → IsQuiet (k cs)) → IsQuiet (values i n sc k)
quiet_values i zero sc k h = h []
quiet_values i (suc n) sc k h = quiet_value i sc _ (λ c. quiet_values (suc i) n sc _ (λ cs. h (c ∷ cs)))

-- ---- the kinds

quiet_numbers : (w : World) (t : TypedNode) (a b : List Cell) (f : ℤ → ℤ → Answer ℤ) (k : List Cell → Act) → QuietBehind k →
    IsQuiet (with_numbers w t a b f k)
quiet_numbers w t a b f k h = quiet_if (is_iconst (own_type t)) _ _ (h []) (quiet_answered w (head_of t) _ _ (λ v. h _))

quiet_texts : (w : World) (t : TypedNode) (v u : Words) (k : Bool → Act) → ((x : Bool) → IsQuiet (k x)) → IsQuiet (with_texts w t v u k)
quiet_texts w t v u k h =
    ticks _ _ (looks _ (λ m. quiet_answered w (head_of t) (same_text (reading m.objects) v u) k h))

quiet_equality : (w : World) (t : TypedNode) (e : Equality) (a b : List Cell) (k : Bool → Act) → ((x : Bool) → IsQuiet (k x)) →
    IsQuiet (with_equality w t e a b k)
quiet_equality w t OfNumbers a b k h = h _
quiet_equality w t OfPointers a b k h = looks _ (λ m. quiet_answered w (head_of t) _ k h)
quiet_equality w t OfTexts a b k h =
    quiet_answered w (head_of t) (words a) _ (λ v. quiet_answered w (head_of t) (words b) _ (λ u. quiet_texts w t v u k h))

quiet_form : (w : World) (t : TypedNode) (sc : Scope) (x : Kind) (k : List Cell → Act) → QuietBehind k → IsQuiet (constant_form w t sc x k)
quiet_form w t sc kind.Number k h = h _
quiet_form w t sc kind.RuneLit k h = h _
quiet_form w t sc kind.Bool k h = h _
quiet_form w t sc kind.Str k h = h _
quiet_form w t sc kind.Path k h = h _
quiet_form w t sc kind.Paren k h = quiet_value 0 sc k h
quiet_form w t sc kind.Neg k h = quiet_value 0 sc _ (λ c. h _)
quiet_form w t sc kind.Not k h = quiet_value 0 sc _ (λ c. h _)
quiet_form w t sc kind.Bang k h = quiet_value 0 sc _ (λ c. h _)
quiet_form w t sc kind.Arith k h = quiet_value 0 sc _ (λ a. quiet_value 1 sc _ (λ b. quiet_numbers w t a b (arith_answer w t) k h))
quiet_form w t sc kind.Shift k h = quiet_value 0 sc _ (λ a. quiet_value 1 sc _ (λ b. quiet_numbers w t a b (shift_answer w t) k h))
quiet_form w t sc kind.Less k h = quiet_value 0 sc _ (λ a. quiet_value 1 sc _ (λ b. h _))
quiet_form w t sc kind.Equal k h = quiet_value 0 sc _ (λ a. quiet_value 1 sc _ (λ b. quiet_equality w t _ a b _ (λ x. h _)))
quiet_form w t sc kind.Logic k h = quiet_value 0 sc _ (λ a. quiet_if _ _ _ (quiet_value 1 sc _ (λ b. h _)) (h _))
quiet_form w t sc kind.Cast k h = quiet_value 0 sc _ (λ c. h _)
quiet_form w t sc kind.StructLit k h = quiet_values 1 _ sc _ (λ cs. h _)
quiet_form w t sc kind.FieldValue k h = quiet_value 0 sc k h
quiet_form w t sc kind.Tuple k h = quiet_values 0 _ sc _ (λ cs. h _)
quiet_form w t sc kind.Array k h = quiet_values 0 _ sc _ (λ cs. h _)
quiet_form w t sc kind.Size k h = h _
quiet_form w t sc kind.Align k h = h _
quiet_form w t sc kind.Offset k h = h _
quiet_form w t sc kind.Len k h = quiet_value 0 sc _ (λ c. quiet_if _ _ _ (h _) (quiet_answered w (head_of t) _ _ (λ v. h _)))
quiet_form w t sc kind.Addr k h = quiet_place_of 0 sc _ (λ p. h _)
quiet_form w t sc _ k h = h []

quiet_place : (w : World) (t : TypedNode) (sc : Scope) (x : Kind) (k : Pointer → Act) → ((p : Pointer) → IsQuiet (k p)) →
    IsQuiet (constant_place w t sc x k)
quiet_place w t sc kind.Path k h = h _
quiet_place w t sc kind.Paren k h = quiet_place_of 0 sc k h
quiet_place w t sc _ k h = h Null

-- ---- what all nodes have in common

quiet_coercion : (w : World) (t : TypedNode) (cs : List Cell) (k : List Cell → Act) → QuietBehind k → IsQuiet (with_coercion w t cs k)
quiet_coercion w t cs k h = quiet_answered w (head_of t) _ k h

quiet_coerced_from : (w : World) (t : TypedNode) (sc : Scope) (cs : List Cell) (x : Option ℕ) (k : List Cell → Act) → QuietBehind k →
    IsQuiet (coerced_from w t sc cs x k)
quiet_coerced_from w t sc cs None k h = quiet_coercion w t cs k h
quiet_coerced_from w t sc cs (Some x) k h = makes _ _ _ (λ o. quiet_coercion w t _ k h)

-- the acts of a kind are quiet where what follows them is
abbrev pub QuietForm : ValueForm → Type 0
QuietForm f = (k : List Cell → Act) → QuietBehind k → IsQuiet (f k)

abbrev pub QuietPlace : PlaceForm → Type 0
QuietPlace f = (k : Pointer → Act) → ((p : Pointer) → IsQuiet (k p)) → IsQuiet (f k)

quiet_by_value : (w : World) (t : TypedNode) (sc : Scope) (f : ValueForm) (k : List Cell → Act) → QuietForm f → QuietBehind k →
    IsQuiet (by_value w t sc f k)
quiet_by_value w t sc f k q h = ticks _ _ (q _ (λ cs. quiet_coerced_from w t sc cs _ k h))

quiet_by_reading : (w : World) (t : TypedNode) (sc : Scope) (f : PlaceForm) → QuietPlace f → IsQuiet (by_reading w t sc f)
quiet_by_reading w t sc f q =
    ticks _ _ (q _ (λ p. looks _ (λ m. quiet_answered w (head_of t) _ _ (λ cs. quiet_coercion w t cs gives (λ ds. ends _)))))

quiet_place_as_value : (w : World) (t : TypedNode) (sc : Scope) (x : Kind) (f : ValueForm) (g : PlaceForm) → QuietForm f → QuietPlace g →
    IsQuiet (place_as_value w t sc x f g)
quiet_place_as_value w t sc kind.Paren f g p q = quiet_by_value w t sc f gives p (λ cs. ends _)
quiet_place_as_value w t sc _ f g p q = quiet_by_reading w t sc g q

quiet_place_in_mode : (w : World) (t : TypedNode) (mode : Mode) (sc : Scope) (f : ValueForm) (g : PlaceForm) → QuietForm f →
    QuietPlace g → IsQuiet (place_in_mode w t mode sc f g)
quiet_place_in_mode w t AsPlace sc f g p q = ticks _ _ (q _ (λ r. ends _))
quiet_place_in_mode w t AsValue sc f g p q =
    quiet_if (makes_slice w.types t) _ _ (ticks _ _ (q _ (λ r. quiet_coercion w t _ gives (λ cs. ends _))))
    (quiet_place_as_value w t sc (own_kind t) f g p q)

quiet_value_in_mode : (w : World) (t : TypedNode) (mode : Mode) (sc : Scope) (f : ValueForm) → QuietForm f →
    IsQuiet (value_in_mode w t mode sc f)
quiet_value_in_mode w t AsValue sc f p = quiet_by_value w t sc f gives p (λ cs. ends _)
quiet_value_in_mode w t AsPlace sc f p = quiet_by_value w t sc f _ p (λ cs. makes _ _ _ (λ o. ends _))

pub quiet_evaluated : (w : World) (t : TypedNode) (mode : Mode) (sc : Scope) (f : ValueForm) (g : PlaceForm) → QuietForm f →
    QuietPlace g → IsQuiet (evaluated w t mode sc f g)
quiet_evaluated w t mode sc f g p q =
    quiet_if (not (is_evaluated (own_kind t))) _ _ (ends _)
    (quiet_if (is_place w.types t) _ _ (quiet_place_in_mode w t mode sc f g p q) (quiet_value_in_mode w t mode sc f p))

pub quiet_node : (w : World) (t : TypedNode) (mode : Mode) (sc : Scope) → IsQuiet (constant_node w t mode sc)
quiet_node w t mode sc = quiet_evaluated w t mode sc _ _ (quiet_form w t sc (own_kind t)) (quiet_place w t sc (own_kind t))
