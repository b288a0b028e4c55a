-- Kids without their coercions: what hints read of them.
use Rattle.std.proofs.Common.{◌≡◌, ℕ, zero, suc, ◌+◌, ◌<◌, ◌≤◌, false, cond, List, [], ◌∷◌, map, drop, length, Option, Some, None, refl, ap, ap₂, sym, ◌∙◌, arith}
use Rattle.std.proofs.Common.{◌-◌, length-drop}
use Rattle.std.specs.Prelude.{is_some}
use Rattle.hare_tree.specs.Shape.{is_none as is_left_out}
use Rattle.hare_typed.specs.Coercions.{element_of_slice as slice_element}
use Rattle.std.proofs.lemmas.Option.{slice_get_within, get_or_from_slice_get}
use Rattle.std.specs.Prelude.{slice_get, option_and_then, IfSome, Contains}
use Rattle.hare_tree.specs.Node.{Head, Node, Nodes, nodes_of, head}
use Rattle.hare_tree.specs.declared.kind.Kind.{Kind}
use Rattle.hare_tree.specs.declared.kind.Kind.TheVariants as ki
use Rattle.hare_tree.specs.declared.token.Meaning.{Meaning}
use Rattle.hare_types.specs.declared.coercion.Ty.{Ty}
use Rattle.hare_types.specs.declared.coercion.Ty.TheVariants as ty
use Rattle.hare_types.specs.declared.row.Row.{Row}
use Rattle.hare_types.specs.declared.row.Row.TheVariants as row
use Rattle.hare_types.specs.Store.{Store}
use Rattle.hare_types.specs.Sound.{IsStore}
use Rattle.hare_types.specs.ByIds.{row_at, base_at}
use Rattle.rule_judge.specs.Defined.{IsDefined, IsDefinedTy, HoldsDefined}
use Rattle.rule_judge.proofs.BaseLemmas.{base_held}
use Rattle.rule_mem.proofs.StructLemmas.{field_defined}
use Rattle.hare_typed.specs.Typed.{TypedNode, marked}
use Rattle.hare_typed.specs.Given.{given, base_row}
use Rattle.hare_typed.specs.Order.{tree_from_front}
use Rattle.hare_rules.specs.declared.hint.Hint.{Hint}
use Rattle.hare_rules.specs.declared.hint.Hint.TheVariants as hint
use Rattle.hare_rules.specs.Context.{Setting, own_type}
use Rattle.hare_rules.specs.Words.{id_in, default_in, allocation, with_refusal}
use Rattle.hare_rules.specs.Above.{Above, asked, hint_id, refusable_hint, allocates, first_allocates, item_hint_by, field_hint, argument_hint, param_at, values_under, hint_to, hint_seen, first, by_place, written_hint, declared_hint, next_kind, count_of, component_at, component_hint, appended_hint}
use Rattle.hare_rules.specs.Aggregates.{callee_meaning, called, field_type, hinted_components}
use Rattle.hare_rules.specs.Finished.{bare}
use Rattle.rule_ctl.specs.Tried.{made_of}

pub length-bare : (xs : List TypedNode) → length (map bare xs) ≡ length xs
length-bare [] = refl
length-bare (x ∷ xs) = ap suc (length-bare xs)

pub given-bare : (x : TypedNode) → given (bare x) ≡ own_type x
given-bare (marked h m ts) = refl

pub own-bare : (x : TypedNode) → own_type (bare x) ≡ own_type x
own-bare (marked h m ts) = refl

pub written-bare : (x : TypedNode) → written_hint (bare x) ≡ written_hint x
written-bare (marked h m ts) = refl

pub meaning-bare : (x : TypedNode) → callee_meaning (bare x) ≡ callee_meaning x
meaning-bare (marked h m ts) = refl

-- the second kid alone is asked
pub seen-second : (xs : List TypedNode) (h : Hint) → length xs ≡ 1 → h ≡ hint_to (id_in (own_type (tree_from_front 0 xs))) →
    h ≡ by_place (length (map bare xs)) (hint.None ∷ hint_seen (first (map bare xs)) ∷ []) hint.None
seen-second [] h e g = absurd (omega (arith, e))
seen-second (x ∷ []) h e g = g ∙ ap (λ (a : Ty). hint_to (id_in a)) (sym (given-bare x))
seen-second (x ∷ y ∷ xs) h e g = absurd (omega (arith, e))

pub written-second : (xs : List TypedNode) (h : Hint) → length xs ≡ 1 → h ≡ written_hint (tree_from_front 0 xs) →
    h ≡ by_place (length (map bare xs)) (hint.None ∷ written_hint (first (map bare xs)) ∷ []) hint.None
written-second [] h e g = absurd (omega (arith, e))
written-second (x ∷ []) h e g = g ∙ sym (written-bare x)
written-second (x ∷ y ∷ xs) h e g = absurd (omega (arith, e))

pub declared-fourth : (xs : List TypedNode) (h : Hint) → 3 ≤ length xs → h ≡ written_hint (tree_from_front 2 xs) →
    h ≡ declared_hint (map bare xs)
declared-fourth [] h e g = absurd (omega (arith, e))
declared-fourth (x ∷ []) h e g = absurd (omega (arith, e))
declared-fourth (x ∷ y ∷ []) h e g = absurd (omega (arith, e))
declared-fourth (x ∷ y ∷ z ∷ xs) h e g = g ∙ sym (written-bare z)

-- what stands behind the next kid
after : (ts : List Node) (i : ℕ) (t : Node) → slice_get ts i ≡ Some t → (head t).kind ≡ next_kind (nodes_of (drop i ts))
after [] i t e = cc
after (u ∷ us) zero t e = let same : t ≡ u = cc in ap (λ x. (head x).kind) same
after (u ∷ us) (suc i) t e = after us i t e

pub behind-kid : (ts : List Node) (i n : ℕ) (t : Node) (k : Kind) → k ≡ (head t).kind → n ≡ i + 1 → slice_get ts n ≡ Some t →
    k ≡ next_kind (nodes_of (drop (i + 1) ts))
behind-kid ts i n t k e g h = e ∙ after ts n t h ∙ ap (λ m. next_kind (nodes_of (drop m ts))) g

pub place-later : (xs : List TypedNode) (h g : Hint) → (length xs ≡ 0 → ⊥) → g ≡ by_place (length xs) (h ∷ []) g
place-later [] h g e = absurd (e refl)
place-later (x ∷ xs) h g e = refl

pub head-node : (ts : List Node) (t : Node) → slice_get ts 0 ≡ Some t → allocates t ≡ first_allocates (nodes_of ts)
head-node [] t e = cc
head-node (u ∷ us) t e = let same : t ≡ u = cc in ap allocates same

-- ---- hints of later kids

pub default-later : (w : Setting) (xs : List TypedNode) (o r : Option ℕ) (h : Hint) → (length xs ≡ 0 → ⊥) → None ≡ o →
    r ≡ default_in w.store (own_type (tree_from_front 0 xs)) →
    h ≡ hint_to r → h ≡ item_hint_by w o (map bare xs)
default-later w [] o r h k n e g = absurd (k refl)
default-later w (x ∷ xs) o r h k n e g =
    g ∙ ap hint_to (e ∙ ap (default_in w.store) (sym (own-bare x))) ∙ ap (λ p. item_hint_by w p (bare x ∷ map bare xs)) n

pub field-later : (w : Setting) (xs : List TypedNode) (k : Head) (o : Option ℕ) (h : Hint) → (length xs ≡ 0 → ⊥) →
    o ≡ field_type w.store (base_row w.store (own_type (tree_from_front 0 xs))) k.text → h ≡ hint_to o → h ≡ field_hint w (map bare xs) k
field-later w [] k o h n e g = absurd (n refl)
field-later w (x ∷ xs) k o h n e g = g ∙ ap hint_to (e ∙ ap (λ (a : Ty). field_type w.store (base_row w.store a) k.text) (sym (own-bare x)))

pub argument-later : (w : Setting) (xs : List TypedNode) (n : ℕ) (m : Meaning) (o : Option ℕ) (h : Hint) → length xs ≡ suc n →
    m ≡ callee_meaning (tree_from_front 0 xs) → o ≡ param_at (called w m) n → h ≡ hint_to o →
    h ≡ argument_hint w (map bare xs) (length (map bare xs))
argument-later w [] n m o h e g k i = absurd (omega (arith, e))
argument-later w (x ∷ xs) n m o h e g k i =
    let p : length (map bare xs) ≡ n = length-bare xs ∙ omega (arith, e) in
    i ∙ ap hint_to (k ∙ ap₂ (λ y z. param_at (called w y) z) (g ∙ sym (meaning-bare x)) (sym p))

pub values-later : (w : Setting) (a : Above) (xs : List TypedNode) (k : Kind) (o : Option ℕ) (h : Hint) → k ≡ ki.Switch →
    (length xs ≡ 0 → ⊥) →
    o ≡ default_in w.store (own_type (tree_from_front 0 xs)) → h ≡ hint_to o → h ≡ values_under w a k (map bare xs)
values-later w a [] k o h s n e g = absurd (n refl)
values-later w a (x ∷ xs) k o h s n e g =
    g ∙ ap hint_to (e ∙ ap (default_in w.store) (sym (own-bare x))) ∙ ap (λ y. values_under w a y (bare x ∷ map bare xs)) (sym s)

-- ---- tuples

count-nodes : (ts : List Node) → count_of (nodes_of ts) ≡ length ts
count-nodes [] = refl
count-nodes (t ∷ ts) = ap suc (count-nodes ts)

-- those that are done, the next one and those behind it are all
kids-count : (xs : List TypedNode) (ts : List Node) (t : Node) → slice_get ts (length xs) ≡ Some t →
    length (map bare xs) + suc (count_of (nodes_of (drop (length xs + 1) ts))) ≡ length ts
kids-count xs ts t e =
    let within : length xs < length ts = slice_get_within ts (length xs) t e in
    omega (arith, length-bare xs, count-nodes (drop (length xs + 1) ts), length-drop (length xs + 1) ts)

pub component-next : (w : Setting) (h g : Hint) (o : Option (List ℕ)) (xs : List TypedNode) (ts : List Node) (t : Node) (m : ℕ) →
    slice_get ts (length xs) ≡ Some t → m ≡ length ts - 1 → o ≡ hinted_components w.store h m → g ≡ hint_to (component_at o (length xs)) →
    g ≡ component_hint w h (length (map bare xs) + suc (count_of (nodes_of (drop (length xs + 1) ts)))) (length (map bare xs))
component-next w h g o xs ts t m e k n i =
    let same : m ≡ (length (map bare xs) + suc (count_of (nodes_of (drop (length xs + 1) ts)))) - 1 =
    k ∙ ap (λ x. x - 1) (sym (kids-count xs ts t e)) in
    i ∙ ap₂ (λ y z. hint_to (component_at y z)) (n ∙ ap (hinted_components w.store h) same) (sym (length-bare xs))

-- what holds of each component holds of one
pub component-held : (P : ℕ → Type 0) (ts : List ℕ) (i : ℕ) (o : Option ℕ) → ((t : ℕ) → Contains ts t → P t) → o ≡ slice_get ts i →
    IfSome o P
component-held P ts i None h e = tt
component-held P ts i (Some t) h e = h t (i, slice_get_within ts i t (sym e), get_or_from_slice_get ts i t t (sym e))

-- ---- allocations

pub refusable-none : (w : Setting) (h : Hint) (t : ℕ) → Some t ≡ option_and_then (allocation w.store) (hint_id h) →
    None ≡ made_of w.store t →
    hint_to None ≡ refusable_hint w (asked w h)
refusable-none w h t e k = ap (λ o. hint_to (option_and_then (with_refusal w.store) o)) k ∙ ap (refusable_hint w) e

pub refusable-some : (w : Setting) (h : Hint) (t : ℕ) → Some t ≡ option_and_then (allocation w.store) (hint_id h) → (p u : ℕ) →
    Some p ≡ made_of w.store t →
    with_refusal w.store p ≡ Some u → hint_to (Some u) ≡ refusable_hint w (asked w h)
refusable-some w h t e p u k g =
    ap hint_to (sym g) ∙ ap (λ o. hint_to (option_and_then (with_refusal w.store) o)) k ∙ ap (refusable_hint w) e

-- ---- fields

field_row-defined : (s : Store) (r : Option Row) (text : List ℕ) (o : Option ℕ) → ((q : Row) → r ≡ Some q → HoldsDefined s q) →
    o ≡ field_type s r text → IfSome o (IsDefined s)
field_row-defined s (Some (row.Struct fs)) text o h e = field_defined s (row.Struct fs) fs text o (h (row.Struct fs) refl) refl e
field_row-defined s None text o h e = rw e tt
field_row-defined s (Some _) text o h e = rw e tt

field_base-defined : (s : Store) → IsStore s → (t : ℕ) (b : Option ℕ) (text : List ℕ) (o : Option ℕ) → IsDefined s t → base_at s t ≡ b →
    o ≡ field_type s (option_and_then (row_at s) b) text → IfSome o (IsDefined s)
field_base-defined s v t None text o d g e = rw e tt
field_base-defined s v t (Some b) text o d g e = field_row-defined s (row_at s b) text o (λ q k. base_held s v (ty.Of t) t b q refl d g k) e

pub field_type-defined : (s : Store) → IsStore s → (a : Ty) (text : List ℕ) (o : Option ℕ) → IsDefinedTy s a →
    o ≡ field_type s (base_row s a) text → IfSome o (IsDefined s)
field_type-defined s v (ty.Of t) text o d e = field_base-defined s v t (base_at s t) text o d refl e
field_type-defined s v (ty.Iconst n) text o d e = rw e tt
field_type-defined s v ty.Null text o d e = rw e tt
field_type-defined s v ty.Empty text o d e = rw e tt

-- ---- what is put behind a slice

not-left_out : (k : Kind) → (k ≡ ki.None → ⊥) → is_left_out k ≡ false
not-left_out ki.None h = absurd (h refl)
not-left_out _ h = refl

abbrev appended_by : Option ℕ → Hint → Nodes → Hint
appended_by o h rest = cond (is_some o) (cond (is_left_out (next_kind rest)) (hint_to o) h) hint.None

-- the hint of what stands behind this slice, whose element is known
appended-as : (w : Setting) (x : TypedNode) (rest : Nodes) (o : Option ℕ) → o ≡ slice_element (base_row w.store (own_type x)) →
    appended_by o (hint_to (id_in (own_type x))) rest ≡ appended_hint w (bare x) rest
appended-as w x rest o e =
    ap (λ p. appended_by p (hint_to (id_in (own_type x))) rest) e
    ∙ ap (λ (a : Ty). appended_by (slice_element (base_row w.store a)) (hint_to (id_in a)) rest) (sym (given-bare x))

appended-second : (w : Setting) (xs : List TypedNode) (rest : Nodes) (o : Option ℕ) (h : Hint) → length xs ≡ 1 →
    o ≡ slice_element (base_row w.store (own_type (tree_from_front 0 xs))) →
    h ≡ appended_by o (hint_to (id_in (own_type (tree_from_front 0 xs)))) rest →
    h ≡ by_place (length (map bare xs)) (hint.None ∷ appended_hint w (first (map bare xs)) rest ∷ []) hint.None
appended-second w [] rest o h k e g = absurd (omega (arith, k))
appended-second w (x ∷ []) rest o h k e g = g ∙ appended-as w x rest o e
appended-second w (x ∷ y ∷ xs) rest o h k e g = absurd (omega (arith, k))

-- what is no slice has no element
pub appended-nothing : (w : Setting) (xs : List TypedNode) (rest : Nodes) → length xs ≡ 1 →
    None ≡ slice_element (base_row w.store (own_type (tree_from_front 0 xs))) →
    hint.None ≡ by_place (length (map bare xs)) (hint.None ∷ appended_hint w (first (map bare xs)) rest ∷ []) hint.None
appended-nothing w xs rest k e = appended-second w xs rest None hint.None k e refl

pub appended-element : (w : Setting) (xs : List TypedNode) (rest : Nodes) (t : ℕ) → length xs ≡ 1 →
    Some t ≡ slice_element (base_row w.store (own_type (tree_from_front 0 xs))) → ki.None ≡ next_kind rest →
    hint.Of t ≡ by_place (length (map bare xs)) (hint.None ∷ appended_hint w (first (map bare xs)) rest ∷ []) hint.None
appended-element w xs rest t k e g =
    appended-second w xs rest (Some t) (hint.Of t) k e
    (ap (λ x. cond (is_left_out x) (hint.Of t) (hint_to (id_in (own_type (tree_from_front 0 xs))))) g)

-- with `...` its own type is asked for
pub appended-slice : (w : Setting) (xs : List TypedNode) (rest : Nodes) (t : ℕ) (h : Hint) → length xs ≡ 1 →
    Some t ≡ slice_element (base_row w.store (own_type (tree_from_front 0 xs))) → (next_kind rest ≡ ki.None → ⊥) →
    h ≡ hint_to (id_in (own_type (tree_from_front 0 xs))) →
    h ≡ by_place (length (map bare xs)) (hint.None ∷ appended_hint w (first (map bare xs)) rest ∷ []) hint.None
appended-slice w xs rest t h k e n g =
    appended-second w xs rest (Some t) h k e
    (g ∙ sym (ap (λ b. cond b (hint.Of t) (hint_to (id_in (own_type (tree_from_front 0 xs))))) (not-left_out (next_kind rest) n)))
