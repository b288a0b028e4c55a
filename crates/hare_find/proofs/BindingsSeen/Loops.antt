-- What the binding of a loop is bound to, and what is seen when its body begins.
use Rattle.std.proofs.Common.{◌≡◌, ℕ, suc, true, false, cond, List, [], ◌∷◌, length, map, refl, ap, sym, ◌∙◌, arith, Option, Some, None}
use Rattle.std.specs.Prelude.{slice_set}
use Rattle.hare_tree.specs.Node.{Head}
use Rattle.hare_types.specs.declared.coercion.Ty.{Ty}
use Rattle.hare_typed.specs.Typed.{TypedNode, Mark, marked, typed_none, typed_more, typed_nodes}
use Rattle.hare_typed.specs.Given.{given, base_row, element_in}
use Rattle.hare_typed.specs.Order.{tree_from_front}
use Rattle.hare_rules.specs.Above.{Above}
use Rattle.hare_rules.specs.Aggregates.{pointer_to}
use Rattle.hare_rules.specs.Context.{Setting, Entry, Known, Odd, is_there, own_type}
use Rattle.hare_rules.specs.Finished.{bare}
use Rattle.hare_rules.specs.Flow.{Flow, is_by_reference, bound_element, each_entry_of, each_entry, is_behind_operand, flow_before}

-- ---- kids without their coercions

length-bare : (xs : List TypedNode) → length (map bare xs) ≡ length xs
length-bare [] = refl
length-bare (x ∷ xs) = ap suc (length-bare xs)

given-bare : (x : TypedNode) → given (bare x) ≡ own_type x
given-bare (marked h m ts) = refl

by_reference-bare : (x : TypedNode) → is_by_reference (bare x) ≡ is_by_reference x
by_reference-bare (marked h m typed_none) = refl
by_reference-bare (marked h m (typed_more (marked k n us) ts)) = refl

mark_there : (h : Head) (m : Mark) (ts : List TypedNode) → is_there (tree_from_front 0 ts) ≡ is_by_reference (marked h m (typed_nodes ts))
mark_there h m [] = refl
mark_there h m (t ∷ ts) = refl

-- the mark is the first kid of the binding
pub reference_there : (h : Head) (m : Mark) (ts : List TypedNode) (x : TypedNode) → marked h m (typed_nodes ts) ≡ x →
    is_there (tree_from_front 0 ts) ≡ is_by_reference x
reference_there h m ts x e = mark_there h m ts ∙ ap is_by_reference e

element-bare : (w : Setting) (x : TypedNode) (o : Option ℕ) → bound_element w (bare x) o ≡ bound_element w x o
element-bare w x o = ap (λ b. cond b (pointer_to w.store o) o) (by_reference-bare x)

-- ---- what is known of the binding

each-bare : (w : Setting) (h : Head) (x y : TypedNode) →
    each_entry w h (map bare (x ∷ y ∷ []))
    ≡ each_entry_of h.place (element_in (base_row w.store (own_type y))) (bound_element w x (element_in (base_row w.store (own_type y))))
each-bare w h x y = rw (given-bare y, element-bare w x (element_in (base_row w.store (own_type y)))) refl

-- over what is no array and no slice
pub each_odd : (w : Setting) (h : Head) (xs : List TypedNode) (a : Ty) → length xs ≡ 2 → a ≡ own_type (tree_from_front 1 xs) →
    None ≡ element_in (base_row w.store a) →
    Odd h.place ≡ each_entry w h (map bare xs)
each_odd w h [] a l e n = absurd (omega (arith, l))
each_odd w h (x ∷ []) a l e n = absurd (omega (arith, l))
each_odd w h (x ∷ y ∷ []) a l e n =
    let o : None ≡ element_in (base_row w.store (own_type y)) = n ∙ ap (λ (b : Ty). element_in (base_row w.store b)) e in
    ap (λ p. each_entry_of h.place p (bound_element w x p)) o ∙ sym (each-bare w h x y)
each_odd w h (x ∷ y ∷ z ∷ xs) a l e n = absurd (omega (arith, l))

-- over an array or a slice with this element
pub each_known : (w : Setting) (h : Head) (xs : List TypedNode) (a : Ty) (t u : ℕ) → length xs ≡ 2 → a ≡ own_type (tree_from_front 1 xs) →
    Some t ≡ element_in (base_row w.store a) → bound_element w (tree_from_front 0 xs) (Some t) ≡ Some u →
    Known (record { ty = u; mutable = true }) ≡ each_entry w h (map bare xs)
each_known w h [] a t u l e n b = absurd (omega (arith, l))
each_known w h (x ∷ []) a t u l e n b = absurd (omega (arith, l))
each_known w h (x ∷ y ∷ []) a t u l e n b =
    let o : Some t ≡ element_in (base_row w.store (own_type y)) = n ∙ ap (λ (c : Ty). element_in (base_row w.store c)) e in
    ap (each_entry_of h.place (Some t)) (sym b) ∙ ap (λ p. each_entry_of h.place p (bound_element w x p)) o ∙ sym (each-bare w h x y)
each_known w h (x ∷ y ∷ z ∷ xs) a t u l e n b = absurd (omega (arith, l))

-- ---- what is seen when a kid begins

-- before any kid but the body of a loop nothing changes
pub before_other : (w : Setting) (a : Above) (h : Head) (xs : List TypedNode) (f : Flow) → is_behind_operand h.kind (length xs) ≡ false →
    f ≡ flow_before w a h (map bare xs) f
before_other w a h xs f e =
    let d : is_behind_operand h.kind (length (map bare xs)) ≡ false = ap (is_behind_operand h.kind) (length-bare xs) ∙ e in
    rw d refl

-- before the body of a loop its binding is known
pub before_body : (w : Setting) (a : Above) (h : Head) (xs : List TypedNode) (f g : Flow) (n : ℕ) (b : Entry) →
    is_behind_operand h.kind (length xs) ≡ true → a.first ≡ n → b ≡ each_entry w h (map bare xs) →
    g ≡ record f { locals = slice_set f.locals n b } →
    g ≡ flow_before w a h (map bare xs) f
before_body w a h xs f g n b e k d p =
    let r : is_behind_operand h.kind (length (map bare xs)) ≡ true = ap (is_behind_operand h.kind) (length-bare xs) ∙ e in
    rw (r, p, d, k) refl
