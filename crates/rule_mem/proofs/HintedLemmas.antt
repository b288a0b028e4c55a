-- What nodes ask of their kids.
use Rattle.std.proofs.Common.{◌≡◌, ℕ, zero, suc, ◌<◌, ◌≤◌, Bool, true, false, not, ◌&&◌, cond, List, [], ◌∷◌, length, take, drop, Option, Some, None, is_some, nat_eq, refl, ap, ap₂, sym, ◌∙◌, arith}
use Rattle.std.specs.Prelude.{is_none}
use Rattle.std.specs.Cmp.{unsigned_Decides}
use Rattle.hare_tree.specs.Shape.{is_none as is_left_out}
use Rattle.hare_types.specs.declared.coercion.Ty.{Ty}
use Rattle.hare_types.specs.declared.coercion.Ty.TheVariants as ty
use Rattle.hare_types.specs.Store.{Store}
use Rattle.hare_tree.specs.Node.{head}
use Rattle.hare_typed.specs.Typed.{TypedNode, marked, typed_nodes}
use Rattle.hare_typed.specs.Erased.{erase, erase_each}
use Rattle.hare_typed.specs.Numbers.{kind_of}
use Rattle.hare_rules.specs.Context.{Setting, text_of, own_type, is_there}
use Rattle.hare_rules.specs.Settles.{only_where}
use Rattle.rule_judge.proofs.KidLemmas.{drop_past}
use Rattle.hare_rules.specs.Aggregates.{field_type}
use Rattle.hare_typed.specs.Given.{base_row, given}
use Rattle.hare_typed.specs.Coercions.{element_of_slice}
use Rattle.hare_typed.specs.Order.{tree_from_front}
use Rattle.hare_rules.specs.declared.hint.Hint.{Hint}
use Rattle.hare_rules.specs.declared.hint.Hint.TheVariants as hint
use Rattle.hare_rules.specs.Above.{by_place, hint_to, hint_id, field_hint, next_kind, allocated_hint}
use Rattle.hare_rules.specs.Judged.{is_type_hint}
use Rattle.hare_rules.specs.Words.{id_in}

-- the first of some kids
pub first_take : (xs : List TypedNode) (i : ℕ) → length (take i xs) ≡ 1 → tree_from_front 0 (take i xs) ≡ tree_from_front 0 xs
first_take [] zero e = refl
first_take [] (suc i) e = refl
first_take (x ∷ xs) zero e = absurd (omega (arith, e))
first_take (x ∷ xs) (suc i) e = refl

pub hint_to-asks : (o : Option ℕ) → is_type_hint (hint_to o) ≡ is_some o
hint_to-asks None = refl
hint_to-asks (Some t) = refl

-- the second kid alone is asked
pub second_asked : (ys : List TypedNode) (h : Hint) (c : Bool) → (length ys ≡ 1 → is_type_hint h ≡ c)
    → (nat_eq (length ys) 1 && c) ≡ is_type_hint (by_place (length ys) (hint.None ∷ h ∷ []) hint.None)
second_asked [] h c k = refl
second_asked (y ∷ []) h c k = sym (k refl)
second_asked (y ∷ z ∷ zs) h c k = by (nat_eq (length (y ∷ z ∷ zs)) 1) refl
  where
    by : (b : Bool) → nat_eq (length (y ∷ z ∷ zs)) 1 ≡ b → (b && c) ≡ false
    by true e = absurd (omega (arith, (unsigned_Decides (length (y ∷ z ∷ zs)) 1).0 e))
    by false e = refl

-- each but the first is asked
pub later_asked : (ys : List TypedNode) (h : Hint) (b : Bool) → (b ≡ true → length ys ≡ 0 → ⊥) → (b ≡ false → length ys ≡ 0) →
    is_type_hint h ≡ true
    → b ≡ is_type_hint (by_place (length ys) (hint.None ∷ []) h)
later_asked [] h true a c k = absurd (a refl refl)
later_asked [] h false a c k = refl
later_asked (y ∷ ys) h true a c k = sym k
later_asked (y ∷ ys) h false a c k = absurd (omega (arith, c refl))

-- what is put behind a slice
pub appended : (s : Store) (a : Ty) (b : Bool)
    → is_type_hint (cond (is_some (element_of_slice (base_row s a)))
    (cond b (hint_to (element_of_slice (base_row s a))) (hint_to (id_in a))) hint.None)
    ≡ is_some (element_of_slice (base_row s a))
appended s (ty.Iconst v) b = refl
appended s ty.Null b = refl
appended s ty.Empty b = refl
appended s (ty.Of t) b = by (element_of_slice (base_row s (ty.Of t))) b
  where
    by : (o : Option ℕ) (c : Bool) → is_type_hint (cond (is_some o) (cond c (hint_to o) (hint.Of t)) hint.None) ≡ is_some o
    by None c = refl
    by (Some u) true = refl
    by (Some u) false = refl

-- both tests
pub and_both : (b c d e r : Bool) → b ≡ true → b ≡ d → c ≡ e → (d && e) ≡ r → c ≡ r
and_both b c d e r t k h g = h ∙ ap (λ x. x && e) (sym (sym k ∙ t)) ∙ g

pub and_not : (b d e r : Bool) → b ≡ false → b ≡ d → (d && e) ≡ r → b ≡ r
and_not b d e r t k g = t ∙ ap (λ x. x && e) (sym (sym k ∙ t)) ∙ g

-- ---- struct literals

erased_text : (x : TypedNode) → (head (erase x)).text ≡ text_of x
erased_text (marked h m ts) = refl

-- nothing is asked of the first kid
pub literal_first : (w : Setting) (ys : List TypedNode) (x : TypedNode) → length ys ≡ 0 →
    false ≡ is_type_hint (field_hint w ys (head (erase x)))
literal_first w [] x e = refl
literal_first w (y ∷ ys) x e = absurd (omega (arith, e))

-- of each other one the type of the field of its name
pub literal_later : (w : Setting) (xs : List TypedNode) (i : ℕ) (x : TypedNode) → (length (take i xs) ≡ 0 → ⊥)
    → is_some (field_type w.store (base_row w.store (own_type (tree_from_front 0 xs))) (text_of x)) ≡
    is_type_hint (field_hint w (take i xs) (head (erase x)))
literal_later w [] zero x k = absurd (k refl)
literal_later w [] (suc i) x k = absurd (k refl)
literal_later w (y ∷ ys) zero x k = absurd (k refl)
literal_later w (y ∷ ys) (suc i) x k =
    ap (λ t. is_some (field_type w.store (base_row w.store (own_type y)) t)) (sym (erased_text x))
    ∙ sym (hint_to-asks (field_type w.store (base_row w.store (own_type y)) (head (erase x)).text))

-- ---- allocations

erased_kind : (x : TypedNode) → (head (erase x)).kind ≡ kind_of x
erased_kind (marked h m ts) = refl

-- what stands behind the first kid
next_is : (xs : List TypedNode) (i : ℕ) → length (take i xs) ≡ 0 →
    next_kind (erase_each (typed_nodes (drop (suc i) xs))) ≡ kind_of (tree_from_front 1 xs)
next_is [] i e = ap (λ ys. next_kind (erase_each (typed_nodes ys))) (drop_past [] (suc i) (omega arith))
next_is (x ∷ []) zero e = refl
next_is (x ∷ y ∷ ys) zero e = erased_kind y
next_is (x ∷ xs) (suc i) e = absurd (omega (arith, e))

pub allocation_first : (w : Setting) (own hw : Hint) (xs : List TypedNode) (i : ℕ) (b : Bool) → length (take i xs) ≡ 0 →
    b ≡ is_there (tree_from_front 1 xs)
    → is_type_hint (allocated_hint w own b)
    ≡ is_type_hint (by_place (length (take i xs))
    (allocated_hint w own (not (is_left_out (next_kind (erase_each (typed_nodes (drop (suc i) xs)))))) ∷ []) hw)
allocation_first w own hw xs i b e k =
    ap (λ c. is_type_hint (allocated_hint w own c)) (k ∙ sym (ap (λ j. not (is_left_out j)) (next_is xs i e)))
    ∙ sym (ap (λ n. is_type_hint (by_place n
    (allocated_hint w own (not (is_left_out (next_kind (erase_each (typed_nodes (drop (suc i) xs)))))) ∷ []) hw)) e)

-- with a capacity the operand stays
pub not_full : (n h k : Bool) (o : Option ℕ) → h ≡ true → None ≡ only_where ((n && not h) && k) o
not_full true true k o e = refl
not_full false true k o e = refl
not_full n false k o e = cc

-- it goes to its default, where nothing is asked of it
pub at_operand : (n h k : Bool) (o d : Option ℕ) → n ≡ true → h ≡ false → k ≡ true → d ≡ o → d ≡ only_where ((n && not h) && k) o
at_operand true false true o d a b c e = e
at_operand false h k o d a b c e = cc
at_operand true true k o d a b c e = cc
at_operand true false false o d a b c e = cc

pub none_asked : (o r : Option ℕ) (b : Bool) → r ≡ o → b ≡ is_some r → b ≡ false → is_none (hint_id (hint_to o)) ≡ true
none_asked None r b e k f = refl
none_asked (Some t) r b e k f =
    let no : true ≡ false = sym (k ∙ ap is_some e) ∙ f in
    cc
