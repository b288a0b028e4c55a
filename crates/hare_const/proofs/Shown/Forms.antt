-- The acts of the constant kinds come to the value of the node, where it is known what its kids come to.
use Rattle.std.proofs.Common.{◌≡◌, ℕ, zero, suc, Bool, true, false, List, [], ◌∷◌, refl, ap, ap₂, sym, subst}
use Rattle.std.specs.Prelude.{ℤ, pos, ◌/◌, nat_eq, map, Option, Some, None, option_and_then, if◌then◌else◌}
use Rattle.hare_tree.specs.Node.{Head}
use Rattle.hare_tree.specs.declared.kind.Kind.{Kind}
use Rattle.hare_tree.specs.declared.kind.Kind.TheVariants as kind
use Rattle.hare_types.specs.Store.{Store}
use Rattle.hare_typed.specs.declared.cell.Cell.{Cell}
use Rattle.hare_typed.specs.declared.cell.Cell.TheVariants as cell
use Rattle.hare_typed.specs.declared.constant.Const.{Const}
use Rattle.hare_typed.specs.declared.constant.Const.TheVariants as constant
use Rattle.hare_typed.specs.declared.constant.ConstObject.{ConstObject}
use Rattle.hare_typed.specs.Typed.{TypedNode, head_of, mark_of, kids_of}
use Rattle.hare_typed.specs.Order.{kid_from_front}
use Rattle.hare_typed.specs.Given.{base_row, is_str}
use Rattle.hare_typed.specs.Weight.{items_of}
use Rattle.hare_typed.specs.Answers.{Answer, Gives, Aborts as aborts, IsUndefined}
use Rattle.hare_typed.specs.Arithmetic.{logic_of, leaves_open, by_equality, same_number}
use Rattle.hare_typed.specs.Scalars.{Pointer, Address}
use Rattle.hare_typed.specs.Words.{Words, words, same_text}
use Rattle.hare_typed.specs.Objects.{reading}
use Rattle.hare_typed.specs.Shapes.{shape_of_row}
use Rattle.hare_typed.specs.State.{Memory, State, Scope, AsValue, AsPlace, Value, Reached, Result}
use Rattle.hare_typed.specs.Acts.{Act, end, look}
use Rattle.hare_typed.specs.Interpreter.{Tasks, Kids, after, act}
use Rattle.hare_typed.specs.World.{World, static_number, homed_cell, answered}
use Rattle.hare_typed.specs.Sequence.{on_place, value, place, values}
use Rattle.hare_typed.specs.Evaluated.{ticks_of_value, with_coercion, slice_over, array_object, coerced_from, as_coerced, by_value}
use Rattle.hare_typed.specs.ConstantForms.{own_type, constant_cells, with_numbers, is_iconst, arith_answer, shift_answer, Equality, OfNumbers, OfPointers, OfTexts, with_equality, with_texts, equality_of_shape, equality_of, type_of_kid, is_array_row, bool_cells, truth}
use Rattle.hare_typed.specs.ConstantValues.{without_run, constant_form}
use Rattle.hare_typed.specs.Coercions.{sliced_element, length_of_value, coerced}
use Rattle.hare_const.specs.declared.outcome.Outcome.{Outcome}
use Rattle.hare_const.specs.declared.outcome.Outcome.TheVariants.{Known, Aborts, Undefined}
use Rattle.hare_const.specs.NodeValues.{on_cells, on_answer, kid_at, kids_at, numbered, number_of_kid, same_texts, arithmetic_value, shift_value, logic_value, length_value, declared_by, kind_value, coerced_value, slice_of, cells_known, array_value, tuple_value, struct_value}
use Rattle.hare_const.proofs.Shown.Acts.{Has, Shown, Shows, Ends, EndsBehind, ends_tick, ends_make, ends_value, ends_known, ends_values, ends_answered, ends_as_given, ends_looked}

-- ---- one step behind another

behind-cells : (x : Outcome) (g f : List Cell → Outcome) → on_cells x (λ c. on_cells (g c) f) ≡ on_cells (on_cells x g) f
behind-cells (Known cs) g f = refl
behind-cells Aborts g f = refl
behind-cells Undefined g f = refl

behind-kids : (i n : ℕ) (os : List Outcome) (g : List (List Cell) → Outcome) (f : List Cell → Outcome) →
    kids_at i n os (λ cs. on_cells (g cs) f) ≡ on_cells (kids_at i n os g) f
behind-kids i zero os g f = refl
behind-kids i (suc n) os g f = go (kid_at i os) (λ c. behind-kids (suc i) n os (λ cs. g (c ∷ cs)) f)
  where
    go : (x : Outcome) →
        ((c : List Cell) → kids_at (suc i) n os (λ cs. on_cells (g (c ∷ cs)) f) ≡ on_cells (kids_at (suc i) n os (λ cs. g (c ∷ cs))) f) →
        on_cells x (λ c. kids_at (suc i) n os λ cs. on_cells (g (c ∷ cs)) f)
        ≡ on_cells (on_cells x (λ c. kids_at (suc i) n os λ cs. g (c ∷ cs))) f
    go (Known c) h = h c
    go Aborts h = refl
    go Undefined h = refl

-- where no program runs, objects have the numbers that constants have for them
pub homed-same : (cs : List Cell) → map (homed_cell (λ n. n)) cs ≡ cs
homed-same [] = refl
homed-same (cell.Byte b ∷ cs) = ap (λ l. cell.Byte b ∷ l) (homed-same cs)
homed-same (cell.Fragment o d k ∷ cs) = ap (λ l. cell.Fragment o d k ∷ l) (homed-same cs)
homed-same (cell.Undef ∷ cs) = ap (λ l. cell.Undef ∷ l) (homed-same cs)

-- both operands have cells that are texts, which each memory with these objects tells apart
pub record Compares (held : List ConstObject) (os : List Outcome) (same : Bool) : Type 0 where
  pub left : List Cell
  pub right : List Cell
  pub first : kid_at 0 os ≡ Known left
  pub second : kid_at 1 os ≡ Known right
  pub left_words : Words
  pub right_words : Words
  pub left_told : words left ≡ Gives left_words
  pub right_told : words right ≡ Gives right_words
  pub told : (m : Memory) → Has held m → same_text (reading m.objects) left_words right_words ≡ Gives same

module _ (s : Store) (own : ℕ) (held : List ConstObject) (ks : Kids) (less : Tasks) where
  -- whatever cells come, it ends as f says
  abbrev Behind : (List Cell → Act) → (List Cell → Outcome) → Type 0
  Behind k f = EndsBehind held ks less k f

  -- what the kids of a node come to
  abbrev pub KidsShow : List Outcome → Type 0
  KidsShow os = (i : ℕ) → Shows held own (ks.kid i AsValue) (kid_at i os)

  module _ (os : List Outcome) (m : KidsShow os) (sc : Scope) (e : sc.own ≡ own) where
    ends_kid : (i : ℕ) (k : List Cell → Act) (g f : List Cell → Outcome) → ((c : List Cell) → Ends held ks less (k c) (on_cells (g c) f)) →
        Ends held ks less (value i sc k) (on_cells (on_cells (kid_at i os) g) f)
    ends_kid i k g f h =
        subst (λ o. Ends held ks less (value i sc k) o) (behind-cells (kid_at i os) g f)
        (ends_value held ks less own i sc k (kid_at i os) (λ c. on_cells (g c) f) e (m i) h)

    ends_two : (k : List Cell → List Cell → Act) (g : List Cell → List Cell → Outcome) (f : List Cell → Outcome) →
        ((a b : List Cell) → Ends held ks less (k a b) (on_cells (g a b) f)) →
        Ends held ks less (value 0 sc λ a. value 1 sc λ b. k a b)
        (on_cells (on_cells (kid_at 0 os) λ a. on_cells (kid_at 1 os) λ b. g a b) f)
    ends_two k g f h =
        ends_kid 0 (λ a. value 1 sc λ b. k a b) (λ a. on_cells (kid_at 1 os) λ b. g a b) f
        (λ a. ends_kid 1 (λ b. k a b) (λ b. g a b) f (h a))

    ends_each : (i n : ℕ) (k : List (List Cell) → Act) (g : List (List Cell) → Outcome) (f : List Cell → Outcome) →
        ((cs : List (List Cell)) → Ends held ks less (k cs) (on_cells (g cs) f)) →
        Ends held ks less (values i n sc k) (on_cells (kids_at i n os g) f)
    ends_each i n k g f h =
        subst (λ o. Ends held ks less (values i n sc k) o) (behind-kids i n os g f)
        (ends_values held ks less own os sc e m i n k (λ cs. on_cells (g cs) f) h)

  ends_told : {A : Type 0} (w : World) (h : Head) (a : Answer A) (k : A → Act) (g : A → Outcome) (f : List Cell → Outcome) →
      ((x : A) → Ends held ks less (k x) (on_cells (g x) f)) → Ends held ks less (answered w h a k) (on_cells (on_answer a g) f)
  ends_told w h (Gives x) k g f q st p = q x st p
  ends_told w h (aborts r) k g f q st p = record { ended = refl; has = p }
  ends_told w h (IsUndefined u) k g f q st p = record { ended = refl; has = p }

  ends_if : (x : Bool) (a b : Act) (o p : Outcome) (f : List Cell → Outcome) → Ends held ks less a (on_cells o f) →
      Ends held ks less b (on_cells p f) →
      Ends held ks less (if x then a else b) (on_cells (if x then o else p) f)
  ends_if true a b o p f h k = h
  ends_if false a b o p f h k = k

  ends_arith : (t : TypedNode) (a b : List Cell) (k : List Cell → Act) (f : List Cell → Outcome) → Behind k f →
      Ends held ks less (with_numbers (without_run s) t a b (arith_answer (without_run s) t) k) (on_cells (arithmetic_value s t a b) f)
  ends_arith t a b k f h =
      ends_if (is_iconst (own_type t)) _ _ _ _ f (h [])
      (ends_told (without_run s) (head_of t) _ _ (λ v. Known (numbered s t v)) f (λ v. h (numbered s t v)))

  ends_shift : (t : TypedNode) (a b : List Cell) (k : List Cell → Act) (f : List Cell → Outcome) → Behind k f →
      Ends held ks less (with_numbers (without_run s) t a b (shift_answer (without_run s) t) k) (f (shift_value s t a b))
  ends_shift t a b k f h = go (is_iconst (own_type t)) _
    where
      go : (x : Bool) (v : ℤ) → Ends held ks less (if x then k [] else k (numbered s t v)) (f (if x then [] else numbered s t v))
      go true v = h []
      go false v = h (numbered s t v)

  -- ---- equalities

  -- an equality compares numbers, or texts that are told
  pub data IsCompared (os : List Outcome) (t : TypedNode) : Type 0 where
    numbers : is_str s (type_of_kid 0 t) ≡ false → equality_of s (type_of_kid 0 t) ≡ OfNumbers → IsCompared os t
    texts : is_str s (type_of_kid 0 t) ≡ true → Compares held os (same_texts s (kids_of t)) → IsCompared os t

  -- the acts behind the operands
  abbrev pub as_equal : TypedNode → (List Cell → Act) → Bool → Act
  as_equal t k x = k (bool_cells (by_equality (head_of t).text x))

  ends_numbers : (t : TypedNode) (q : Equality) (a b : List Cell) (k : Bool → Act) (o : Outcome) → q ≡ OfNumbers →
      Ends held ks less (k (same_number (number_of_kid s t 0 a) (number_of_kid s t 1 b))) o →
      Ends held ks less (with_equality (without_run s) t q a b k) o
  ends_numbers t OfNumbers a b k o e h = h
  ends_numbers t OfPointers a b k o e h = absurd cc
  ends_numbers t OfTexts a b k o e h = absurd cc

  ends_texts : (os : List Outcome) (t : TypedNode) (same : Bool) (k : Bool → Act) (o : Outcome) (c : Compares held os same) →
      Ends held ks less (k same) o →
      Ends held ks less (with_equality (without_run s) t OfTexts c.left c.right k) o
  ends_texts os t same k o c h =
      ends_as_given held ks less (without_run s) (head_of t) (words c.left)
      (λ v. answered (without_run s) (head_of t) (words c.right) λ u. with_texts (without_run s) t v u k) c.left_words o c.left_told
      (ends_as_given held ks less (without_run s) (head_of t) (words c.right) (λ u. with_texts (without_run s) t c.left_words u k)
      c.right_words o
      c.right_told
      (ends_tick held ks less (if nat_eq c.left_words.length c.right_words.length then c.left_words.length / 64 else 0)
      (look λ m. answered (without_run s) (head_of t) (same_text (reading m.objects) c.left_words c.right_words) k) o
      (ends_looked held ks less (without_run s) (head_of t) (λ m. same_text (reading m.objects) c.left_words c.right_words) k same o c.told
      h)))

  module _ (os : List Outcome) (m : KidsShow os) (sc : Scope) (e : sc.own ≡ own) (t : TypedNode) (k : List Cell → Act)
      (f : List Cell → Outcome) (h : Behind k f) where
    -- what stands behind the operands, by the type of the first
    abbrev comparing : Equality → Act
    comparing q = value 0 sc λ a. value 1 sc λ b. with_equality (without_run s) t q a b (as_equal t k)

    -- what it comes to, by whether it compares texts
    abbrev compared_by : Bool → Outcome
    compared_by x =
        on_cells (on_cells (kid_at 0 os) λ a. on_cells (kid_at 1 os) λ b. Known (bool_cells (by_equality (head_of t).text
        (if x then same_texts s (kids_of t) else same_number (number_of_kid s t 0 a) (number_of_kid s t 1 b))))) f

    of_numbers : equality_of s (type_of_kid 0 t) ≡ OfNumbers → Ends held ks less (comparing (equality_of s (type_of_kid 0 t)))
        (compared_by false)
    of_numbers q =
        ends_two os m sc e _ (λ a b. Known (bool_cells (by_equality (head_of t).text
        (same_number (number_of_kid s t 0 a) (number_of_kid s t 1 b))))) f
        (λ a b. ends_numbers t (equality_of s (type_of_kid 0 t)) a b (as_equal t k) _ q (h _))

    of_texts : Compares held os (same_texts s (kids_of t)) → Ends held ks less (comparing OfTexts) (compared_by true)
    of_texts c =
        let o : Outcome = f (bool_cells (by_equality (head_of t).text (same_texts s (kids_of t)))) in
        let value_is : o ≡ compared_by true =
        sym (ap₂ (λ x y. on_cells (on_cells x λ a. on_cells y λ b. Known
        (bool_cells (by_equality (head_of t).text (same_texts s (kids_of t)))))
        f) c.first c.second) in
        subst (λ x. Ends held ks less (comparing OfTexts) x) value_is
        (ends_known held ks less own 0 sc (λ a. value 1 sc λ b. with_equality (without_run s) t OfTexts a b (as_equal t k)) c.left o e
        (subst (λ x. Shows held own (ks.kid 0 AsValue) x) c.first (m 0))
        (ends_known held ks less own 1 sc (λ b. with_equality (without_run s) t OfTexts c.left b (as_equal t k)) c.right o e
        (subst (λ x. Shows held own (ks.kid 1 AsValue) x) c.second (m 1))
        (ends_texts os t (same_texts s (kids_of t)) (as_equal t k) o c (h _))))

    of_operands : IsCompared os t → Ends held ks less (comparing (equality_of s (type_of_kid 0 t)))
        (compared_by (is_str s (type_of_kid 0 t)))
    of_operands (numbers d q) =
        subst (λ x. Ends held ks less (comparing (equality_of s (type_of_kid 0 t))) (compared_by x)) (sym d) (of_numbers q)
    of_operands (texts d c) =
        subst (λ x. Ends held ks less (comparing (if x then OfTexts else equality_of_shape (option_and_then shape_of_row
        (base_row s (type_of_kid 0 t))))) (compared_by x)) (sym d) (of_texts c)

  -- a place that is asked for changes no memory
  abbrev pub Places : Pointer → Type 0
  Places p =
      (c : Scope) (st : State) → c.own ≡ own → ((ks.kid 0 AsPlace c st).0 ≡ Reached p) × ((ks.kid 0 AsPlace c st).1.memory ≡ st.memory)

  ends_place : (sc : Scope) (k : Pointer → Act) (p : Pointer) (o : Outcome) → sc.own ≡ own → Places p → Ends held ks less (k p) o →
      Ends held ks less (place 0 sc k) o
  ends_place sc k p o e m h st has = go (ks.kid 0 AsPlace sc st) (m sc st e)
    where
      go : (r : Result) → (r.0 ≡ Reached p) × (r.1.memory ≡ st.memory) →
          Shown held o (after r (λ x t. act ks less (on_place k x) t))
      go (x, t) (q, same) =
          subst (λ y. Shown held o (after (y, t) (λ z u. act ks less (on_place k z) u))) (sym q)
          (h t (subst (Has held) (sym same) has))

  ends_constant : (c : Const) (k : List Cell → Act) (f : List Cell → Outcome) → Behind k f →
      Ends held ks less (k (constant_cells (without_run s) c)) (f (cells_known c))
  ends_constant constant.Absent k f h = h []
  ends_constant (constant.Known cs os) k f h = subst (λ x. Ends held ks less (k x) (f cs)) (sym (homed-same cs)) (h cs)

  -- ---- the kinds

  -- what a kind asks of its node and of the kids
  abbrev pub Ready : List Outcome → TypedNode → Kind → Type 0
  Ready os t kind.Addr = Places (Address (declared_by (mark_of (kid_from_front 0 t)).meaning) 0)
  Ready os t kind.Offset = Unit {0}
  Ready os t kind.Equal = KidsShow os × IsCompared os t
  Ready os t _ = KidsShow os

  pub ends_form : (os : List Outcome) (t : TypedNode) (sc : Scope) → sc.own ≡ own → (x : Kind) (k : List Cell → Act)
      (f : List Cell → Outcome) → Ready os t x → Behind k f →
      Ends held ks less (constant_form (without_run s) t sc x k) (on_cells (kind_value s own t x os) f)
  ends_form os t sc e kind.Number k f m h = h _
  ends_form os t sc e kind.RuneLit k f m h = h _
  ends_form os t sc e kind.Bool k f m h = h _
  ends_form os t sc e kind.Str k f m h =
      subst (λ o. Ends held ks less (constant_form (without_run s) t sc kind.Str k) (on_cells (kind_value s o t kind.Str os) f)) e (h _)
  ends_form os t sc e kind.Path k f m h = ends_constant (mark_of t).value k f h
  ends_form os t sc e kind.Paren k f m h = ends_kid os m sc e 0 k Known f h
  ends_form os t sc e kind.Neg k f m h = ends_kid os m sc e 0 _ _ f (λ a. h _)
  ends_form os t sc e kind.Not k f m h = ends_kid os m sc e 0 _ _ f (λ a. h _)
  ends_form os t sc e kind.Bang k f m h = ends_kid os m sc e 0 _ _ f (λ a. h _)
  ends_form os t sc e kind.Arith k f m h = ends_two os m sc e _ _ f (λ a b. ends_arith t a b k f h)
  ends_form os t sc e kind.Shift k f m h = ends_two os m sc e _ _ f (λ a b. ends_shift t a b k f h)
  ends_form os t sc e kind.Less k f m h = ends_two os m sc e _ _ f (λ a b. h _)
  ends_form os t sc e kind.Equal k f m h =
      of_operands os m.0 sc e t k f h m.1
  ends_form os t sc e kind.Logic k f m h =
      ends_kid os m sc e 0 _ (λ a. logic_value t a (kid_at 1 os)) f
      (λ a. ends_if (leaves_open (logic_of (head_of t).text) (truth a)) _ _ _ _ f
      (ends_kid os m sc e 1 _ _ f (λ b. h _)) (h _))
  ends_form os t sc e kind.Cast k f m h = ends_kid os m sc e 0 _ _ f (λ a. h _)
  ends_form os t sc e kind.StructLit k f m h =
      ends_each os m sc e 1 (items_of kind.StructLit (kids_of t)) (λ cs. k (struct_value s t cs)) (λ cs. Known (struct_value s t cs)) f
      (λ cs. h (struct_value s t cs))
  ends_form os t sc e kind.FieldValue k f m h = ends_kid os m sc e 0 k Known f h
  ends_form os t sc e kind.Tuple k f m h =
      ends_each os m sc e 0 (items_of kind.Tuple (kids_of t)) (λ cs. k (tuple_value s t cs)) (λ cs. Known (tuple_value s t cs)) f
      (λ cs. h (tuple_value s t cs))
  ends_form os t sc e kind.Array k f m h =
      ends_each os m sc e 0 (items_of kind.Array (kids_of t)) (λ cs. k (array_value s t cs)) (λ cs. Known (array_value s t cs)) f
      (λ cs. h (array_value s t cs))
  ends_form os t sc e kind.Size k f m h = h _
  ends_form os t sc e kind.Align k f m h = h _
  ends_form os t sc e kind.Offset k f m h = h _
  ends_form os t sc e kind.Len k f m h =
      ends_kid os m sc e 0 _ (λ c. length_value s t c) f
      (λ c. ends_if (is_array_row (base_row s (type_of_kid 0 t))) _ _ _ _ f (h _)
      (ends_told (without_run s) (head_of t) (words c) _ (λ v. Known (numbered s t (pos v.length))) f (λ v. h _)))
  ends_form os t sc e kind.Addr k f m h =
      ends_place sc _ (Address (declared_by (mark_of (kid_from_front 0 t)).meaning) 0) _ e m (h _)
  ends_form os t sc e _ k f m h = h []

  -- ---- coercions

  -- the act by which a value ends
  abbrev ending : List Cell → Act
  ending ds = end (Value ds)

  ends_given : (t : TypedNode) (cs : List Cell) →
      Ends held ks less (with_coercion (without_run s) t cs ending) (on_answer (coerced s (mark_of t).ty (mark_of t).coerce cs) Known)
  ends_given t cs =
      ends_answered held ks less (without_run s) (head_of t) (coerced s (mark_of t).ty (mark_of t).coerce cs) ending Known
      (λ ds st p. record { ended = refl; has = p })

  ends_from : (t : TypedNode) (sc : Scope) (cs : List Cell) (x : Option ℕ) →
      Ends held ks less (coerced_from (without_run s) t sc cs x ending)
      (on_answer (coerced s (mark_of t).ty (mark_of t).coerce
      (elim x [ None ↦ cs | Some y ↦ slice_of sc.own t (length_of_value s (mark_of t).ty) ])) Known)
  ends_from t sc cs None = ends_given t cs
  ends_from t sc cs (Some y) =
      ends_make held ks less (static_number sc t) (array_object (without_run s) y cs)
      (λ o. slice_over (without_run s) t (Address o 0) ending)
      (on_answer (coerced s (mark_of t).ty (mark_of t).coerce (slice_of sc.own t (length_of_value s (mark_of t).ty))) Known)
      (ends_given t (slice_of sc.own t (length_of_value s (mark_of t).ty)))

  ends_coerced : (t : TypedNode) (sc : Scope) (cs : List Cell) → sc.own ≡ own →
      Ends held ks less (as_coerced (without_run s) t sc cs ending) (coerced_value s own t cs)
  ends_coerced t sc cs e =
      subst (λ o. Ends held ks less (as_coerced (without_run s) t sc cs ending) (coerced_value s o t cs)) e
      (ends_from t sc cs (sliced_element s (mark_of t).ty (mark_of t).coerce))

  pub ends_value_of : (os : List Outcome) (t : TypedNode) (sc : Scope) (x : Kind) → sc.own ≡ own → Ready os t x →
      Ends held ks less (by_value (without_run s) t sc (constant_form (without_run s) t sc x) ending)
      (on_cells (kind_value s own t x os) (coerced_value s own t))
  ends_value_of os t sc x e m =
      ends_tick held ks less (ticks_of_value s t) (constant_form (without_run s) t sc x (λ cs. as_coerced (without_run s) t sc cs ending)) _
      (ends_form os t sc e x (λ cs. as_coerced (without_run s) t sc cs ending) (coerced_value s own t) m (λ cs. ends_coerced t sc cs e))
