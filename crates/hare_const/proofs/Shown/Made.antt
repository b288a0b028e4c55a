-- The objects that the evaluation of a constant makes are those of its tree.
use Rattle.std.proofs.Common.{◌≡◌, ◌∙◌, ℕ, zero, suc, Bool, true, false, List, [], ◌∷◌, ◌++◌, refl, ap, ap₂, sym, subst, append_assoc, append-nil, arith, ◌≤◌, ◌<◌}
use Rattle.std.proofs.lemmas.Bool.Decides.{nat_tests}
use Rattle.std.specs.Prelude.{◌+◌, ◌/◌, ℤ, pos, nat_eq, nat_le, nat_lt, ◌==◌, ◌&&◌, ◌||◌, is_some, Option, Some, None, option_and_then, if◌then◌else◌}
use Rattle.hare_tree.specs.Node.{Head}
use Rattle.hare_tree.specs.declared.kind.Kind.{Kind}
use Rattle.hare_tree.specs.declared.kind.Kind.TheVariants as kind
use Rattle.hare_types.specs.Store.{Store}
use Rattle.hare_typed.specs.declared.cell.Cell.{Cell}
use Rattle.hare_typed.specs.declared.constant.Const.{Const}
use Rattle.hare_typed.specs.declared.constant.Const.TheVariants as constant
use Rattle.hare_typed.specs.declared.constant.ConstObject.{ConstObject}
use Rattle.hare_typed.specs.Typed.{TypedNode, head_of, mark_of, kids_of}
use Rattle.hare_typed.specs.Order.{kid_from_front}
use Rattle.hare_typed.specs.Given.{base_row}
use Rattle.hare_typed.specs.Weight.{items_of}
use Rattle.hare_typed.specs.Answers.{Answer, Gives, Aborts as aborts, IsUndefined}
use Rattle.hare_typed.specs.Arithmetic.{shift_of, shifted, logic_of, leaves_open, logic, same_number}
use Rattle.hare_typed.specs.Scalars.{Pointer, Address}
use Rattle.hare_typed.specs.Words.{Words, words, same_text}
use Rattle.hare_typed.specs.Shapes.{shape_of_row}
use Rattle.hare_typed.specs.Objects.{Object, reading}
use Rattle.hare_typed.specs.State.{Memory, State, Scope, AsValue, AsPlace, Outcome as End, Value, Reached, Result}
use Rattle.hare_typed.specs.Acts.{Act, end, look, make, tick}
use Rattle.hare_typed.specs.Interpreter.{Tasks, Kids, after, act, with_objects, made_object}
use Rattle.hare_typed.specs.World.{World, static_number, answered}
use Rattle.hare_typed.specs.Sequence.{on_value, on_place, value, place, values}
use Rattle.hare_typed.specs.Evaluated.{ticks_of_value, with_coercion, slice_over, array_object, coerced_from, as_coerced, by_value}
use Rattle.hare_typed.specs.ConstantForms.{own_type, int_in, constant_cells, is_iconst, arith_answer, Equality, OfNumbers, OfPointers, OfTexts, with_equality, with_texts, equality_of_shape, equality_of, type_of_kid, is_array_row, bool_cells, truth}
use Rattle.hare_typed.specs.ConstantValues.{without_run, constant_form}
use Rattle.hare_typed.specs.Coercions.{sliced_element, length_of_value, coerced}
use Rattle.hare_const.specs.declared.operands.Operands.TheVariants.{NoKid, OneKid, TwoKids, RightIfOpen, Components, Fields, Elements}
use Rattle.hare_const.specs.declared.outcome.Outcome.{Outcome}
use Rattle.hare_const.specs.declared.outcome.Outcome.TheVariants.{Known}
use Rattle.hare_const.specs.NodeValues.{on_cells, on_answer, kid_at, kids_at, object_number, literal_text, numbered, number_of_kid, same_texts, same_operands, array_length_value, declared_by, operands_of, unary_value, binary_value, operator_value, kind_value, slice_of, cells_known, array_value, tuple_value, struct_value}
use Rattle.hare_const.specs.Made.{is_open, is_taken, taken_from, made_by_kids, own_object, made_of_value}
use Rattle.hare_typed.specs.Coherent.{held}
use Rattle.hare_const.proofs.Shown.Acts.{Has, has_more, Shown, Shows}
use Rattle.hare_const.proofs.Shown.Texts.{held-append}
use Rattle.hare_const.proofs.Shown.Forms.{homed-same, Compares, IsCompared, numbers, texts, as_equal, Places}

-- ---- lists

-- that of the list with so many before it
abbrev pub made_at : ℕ → List (List ConstObject) → List ConstObject
made_at i [] = []
made_at zero (m ∷ ms) = m
made_at (suc i) (m ∷ ms) = made_at i ms

-- so many of them, from one on
abbrev pub made_each : (from n : ℕ) → List (List ConstObject) → List ConstObject
made_each i zero ms = []
made_each i (suc n) ms = made_at i ms ++ made_each (suc i) n ms

-- ---- acts

-- the objects of a state by their names
abbrev pub named_in : State → List ConstObject
named_in st = held st.memory.objects.named

-- in a state with these objects an evaluation that ends with cells makes those
abbrev pub MakesThese : List ConstObject → (own : ℕ) → (Scope → State → Result) → List ConstObject → Type 0
MakesThese held own m new =
    (sc : Scope) (st : State) (cs : List Cell) → sc.own ≡ own → Has held st.memory → (m sc st).0 ≡ Value cs →
    named_in (m sc st).1 ≡ named_in st ++ new

module _ (old : List ConstObject) (ks : Kids) (less : Tasks) where
  -- in a state with the old objects the act makes these, where it ends with cells
  pub record Makes (a : Act) (new : List ConstObject) : Type 0 where
    pub named : (st : State) (cs : List Cell) → Has old st.memory → (act ks less a st).0 ≡ Value cs →
        named_in (act ks less a st).1 ≡ named_in st ++ new

  pub makes_as : (a : Act) (new new' : List ConstObject) → new ≡ new' → Makes a new → Makes a new'
  makes_as a new new' e h = subst (Makes a) e h

  pub makes_end : (o : End) → Makes (end o) []
  makes_end o = record { named = λ st cs p e. sym (append-nil (named_in st)) }

  pub makes_tick : (n : ℕ) (a : Act) (new : List ConstObject) → Makes a new → Makes (tick n a) new
  makes_tick n a new h = record { named = λ st. h.named (record st { ticks = st.ticks + n }) }

  pub makes_make : (name : ℕ) (b : Object) (f : ℕ → Act) (new : List ConstObject) → Makes (f name) new →
      Makes (make (Some name) b f) (record { object = name; cells = b.cells } ∷ new)
  makes_make name b f new h = record {
    named = λ st cs p e.
        h.named (with_objects st (made_object (Some name) b st.memory.objects)) cs (has_more old st name b p) e
        ∙ ap (λ l. l ++ new) (held-append st.memory.objects.named ((name, b) ∷ []))
        ∙ append_assoc (named_in st) (record { object = name; cells = b.cells } ∷ []) new;
  }

  pub makes_answered : {A : Type 0} (w : World) (h : Head) (a : Answer A) (k : A → Act) (new : List ConstObject) →
      ((x : A) → a ≡ Gives x → Makes (k x) new) → Makes (answered w h a k) new
  makes_answered w h (Gives x) k new f = f x refl
  makes_answered w h (aborts r) k new f = record { named = λ st cs p e. absurd cc }
  makes_answered w h (IsUndefined u) k new f = record { named = λ st cs p e. absurd cc }

  -- where the answer is known
  pub makes_as_given : {A : Type 0} (w : World) (h : Head) (a : Answer A) (k : A → Act) (x : A) (new : List ConstObject) → a ≡ Gives x →
      Makes (k x) new → Makes (answered w h a k) new
  makes_as_given w h a k x new e g = subst (λ b. Makes (answered w h b k) new) (sym e) g

  -- where it rests on memory, and is known for each memory with the old objects
  pub makes_looked : {A : Type 0} (w : World) (h : Head) (a : Memory → Answer A) (k : A → Act) (x : A) (new : List ConstObject) →
      ((m : Memory) → Has old m → a m ≡ Gives x) → Makes (k x) new → Makes (look λ m. answered w h (a m) k) new
  makes_looked w h a k x new e g = record {
    named = λ st cs p. (makes_as_given w h (a st.memory) k x new (e st.memory p) g).named st cs p;
  }

  after-made : (r : Result) (k : List Cell → Act) (x : Outcome) (before here new : List ConstObject) (cs : List Cell) → Shown old x r →
      ((ds : List Cell) → r.0 ≡ Value ds → named_in r.1 ≡ before ++ here) → ((ds : List Cell) → x ≡ Known ds → Makes (k ds) new) →
      (after r (λ o s. act ks less (on_value k o) s)).0 ≡ Value cs →
      named_in (after r (λ o s. act ks less (on_value k o) s)).1 ≡ before ++ (here ++ new)
  after-made (Value ds, st) k x before here new cs e m h q =
      (h ds (sym e.ended)).named st cs e.has q ∙ ap (λ l. l ++ new) (m ds refl) ∙ append_assoc before here new
  after-made (_, st) k x before here new cs e m h q = absurd cc

  pub makes_value : (own i : ℕ) (sc : Scope) (k : List Cell → Act) (x : Outcome) (here new : List ConstObject) → sc.own ≡ own →
      Shows old own (ks.kid i AsValue) x → MakesThese old own (ks.kid i AsValue) here →
      ((ds : List Cell) → x ≡ Known ds → Makes (k ds) new) →
      Makes (value i sc k) (here ++ new)
  makes_value own i sc k x here new e v m h = record {
    named = λ st cs p. after-made (ks.kid i AsValue sc st) k x (named_in st) here new cs (v sc st e p) (λ ds. m sc st ds e p) h;
  }

  -- whatever is made of the cells of so many kids: they are these
  abbrev pub AreKnown : (i n : ℕ) → List Outcome → List (List Cell) → Type 0
  AreKnown i n os css = (f : List (List Cell) → Outcome) → kids_at i n os f ≡ f css

  pub makes_values : (own : ℕ) (os : List Outcome) (ms : List (List ConstObject)) (sc : Scope) → sc.own ≡ own →
      ((i : ℕ) → Shows old own (ks.kid i AsValue) (kid_at i os)) → ((i : ℕ) → MakesThese old own (ks.kid i AsValue) (made_at i ms)) →
      (i n : ℕ) (k : List (List Cell) → Act) (new : List ConstObject) →
      ((css : List (List Cell)) → AreKnown i n os css → Makes (k css) new) →
      Makes (values i n sc k) (made_each i n ms ++ new)
  makes_values own os ms sc e v m i zero k new h = h [] (λ f. refl)
  makes_values own os ms sc e v m i (suc n) k new h =
      makes_as (values i (suc n) sc k) _ _ (sym (append_assoc (made_at i ms) (made_each (suc i) n ms) new))
      (makes_value own i sc (λ c. values (suc i) n sc λ cs. k (c ∷ cs)) (kid_at i os) (made_at i ms) (made_each (suc i) n ms ++ new) e (v i)
      (m i)
      (λ c known. makes_values own os ms sc e v m (suc i) n (λ cs. k (c ∷ cs)) new
      (λ css rest. h (c ∷ css) (λ f.
      ap (λ o. on_cells o λ d. kids_at (suc i) n os λ ds. f (d ∷ ds)) known ∙ rest (λ ds. f (c ∷ ds))))))

-- ---- kids that are evaluated

none_from : (i : ℕ) (takes : ℕ → Bool) (ms : List (List ConstObject)) → ((k : ℕ) → i ≤ k → takes k ≡ false) → taken_from i takes ms ≡ []
none_from i takes [] h = refl
none_from i takes (m ∷ ms) h =
    ap₂ (λ x l. (if x then m else []) ++ l) (h i (omega arith)) (none_from (suc i) takes ms (λ k l. h k (omega (arith, l))))

some_from : (i : ℕ) (takes : ℕ → Bool) (m : List ConstObject) (ms : List (List ConstObject)) → takes i ≡ true →
    taken_from i takes (m ∷ ms) ≡ m ++ taken_from (suc i) takes ms
some_from i takes m ms e = ap (λ x. (if x then m else []) ++ taken_from (suc i) takes ms) e

-- a place behind another is not that one
behind : (k n : ℕ) → suc n ≤ k → (k == n) ≡ false
behind k n l = grind (arith, nat_tests)

pub taken_none : (t : TypedNode) (first : Outcome) (ms : List (List ConstObject)) → taken_from 0 (is_taken t NoKid first) ms ≡ []
taken_none t first ms = none_from 0 (is_taken t NoKid first) ms (λ k l. refl)

pub taken_one : (t : TypedNode) (first : Outcome) (ms : List (List ConstObject)) → taken_from 0 (is_taken t OneKid first) ms ≡ made_at 0 ms
taken_one t first [] = refl
taken_one t first (m ∷ ms) =
    ap (λ l. m ++ l) (none_from 1 (is_taken t OneKid first) ms (λ k l. behind k 0 l)) ∙ append-nil m

-- those of the second kid count
abbrev second_if : Bool → List (List ConstObject) → List ConstObject
second_if x ms = if x then made_at 1 ms else []

taken_second : (takes : ℕ → Bool) (x : Bool) (ms : List (List ConstObject)) → takes 0 ≡ true → takes 1 ≡ x →
    ((k : ℕ) → 2 ≤ k → takes k ≡ false) → taken_from 0 takes ms ≡ made_at 0 ms ++ second_if x ms
taken_second takes true [] e f h = refl
taken_second takes false [] e f h = refl
taken_second takes true (m ∷ []) e f h = some_from 0 takes m [] e
taken_second takes false (m ∷ []) e f h = some_from 0 takes m [] e
taken_second takes x (m ∷ n ∷ ms) e f h =
    some_from 0 takes m (n ∷ ms) e
    ∙ ap₂ (λ y l. m ++ ((if y then n else []) ++ l)) f (none_from 2 takes ms h)
    ∙ ap (λ l. m ++ l) (append-nil (if x then n else []))

past_two : (k : ℕ) → 2 ≤ k → nat_lt k 2 ≡ false
past_two k l = grind (arith, nat_tests)

pub taken_two : (t : TypedNode) (first : Outcome) (ms : List (List ConstObject)) →
    taken_from 0 (is_taken t TwoKids first) ms ≡ made_at 0 ms ++ made_at 1 ms
taken_two t first ms = taken_second (is_taken t TwoKids first) true ms refl refl past_two

pub taken_open : (t : TypedNode) (first : Outcome) (ms : List (List ConstObject)) →
    taken_from 0 (is_taken t RightIfOpen first) ms ≡ made_at 0 ms ++ second_if (is_open t first) ms
taken_open t first ms = taken_second (is_taken t RightIfOpen first) (is_open t first) ms refl refl past
  where
    past : (k : ℕ) → 2 ≤ k → is_taken t RightIfOpen first k ≡ false
    past k l = ap₂ (λ x y. x || (y && is_open t first)) (behind k 0 (omega (arith, l))) (behind k 1 l)

-- those of the first lists, so many
abbrev made_first : ℕ → List (List ConstObject) → List ConstObject
made_first zero ms = []
made_first (suc n) [] = []
made_first (suc n) (m ∷ ms) = m ++ made_first n ms

taken_first : (i n : ℕ) (takes : ℕ → Bool) (ms : List (List ConstObject)) → ((k : ℕ) → i ≤ k → k < i + n → takes k ≡ true) →
    ((k : ℕ) → i + n ≤ k → takes k ≡ false) → taken_from i takes ms ≡ made_first n ms
taken_first i zero takes ms h g = none_from i takes ms (λ k l. g k (omega (arith, l)))
taken_first i (suc n) takes [] h g = refl
taken_first i (suc n) takes (m ∷ ms) h g =
    some_from i takes m ms (h i (omega arith) (omega arith))
    ∙ ap (λ l. m ++ l) (taken_first (suc i) n takes ms (λ k l e. h k (omega (arith, l)) (omega (arith, e))) (λ k l. g k (omega (arith, l))))

each-none : (i n : ℕ) → made_each i n [] ≡ []
each-none i zero = refl
each-none i (suc n) = each-none (suc i) n

each-behind : (i n : ℕ) (m : List ConstObject) (ms : List (List ConstObject)) → made_each (suc i) n (m ∷ ms) ≡ made_each i n ms
each-behind i zero m ms = refl
each-behind i (suc n) m ms = ap (λ l. made_at i ms ++ l) (each-behind (suc i) n m ms)

each-first : (n : ℕ) (ms : List (List ConstObject)) → made_first n ms ≡ made_each 0 n ms
each-first zero ms = refl
each-first (suc n) [] = sym (each-none 1 n)
each-first (suc n) (m ∷ ms) = ap (λ l. m ++ l) (each-first n ms ∙ sym (each-behind 0 n m ms))

below : (k n : ℕ) → k < 0 + n → nat_lt k n ≡ true
below k n l = grind (arith, nat_tests)

not_below : (k n : ℕ) → 0 + n ≤ k → nat_lt k n ≡ false
not_below k n l = grind (arith, nat_tests)

taken_below : (n : ℕ) (ms : List (List ConstObject)) → taken_from 0 (λ k. nat_lt k n) ms ≡ made_each 0 n ms
taken_below n ms = taken_first 0 n (λ k. nat_lt k n) ms (λ k l e. below k n e) (λ k l. not_below k n l) ∙ each-first n ms

pub taken_components : (t : TypedNode) (first : Outcome) (ms : List (List ConstObject)) →
    taken_from 0 (is_taken t Components first) ms ≡ made_each 0 (items_of kind.Tuple (kids_of t)) ms
taken_components t first ms = taken_below (items_of kind.Tuple (kids_of t)) ms

pub taken_elements : (t : TypedNode) (first : Outcome) (ms : List (List ConstObject)) →
    taken_from 0 (is_taken t Elements first) ms ≡ made_each 0 (items_of kind.Array (kids_of t)) ms
taken_elements t first ms = taken_below (items_of kind.Array (kids_of t)) ms

between : (k n : ℕ) → 1 ≤ k → k < 1 + n → (nat_le 1 k && nat_le k n) ≡ true
between k n l e =
    let low : nat_le 1 k ≡ true = grind (arith, nat_tests) in
    let high : nat_le k n ≡ true = grind (arith, nat_tests) in
    ap₂ (λ x y. x && y) low high

not_between : (k n : ℕ) → 1 + n ≤ k → (nat_le 1 k && nat_le k n) ≡ false
not_between k n l =
    let low : nat_le 1 k ≡ true = grind (arith, nat_tests) in
    let high : nat_le k n ≡ false = grind (arith, nat_tests) in
    ap₂ (λ x y. x && y) low high

taken_behind : (n : ℕ) (ms : List (List ConstObject)) → taken_from 0 (λ k. nat_le 1 k && nat_le k n) ms ≡ made_each 1 n ms
taken_behind n [] = sym (each-none 1 n)
taken_behind n (m ∷ ms) =
    taken_first 1 n (λ k. nat_le 1 k && nat_le k n) ms (λ k l e. between k n l e) (λ k l. not_between k n l)
    ∙ each-first n ms ∙ sym (each-behind 0 n m ms)

pub taken_fields : (t : TypedNode) (first : Outcome) (ms : List (List ConstObject)) →
    taken_from 0 (is_taken t Fields first) ms ≡ made_each 1 (items_of kind.StructLit (kids_of t)) ms
taken_fields t first ms = taken_behind (items_of kind.StructLit (kids_of t)) ms

-- ---- acts of the kinds

module _ (s : Store) (own : ℕ) (old : List ConstObject) (ks : Kids) (less : Tasks) where
  -- what the kids of a node come to, and what they make
  pub record KidsMake (os : List Outcome) (ms : List (List ConstObject)) : Type 0 where
    pub shown : (i : ℕ) → Shows old own (ks.kid i AsValue) (kid_at i os)
    pub made : (i : ℕ) → MakesThese old own (ks.kid i AsValue) (made_at i ms)

  module _ (os : List Outcome) (ms : List (List ConstObject)) (v : KidsMake os ms) (sc : Scope) (e : sc.own ≡ own)
      (new : List ConstObject) where
    -- behind the value of one kid
    made_one : (k : List Cell → Act) → ((a : List Cell) → kid_at 0 os ≡ Known a → Makes old ks less (k a) new) →
        Makes old ks less (value 0 sc k) (made_at 0 ms ++ new)
    made_one k h = makes_value old ks less own 0 sc k (kid_at 0 os) (made_at 0 ms) new e (v.shown 0) (v.made 0) h

    -- behind the values of two
    made_two : (k : List Cell → List Cell → Act) →
        ((a b : List Cell) → kid_at 0 os ≡ Known a → kid_at 1 os ≡ Known b → Makes old ks less (k a b) new) →
        Makes old ks less (value 0 sc λ a. value 1 sc λ b. k a b) ((made_at 0 ms ++ made_at 1 ms) ++ new)
    made_two k h =
        makes_as old ks less (value 0 sc λ a. value 1 sc λ b. k a b) _ _ (sym (append_assoc (made_at 0 ms) (made_at 1 ms) new))
        (makes_value old ks less own 0 sc (λ a. value 1 sc λ b. k a b) (kid_at 0 os) (made_at 0 ms) (made_at 1 ms ++ new) e (v.shown 0)
        (v.made 0)
        (λ a f. makes_value old ks less own 1 sc (λ b. k a b) (kid_at 1 os) (made_at 1 ms) new e (v.shown 1) (v.made 1)
        (λ b g. h a b f g)))

    -- behind those of so many
    made_many : (i n : ℕ) (k : List (List Cell) → Act) →
        ((css : List (List Cell)) → AreKnown old ks less i n os css → Makes old ks less (k css) new) →
        Makes old ks less (values i n sc k) (made_each i n ms ++ new)
    made_many i n k h = makes_values old ks less own os ms sc e v.shown v.made i n k new h

    -- as the kinds have it that take the values of one kid, of two, or of the second where the first leaves the answer open
    one_kid : (t : TypedNode) (k : List Cell → Act) → ((a : List Cell) → kid_at 0 os ≡ Known a → Makes old ks less (k a) new) →
        Makes old ks less (value 0 sc k) (made_by_kids t OneKid os ms ++ new)
    one_kid t k h = makes_as old ks less (value 0 sc k) _ _ (ap (λ l. l ++ new) (sym (taken_one t (kid_at 0 os) ms))) (made_one k h)

    two_kids : (t : TypedNode) (x : Kind) (k : List Cell → List Cell → Act) →
        ((a b : List Cell) → operator_value s t x TwoKids (kid_at 0 os) (kid_at 1 os) ≡ binary_value s t x a b →
        Makes old ks less (k a b) new) →
        Makes old ks less (value 0 sc λ a. value 1 sc λ b. k a b) (made_by_kids t TwoKids os ms ++ new)
    two_kids t x k h =
        makes_as old ks less (value 0 sc λ a. value 1 sc λ b. k a b) _ _ (ap (λ l. l ++ new) (sym (taken_two t (kid_at 0 os) ms)))
        (made_two k (λ a b f g. h a b (ap₂ (λ y z. operator_value s t x TwoKids y z) f g)))

    -- the acts behind the left operand of a logic operator, where it leaves the answer open or not
    abbrev behind_left : TypedNode → (List Cell → Act) → List Cell → Bool → Act
    behind_left t k a x =
        if x then (value 1 sc λ b. k (bool_cells (logic (logic_of (head_of t).text) (truth a) (truth b)))) else k (bool_cells (truth a))

    right_made : (t : TypedNode) (k : List Cell → Act) (a : List Cell) (x : Bool) →
        ((cs : List Cell) →
        (if x then (on_cells (kid_at 1 os) λ b. Known (bool_cells (logic (logic_of (head_of t).text) (truth a) (truth b)))) else Known
        (bool_cells (truth a)))
        ≡ Known cs → Makes old ks less (k cs) new) →
        Makes old ks less (behind_left t k a x) (second_if x ms ++ new)
    right_made t k a true g =
        makes_value old ks less own 1 sc (λ b. k (bool_cells (logic (logic_of (head_of t).text) (truth a) (truth b)))) (kid_at 1 os)
        (made_at 1 ms) new e (v.shown 1) (v.made 1)
        (λ b f. g (bool_cells (logic (logic_of (head_of t).text) (truth a) (truth b)))
        (ap (λ o. on_cells o λ c. Known (bool_cells (logic (logic_of (head_of t).text) (truth a) (truth c)))) f))
    right_made t k a false g = g (bool_cells (truth a)) refl

    right_if_open : (t : TypedNode) (k : List Cell → Act) →
        ((cs : List Cell) → operator_value s t kind.Logic RightIfOpen (kid_at 0 os) (kid_at 1 os) ≡ Known cs →
        Makes old ks less (k cs) new) →
        Makes old ks less (constant_form (without_run s) t sc kind.Logic k) (made_by_kids t RightIfOpen os ms ++ new)
    right_if_open t k h =
        let opens : List Cell → Bool = λ a. leaves_open (logic_of (head_of t).text) (truth a) in
        makes_as old ks less (constant_form (without_run s) t sc kind.Logic k) _ _
        (sym (append_assoc (made_at 0 ms) (second_if (is_open t (kid_at 0 os)) ms) new)
        ∙ ap (λ l. l ++ new) (sym (taken_open t (kid_at 0 os) ms)))
        (makes_value old ks less own 0 sc (λ a. behind_left t k a (opens a)) (kid_at 0 os) (made_at 0 ms)
        (second_if (is_open t (kid_at 0 os)) ms ++ new) e
        (v.shown 0) (v.made 0)
        (λ a f. makes_as old ks less (behind_left t k a (opens a)) _ _ (ap (λ o. second_if (is_open t o) ms ++ new) (sym f))
        (right_made t k a (opens a) (λ cs g. h cs (ap (λ o. operator_value s t kind.Logic RightIfOpen o (kid_at 1 os)) f ∙ g)))))

  -- what a kind makes that takes the value of no kid
  no_kid : (os : List Outcome) (ms : List (List ConstObject)) (t : TypedNode) (a : Act) (new : List ConstObject) → Makes old ks less a new →
      Makes old ks less a (made_by_kids t NoKid os ms ++ new)
  no_kid os ms t a new h = makes_as old ks less a _ _ (ap (λ l. l ++ new) (sym (taken_none t (kid_at 0 os) ms))) h

  numbers_made : (t : TypedNode) (x : Bool) (answer : Answer ℤ) (k : List Cell → Act) (new : List ConstObject) →
      ((cs : List Cell) → (if x then Known [] else on_answer answer λ v. Known (numbered s t v)) ≡ Known cs →
      Makes old ks less (k cs) new) →
      Makes old ks less (if x then k [] else (answered (without_run s) (head_of t) answer λ v. k (numbered s t v))) new
  numbers_made t true answer k new h = h [] refl
  numbers_made t false answer k new h =
      makes_answered old ks less (without_run s) (head_of t) answer (λ v. k (numbered s t v)) new
      (λ v e. h (numbered s t v) (ap (λ y. on_answer y λ z. Known (numbered s t z)) e))

  shift_made : (t : TypedNode) (x : Bool) (v : ℤ) (k : List Cell → Act) (new : List ConstObject) →
      ((cs : List Cell) → Known (if x then [] else numbered s t v) ≡ Known cs → Makes old ks less (k cs) new) →
      Makes old ks less (if x then k [] else k (numbered s t v)) new
  shift_made t true v k new h = h [] refl
  shift_made t false v k new h = h (numbered s t v) refl

  length_made : (t : TypedNode) (x : Bool) (n : List Cell) (answer : Answer Words) (k : List Cell → Act) (new : List ConstObject) →
      ((cs : List Cell) → (if x then Known n else on_answer answer λ v. Known (numbered s t (pos v.length))) ≡ Known cs →
      Makes old ks less (k cs) new) →
      Makes old ks less (if x then k n else (answered (without_run s) (head_of t) answer λ v. k (numbered s t (pos v.length)))) new
  length_made t true n answer k new h = h n refl
  length_made t false n answer k new h =
      makes_answered old ks less (without_run s) (head_of t) answer (λ v. k (numbered s t (pos v.length))) new
      (λ v e. h _ (ap (λ y. on_answer y λ z. Known (numbered s t (pos z.length))) e))

  numbers_compared : (t : TypedNode) (q : Equality) (a b : List Cell) (k : Bool → Act) (new : List ConstObject) → q ≡ OfNumbers →
      Makes old ks less (k (same_number (number_of_kid s t 0 a) (number_of_kid s t 1 b))) new →
      Makes old ks less (with_equality (without_run s) t q a b k) new
  numbers_compared t OfNumbers a b k new e h = h
  numbers_compared t OfPointers a b k new e h = absurd cc
  numbers_compared t OfTexts a b k new e h = absurd cc

  texts_compared : (os : List Outcome) (t : TypedNode) (same : Bool) (k : Bool → Act) (new : List ConstObject) (c : Compares old os same) →
      Makes old ks less (k same) new → Makes old ks less (with_equality (without_run s) t OfTexts c.left c.right k) new
  texts_compared os t same k new c h =
      makes_as_given old ks less (without_run s) (head_of t) (words c.left)
      (λ v. answered (without_run s) (head_of t) (words c.right) λ u. with_texts (without_run s) t v u k) c.left_words new c.left_told
      (makes_as_given old ks less (without_run s) (head_of t) (words c.right) (λ u. with_texts (without_run s) t c.left_words u k)
      c.right_words new c.right_told
      (makes_tick old ks less (if nat_eq c.left_words.length c.right_words.length then c.left_words.length / 64 else 0)
      (look λ m. answered (without_run s) (head_of t) (same_text (reading m.objects) c.left_words c.right_words) k) new
      (makes_looked old ks less (without_run s) (head_of t) (λ m. same_text (reading m.objects) c.left_words c.right_words) k same new
      c.told
      h)))

  -- behind the cells of both operands, by whether they are texts
  same_made : (os : List Outcome) (t : TypedNode) (a b : List Cell) (k : List Cell → Act) (new : List ConstObject) →
      IsCompared s own old ks less os t → kid_at 0 os ≡ Known a → kid_at 1 os ≡ Known b →
      Makes old ks less (as_equal s own old ks less t k (same_operands s t a b)) new →
      Makes old ks less (with_equality (without_run s) t (equality_of s (type_of_kid 0 t)) a b (as_equal s own old ks less t k)) new
  same_made os t a b k new (numbers d q) f g h =
      numbers_compared t (equality_of s (type_of_kid 0 t)) a b (as_equal s own old ks less t k) new q
      (subst (λ x. Makes old ks less (as_equal s own old ks less t k
      (if x then same_texts s (kids_of t) else same_number (number_of_kid s t 0 a) (number_of_kid s t 1 b))) new) d h)
  same_made os t a b k new (texts d c) f g h =
      let left : c.left ≡ a = known_same c.left a (sym c.first ∙ f) in
      let right : c.right ≡ b = known_same c.right b (sym c.second ∙ g) in
      subst (λ x. Makes old ks less (with_equality (without_run s) t (if x then OfTexts else equality_of_shape (option_and_then shape_of_row
      (base_row s (type_of_kid 0 t)))) a b (as_equal s own old ks less t k)) new) (sym d)
      (subst (λ x. Makes old ks less (with_equality (without_run s) t OfTexts x b (as_equal s own old ks less t k)) new) left
      (subst (λ y. Makes old ks less (with_equality (without_run s) t OfTexts c.left y (as_equal s own old ks less t k)) new) right
      (texts_compared os t (same_texts s (kids_of t)) (as_equal s own old ks less t k) new c
      (subst (λ x. Makes old ks less (as_equal s own old ks less t k
      (if x then same_texts s (kids_of t) else same_number (number_of_kid s t 0 a) (number_of_kid s t 1 b))) new) d h))))
    where
      known_same : (xs ys : List Cell) → Known xs ≡ Known ys → xs ≡ ys
      known_same xs ys q = cc

  constant_made : (c : Const) (k : List Cell → Act) (new : List ConstObject) → Makes old ks less (k (cells_known c)) new →
      Makes old ks less (k (constant_cells (without_run s) c)) new
  constant_made constant.Absent k new h = h
  constant_made (constant.Known cs os) k new h = subst (λ x. Makes old ks less (k x) new) (sym (homed-same cs)) h

  place_made : (sc : Scope) (k : Pointer → Act) (p : Pointer) (new : List ConstObject) → sc.own ≡ own → Places s own old ks less p →
      Makes old ks less (k p) new → Makes old ks less (place 0 sc k) new
  place_made sc k p new e m h = record { named = λ st cs has. go st cs has (ks.kid 0 AsPlace sc st) (m sc st e) }
    where
      go : (st : State) (cs : List Cell) → Has old st.memory → (r : Result) → (r.0 ≡ Reached p) × (r.1.memory ≡ st.memory) →
          (after r (λ x u. act ks less (on_place k x) u)).0 ≡ Value cs →
          named_in (after r (λ x u. act ks less (on_place k x) u)).1 ≡ named_in st ++ new
      go st cs has (Reached q, u) (f, g) z =
          let same : q ≡ p = cc in
          let made = subst (λ y. Makes old ks less (k y) new) (sym same) h in
          made.named u cs (subst (Has old) (sym g) has) z ∙ ap (λ y. held y.objects.named ++ new) g
      go st cs has (_, u) (f, g) z = absurd cc

  -- what a kind asks of its node and of the kids
  abbrev pub ReadyToMake : List Outcome → List (List ConstObject) → TypedNode → Kind → Type 0
  ReadyToMake os ms t kind.Addr = Places s own old ks less (Address (declared_by (mark_of (kid_from_front 0 t)).meaning) 0)
  ReadyToMake os ms t kind.Offset = Unit {0}
  ReadyToMake os ms t kind.Equal = KidsMake os ms × IsCompared s own old ks less os t
  ReadyToMake os ms t _ = KidsMake os ms

  unary : (os : List Outcome) (t : TypedNode) (x : Kind) (a : List Cell) → kid_at 0 os ≡ Known a →
      operator_value s t x OneKid (kid_at 0 os) (kid_at 1 os) ≡ unary_value s t x a
  unary os t x a f = ap (λ o. operator_value s t x OneKid o (kid_at 1 os)) f

  module _ (os : List Outcome) (ms : List (List ConstObject)) (t : TypedNode) (sc : Scope) (e : sc.own ≡ own) (k : List Cell → Act)
      (new : List ConstObject) where
    pub makes_form : (x : Kind) → ReadyToMake os ms t x →
        ((cs : List Cell) → kind_value s own t x os ≡ Known cs → Makes old ks less (k cs) new) →
        Makes old ks less (constant_form (without_run s) t sc x k) (made_by_kids t (operands_of x) os ms ++ new)
    makes_form kind.Number v h = no_kid os ms t _ new (h _ refl)
    makes_form kind.RuneLit v h = no_kid os ms t _ new (h _ refl)
    makes_form kind.Bool v h = no_kid os ms t _ new (h _ refl)
    makes_form kind.Str v h = no_kid os ms t _ new (h (literal_text sc.own t) (ap (λ o. Known (literal_text o t)) (sym e)))
    makes_form kind.Path v h = no_kid os ms t _ new (constant_made (mark_of t).value k new (h _ refl))
    makes_form kind.Paren v h = one_kid os ms v sc e new t k (λ a f. h a (unary os t kind.Paren a f))
    makes_form kind.Neg v h = one_kid os ms v sc e new t _ (λ a f. h _ (unary os t kind.Neg a f))
    makes_form kind.Not v h = one_kid os ms v sc e new t _ (λ a f. h _ (unary os t kind.Not a f))
    makes_form kind.Bang v h = one_kid os ms v sc e new t _ (λ a f. h _ (unary os t kind.Bang a f))
    makes_form kind.Arith v h =
        two_kids os ms v sc e new t kind.Arith _
        (λ a b f. numbers_made t (is_iconst (own_type t)) (arith_answer (without_run s) t (number_of_kid s t 0 a) (number_of_kid s t 1 b)) k
        new
        (λ cs g. h cs (f ∙ g)))
    makes_form kind.Shift v h =
        two_kids os ms v sc e new t kind.Shift _
        (λ a b f. shift_made t (is_iconst (own_type t))
        (shifted (shift_of (head_of t).text) (int_in s (own_type t)) (number_of_kid s t 0 a) (number_of_kid s t 1 b)) k new
        (λ cs g. h cs (f ∙ g)))
    makes_form kind.Less v h = two_kids os ms v sc e new t kind.Less _ (λ a b f. h _ f)
    makes_form kind.Equal v h =
        makes_as old ks less (constant_form (without_run s) t sc kind.Equal k) _ _ (ap (λ l. l ++ new) (sym (taken_two t (kid_at 0 os) ms)))
        (made_two os ms v.0 sc e new _
        (λ a b f g. same_made os t a b k new v.1 f g (h _ (ap₂ (λ y z. operator_value s t kind.Equal TwoKids y z) f g))))
    makes_form kind.Logic v h = right_if_open os ms v sc e new t k h
    makes_form kind.Cast v h = one_kid os ms v sc e new t _ (λ a f. h _ (unary os t kind.Cast a f))
    makes_form kind.StructLit v h =
        makes_as old ks less (constant_form (without_run s) t sc kind.StructLit k) _ _
        (ap (λ l. l ++ new) (sym (taken_fields t (kid_at 0 os) ms)))
        (made_many os ms v sc e new 1 (items_of kind.StructLit (kids_of t)) (λ cs. k (struct_value s t cs))
        (λ css f. h (struct_value s t css) (f (λ cs. Known (struct_value s t cs)))))
    makes_form kind.FieldValue v h = one_kid os ms v sc e new t k (λ a f. h a (unary os t kind.FieldValue a f))
    makes_form kind.Tuple v h =
        makes_as old ks less (constant_form (without_run s) t sc kind.Tuple k) _ _
        (ap (λ l. l ++ new) (sym (taken_components t (kid_at 0 os) ms)))
        (made_many os ms v sc e new 0 (items_of kind.Tuple (kids_of t)) (λ cs. k (tuple_value s t cs))
        (λ css f. h (tuple_value s t css) (f (λ cs. Known (tuple_value s t cs)))))
    makes_form kind.Array v h =
        makes_as old ks less (constant_form (without_run s) t sc kind.Array k) _ _
        (ap (λ l. l ++ new) (sym (taken_elements t (kid_at 0 os) ms)))
        (made_many os ms v sc e new 0 (items_of kind.Array (kids_of t)) (λ cs. k (array_value s t cs))
        (λ css f. h (array_value s t css) (f (λ cs. Known (array_value s t cs)))))
    makes_form kind.Size v h = no_kid os ms t _ new (h _ refl)
    makes_form kind.Align v h = no_kid os ms t _ new (h _ refl)
    makes_form kind.Offset v h = no_kid os ms t _ new (h _ refl)
    makes_form kind.Len v h =
        one_kid os ms v sc e new t _
        (λ a f. length_made t (is_array_row (base_row s (type_of_kid 0 t))) (array_length_value s t) (words a) k new
        (λ cs g. h cs (unary os t kind.Len a f ∙ g)))
    makes_form kind.Addr v h =
        no_kid os ms t _ new (place_made sc _ (Address (declared_by (mark_of (kid_from_front 0 t)).meaning) 0) new e v (h _ refl))
    makes_form _ v h = no_kid os ms t _ new (h [] refl)

  -- ---- coercions

  abbrev ending : List Cell → Act
  ending ds = end (Value ds)

  given_made : (t : TypedNode) (cs : List Cell) → Makes old ks less (with_coercion (without_run s) t cs ending) []
  given_made t cs =
      makes_answered old ks less (without_run s) (head_of t) (coerced s (mark_of t).ty (mark_of t).coerce cs) ending []
      (λ ds f. makes_end old ks less (Value ds))

  from_made : (t : TypedNode) (sc : Scope) (cs : List Cell) (x : Option ℕ) →
      Makes old ks less (coerced_from (without_run s) t sc cs x ending)
      (if is_some x then record { object = object_number sc.own t; cells = cs } ∷ [] else [])
  from_made t sc cs None = given_made t cs
  from_made t sc cs (Some y) =
      makes_make old ks less (static_number sc t) (array_object (without_run s) y cs)
      (λ o. slice_over (without_run s) t (Address o 0) ending)
      []
      (given_made t (slice_of sc.own t (length_of_value s (mark_of t).ty)))

  coerced_made : (t : TypedNode) (sc : Scope) (cs : List Cell) → sc.own ≡ own →
      Makes old ks less (as_coerced (without_run s) t sc cs ending) (own_object s own t cs)
  coerced_made t sc cs e =
      makes_as old ks less (as_coerced (without_run s) t sc cs ending) _ _ (ap (λ o. own_object s o t cs) e)
      (from_made t sc cs (sliced_element s (mark_of t).ty (mark_of t).coerce))

  pub makes_value_of : (os : List Outcome) (ms : List (List ConstObject)) (t : TypedNode) (sc : Scope) (x : Kind) → sc.own ≡ own →
      ReadyToMake os ms t x →
      Makes old ks less (by_value (without_run s) t sc (constant_form (without_run s) t sc x) ending)
      (made_by_kids t (operands_of x) os ms ++ made_of_value s own t (kind_value s own t x os))
  makes_value_of os ms t sc x e v =
      makes_tick old ks less (ticks_of_value s t) (constant_form (without_run s) t sc x (λ cs. as_coerced (without_run s) t sc cs ending)) _
      (makes_form os ms t sc e (λ cs. as_coerced (without_run s) t sc cs ending) (made_of_value s own t (kind_value s own t x os)) x v
      (λ cs f. makes_as old ks less (as_coerced (without_run s) t sc cs ending) _ _ (ap (made_of_value s own t) (sym f))
      (coerced_made t sc cs e)))
