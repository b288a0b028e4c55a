-- The acts of the constant kinds look only where a constant may look, and what they give leads there.
use Rattle.std.proofs.Common.{ℕ, zero, suc, Bool, true, false, List, [], ◌∷◌, length, refl, ap, inl}
use Rattle.std.specs.Prelude.{ℤ, if◌then◌else◌, Option, Some, None, option_and_then}
use Rattle.hare_tree.specs.declared.kind.Kind.{Kind}
use Rattle.hare_tree.specs.declared.kind.Kind.TheVariants as kind
use Rattle.hare_tree.specs.Node.{Head}
use Rattle.hare_types.specs.declared.coercion.Ty.{Ty}
use Rattle.hare_types.specs.Store.{Store}
use Rattle.hare_typed.specs.declared.cell.Cell.{Cell}
use Rattle.hare_typed.specs.declared.cell.Cell.TheVariants as cell
use Rattle.hare_typed.specs.declared.constant.Const.{Const}
use Rattle.hare_typed.specs.declared.constant.Const.TheVariants as constant
use Rattle.hare_typed.specs.Typed.{TypedNode, head_of, mark_of}
use Rattle.hare_typed.specs.Given.{base_row, size_in}
use Rattle.hare_typed.specs.Shapes.{shape_of_row}
use Rattle.hare_typed.specs.Answers.{Answer, Gives, Aborts, IsUndefined}
use Rattle.hare_typed.specs.Cells.{with_cells, undefined_cells}
use Rattle.hare_typed.specs.Scalars.{Pointer, Null, Address}
use Rattle.hare_typed.specs.Objects.{reading}
use Rattle.hare_typed.specs.Pointers.{same_pointer}
use Rattle.hare_typed.specs.Words.{Words, three, words, same_text}
use Rattle.hare_typed.specs.Coercions.{pointer_of, sliced_element}
use Rattle.hare_typed.specs.State.{Memory, Scope, AsValue, AsPlace, Outcome, Value, Reached}
use Rattle.hare_typed.specs.Acts.{Act}
use Rattle.hare_typed.specs.Interpreter.{Kids}
use Rattle.hare_typed.specs.World.{World, static_number, homed, answered}
use Rattle.hare_typed.specs.Sequence.{on_value, on_place, value, place, values}
use Rattle.hare_typed.specs.Evaluated.{ValueForm, with_coercion, slice_over, array_number, coerced_from, as_coerced, by_value}
use Rattle.hare_typed.specs.ConstantForms.{own_type, own_number, bool_cells, constant_cells, with_numbers, is_iconst, arith_answer, shift_answer, Equality, OfNumbers, OfPointers, OfTexts, with_texts, with_equality, equality_of, type_of_kid, cast_cells, is_whole, number_of_kid, offset_in, with_parts, made_of, joined, last_of}
use Rattle.hare_typed.specs.Repeats.{again}
use Rattle.hare_typed.specs.ConstantValues.{constant_form}
use Rattle.hare_typed.specs.Alike.{AreAlike}
use Rattle.hare_typed.proofs.AlikeLemmas.{looks_where_pointed}
use Rattle.hare_typed.proofs.Steady.Points.{Points, PointsTo, PointsAnswer, PointsEach, PointsWords, Points-append, Points-undefined, Points-with, Points-pointer, Points-pointer_of, Points-three, Points-words, Points-number_cells, Points-coerced}
use Rattle.hare_typed.proofs.Steady.Acts.{MayLook, PointsOutcome, IsSteady, ReadAlike, StaticNumber, Steady, ends, looks, makes, ticks, asks}

module _ (w : World) (b : ℕ) (ks : Kids) where
  -- whatever cells follow it that lead where it may look, it is steady
  abbrev pub SteadyBehind : (List Cell → Act) → Type 0
  SteadyBehind k = (cs : List Cell) → Points (MayLook w b) cs → Steady w b ks (k cs)

  -- ---- what acts are made of

  steady_if : (x : Bool) (a c : Act) → Steady w b ks a → Steady w b ks c → Steady w b ks (if x then a else c)
  steady_if true a c h k = h
  steady_if false a c h k = k

  steady_on_value : (k : List Cell → Act) → SteadyBehind k → (o : Outcome) → PointsOutcome w b o → Steady w b ks (on_value k o)
  steady_on_value k h (Value cs) p = h cs p
  steady_on_value k h o p = ends o p

  steady_on_place : (k : Pointer → Act) → ((p : Pointer) → PointsTo (MayLook w b) p → Steady w b ks (k p)) → (o : Outcome) →
      PointsOutcome w b o → Steady w b ks (on_place k o)
  steady_on_place k h (Reached q) p = h q p
  steady_on_place k h o p = ends o p

  steady_value : (i : ℕ) (sc : Scope) (k : List Cell → Act) → IsSteady w b (ks.kid i AsValue) → SteadyBehind k →
      Steady w b ks (value i sc k)
  steady_value i sc k m h = asks i AsValue sc (on_value k) m (steady_on_value k h)

  pub steady_place : (i : ℕ) (sc : Scope) (k : Pointer → Act) → IsSteady w b (ks.kid i AsPlace) →
      ((p : Pointer) → PointsTo (MayLook w b) p → Steady w b ks (k p)) → Steady w b ks (place i sc k)
  steady_place i sc k m h = asks i AsPlace sc (on_place k) m (steady_on_place k h)

  steady_values : ((i : ℕ) → IsSteady w b (ks.kid i AsValue)) → (i n : ℕ) (sc : Scope) (k : List (List Cell) → Act) →
      ((cs : List (List Cell)) → PointsEach (MayLook w b) cs → Steady w b ks (k cs)) → Steady w b ks (values i n sc k)
  steady_values m i zero sc k h = h [] tt
  steady_values m i (suc n) sc k h =
      steady_value i sc (λ c. values (suc i) n sc λ cs. k (c ∷ cs)) (m i)
      (λ c p. steady_values m (suc i) n sc (λ cs. k (c ∷ cs)) (λ cs q. h (c ∷ cs) (p, q)))

  steady_answered : (h : Head) (a : Answer (List Cell)) (k : List Cell → Act) → PointsAnswer (MayLook w b) a → SteadyBehind k →
      Steady w b ks (answered w h a k)
  steady_answered h (Gives cs) k p q = q cs p
  steady_answered h (Aborts r) k p q = ends _ tt
  steady_answered h (IsUndefined u) k p q = ends _ tt

  steady_any : {A : Type 0} (h : Head) (a : Answer A) (k : A → Act) → ((x : A) → Steady w b ks (k x)) → Steady w b ks (answered w h a k)
  steady_any h (Gives x) k q = q x
  steady_any h (Aborts r) k q = ends _ tt
  steady_any h (IsUndefined u) k q = ends _ tt

  steady_words : (h : Head) (a : Answer Words) (k : Words → Act) → PointsWords (MayLook w b) a →
      ((v : Words) → PointsTo (MayLook w b) v.data_at → Steady w b ks (k v)) → Steady w b ks (answered w h a k)
  steady_words h (Gives v) k p q = q v p
  steady_words h (Aborts r) k p q = ends _ tt
  steady_words h (IsUndefined u) k p q = ends _ tt

  -- ---- what is looked at

  alike_at : (m m' : Memory) (p : Pointer) → ReadAlike w b m m' → PointsTo (MayLook w b) p →
      AreAlike (reading m.objects) (reading m'.objects) p
  alike_at m m' Null h l = tt
  alike_at m m' (Address o d) h l = h o l

  steady_texts : (t : TypedNode) (v u : Words) (k : Bool → Act) → PointsTo (MayLook w b) v.data_at → PointsTo (MayLook w b) u.data_at →
      ((x : Bool) → Steady w b ks (k x)) → Steady w b ks (with_texts w t v u k)
  steady_texts t v u k p q h =
      ticks _ _ (looks (λ m. answered w (head_of t) (same_text (reading m.objects) v u) k)
      (λ m m' e. ap (λ a. answered w (head_of t) a k)
      (looks_where_pointed.text (reading m.objects) (reading m'.objects) v u (alike_at m m' v.data_at e p)
      (alike_at m m' u.data_at e q)))
      (λ m. steady_any (head_of t) (same_text (reading m.objects) v u) k h))

  steady_equality : (t : TypedNode) (e : Equality) (c d : List Cell) (k : Bool → Act) → Points (MayLook w b) c → Points (MayLook w b) d →
      ((x : Bool) → Steady w b ks (k x)) → Steady w b ks (with_equality w t e c d k)
  steady_equality t OfNumbers c d k p q h = h _
  steady_equality t OfPointers c d k p q h =
      looks (λ m. answered w (head_of t) (same_pointer (reading m.objects) (pointer_of c) (pointer_of d)) k)
      (λ m m' e. ap (λ a. answered w (head_of t) a k)
      (looks_where_pointed.compared (reading m.objects) (reading m'.objects) (pointer_of c) (pointer_of d)
      (alike_at m m' (pointer_of c) e (Points-pointer_of (MayLook w b) c p))
      (alike_at m m' (pointer_of d) e (Points-pointer_of (MayLook w b) d q))))
      (λ m. steady_any (head_of t) _ k h)
  steady_equality t OfTexts c d k p q h =
      steady_words (head_of t) (words c) (λ v. answered w (head_of t) (words d) λ u. with_texts w t v u k) (Points-words (MayLook w b) c p)
      (λ v pv. steady_words (head_of t) (words d) (λ u. with_texts w t v u k) (Points-words (MayLook w b) d q)
      (λ u pu. steady_texts t v u k pv pu h))

  -- ---- cells that are made

  points_number : (t : TypedNode) (v : ℤ) → Points (MayLook w b) (own_number w t v)
  points_number t v = Points-number_cells (MayLook w b) w.types (own_type t) v

  points_bool : (x : Bool) → Points (MayLook w b) (bool_cells x)
  points_bool true = tt
  points_bool false = tt

  points_homed : (cs : List Cell) → Points (MayLook w b) (homed w cs)
  points_homed [] = tt
  points_homed (cell.Byte x ∷ cs) = points_homed cs
  points_homed (cell.Fragment o d k ∷ cs) = (inl (o, refl), points_homed cs)
  points_homed (cell.Undef ∷ cs) = points_homed cs

  points_constant : (c : Const) → Points (MayLook w b) (constant_cells w c)
  points_constant constant.Absent = tt
  points_constant (constant.Known cs os) = points_homed cs

  points_text : (t : TypedNode) (sc : Scope) (n : ℕ) →
      Points (MayLook w b) (three (record { data_at = Address (w.home (static_number sc t)) 0; length = n; capacity = n }))
  points_text t sc n =
      let l : MayLook w b (w.home (static_number sc t)) = inl (static_number sc t, refl) in
      Points-three (MayLook w b) (record { data_at = Address (w.home (static_number sc t)) 0; length = n; capacity = n }) l

  points_if : (x : Bool) (cs ds : List Cell) → Points (MayLook w b) cs → Points (MayLook w b) ds →
      Points (MayLook w b) (if x then cs else ds)
  points_if true cs ds h k = h
  points_if false cs ds h k = k

  points_cast : (t : TypedNode) (c : List Cell) → Points (MayLook w b) c → Points (MayLook w b) (cast_cells w t c)
  points_cast t c p =
      points_if (is_whole (option_and_then shape_of_row (base_row w.types (own_type t)))) (own_number w t (number_of_kid w t 0 c)) c
      (points_number t (number_of_kid w t 0 c)) p

  points_parts : (s : Store) (f : Ty) (ns : List ℕ) (cs : List (List Cell)) (into : List Cell) → PointsEach (MayLook w b) cs →
      Points (MayLook w b) into →
      Points (MayLook w b) (with_parts s f ns cs into)
  points_parts s f [] cs into h k = k
  points_parts s f (n ∷ ns) [] into h k = k
  points_parts s f (n ∷ ns) (c ∷ cs) into h k =
      points_parts s f ns cs (with_cells (offset_in s f n) c into) h.1 (Points-with (MayLook w b) (offset_in s f n) c into h.0 k)

  points_made_of : (s : Store) (f : Ty) (ns : List ℕ) (cs : List (List Cell)) → PointsEach (MayLook w b) cs →
      Points (MayLook w b) (made_of s f ns cs)
  points_made_of s f ns cs h = points_parts s f ns cs (undefined_cells (size_in s f)) h (Points-undefined (MayLook w b) (size_in s f))

  points_joined : (cs : List (List Cell)) → PointsEach (MayLook w b) cs → Points (MayLook w b) (joined cs)
  points_joined [] h = tt
  points_joined (c ∷ cs) h = Points-append (MayLook w b) c (joined cs) h.0 (points_joined cs h.1)

  points_last : (cs : List (List Cell)) → PointsEach (MayLook w b) cs → Points (MayLook w b) (last_of cs)
  points_last [] h = tt
  points_last (c ∷ []) h = h.0
  points_last (c ∷ d ∷ ds) h = points_last (d ∷ ds) h.1

  points_again : (n : ℕ) (c : List Cell) → Points (MayLook w b) c → Points (MayLook w b) (again n c)
  points_again zero c h = tt
  points_again (suc n) c h = Points-append (MayLook w b) c (again n c) h (points_again n c h)

  -- ---- the kinds

  -- what a kind asks of the kids of its nodes
  abbrev pub Ready : Kind → Type 0
  Ready kind.Addr = IsSteady w b (ks.kid 0 AsPlace)
  Ready kind.Offset = Unit {0}
  Ready kind.Path = Unit {0}
  Ready _ = (i : ℕ) → IsSteady w b (ks.kid i AsValue)

  steady_numbers : (t : TypedNode) (c d : List Cell) (f : ℤ → ℤ → Answer ℤ) (k : List Cell → Act) → SteadyBehind k →
      Steady w b ks (with_numbers w t c d f k)
  steady_numbers t c d f k h =
      steady_if (is_iconst (own_type t)) _ _ (h [] tt)
      (steady_any (head_of t) (f (number_of_kid w t 0 c) (number_of_kid w t 1 d)) _ (λ v. h (own_number w t v) (points_number t v)))

  pub steady_form : (t : TypedNode) (sc : Scope) (x : Kind) (k : List Cell → Act) → Ready x → SteadyBehind k →
      Steady w b ks (constant_form w t sc x k)
  steady_form t sc kind.Number k m h = h _ (points_number t _)
  steady_form t sc kind.RuneLit k m h = h _ (points_number t _)
  steady_form t sc kind.Bool k m h = h _ (points_bool _)
  steady_form t sc kind.Str k m h = h _ (points_text t sc (length (head_of t).text))
  steady_form t sc kind.Path k m h = h _ (points_constant (mark_of t).value)
  steady_form t sc kind.Paren k m h = steady_value 0 sc k (m 0) h
  steady_form t sc kind.Neg k m h = steady_value 0 sc _ (m 0) (λ c p. h _ (points_number t _))
  steady_form t sc kind.Not k m h = steady_value 0 sc _ (m 0) (λ c p. h _ (points_number t _))
  steady_form t sc kind.Bang k m h = steady_value 0 sc _ (m 0) (λ c p. h _ (points_bool _))
  steady_form t sc kind.Arith k m h = steady_value 0 sc _ (m 0)
      (λ c p. steady_value 1 sc _ (m 1) (λ d q. steady_numbers t c d (arith_answer w t) k h))
  steady_form t sc kind.Shift k m h = steady_value 0 sc _ (m 0)
      (λ c p. steady_value 1 sc _ (m 1) (λ d q. steady_numbers t c d (shift_answer w t) k h))
  steady_form t sc kind.Less k m h = steady_value 0 sc _ (m 0) (λ c p. steady_value 1 sc _ (m 1) (λ d q. h _ (points_bool _)))
  steady_form t sc kind.Equal k m h =
      steady_value 0 sc _ (m 0) (λ c p. steady_value 1 sc _ (m 1)
      (λ d q. steady_equality t (equality_of w.types (type_of_kid 0 t)) c d _ p q (λ x. h _ (points_bool _))))
  steady_form t sc kind.Logic k m h = steady_value 0 sc _ (m 0)
      (λ c p. steady_if _ _ _ (steady_value 1 sc _ (m 1) (λ d q. h _ (points_bool _))) (h _ (points_bool _)))
  steady_form t sc kind.Cast k m h = steady_value 0 sc _ (m 0) (λ c p. h _ (points_cast t c p))
  steady_form t sc kind.StructLit k m h = steady_values m 1 _ sc _ (λ cs p. h _ (points_made_of w.types (own_type t) _ cs p))
  steady_form t sc kind.FieldValue k m h = steady_value 0 sc k (m 0) h
  steady_form t sc kind.Tuple k m h = steady_values m 0 _ sc _ (λ cs p. h _ (points_made_of w.types (own_type t) _ cs p))
  steady_form t sc kind.Array k m h =
      steady_values m 0 _ sc _ (λ cs p. h _ (Points-append (MayLook w b) (joined cs) _ (points_joined cs p)
      (points_again _ (last_of cs) (points_last cs p))))
  steady_form t sc kind.Size k m h = h _ (points_number t _)
  steady_form t sc kind.Align k m h = h _ (points_number t _)
  steady_form t sc kind.Offset k m h = h _ (points_number t _)
  steady_form t sc kind.Len k m h = steady_value 0 sc _ (m 0)
      (λ c p. steady_if _ _ _ (h _ (points_number t _)) (steady_any (head_of t) (words c) _ (λ v. h _ (points_number t _))))
  steady_form t sc kind.Addr k m h = steady_place 0 sc _ m (λ p l. h _ (Points-pointer (MayLook w b) p l))
  steady_form t sc _ k m h = h [] tt

  -- ---- coercions

  steady_coercion : (t : TypedNode) (cs : List Cell) (k : List Cell → Act) → Points (MayLook w b) cs → SteadyBehind k →
      Steady w b ks (with_coercion w t cs k)
  steady_coercion t cs k p h = steady_answered (head_of t) _ k
      (Points-coerced (MayLook w b) w.types (mark_of t).ty (mark_of t).coerce cs p) h

  steady_slice_over : (t : TypedNode) (p : Pointer) (k : List Cell → Act) → PointsTo (MayLook w b) p → SteadyBehind k →
      Steady w b ks (slice_over w t p k)
  steady_slice_over t p k l h = steady_coercion t _ k (Points-three (MayLook w b) _ l) h

  array_is_static : (sc : Scope) (t : TypedNode) → StaticNumber w b (array_number w sc t)
  array_is_static sc t = go w.runs
    where
      go : (x : Bool) → StaticNumber w b (if x then None else Some (w.home (static_number sc t)))
      go true = tt
      go false = (static_number sc t, refl)

  steady_coerced_from : (t : TypedNode) (sc : Scope) (cs : List Cell) (x : Option ℕ) (k : List Cell → Act) → Points (MayLook w b) cs →
      SteadyBehind k → Steady w b ks (coerced_from w t sc cs x k)
  steady_coerced_from t sc cs None k p h = steady_coercion t cs k p h
  steady_coerced_from t sc cs (Some x) k p h = makes _ _ _ (array_is_static sc t) (λ o l. steady_slice_over t (Address o 0) k l h)

  -- the acts of a kind are steady where what follows them is
  abbrev pub SteadyForm : ValueForm → Type 0
  SteadyForm f = (k : List Cell → Act) → SteadyBehind k → Steady w b ks (f k)

  pub steady_by_value : (t : TypedNode) (sc : Scope) (f : ValueForm) (k : List Cell → Act) → SteadyForm f → SteadyBehind k →
      Steady w b ks (by_value w t sc f k)
  steady_by_value t sc f k m h =
      ticks _ _ (m (λ cs. as_coerced w t sc cs k)
      (λ cs p. steady_coerced_from t sc cs (sliced_element w.types (mark_of t).ty (mark_of t).coerce) k p h))
