-- The value of a node, and whether it is constant, are in each later store the same.
use Rattle.std.proofs.Common.{◌≡◌, ◌∙◌, sym, ap, ap₂, subst, refl, ℕ, zero, suc, Bool, true, false, List, [], ◌∷◌, IsSome}
use Rattle.std.specs.Prelude.{◌==◌, ◌-◌, Option, Some, None, bytes_eq, ◌||◌, ◌&&◌, not, pos, ℤ, option_and_then, unwrap_or, ◌++◌, if◌then◌else◌}
use Rattle.hare_tree.specs.declared.kind.Kind.{Kind}
use Rattle.hare_tree.specs.declared.kind.Kind.TheVariants as kind
use Rattle.hare_tree.specs.Levels.{is_type}
use Rattle.hare_tree.specs.Node.{Head}
use Rattle.hare_tree.specs.declared.token.Meaning.{Meaning}
use Rattle.hare_tree.specs.declared.token.Meaning.TheVariants as meant
use Rattle.hare_types.specs.declared.coercion.Ty.{Ty}
use Rattle.hare_types.specs.declared.coercion.Ty.TheVariants as ty
use Rattle.hare_types.specs.Store.{Store}
use Rattle.hare_types.specs.Sound.{IsStore}
use Rattle.hare_types.specs.Later.{IsLater}
use Rattle.hare_types.specs.ByIds.{base_at}
use Rattle.std.proofs.lemmas.List.Elements.{recursion_from_All}
use Rattle.hare_typed.specs.declared.cell.Cell.{Cell}
use Rattle.hare_typed.specs.Typed.{TypedNode, TypedNodes, Mark, marked, typed_none, typed_more, head_of, kids_of, listed_nodes}
use Rattle.hare_typed.specs.Order.{kid_from_front, tree_from_front}
use Rattle.hare_typed.specs.Given.{base_row, first_given, given, is_str, is_str_row, size_in}
use Rattle.hare_typed.specs.Weight.{items_of}
use Rattle.hare_typed.specs.Answers.{Answer, Gives, Aborts as aborts, IsUndefined}
use Rattle.hare_typed.specs.Repeats.{again}
use Rattle.hare_typed.specs.Arithmetic.{arithmetic_of, shift_of, order_of, by_equality, arithmetic, shifted, negated, complemented, in_order, same_number}
use Rattle.hare_typed.specs.Shapes.{shape_of_row, align_in}
use Rattle.hare_typed.specs.Constants.{is_known}
use Rattle.hare_typed.specs.Constancy.{is_name_of, is_void_row, names_void, is_address_row, is_counted_row, is_wrapper, is_constant_kind, is_constant, is_global_path, begins_with_global, hides_kids, or_else, first_inconstant, first_inconstant_of}
use Rattle.hare_typed.specs.Coercions.{length_of_row}
use Rattle.hare_typed.specs.Words.{words}
use Rattle.hare_typed.specs.Evaluated.{is_named, is_place_kind, first_is_place}
use Rattle.hare_typed.specs.ConstantForms.{own_type, type_of_kid, is_iconst, int_in, bool_cells, is_array_row, is_whole, has_dots, joined, last_of, offset_in, part_named, made_of}
use Rattle.hare_const.specs.declared.operands.Operands.TheVariants.{OneKid, TwoKids}
use Rattle.hare_const.specs.declared.outcome.Outcome.{Outcome}
use Rattle.hare_const.specs.declared.outcome.Outcome.TheVariants.{Known, Aborts, Undefined}
use Rattle.hare_typed.specs.Settled.{type_with_offset, part_with_offset, HasNumber, HasParts, fields_given, components_given, AskedKind, PlainKind}
use Rattle.hare_const.specs.NodeValues.{on_cells, on_answer, kid_at, kids_at, numbered, number_of_kid, same_texts, negation, complement, order_value, equality_value, cast_value, offset_value, arithmetic_value, shift_value, length_value, array_length_value, tuple_value, struct_value, array_value, unary_value, binary_value, operator_value, kind_value}
use Rattle.hare_typed.specs.Settled.{IsWidth}
use Rattle.hare_typed.specs.Sizes.{Fits, HasPart}
use Rattle.hare_typed.specs.Texts.{keeps_text, text_by, text_of, text_of_kid, bytes_told, AreTexts}
use Rattle.hare_typed.specs.Coherent.{is_text_equality, compares_texts, compares_texts_each, IsCoherent}
use Rattle.hare_typed.specs.Settled.{HasBase, HasBases, HaveBases}
use Rattle.hare_const.proofs.LaterTypes.{known_base, base_row_same, row_same, cells_same, number_same, int_same, sized, size_same, align_same, part_same, made_same, has_parts, named_same, fields_same, reached_same}
use Rattle.hare_const.proofs.SizeLemmas.{starts}
use Rattle.hare_const.proofs.PartLemmas.{type_with_parts}

-- the bases are known of the types that a node reads: its own, those that its kids give, and of that below the kid of an offset
pub record Around (s : Store) (t : TypedNode) : Type 0 where
  pub own : HasBase s (own_type t)
  pub kid : (i : ℕ) → HasBase s (type_of_kid i t)
  pub inner : HasBase s (type_of_kid 0 (kid_from_front 0 t))
  pub kids : HaveBases s (kids_of t)

kid-bases : (s : Store) (ts : TypedNodes) (i : ℕ) → HaveBases s ts → HasBases s (tree_from_front i (listed_nodes ts))
kid-bases s typed_none i h = (tt, tt, tt)
kid-bases s (typed_more t ts) zero h = h.0
kid-bases s (typed_more t ts) (suc i) h = kid-bases s ts i h.1

pub bases-kid : (s : Store) (t : TypedNode) (i : ℕ) → HasBases s t → HasBases s (kid_from_front i t)
bases-kid s (marked h m ts) i b = kid-bases s ts i b.2

given-base : (s : Store) (t : TypedNode) → HasBases s t → HasBase s (given t)
given-base s (marked h m ts) b = b.1

own-base : (s : Store) (t : TypedNode) → HasBases s t → HasBase s (own_type t)
own-base s (marked h m ts) b = b.0

kids-base : (s : Store) (t : TypedNode) → HasBases s t → HaveBases s (kids_of t)
kids-base s (marked h m ts) b = b.2

pub around : (s : Store) (t : TypedNode) → HasBases s t → Around s t
around s t b = record {
  own = own-base s t b;
  kid = λ i. given-base s (kid_from_front i t) (bases-kid s t i b);
  inner = given-base s (kid_from_front 0 (kid_from_front 0 t)) (bases-kid s (kid_from_front 0 t) 0 (bases-kid s t 0 b));
  kids = kids-base s t b;
}

pub first-base : (s : Store) (ts : TypedNodes) → HaveBases s ts → HasBase s (first_given ts)
first-base s typed_none b = tt
first-base s (typed_more t ts) b = given-base s t b.0

-- ---- what goes on from the same goes on alike

told_same : {A : Type 0} (x : Answer A) (f g : A → Outcome) → ((a : A) → f a ≡ g a) → on_answer x f ≡ on_answer x g
told_same (Gives a) f g h = h a
told_same (aborts r) f g h = refl
told_same (IsUndefined u) f g h = refl

pub cells_on : (o : Outcome) (f g : List Cell → Outcome) → ((cs : List Cell) → f cs ≡ g cs) → on_cells o f ≡ on_cells o g
cells_on (Known cs) f g h = h cs
cells_on Aborts f g h = refl
cells_on Undefined f g h = refl

kids_on : (i n : ℕ) (os : List Outcome) (f g : List (List Cell) → Outcome) → ((cs : List (List Cell)) → f cs ≡ g cs) →
    kids_at i n os f ≡ kids_at i n os g
kids_on i zero os f g h = h []
kids_on i (suc n) os f g h =
    cells_on (kid_at i os) (λ c. kids_at (suc i) n os λ cs. f (c ∷ cs)) (λ c. kids_at (suc i) n os λ cs. g (c ∷ cs))
    (λ c. kids_on (suc i) n os (λ cs. f (c ∷ cs)) (λ cs. g (c ∷ cs)) (λ cs. h (c ∷ cs)))

if_same : {A : Type 0} (b : Bool) (x y z : A) → y ≡ z → (if b then x else y) ≡ (if b then x else z)
if_same true x y z e = refl
if_same false x y z e = e

-- where an offset leads to a type with parts, the base of this is known
part_base : (s : Store) (t k : ℕ) → Fits s t → HasPart s t k → IsSome (base_at s t)
part_base s t k f h = let p = starts s t k f h in known_base s (ty.Of t) p.row p.here

module _ (s l : Store) (v : IsStore s) (later : IsLater s l) where
  pub str_same : (f : Ty) → HasBase s f → is_str l f ≡ is_str s f
  str_same f h = ap is_str_row (base_row_same s l v later f h)

  -- ---- texts that are told

  text_by_same : (h : Head) (m : Mark) (k : Kind) (o p : Option (List ℕ)) → HasBase s m.ty → o ≡ p → text_by l h m k o ≡ text_by s h m k p
  text_by_same h m kind.Str o p b e = refl
  text_by_same h m kind.Path o p b e = refl
  text_by_same h m kind.Paren o p b e = e
  text_by_same h m kind.Cast o p b e = ap₂ (λ x q. if x then q else None) (str_same m.ty b) e
  text_by_same h m _ o p b e = refl

  mutual
    text_same : (t : TypedNode) → HasBases s t → text_of l t ≡ text_of s t
    text_same (marked h m ts) b =
        ap (λ o. if keeps_text m.coerce.row then o else None)
        (text_by_same h m h.kind (text_of_kid l 0 ts) (text_of_kid s 0 ts) b.0 (kid_text_same 0 ts b.2))

    pub kid_text_same : (n : ℕ) (ts : TypedNodes) → HaveBases s ts → text_of_kid l n ts ≡ text_of_kid s n ts
    kid_text_same n typed_none b = refl
    kid_text_same zero (typed_more t ts) b = text_same t b.0
    kid_text_same (suc n) (typed_more t ts) b = kid_text_same n ts b.1

  texts_same : (ts : TypedNodes) → HaveBases s ts → same_texts l ts ≡ same_texts s ts
  texts_same ts b = ap₂ (λ x y. bytes_eq (bytes_told x) (bytes_told y)) (kid_text_same 0 ts b) (kid_text_same 1 ts b)

  texts_stay : (ts : TypedNodes) → HaveBases s ts → AreTexts s ts → AreTexts l ts
  texts_stay ts b a = record {
    left = subst IsSome (sym (kid_text_same 0 ts b)) a.left;
    right = subst IsSome (sym (kid_text_same 1 ts b)) a.right;
  }

  module _ (t : TypedNode) (a : Around s t) where
    numbered_same : (n : ℤ) → numbered l t n ≡ numbered s t n
    numbered_same n = cells_same s l v later (own_type t) n a.own

    kid_same : (i : ℕ) (cs : List Cell) → number_of_kid l t i cs ≡ number_of_kid s t i cs
    kid_same i cs = number_same s l v later (type_of_kid i t) cs (a.kid i)

    own_int : int_in l (own_type t) ≡ int_in s (own_type t)
    own_int = int_same s l v later (own_type t) a.own

    arithmetic_same : (x y : List Cell) → arithmetic_value l t x y ≡ arithmetic_value s t x y
    arithmetic_same x y =
        let op = arithmetic_of (head_of t).text in
        let m = number_of_kid s t 0 x in
        let n = number_of_kid s t 1 y in
        if_same (is_iconst (own_type t)) (Known []) _ _
        (ap₂ (λ j k. on_answer (arithmetic op (int_in l (own_type t)) j k) λ i. Known (numbered l t i)) (kid_same 0 x) (kid_same 1 y)
        ∙ ap (λ i. on_answer (arithmetic op i m n) λ j. Known (numbered l t j)) own_int
        ∙ told_same (arithmetic op (int_in s (own_type t)) m n) (λ j. Known (numbered l t j)) (λ j. Known (numbered s t j))
        (λ j. ap Known (numbered_same j)))

    shift_same : (x y : List Cell) → shift_value l t x y ≡ shift_value s t x y
    shift_same x y =
        let op = shift_of (head_of t).text in
        if_same (is_iconst (own_type t)) [] _ _
        (ap₂ (λ j k. numbered l t (shifted op (int_in l (own_type t)) j k)) (kid_same 0 x) (kid_same 1 y)
        ∙ ap (λ i. numbered l t (shifted op i (number_of_kid s t 0 x) (number_of_kid s t 1 y))) own_int
        ∙ numbered_same (shifted op (int_in s (own_type t)) (number_of_kid s t 0 x) (number_of_kid s t 1 y)))

    negation_same : (x : List Cell) → negation l t x ≡ negation s t x
    negation_same x =
        ap₂ (λ i n. numbered l t (negated i n)) own_int (kid_same 0 x)
        ∙ numbered_same (negated (int_in s (own_type t)) (number_of_kid s t 0 x))

    complement_same : (x : List Cell) → complement l t x ≡ complement s t x
    complement_same x =
        ap₂ (λ i n. numbered l t (complemented i n)) own_int (kid_same 0 x)
        ∙ numbered_same (complemented (int_in s (own_type t)) (number_of_kid s t 0 x))

    order_same : (x y : List Cell) → order_value l t x y ≡ order_value s t x y
    order_same x y = ap₂ (λ j k. bool_cells (in_order (order_of (head_of t).text) j k)) (kid_same 0 x) (kid_same 1 y)

    equality_same : (x y : List Cell) → equality_value l t x y ≡ equality_value s t x y
    equality_same x y =
        let told = same_texts s (kids_of t) in
        ap (λ b. bool_cells (by_equality (head_of t).text b))
        (ap₂ (λ b c. if b then c else same_number (number_of_kid l t 0 x) (number_of_kid l t 1 y)) (str_same (type_of_kid 0 t) (a.kid 0))
        (texts_same (kids_of t) a.kids)
        ∙ ap₂ (λ j k. if is_str s (type_of_kid 0 t) then told else same_number j k) (kid_same 0 x) (kid_same 1 y))

    cast_same : (x : List Cell) → cast_value l t x ≡ cast_value s t x
    cast_same x =
        ap₂ (λ r c. if is_whole (option_and_then shape_of_row r) then c else x) (base_row_same s l v later (own_type t) a.own)
        (ap (λ n. numbered l t n) (kid_same 0 x) ∙ numbered_same (number_of_kid s t 0 x))

    len_same : (x : List Cell) → length_value l t x ≡ length_value s t x
    len_same x =
        let r = base_row_same s l v later (type_of_kid 0 t) (a.kid 0) in
        ap₂ (λ q o. if is_array_row q then o else on_answer (words x) λ w. Known (numbered l t (pos w.length))) r
        (ap (λ q. Known (numbered l t (pos (length_of_row q)))) r
        ∙ ap Known (numbered_same (pos (length_of_row (base_row s (type_of_kid 0 t))))))
        ∙ if_same (is_array_row (base_row s (type_of_kid 0 t))) (Known (array_length_value s t)) _ _
        (told_same (words x) (λ w. Known (numbered l t (pos w.length))) (λ w. Known (numbered s t (pos w.length)))
        (λ w. ap Known (numbered_same (pos w.length))))

    array_same : (cs : List (List Cell)) → array_value l t cs ≡ array_value s t cs
    array_same cs =
        ap (λ r. joined cs ++ again (if has_dots t then length_of_row r - items_of kind.Array (kids_of t) else 0) (last_of cs))
        (base_row_same s l v later (own_type t) a.own)

    fields_given_same : fields_given l t ≡ fields_given s t
    fields_given_same = fields_same s l v later (own_type t) 1 (items_of kind.StructLit (kids_of t)) t a.own

    struct_same : (cs : List (List Cell)) → HasParts s (own_type t) (fields_given s t) → struct_value l t cs ≡ struct_value s t cs
    struct_same cs h = ap (λ ns. made_of l (own_type t) ns cs) fields_given_same
        ∙ made_same s l v later (own_type t) (fields_given s t) cs h

    -- ---- offsets

    record Offset : Type 0 where
      whole : type_with_offset l t ≡ type_with_offset s t
      part : part_with_offset l t ≡ part_with_offset s t
      start : offset_in l (type_with_offset s t) (part_with_offset s t) ≡ offset_in s (type_with_offset s t) (part_with_offset s t)

    offset_same : HasParts s (type_with_offset s t) (part_with_offset s t ∷ []) → Offset
    offset_same h = by (type_with_parts s (type_with_offset s t) (part_with_offset s t ∷ []) h)
      where
        by : (w : ℕ) × (type_with_offset s t ≡ ty.Of w) → Offset
        by (w, e) =
            let has : HasParts s (ty.Of w) (part_with_offset s t ∷ []) = subst (λ f. HasParts s f (part_with_offset s t ∷ [])) e h in
            let part : HasPart s w (part_with_offset s t) = (recursion_from_All (HasPart s w) (part_with_offset s t ∷ []) has.1).0 in
            let known : IsSome (base_at s w) = part_base s w (part_with_offset s t) has.0 part in
            let whole : type_with_offset l t ≡ type_with_offset s t
            = reached_same s l v later 16 (type_of_kid 0 (kid_from_front 0 t)) w e known ∙ sym e in
            let base : HasBase s (type_with_offset s t) = subst (HasBase s) (sym e) known in
            record {
              whole = whole;
              part =
                  ap (λ f. part_named l f (head_of (kid_from_front 0 t))) whole
                  ∙ named_same s l v later (type_with_offset s t) (head_of (kid_from_front 0 t)) base;
              start =
                  ap (λ f. offset_in l f (part_with_offset s t)) e
                  ∙ ap (λ o. unwrap_or o 0) (part_same s l v later w (part_with_offset s t) part)
                  ∙ sym (ap (λ f. offset_in s f (part_with_offset s t)) e);
            }

    offset_value_same : HasParts s (type_with_offset s t) (part_with_offset s t ∷ []) → offset_value l t ≡ offset_value s t
    offset_value_same h =
        let o = offset_same h in
        ap₂ (λ f n. numbered l t (pos (offset_in l f n))) o.whole o.part ∙ ap (λ n. numbered l t (pos n)) o.start
        ∙ numbered_same (pos (offset_in s (type_with_offset s t) (part_with_offset s t)))

    -- ---- kinds

    one_kid : (k : Kind) (os : List Outcome) → ((x : List Cell) → unary_value l t k x ≡ unary_value s t k x) →
        operator_value l t k OneKid (kid_at 0 os) (kid_at 1 os) ≡ operator_value s t k OneKid (kid_at 0 os) (kid_at 1 os)
    one_kid k os h = cells_on (kid_at 0 os) (unary_value l t k) (unary_value s t k) h

    two_kids : (k : Kind) (os : List Outcome) → ((x y : List Cell) → binary_value l t k x y ≡ binary_value s t k x y) →
        operator_value l t k TwoKids (kid_at 0 os) (kid_at 1 os) ≡ operator_value s t k TwoKids (kid_at 0 os) (kid_at 1 os)
    two_kids k os h =
        cells_on (kid_at 0 os) (λ x. on_cells (kid_at 1 os) (binary_value l t k x)) (λ x. on_cells (kid_at 1 os) (binary_value s t k x))
        (λ x. cells_on (kid_at 1 os) (binary_value l t k x) (binary_value s t k x) (h x))

    pub kind_same : (own : ℕ) (os : List Outcome) (k : Kind) → AskedKind s t k → kind_value l own t k os ≡ kind_value s own t k os
    kind_same own os kind.Number h = ap Known (numbered_same (pos (head_of t).number))
    kind_same own os kind.RuneLit h = ap Known (numbered_same (pos (head_of t).number))
    kind_same own os kind.Neg h = one_kid kind.Neg os (λ x. ap Known (negation_same x))
    kind_same own os kind.Not h = one_kid kind.Not os (λ x. ap Known (complement_same x))
    kind_same own os kind.Arith h = two_kids kind.Arith os arithmetic_same
    kind_same own os kind.Shift h = two_kids kind.Shift os (λ x y. ap Known (shift_same x y))
    kind_same own os kind.Less h = two_kids kind.Less os (λ x y. ap Known (order_same x y))
    kind_same own os kind.Equal h = two_kids kind.Equal os (λ x y. ap Known (equality_same x y))
    kind_same own os kind.Cast h = one_kid kind.Cast os (λ x. ap Known (cast_same x))
    kind_same own os kind.Len h = one_kid kind.Len os len_same
    kind_same own os kind.Size h =
        ap (λ n. Known (numbered l t (pos n))) (size_same s l v later (type_of_kid 0 t) h)
        ∙ ap Known (numbered_same (pos (size_in s (type_of_kid 0 t))))
    kind_same own os kind.Align h =
        ap (λ n. Known (numbered l t (pos n))) (align_same s l v later (type_of_kid 0 t) h)
        ∙ ap Known (numbered_same (pos (align_in s (type_of_kid 0 t))))
    kind_same own os kind.Offset h = ap Known (offset_value_same h)
    kind_same own os kind.Tuple h =
        kids_on 0 (items_of kind.Tuple (kids_of t)) os (λ cs. Known (tuple_value l t cs)) (λ cs. Known (tuple_value s t cs))
        (λ cs. ap Known (made_same s l v later (own_type t) (components_given t) cs h))
    kind_same own os kind.StructLit h =
        kids_on 1 (items_of kind.StructLit (kids_of t)) os (λ cs. Known (struct_value l t cs)) (λ cs. Known (struct_value s t cs))
        (λ cs. ap Known (struct_same cs h))
    kind_same own os kind.Array h =
        kids_on 0 (items_of kind.Array (kids_of t)) os (λ cs. Known (array_value l t cs)) (λ cs. Known (array_value s t cs))
        (λ cs. ap Known (array_same cs))
    kind_same own os _ h = refl

    -- ---- conditions

    number_stays : HasNumber s t → HasNumber l t
    number_stays h e = (subst (λ i. IsWidth i.bits) (sym own_int) (h e).0, (h e).1)

    pub simple_stays : (k : Kind) → AskedKind s t k → AskedKind l t k
    simple_stays kind.Number h = h
    simple_stays kind.RuneLit h = h
    simple_stays kind.Neg h = number_stays h
    simple_stays kind.Not h = number_stays h
    simple_stays kind.Arith h = (number_stays h.0, h.1)
    simple_stays kind.Shift h = number_stays h
    simple_stays kind.Size h = sized s l v later (type_of_kid 0 t) h
    simple_stays kind.Align h = sized s l v later (type_of_kid 0 t) h
    simple_stays kind.Tuple h = has_parts s l v later (own_type t) (components_given t) h
    simple_stays kind.StructLit h =
        subst (HasParts l (own_type t)) (sym fields_given_same) (has_parts s l v later (own_type t) (fields_given s t) h)
    simple_stays kind.Offset h =
        let o = offset_same h in
        subst (λ f. HasParts l f (part_with_offset l t ∷ [])) (sym o.whole)
        (subst (λ n. HasParts l (type_with_offset s t) (n ∷ [])) (sym o.part)
        (has_parts s l v later (type_with_offset s t) (part_with_offset s t ∷ []) h))
    simple_stays _ h = h

  -- ---- constancy

  void_same : (m : Meaning) (f : Ty) → HasBase s f → names_void l m f ≡ names_void s m f
  void_same (meant.Decl d) (ty.Of t) h =
      ap₂ (λ r b. is_name_of d r && is_void_row b) (row_same s l v later t h) (base_row_same s l v later (ty.Of t) h)
  void_same (meant.Decl d) (ty.Iconst n) h = refl
  void_same (meant.Decl d) ty.Null h = refl
  void_same (meant.Decl d) ty.Empty h = refl
  void_same (meant.Local x) f h = refl
  void_same (meant.Rt x) f h = refl
  void_same meant.None f h = refl

  constant_kind_same : (k : Kind) (m : Mark) (ts : TypedNodes) → HasBase s m.ty → HasBase s (first_given ts) →
      is_constant_kind l k m ts ≡ is_constant_kind s k m ts
  constant_kind_same kind.Path m ts h g = ap (λ b. is_known m.value || b) (void_same m.meaning m.ty h)
  constant_kind_same kind.Less m ts h g = ap (λ r. not (is_address_row r)) (base_row_same s l v later (first_given ts) g)
  constant_kind_same kind.Equal m ts h g = ap (λ r. not (is_address_row r)) (base_row_same s l v later (first_given ts) g)
  constant_kind_same kind.Len m ts h g = ap is_counted_row (base_row_same s l v later (first_given ts) g)
  constant_kind_same _ m ts h g = refl

  pub constant_same : (k : Kind) (m : Mark) (ts : TypedNodes) → HasBase s m.ty → HasBase s (first_given ts) →
      is_constant l k m ts ≡ is_constant s k m ts
  constant_same k m ts h g = ap (λ b. is_wrapper k || (b && not (m.coerce.row == 2))) (constant_kind_same k m ts h g)

  -- an equality of texts stands in the tree
  text_equality_same : (k : Kind) (ts : TypedNodes) → HaveBases s ts → is_text_equality l k ts ≡ is_text_equality s k ts
  text_equality_same kind.Equal ts b = str_same (first_given ts) (first-base s ts b)
  text_equality_same _ ts b = refl

  mutual
    compares_same : (t : TypedNode) → HasBases s t → compares_texts l t ≡ compares_texts s t
    compares_same (marked h m ts) b = ap₂ (λ x y. x || y) (text_equality_same h.kind ts b.2) (compares_same_each ts b.2)

    compares_same_each : (ts : TypedNodes) → HaveBases s ts → compares_texts_each l ts ≡ compares_texts_each s ts
    compares_same_each typed_none b = refl
    compares_same_each (typed_more t ts) b = ap₂ (λ x y. x || y) (compares_same t b.0) (compares_same_each ts b.1)

  pub coherent_stays : (own : ℕ) (t : TypedNode) → HasBases s t → IsCoherent s own t → IsCoherent l own t
  coherent_stays own t b c = λ e. c (sym (compares_same t b) ∙ e)

  -- the first node of no constant kind
  mutual
    kinds_same : (t : TypedNode) → HasBases s t → first_inconstant l (λ u. false) t ≡ first_inconstant s (λ u. false) t
    kinds_same (marked h m ts) b =
        ap (λ o. if is_type h.kind then None else o)
        (ap₂ (λ x c. or_else (if hides_kids h.kind ts then None else x) (if not c || false then Some (marked h m ts) else None))
        (kinds_same_each ts b.2) (constant_same h.kind m ts b.0 (first-base s ts b.2)))

    kinds_same_each : (ts : TypedNodes) → HaveBases s ts → first_inconstant_of l (λ u. false) ts ≡ first_inconstant_of s (λ u. false) ts
    kinds_same_each typed_none b = refl
    kinds_same_each (typed_more t ts) b = ap₂ (λ x y. or_else x y) (kinds_same t b.0) (kinds_same_each ts b.1)

  -- ---- addresses and equalities

  place_same : (k : Kind) (m : Mark) (f g : Ty) (x y : Bool) → is_global_path k m ≡ true → HasBase s m.ty →
      is_place_kind l k m f x ≡ is_place_kind s k m g y
  place_same kind.Path m f g x y e h = ap (λ b. is_named m.meaning && not (is_known m.value || b)) (void_same m.meaning m.ty h)
  place_same _ m f g x y e h = absurd cc

  first_place_same : (ts : TypedNodes) → begins_with_global ts ≡ true → HaveBases s ts → first_is_place l ts ≡ first_is_place s ts
  first_place_same typed_none e b = absurd cc
  first_place_same (typed_more (marked h m us) ts) e b =
      place_same h.kind m (first_given us) (first_given us) (first_is_place l us) (first_is_place s us) e b.0.0

  pub plain_stays : (k : Kind) (ts : TypedNodes) → HaveBases s ts → PlainKind s k ts → PlainKind l k ts
  plain_stays kind.Equal ts b h = λ e n.
      texts_stay ts b (h (sym (str_same (first_given ts) (first-base s ts b)) ∙ e) (sym (kinds_same_each ts b) ∙ n))
  plain_stays kind.Addr ts b h = λ e. first_place_same ts e b ∙ h e
  plain_stays _ ts b h = h
