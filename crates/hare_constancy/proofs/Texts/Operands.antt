-- The operands of an equality are both texts, where the first is; and what is cast to a text, or stands in parentheses, is one.
use Rattle.std.proofs.Common.{◌≡◌, ◌≢◌, ◌∙◌, sym, ap, subst, refl, ℕ, Bool, true, false, ◌&&◌, ◌||◌, ◌⊎◌, inl, inr, Option, Some, None, cond}
use Rattle.std.specs.Prelude.{nat_eq, is_some, option_map, option_and_then, unwrap_or}
use Rattle.std.specs.Option.{option_or}
use Rattle.std.specs.Prelude.{ltb}
use Rattle.std.specs.Bool.{beq}
use Rattle.std.proofs.lemmas.Bool.{and_parts, eqb-true, or_cases}
use Rattle.hare_tree.specs.declared.kind.Kind.{Kind}
use Rattle.hare_tree.specs.declared.kind.Kind.TheVariants as kind
use Rattle.hare_types.specs.declared.coercion.Coercion.{Coercion}
use Rattle.hare_types.specs.declared.coercion.Ty.{Ty}
use Rattle.hare_types.specs.declared.coercion.Ty.TheVariants as ty
use Rattle.hare_types.specs.declared.row.Row.{Row}
use Rattle.hare_types.specs.declared.row.Row.TheVariants as row
use Rattle.hare_types.specs.declared.row.Scalar.{Scalar as Keyword}
use Rattle.hare_types.specs.declared.row.Scalar.TheVariants as keyword
use Rattle.hare_types.specs.Assign.{Value, Of, Empty, type_at, value_at, base, holds_of, signed, bits, wider, is_number, is_numeric, recasts, is_castable, first_row}
use Rattle.hare_types.specs.Bases.{base_over}
use Rattle.hare_types.specs.Trees.{Tree, Pointer, Nullable}
use Rattle.hare_types.specs.Store.{Store, definition_of}
use Rattle.hare_types.specs.Sound.{IsStore}
use Rattle.hare_types.specs.ByIds.{row_at, base_at}
use Rattle.hare_types.proofs.IdLemmas.{base-row}
use Rattle.hare_typed.specs.Typed.{TypedNode, mark_of}
use Rattle.hare_typed.specs.Order.{kid_from_front}
use Rattle.hare_typed.specs.Given.{given, base_row, is_str}
use Rattle.hare_typed.specs.Constancy.{is_address_row as is_any_pointer}
use Rattle.hare_typed.specs.Constants.{own_kind}
use Rattle.hare_typed.specs.ConstantForms.{own_type}
use Rattle.hare_rules.specs.declared.row_id.RowId.TheVariants as rules
use Rattle.hare_rules.specs.Words as words
use Rattle.hare_rules.specs.Words.{Common, Typed, Exact, common, common_of_types, common_type, widens, wider_word, word_of, integer_word, integer_word_of, holds_in, has_integer_base, is_integer, id_in, row_in, same_id, is_same_type, nullable_pointee}
use Rattle.hare_typed.specs.Given.{pointee_in}
use Rattle.hare_rules.specs.Context.{Context, store_of, kid}
use Rattle.hare_rules.specs.Operators.{first_seen, second_seen, is_null, null_meets, pointer_meets, goes_to_other, are_comparable, are_equatable, written, castable_to}
use Rattle.hare_rules.specs.Settles.{same, to_type, target_of, only_where, equal_target}
use Rattle.hare_rules.specs.Table.{asked as last_rows}
use Rattle.hare_constancy.specs.Met.{GoesTo}
use Rattle.hare_constancy.specs.Traced.{takes_texts, IsTracedNode}
use Rattle.hare_constancy.proofs.Judged.{row_holds, kid_given, kid_coerced, kid_type}
use Rattle.hare_constancy.proofs.Operators.{common_is, held_integer, scalar_integer, row_of_word, widened}
use Rattle.hare_constancy.proofs.Parts.{made_as}
use Rattle.hare_constancy.proofs.Trees.{head_kind, alone}
use Rattle.hare_constancy.proofs.Texts.Rows.{str_row, base_str, tree_str, IsText, no_empty}

-- ---- a text is no number and no pointer

module _ (s : Store) where
  pub text_no_integer : (f : Ty) → is_str s f ≡ true → is_integer s f ≡ true → ⊥
  text_no_integer (ty.Of t) b i =
      let row = str_row (base_row s (ty.Of t)) b in
      let no : false ≡ true = sym (ap (λ (o : Option Row). is_some (integer_word_of (word_of o))) row) ∙ i in
      absurd cc
  text_no_integer (ty.Iconst v) b i = absurd cc
  text_no_integer ty.Null b i = absurd cc
  text_no_integer ty.Empty b i = absurd cc

  wider_left : (a b : Keyword) → wider a b ≡ true → is_some (signed a) ≡ true
  wider_left a b e = by (signed a) refl e
    where
      by : (o : Option Bool) → signed a ≡ o → holds_of (λ x. holds_of (λ y. beq x y && ltb (bits a) (bits b)) (signed b)) o ≡ true →
          is_some (signed a) ≡ true
      by None f g = absurd cc
      by (Some x) f g = ap is_some f

  wide_left : (o p : Option Keyword) → wider_word o p ≡ true → (k : Keyword) × (o ≡ Some k) × (is_some (signed k) ≡ true)
  wide_left (Some a) (Some b) e = (a, refl, wider_left a b e)
  wide_left (Some a) None e = absurd cc
  wide_left None p e = absurd cc

  common_types_integer : (t u : ℕ) (x : Common) → common_of_types s t u ≡ Some x → has_integer_base s (ty.Of t) ≡ true
  common_types_integer t u x e =
      by (nat_eq t u && has_integer_base s (ty.Of t)) refl (widens s (ty.Of t) (ty.Of u)) refl (widens s (ty.Of u) (ty.Of t)) refl e
    where
      by : (a : Bool) → (nat_eq t u && has_integer_base s (ty.Of t)) ≡ a → (b : Bool) → widens s (ty.Of t) (ty.Of u) ≡ b → (d : Bool) →
          widens s (ty.Of u) (ty.Of t) ≡ d
          → cond a (Some (Typed t)) (cond b (Some (Typed u)) (cond d (Some (Typed t)) None)) ≡ Some x →
          has_integer_base s (ty.Of t) ≡ true
      by true f b g d h k = (and_parts (nat_eq t u) (has_integer_base s (ty.Of t)) f).1
      by false f true g d h k =
          let w = wide_left (word_of (row_at s t)) (word_of (row_at s u)) g in
          scalar_integer s t w.0 (row_of_word (row_at s t) w.0 w.1) w.2
      by false f false g true h k = widened s u t h
      by false f false g false h k = absurd cc

  common_integer : (a b : Ty) (x : Common) → common s a b ≡ Some x → is_integer s a ≡ true
  common_integer (ty.Iconst v) b x e = refl
  common_integer (ty.Of t) (ty.Iconst w) x e = by (holds_in (integer_word s (ty.Of t)) w) refl e
    where
      by : (d : Bool) → holds_in (integer_word s (ty.Of t)) w ≡ d → cond d (Some (Typed t)) None ≡ Some x → is_integer s (ty.Of t) ≡ true
      by true f g = held_integer s t w f
      by false f g = absurd cc
  common_integer (ty.Of t) (ty.Of u) x e = common_types_integer t u x e
  common_integer (ty.Of t) ty.Null x e = absurd cc
  common_integer (ty.Of t) ty.Empty x e = absurd cc
  common_integer ty.Null b x e = absurd cc
  common_integer ty.Empty b x e = absurd cc

  -- a row that is its own base is that of texts
  pub own_text : (u : ℕ) (r : Row) → row_at s u ≡ Some r → base_over (definition_of s) (base_at s) u r ≡ Some u → is_str s (ty.Of u) ≡ true →
      r ≡ row.Scalar keyword.Str
  own_text u r e f b =
      let both : Some r ≡ Some (row.Scalar keyword.Str) =
      sym (ap (option_and_then (row_at s)) (base-row s u r e ∙ f) ∙ e) ∙ str_row (base_row s (ty.Of u)) b in
      cc

  text_no_pointer : (t : ℕ) (o : Option ℕ) → is_str s (ty.Of t) ≡ true → same_id (pointee_in (row_at s t)) o ≡ true → ⊥
  text_no_pointer t o b e = by (row_at s t) refl e
    where
      by : (r : Option Row) → row_at s t ≡ r → same_id (pointee_in r) o ≡ true → ⊥
      by (Some (row.Pointer i)) f g = let no = own_text t (row.Pointer i) f refl b in absurd cc
      by _ f g = absurd cc

  text_no_nullable : (t : ℕ) (o : Option ℕ) → is_str s (ty.Of t) ≡ true → same_id o (nullable_pointee (row_at s t)) ≡ true → ⊥
  text_no_nullable t o b e = by (row_at s t) refl o e
    where
      by : (r : Option Row) → row_at s t ≡ r → (p : Option ℕ) → same_id p (nullable_pointee r) ≡ true → ⊥
      by (Some (row.Nullable i)) f p g = let no = own_text t (row.Nullable i) f refl b in absurd cc
      by _ f None g = absurd cc
      by _ f (Some n) g = absurd cc

  text_goes_nowhere : (a b : Ty) → is_str s a ≡ true → goes_to_other s a b ≡ true → ⊥
  text_goes_nowhere (ty.Of t) b x e = text_no_pointer t (nullable_pointee (row_in s b)) x e
  text_goes_nowhere (ty.Iconst v) b x e = absurd cc
  text_goes_nowhere ty.Null b x e = absurd cc
  text_goes_nowhere ty.Empty b x e = absurd cc

  nothing_goes_to_text : (a b : Ty) → is_str s b ≡ true → goes_to_other s a b ≡ true → ⊥
  nothing_goes_to_text a (ty.Of t) x e = by (or_cases (null_meets s a (ty.Of t)) (pointer_meets s a (ty.Of t)) e)
    where
      by : (null_meets s a (ty.Of t) ≡ true) ⊎ (pointer_meets s a (ty.Of t) ≡ true) → ⊥
      by (inl f) =
          let meets = (and_parts (is_null a) (is_some (nullable_pointee (base_row s (ty.Of t)))) f).1 in
          let no : false ≡ true = sym (ap (λ (o : Option Row). is_some (nullable_pointee o)) (str_row (base_row s (ty.Of t)) x)) ∙ meets in
          absurd cc
      by (inr f) = text_no_nullable t (pointee_in (row_in s a)) x f
  nothing_goes_to_text a (ty.Iconst v) x e = absurd cc
  nothing_goes_to_text a ty.Null x e = absurd cc
  nothing_goes_to_text a ty.Empty x e = absurd cc

  same_types : (a b : Ty) → is_same_type a b ≡ true → a ≡ b
  same_types (ty.Of t) (ty.Of u) e = ap ty.Of (eqb-true t u e)
  same_types (ty.Of t) (ty.Iconst v) e = absurd cc
  same_types (ty.Of t) ty.Null e = absurd cc
  same_types (ty.Of t) ty.Empty e = absurd cc
  same_types (ty.Iconst v) b e = absurd cc
  same_types ty.Null b e = absurd cc
  same_types ty.Empty b e = absurd cc

  comparable_same : (a b : Ty) → are_comparable s a b ≡ true → a ≡ b
  comparable_same a b e = same_types a b (by (is_same_type a b) e)
    where
      by : (x : Bool) → ((x && words.is_word keyword.Bool (base_row s a)) || (x && words.is_word keyword.Rune (base_row s a))
          || (x && words.is_word keyword.Str (base_row s a)) || (x && is_any_pointer (base_row s a))) ≡ true → x ≡ true
      by true f = refl
      by false f = absurd cc

  -- what may be equal to a text is of its type
  equatable_same : (a b : Ty) → is_str s a ≡ true → are_equatable s a b ≡ true → a ≡ b
  equatable_same a b x e = goes_back (or_cases ((is_some (common s a b) || are_comparable s a b) || goes_to_other s a b) (goes_to_other s b a) e)
    where
      no_common : (o : Option Common) → common s a b ≡ o → is_some o ≡ true → ⊥
      no_common (Some y) f g = text_no_integer a x (common_integer a b y f)
      no_common None f g = absurd cc

      compared : (is_some (common s a b) ≡ true) ⊎ (are_comparable s a b ≡ true) → a ≡ b
      compared (inl f) = absurd (no_common (common s a b) refl f)
      compared (inr f) = comparable_same a b f

      goes : ((is_some (common s a b) || are_comparable s a b) ≡ true) ⊎ (goes_to_other s a b ≡ true) → a ≡ b
      goes (inl f) = compared (or_cases (is_some (common s a b)) (are_comparable s a b) f)
      goes (inr f) = absurd (text_goes_nowhere a b x f)

      goes_back : (((is_some (common s a b) || are_comparable s a b) || goes_to_other s a b) ≡ true) ⊎ (goes_to_other s b a ≡ true) → a ≡ b
      goes_back (inl f) = goes (or_cases (is_some (common s a b) || are_comparable s a b) (goes_to_other s a b) f)
      goes_back (inr f) = absurd (nothing_goes_to_text b a x f)

  -- what goes to a type has it then, or stays as it is
  goes_or_stays : (f : Ty) (u : ℕ) → ((to_type s f (Some u)).to ≡ ty.Of u) ⊎ ((to_type s f (Some u)).to ≡ f)
  goes_or_stays f u = by (first_row s (value_at s f) (type_at s u))
    where
      by : (o : Option ℕ) → ((unwrap_or (option_map (λ n. record { row = n; to = ty.Of u }) o) (same f)).to ≡ ty.Of u)
          ⊎ ((unwrap_or (option_map (λ n. record { row = n; to = ty.Of u }) o) (same f)).to ≡ f)
      by (Some n) = inl refl
      by None = inr refl

  -- only what is an array of no items goes to one
  pub goes_empty : (f : Ty) (r : Coercion) → GoesTo s f r → r.to ≡ ty.Empty → f ≡ ty.Empty
  goes_empty f r (None, e) g = sym (ap (λ (q : Coercion). q.to) e) ∙ g
  goes_empty f r (Some u, e) g = by (goes_or_stays f u)
    where
      by : ((to_type s f (Some u)).to ≡ ty.Of u) ⊎ ((to_type s f (Some u)).to ≡ f) → f ≡ ty.Empty
      by (inl h) = let no = sym h ∙ sym (ap (λ (q : Coercion). q.to) e) ∙ g in absurd cc
      by (inr h) = sym h ∙ sym (ap (λ (q : Coercion). q.to) e) ∙ g

-- ---- an equality

module _ (c : Context) (t : TypedNode) (v : IsStore (store_of c)) (q : IsTracedNode c t) where
  abbrev s : Store
  s = store_of c

  module _ (e : own_kind t ≡ kind.Equal) where
    no_yield : own_kind t ≢ kind.Yield
    no_yield y = let both = sym e ∙ y in absurd cc

    target : (i : ℕ) → target_of c c.head.kind i ≡ equal_target c i
    target i = ap (λ (k : Kind). target_of c k i) (ap (λ h. h.kind) q.judged.head ∙ head_kind t ∙ e)

    -- what is a text behind the node's turn was one before, or has been sent to one
    was_text : (i : ℕ) → is_str s (given (kid_from_front i t)) ≡ true → (o : Option ℕ) → equal_target c i ≡ o →
        (is_str s (given (kid c i)) ≡ true) ⊎ ((u : ℕ) × (o ≡ Some u) × (is_str s (ty.Of u) ≡ true))
    was_text i b None f = inl (sym (ap (is_str s) (kid_given c t q.judged no_yield i (target i ∙ f))) ∙ b)
    was_text i b (Some u) f = by (kid_coerced c t q.judged no_yield i u (target i ∙ f))
      where
        went : given (kid_from_front i t) ≡ (to_type s (own_type (kid c i)) (Some u)).to →
            ((to_type s (own_type (kid c i)) (Some u)).to ≡ ty.Of u) ⊎ ((to_type s (own_type (kid c i)) (Some u)).to ≡ own_type (kid c i)) →
            (is_str s (given (kid c i)) ≡ true) ⊎ ((w : ℕ) × (Some u ≡ Some w) × (is_str s (ty.Of w) ≡ true))
        went g (inl h) = inr (u, refl, sym (ap (is_str s) (g ∙ h)) ∙ b)
        went g (inr h) = inl (ap (is_str s) (q.alone i (ap takes_texts e)) ∙ sym (ap (is_str s) (g ∙ h)) ∙ b)

        by : (given (kid_from_front i t) ≡ (to_type s (own_type (kid c i)) (Some u)).to) ⊎ (given (kid_from_front i t) ≡ ty.Empty) →
            (is_str s (given (kid c i)) ≡ true) ⊎ ((w : ℕ) × (Some u ≡ Some w) × (is_str s (ty.Of w) ≡ true))
        by (inl g) = went g (goes_or_stays s (own_type (kid c i)) u)
        by (inr g) = let no : false ≡ true = sym (ap (is_str s) g) ∙ b in absurd cc

    -- neither operand is sent to a text
    no_target : (a b : Ty) (u : ℕ) → is_str s (ty.Of u) ≡ true →
        option_or (common_type (common s (first_seen c) (second_seen c))) (only_where (goes_to_other s a b) (id_in b)) ≡ Some u → ⊥
    no_target a b u x = by (common s (first_seen c) (second_seen c)) refl
      where
        other : (d : Bool) → goes_to_other s a b ≡ d → only_where d (id_in b) ≡ Some u → ⊥
        other true f g = nothing_goes_to_text s a b (ap (is_str s) (id_of_type b g) ∙ x) f
          where
            id_of_type : (f : Ty) → id_in f ≡ Some u → f ≡ ty.Of u
            id_of_type (ty.Of w) h = let one : w ≡ u = cc in ap ty.Of one
            id_of_type (ty.Iconst w) h = absurd cc
            id_of_type ty.Null h = absurd cc
            id_of_type ty.Empty h = absurd cc
        other false f g = absurd cc

        by : (o : Option Common) → common s (first_seen c) (second_seen c) ≡ o →
            option_or (common_type o) (only_where (goes_to_other s a b) (id_in b)) ≡ Some u → ⊥
        by (Some (Typed n)) f g =
            let one : n ≡ u = cc in
            let integer = (common_is s (first_seen c) (second_seen c) n f).integer in
            text_no_integer s (ty.Of u) x (subst (λ (w : ℕ). has_integer_base s (ty.Of w) ≡ true) one integer)
        by (Some Exact) f g = other (goes_to_other s a b) refl g
        by None f g = other (goes_to_other s a b) refl g

    first_text : is_str s (given (kid_from_front 0 t)) ≡ true → is_str s (first_seen c) ≡ true
    first_text b = by (was_text 0 b (equal_target c 0) refl)
      where
        by : (is_str s (given (kid c 0)) ≡ true) ⊎ ((u : ℕ) × (equal_target c 0 ≡ Some u) × (is_str s (ty.Of u) ≡ true)) →
            is_str s (first_seen c) ≡ true
        by (inl f) = f
        by (inr (u, f, x)) = absurd (no_target (first_seen c) (second_seen c) u x f)

    -- where the first operand is a text, so is the second
    second_stays : is_str s (first_seen c) ≡ true → equal_target c 1 ≡ None
    second_stays x = by (common s (first_seen c) (second_seen c)) refl (goes_to_other s (second_seen c) (first_seen c)) refl
      where
        by : (o : Option Common) → common s (first_seen c) (second_seen c) ≡ o → (d : Bool) →
            goes_to_other s (second_seen c) (first_seen c) ≡ d → option_or (common_type o) (only_where d (id_in (first_seen c))) ≡ None
        by (Some y) f d g = absurd (text_no_integer s (first_seen c) x (common_integer s (first_seen c) (second_seen c) y f))
        by None f true g = absurd (nothing_goes_to_text s (second_seen c) (first_seen c) x g)
        by None f false g = refl

    pub second_text : is_str s (given (kid_from_front 0 t)) ≡ true → is_str s (given (kid_from_front 1 t)) ≡ true
    second_text b =
        let first = first_text b in
        let rows = (alone c t v q.judged kind.Equal e refl refl).rows in
        let one : first_seen c ≡ second_seen c =
        equatable_same s (first_seen c) (second_seen c) first (row_holds c rules.EqualComparable last_rows rows).0 in
        ap (is_str s) (kid_given c t q.judged no_yield 1 (target 1 ∙ second_stays first) ∙ sym one) ∙ first

  -- ---- a cast and parentheses

  no_recast : (f : Value) (u : Tree) → IsText u → recasts f u ≡ false
  no_recast (Of (Pointer x)) (Pointer y) e = absurd e
  no_recast (Of (Pointer x)) (Nullable y) e = absurd e
  no_recast (Of (Nullable x)) (Nullable y) e = absurd e
  no_recast _ _ e = refl

  -- what may be cast to a text may be assigned to it
  assigned : (u : ℕ) → base_row s (ty.Of u) ≡ Some (row.Scalar keyword.Str) → (f : Value) → is_castable s f (type_at s u) ≡ true →
      is_some (first_row s f (type_at s u)) ≡ true
  assigned u b f e =
      recast (or_cases (is_some (first_row s f (type_at s u)) || (is_numeric s f && is_numeric s (Of (type_at s u)))) (recasts f (type_at s u)) e)
    where
      no_number : is_numeric s (Of (type_at s u)) ≡ false
      no_number = ap (holds_of is_number) (base_str s v u b)

      numeric : (is_some (first_row s f (type_at s u)) ≡ true) ⊎ ((is_numeric s f && is_numeric s (Of (type_at s u))) ≡ true) →
          is_some (first_row s f (type_at s u)) ≡ true
      numeric (inl g) = g
      numeric (inr g) =
          let no : false ≡ true = sym no_number ∙ (and_parts (is_numeric s f) (is_numeric s (Of (type_at s u))) g).1 in absurd cc

      recast : ((is_some (first_row s f (type_at s u)) || (is_numeric s f && is_numeric s (Of (type_at s u)))) ≡ true)
          ⊎ (recasts f (type_at s u) ≡ true) → is_some (first_row s f (type_at s u)) ≡ true
      recast (inl g) = numeric (or_cases (is_some (first_row s f (type_at s u))) (is_numeric s f && is_numeric s (Of (type_at s u))) g)
      recast (inr g) = let no : false ≡ true = sym (no_recast f (type_at s u) (tree_str s v u b)) ∙ g in absurd cc

  module _ (e : own_kind t ≡ kind.Cast) where
    no_yield_cast : own_kind t ≢ kind.Yield
    no_yield_cast y = let both = sym e ∙ y in absurd cc

    -- what is cast to a text is one, or has no value
    pub cast_text : is_str s (own_type t) ≡ true →
        GoesTo s (own_type (kid_from_front 0 t)) (mark_of (kid_from_front 0 t)).coerce → is_str s (given (kid_from_front 0 t)) ≡ true
    cast_text b g =
        let st = alone c t v q.judged kind.Cast e refl refl in
        let made = made_as (written c 1) (own_type t) (sym st.type ∙ q.judged.type) in
        let text : is_str s (ty.Of made.0) ≡ true = sym (ap (is_str s) made.2) ∙ b in
        let base = str_row (base_row s (ty.Of made.0)) text in
        let castable : is_castable s (value_at s (first_seen c)) (type_at s made.0) ≡ true =
        sym (ap (castable_to s (first_seen c)) made.1) ∙ (row_holds c rules.CastCastable last_rows st.rows).0 in
        let row = assigned made.0 base (value_at s (first_seen c)) castable in
        let target : target_of c c.head.kind 0 ≡ Some made.0 =
        ap (λ (x : Kind). target_of c x 0) (ap (λ h. h.kind) q.judged.head ∙ head_kind t ∙ e) ∙ made.1 in
        let seen : first_seen c ≡ own_type (kid c 0) = q.alone 0 (ap takes_texts e) in
        by made.0 text base row seen (kid_coerced c t q.judged no_yield_cast 0 made.0 target)
      where
        by : (u : ℕ) → is_str s (ty.Of u) ≡ true → base_row s (ty.Of u) ≡ Some (row.Scalar keyword.Str) →
            is_some (first_row s (value_at s (first_seen c)) (type_at s u)) ≡ true → first_seen c ≡ own_type (kid c 0) →
            (given (kid_from_front 0 t) ≡ (to_type s (own_type (kid c 0)) (Some u)).to) ⊎ (given (kid_from_front 0 t) ≡ ty.Empty) →
            is_str s (given (kid_from_front 0 t)) ≡ true
        by u text base row seen (inl h) =
            of_row (first_row s (value_at s (first_seen c)) (type_at s u)) refl row
          where
            of_row : (o : Option ℕ) → first_row s (value_at s (first_seen c)) (type_at s u) ≡ o → is_some o ≡ true →
                is_str s (given (kid_from_front 0 t)) ≡ true
            of_row (Some n) f x =
                let to : (to_type s (first_seen c) (Some u)).to ≡ ty.Of u =
                ap (λ (o : Option ℕ). (unwrap_or (option_map (λ n. record { row = n; to = ty.Of u }) o) (same (first_seen c))).to) f in
                let own : (to_type s (own_type (kid c 0)) (Some u)).to ≡ ty.Of u =
                ap (λ (a : Ty). (to_type s a (Some u)).to) (sym seen) ∙ to in
                ap (is_str s) (h ∙ own) ∙ text
            of_row None f x = absurd cc
        by u text base row seen (inr h) =
            let empty : first_seen c ≡ ty.Empty =
            seen ∙ sym (kid_type c t q.judged no_yield_cast 0) ∙ goes_empty s (own_type (kid_from_front 0 t))
            (mark_of (kid_from_front 0 t)).coerce g h in
            of_row (first_row s (value_at s (first_seen c)) (type_at s u)) refl row empty
          where
            of_row : (o : Option ℕ) → first_row s (value_at s (first_seen c)) (type_at s u) ≡ o → is_some o ≡ true →
                first_seen c ≡ ty.Empty → is_str s (given (kid_from_front 0 t)) ≡ true
            of_row (Some n) f x z =
                absurd (empty_goes n (sym (ap (λ (a : Ty). first_row s (value_at s a) (type_at s u)) z) ∙ f))
              where
                empty_goes : (n : ℕ) → first_row s Empty (type_at s u) ≡ Some n → ⊥
                empty_goes n y = no_empty s v u base n y
            of_row None f x z = absurd cc

  module _ (e : own_kind t ≡ kind.Paren) where
    no_yield_paren : own_kind t ≢ kind.Yield
    no_yield_paren y = let both = sym e ∙ y in absurd cc

    pub paren_text : is_str s (own_type t) ≡ true → is_str s (given (kid_from_front 0 t)) ≡ true
    paren_text b =
        let st = alone c t v q.judged kind.Paren e refl refl in
        let own : first_seen c ≡ own_type t = (let both : Some (first_seen c) ≡ Some (own_type t) = sym st.type ∙ q.judged.type in cc) in
        let target : target_of c c.head.kind 0 ≡ None =
        ap (λ (x : Kind). target_of c x 0) (ap (λ h. h.kind) q.judged.head ∙ head_kind t ∙ e) in
        ap (is_str s) (kid_given c t q.judged no_yield_paren 0 target ∙ own) ∙ b
