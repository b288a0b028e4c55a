-- Of the nodes of constants, those alone are texts that are strings, paths, casts, or stand in parentheses.
use Rattle.std.proofs.Common.{◌≡◌, ◌≢◌, ◌∙◌, sym, ap, subst, refl, ℕ, arith, ◌∷◌, Bool, true, false, Option, Some, None, cond}
use Rattle.std.specs.Prelude.{pos, option_map, option_and_then, unwrap_or}
use Rattle.std.proofs.lemmas.Bool.{and_parts}
use Rattle.hare_tree.specs.declared.kind.Kind.{Kind}
use Rattle.hare_tree.specs.declared.kind.Kind.TheVariants as kind
use Rattle.hare_tree.specs.declared.token.Suffix.{Suffix}
use Rattle.hare_tree.specs.declared.token.Suffix.TheVariants as suffix
use Rattle.hare_types.specs.declared.coercion.Ty.{Ty}
use Rattle.hare_types.specs.declared.coercion.Ty.TheVariants as ty
use Rattle.hare_types.specs.declared.row.Row.{Row}
use Rattle.hare_types.specs.declared.row.Row.TheVariants as row
use Rattle.hare_types.specs.declared.row.Scalar.{Scalar as Keyword}
use Rattle.hare_types.specs.declared.row.Scalar.TheVariants as keyword
use Rattle.hare_types.specs.Bases.{base_over}
use Rattle.hare_types.specs.Store.{definition_of}
use Rattle.hare_types.specs.Sound.{IsStore}
use Rattle.hare_types.specs.ByIds.{base_at}
use Rattle.hare_types.specs.Unions.{id_of}
use Rattle.hare_types.proofs.IdLemmas.{id_tells}
use Rattle.hare_typed.specs.Typed.{TypedNode, TypedNodes, Mark}
use Rattle.hare_typed.specs.Constancy.{is_constant_kind}
use Rattle.hare_typed.specs.Constants.{own_kind}
use Rattle.hare_typed.specs.ConstantForms.{own_type, is_iconst, int_in}
use Rattle.hare_typed.specs.Given.{base_row, is_str}
use Rattle.hare_typed.specs.Shapes.{shape_of_row, int_of_shape}
use Rattle.hare_layout.proofs.PlacesLemmas.{then}
use Rattle.hare_typed.specs.Settled.{IsWidth}
use Rattle.hare_typed.specs.Settled.{HasNumber}
use Rattle.hare_rules.specs.declared.row_id.RowId.TheVariants as rules
use Rattle.hare_rules.specs.Words as words
use Rattle.hare_rules.specs.Words.{is_integer, is_word, word_id, id_in}
use Rattle.hare_rules.specs.Aggregates.{is_path, pointer_to, field_values, tuple_components, is_empty_array, array_count, item_type}
use Rattle.hare_rules.specs.Context.{Context, Role, Ordinary, Callee, Length, BindingType, CaseValue, DeclaredValue, store_of, kid}
use Rattle.hare_rules.specs.Operators.{first_seen, second_seen, suffix_word, number_type_by, number_type, unary_type}
use Rattle.hare_rules.specs.Settles.{target_of}
use Rattle.hare_rules.specs.Table.{asked as last_rows}
use Rattle.hare_rules.specs.Types.{word, type_by, type_in_role, length_type}
use Rattle.hare_constancy.specs.Met.{is_number, is_in_role, asks_nothing, IsJudged}
use Rattle.hare_constancy.proofs.Judged.{row_holds}
use Rattle.hare_constancy.proofs.Operators.{unary_asked, arith_asked, shift_asked, scalar_base}
use Rattle.hare_constancy.proofs.Parts.{made_as, filled}
use Rattle.hare_constancy.proofs.Trees.{kind_of_context, alone, no_yield}
use Rattle.hare_constancy.proofs.Texts.Rows.{str_row, str_id, word_of_str}
use Rattle.hare_constancy.proofs.Texts.Operands.{own_text}

abbrev pub is_text_kind : Kind → Bool
is_text_kind kind.Str = true
is_text_kind kind.Path = true
is_text_kind kind.Paren = true
is_text_kind kind.Cast = true
is_text_kind _ = false

-- no suffix is that of texts
suffix_no_text : (x : Suffix) (k : Keyword) → suffix_word x ≡ Some k → k ≡ keyword.Str → ⊥
suffix_no_text suffix.None k e f = absurd cc
suffix_no_text _ k e f = let both = e ∙ ap Some f in absurd cc

module _ (c : Context) (t : TypedNode) (v : IsStore (store_of c)) (j : IsJudged c t) (b : is_str (store_of c) (own_type t) ≡ true) where
  -- ---- types that are made

  word_text : (k : Keyword) → word c k ≡ Some (own_type t) → k ≡ keyword.Str
  word_text k e =
      let made = made_as (word_id (store_of c) k) (own_type t) e in
      let here = (id_tells (store_of c) v (row.Scalar k) made.0).0 made.1 in
      word_of_str (store_of c) made.0 k (scalar_base (store_of c) made.0 k here) (sym (ap (is_str (store_of c)) made.2) ∙ b)

  row_text : (r : Row) (u : ℕ) → own_type t ≡ ty.Of u → id_of (store_of c) r ≡ Some u →
      base_over (definition_of (store_of c)) (base_at (store_of c)) u r ≡ Some u → r ≡ row.Scalar keyword.Str
  row_text r u e f g =
      own_text (store_of c) u r ((id_tells (store_of c) v r u).0 f) g (sym (ap (is_str (store_of c)) e) ∙ b)

  number_text : (x : Suffix) (n : ℕ) → number_type_by (store_of c) (suffix_word x) n ≡ Some (own_type t) → ⊥
  number_text x n e = by (suffix_word x) refl e
    where
      by : (o : Option Keyword) → suffix_word x ≡ o → number_type_by (store_of c) o n ≡ Some (own_type t) → ⊥
      by None f g =
          let own : ty.Iconst (pos n) ≡ own_type t = cc in
          let no : false ≡ true = ap (is_str (store_of c)) own ∙ b in
          absurd cc
      by (Some k) f g = suffix_no_text x k f (word_text k g)

  -- ---- numbers

  no_width : IsWidth (int_in (store_of c) (own_type t)).bits → ⊥
  no_width w =
      let is = str_id (store_of c) (own_type t) b in
      let here = subst (λ (f : Ty). IsWidth (int_in (store_of c) f).bits) is.1 w in
      let bare = subst (λ (o : Option Row). IsWidth
      (unwrap_or (option_map int_of_shape (option_and_then shape_of_row o)) (record { bits = 0; signed = false })).bits) is.2 here in
      absurd (omega (arith, bare.some))

  no_number : HasNumber (store_of c) t → ⊥
  no_number h = let is = str_id (store_of c) (own_type t) b in no_width (h (ap is_iconst is.1)).0

  -- ---- parts

  tuple_text : own_kind t ≡ kind.Tuple → ⊥
  tuple_text e =
      let st = alone c t v j kind.Tuple e refl refl in
      let made = made_as (option_and_then (λ ts. id_of (store_of c) (row.Tuple ts)) (tuple_components c)) (own_type t)
      (sym st.type ∙ j.type) in
      let parts = then (λ ts. id_of (store_of c) (row.Tuple ts)) (tuple_components c) made.0 made.1 in
      let no = row_text (row.Tuple parts.0) made.0 made.2 parts.2 refl in
      absurd cc

  array_text : own_kind t ≡ kind.Array → ⊥
  array_text e = by (is_empty_array c) (sym (alone c t v j kind.Array e refl refl).type ∙ j.type)
    where
      by : (d : Bool) → cond d (Some ty.Empty) (words.typed_as
          (option_and_then (λ u. id_of (store_of c) (row.Array (array_count c) u)) (item_type c))) ≡ Some (own_type t) → ⊥
      by true f =
          let own : ty.Empty ≡ own_type t = cc in
          let no = ap (is_str (store_of c)) own ∙ b in
          absurd cc
      by false f =
          let made = made_as (option_and_then (λ u. id_of (store_of c) (row.Array (array_count c) u)) (item_type c)) (own_type t) f in
          let item = then (λ u. id_of (store_of c) (row.Array (array_count c) u)) (item_type c) made.0 made.1 in
          let no = row_text (row.Array (array_count c) item.0) made.0 made.2 item.2 refl in
          absurd cc

  struct_text : own_kind t ≡ kind.StructLit → ⊥
  struct_text e =
      let st = alone c t v j kind.StructLit e refl refl in
      let own : own_type (kid c 0) ≡ own_type t =
      (let both : Some (own_type (kid c 0)) ≡ Some (own_type t) = sym st.type ∙ j.type in cc) in
      let full = filled (store_of c) (base_row (store_of c) (own_type (kid c 0))) (field_values c)
      (row_holds c rules.StructLitFields last_rows st.rows).0 in
      let text = ap (is_str (store_of c)) own ∙ b in
      let no = sym full.1 ∙ str_row (base_row (store_of c) (own_type (kid c 0))) text in
      absurd cc

  address_text : own_kind t ≡ kind.Addr → ⊥
  address_text e =
      let st = alone c t v j kind.Addr e refl refl in
      let made = made_as (pointer_to (store_of c) (id_in (first_seen c))) (own_type t) (sym st.type ∙ j.type) in
      let to = then (λ u. id_of (store_of c) (row.Pointer u)) (id_in (first_seen c)) made.0 made.1 in
      let no = row_text (row.Pointer to.0) made.0 made.2 to.2 refl in
      absurd cc

  bool_text : own_kind t ≡ kind.Bang → ⊥
  bool_text e =
      let st = alone c t v j kind.Bang e refl refl in
      let own : first_seen c ≡ own_type t = (let both : Some (first_seen c) ≡ Some (own_type t) = sym st.type ∙ j.type in cc) in
      let text = str_row (base_row (store_of c) (first_seen c)) (ap (is_str (store_of c)) own ∙ b) in
      let no = sym (ap (is_word keyword.Bool) text) ∙ (row_holds c rules.BangBoolean last_rows st.rows).0 in
      absurd cc

  -- ---- kinds

  type_of_number : own_kind t ≡ kind.Number → number_type c ≡ Some (own_type t)
  type_of_number e = by c.inside.role refl (subst (λ (k : Kind). is_in_role c.inside.role k ≡ true) e j.role)
    where
      k : c.head.kind ≡ kind.Number
      k = kind_of_context c t v j kind.Number e

      by : (r : Role) → c.inside.role ≡ r → is_in_role r kind.Number ≡ true → number_type c ≡ Some (own_type t)
      by Callee f g = absurd cc
      by Length f g = sym (ap (type_in_role c) f ∙ ap (length_type c) k) ∙ j.type
      by Ordinary f g = sym (ap (type_in_role c) f ∙ ap (type_by c) k) ∙ j.type
      by BindingType f g = sym (ap (type_in_role c) f ∙ ap (type_by c) k) ∙ j.type
      by CaseValue f g = sym (ap (type_in_role c) f ∙ ap (type_by c) k) ∙ j.type
      by DeclaredValue f g = sym (ap (type_in_role c) f ∙ ap (type_by c) k) ∙ j.type

  word_kind : (k : Kind) (x : Keyword) → own_kind t ≡ k → is_path k ≡ false → is_number k ≡ false →
      type_by c k ≡ word c x → x ≡ keyword.Str
  word_kind k x e p n f = word_text x (sym f ∙ sym (alone c t v j k e p n).type ∙ j.type)

  unary_text : (k : Kind) → own_kind t ≡ k → k ≢ kind.Yield → target_of c k 0 ≡ None → is_integer (store_of c) (first_seen c) ≡ true →
      unary_type k (first_seen c) ≡ Some (own_type t) → ⊥
  unary_text k e y o i f =
      let here = kind_of_context c t v j k e in
      no_number (unary_asked c t j (no_yield c t v j k e y) (ap (λ (q : Kind). target_of c q 0) here ∙ o) i
      (ap (λ (q : Kind). unary_type q (first_seen c)) here ∙ f))

  arith_text : own_kind t ≡ kind.Arith → ⊥
  arith_text e =
      let st = alone c t v j kind.Arith e refl refl in
      let here = kind_of_context c t v j kind.Arith e in
      no_number (arith_asked c t v j (no_yield c t v j kind.Arith e (λ y. absurd cc)) (ap asks_nothing e)
      (λ i. ap (λ (q : Kind). target_of c q i) here) (sym st.type ∙ j.type)).0

  shift_text : own_kind t ≡ kind.Shift → ⊥
  shift_text e =
      let st = alone c t v j kind.Shift e refl refl in
      let here = kind_of_context c t v j kind.Shift e in
      no_number (shift_asked c t v j (no_yield c t v j kind.Shift e (λ y. absurd cc)) (ap asks_nothing e)
      (ap (λ (q : Kind). target_of c q 0) here)
      (and_parts (is_integer (store_of c) (first_seen c)) (is_integer (store_of c) (second_seen c))
      (row_holds c rules.ShiftIntegers (rules.ShiftRange ∷ rules.ShiftLeftDefault ∷ last_rows) st.rows).0).0 (sym st.type ∙ j.type))

  pub text_kinds : (k : Kind) (m : Mark) (ts : TypedNodes) → own_kind t ≡ k → is_text_kind k ≡ false →
      is_constant_kind (store_of c) k m ts ≡ true → ⊥
  text_kinds kind.Number m ts e f g = number_text c.head.suffix c.head.number (type_of_number e)
  text_kinds kind.RuneLit m ts e f g = let no = word_kind kind.RuneLit keyword.Rune e refl refl refl in absurd cc
  text_kinds kind.Bool m ts e f g = let no = word_kind kind.Bool keyword.Bool e refl refl refl in absurd cc
  text_kinds kind.Null m ts e f g =
      let own : Some ty.Null ≡ Some (own_type t) = sym (alone c t v j kind.Null e refl refl).type ∙ j.type in
      let is : ty.Null ≡ own_type t = cc in
      let no = ap (is_str (store_of c)) is ∙ b in
      absurd cc
  text_kinds kind.Void m ts e f g = let no = word_kind kind.Void keyword.Void e refl refl refl in absurd cc
  text_kinds kind.Neg m ts e f g =
      let st = alone c t v j kind.Neg e refl refl in
      unary_text kind.Neg e (λ y. absurd cc) refl (row_holds c rules.UnaryInteger (rules.UnaryRange ∷ last_rows) st.rows).0
      (ap (λ (q : Kind). unary_type q (first_seen c)) (sym (kind_of_context c t v j kind.Neg e)) ∙ sym st.type ∙ j.type)
  text_kinds kind.Not m ts e f g =
      let st = alone c t v j kind.Not e refl refl in
      unary_text kind.Not e (λ y. absurd cc) refl (row_holds c rules.UnaryInteger (rules.UnaryRange ∷ last_rows) st.rows).0
      (ap (λ (q : Kind). unary_type q (first_seen c)) (sym (kind_of_context c t v j kind.Not e)) ∙ sym st.type ∙ j.type)
  text_kinds kind.Bang m ts e f g = bool_text e
  text_kinds kind.Arith m ts e f g = arith_text e
  text_kinds kind.Shift m ts e f g = shift_text e
  text_kinds kind.Less m ts e f g = let no = word_kind kind.Less keyword.Bool e refl refl refl in absurd cc
  text_kinds kind.Equal m ts e f g = let no = word_kind kind.Equal keyword.Bool e refl refl refl in absurd cc
  text_kinds kind.Logic m ts e f g = let no = word_kind kind.Logic keyword.Bool e refl refl refl in absurd cc
  text_kinds kind.Tuple m ts e f g = tuple_text e
  text_kinds kind.Array m ts e f g = array_text e
  text_kinds kind.StructLit m ts e f g = struct_text e
  text_kinds kind.Size m ts e f g = let no = word_kind kind.Size keyword.Size e refl refl refl in absurd cc
  text_kinds kind.Align m ts e f g = let no = word_kind kind.Align keyword.Size e refl refl refl in absurd cc
  text_kinds kind.Offset m ts e f g = let no = word_kind kind.Offset keyword.Size e refl refl refl in absurd cc
  text_kinds kind.Len m ts e f g = let no = word_kind kind.Len keyword.Size e refl refl refl in absurd cc
  text_kinds kind.Addr m ts e f g = address_text e
  text_kinds _ m ts e f g = absurd cc
