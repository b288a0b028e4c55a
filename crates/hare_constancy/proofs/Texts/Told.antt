-- In a tree that is traced the texts are told that are compared.
use Rattle.std.proofs.Common.{◌≡◌, ◌≢◌, ◌∙◌, sym, ap, subst, refl, ℕ, ◌≤◌, ◌<◌, ◌+◌, arith, Bool, true, false, not, ◌&&◌, ◌||◌, List, []}
use Rattle.std.proofs.Common.{◌∷◌, Option, Some, None, cond}
use Rattle.std.specs.Prelude.{◌==◌, length, IsSome, if◌then◌else◌}
use Rattle.std.proofs.Common.{leb-true, lt-ltb}
use Rattle.std.proofs.lemmas.Bool.{and_parts}
use Rattle.hare_tree.specs.declared.kind.Kind.{Kind}
use Rattle.hare_tree.specs.declared.kind.Kind.TheVariants as kind
use Rattle.hare_tree.specs.declared.form.Sort.{Sort}
use Rattle.hare_tree.specs.declared.form.Sort.TheVariants as so
use Rattle.hare_tree.specs.declared.form.Piece.TheVariants as pi
use Rattle.hare_tree.specs.declared.token.Meaning.{Meaning}
use Rattle.hare_tree.specs.declared.token.Meaning.TheVariants as meant
use Rattle.hare_tree.specs.Forms.{form_of}
use Rattle.hare_tree.specs.Levels.{level, is_type}
use Rattle.hare_tree.specs.Node.{Head, Node}
use Rattle.hare_tree.specs.Shape.{is_shaped, are_kids, kid_pieces}
use Rattle.hare_tree.proofs.TreeKids.KidSorts.{shaped_kids}
use Rattle.hare_tree.proofs.TreeKids.ShapedKids.{AllShaped, shaped_admits, kids_of_shaped}
use Rattle.hare_types.specs.declared.coercion.Ty.{Ty}
use Rattle.hare_types.specs.declared.coercion.Ty.TheVariants as ty
use Rattle.hare_types.specs.declared.row.Row.{Row}
use Rattle.hare_types.specs.Store.{Store}
use Rattle.hare_types.specs.Sound.{IsStore}
use Rattle.hare_types.specs.ByIds.{row_at}
use Rattle.hare_typed.specs.declared.constant.Const.{Const}
use Rattle.hare_typed.specs.Typed.{TypedNode, TypedNodes, Mark, marked, typed_none, typed_more, head_of, mark_of, listed_nodes}
use Rattle.hare_typed.specs.Erased.{erase, erase_each}
use Rattle.hare_typed.specs.Numbers.{kind_of}
use Rattle.hare_typed.specs.Order.{tree_from_front, kid_from_front}
use Rattle.hare_typed.specs.Given.{given, first_given, second_given, base_row, is_str}
use Rattle.hare_typed.specs.Constants.{own_kind, is_known}
use Rattle.hare_typed.specs.ConstantForms.{own_type}
use Rattle.hare_typed.specs.Constancy.{is_name_of, is_void_row, names_void, is_wrapper, is_constant_kind, is_constant, hides_kids, or_else}
use Rattle.hare_typed.specs.Constancy.{first_inconstant, first_inconstant_of}
use Rattle.hare_typed.specs.Settled.{PlainKind}
use Rattle.hare_typed.specs.Texts.{text_in, keeps_text, longest, unless_long, text_by, text_of, text_of_kid}
use Rattle.hare_rules.specs.declared.declared.DeclType.{DeclType}
use Rattle.hare_rules.specs.Aggregates.{is_path}
use Rattle.hare_rules.specs.Context.{Setting, Context, declaration, store_of, kid}
use Rattle.hare_rules.specs.Finished.{expression}
use Rattle.hare_rules.specs.Operators.{named_id, type_of_declaration}
use Rattle.hare_rules.specs.Values.{value_of_decl, value_of_meaning}
use Rattle.hare_rules.specs.Words.{typed_as}
use Rattle.hare_constancy.specs.Laws.{IsTextTold, TextsAreTold, EachTextTold}
use Rattle.hare_constancy.specs.Measured.{AreMeasured, EachMeasured}
use Rattle.hare_constancy.specs.Met.{GoesTo, IsJudged}
use Rattle.hare_constancy.specs.Texts.{IsShort, HasShortTexts, HaveShortTexts, IsToldDef, DefsAreTold, TracedTextsAreTold}
use Rattle.hare_constancy.specs.Traced.{hands_texts, IsNamed, IsTraced, AreTraced}
use Rattle.hare_constancy.proofs.Judged.{kid_head, kid_type, kid_meaning, kid_value}
use Rattle.hare_constancy.proofs.Texts.Kinds.{is_text_kind, text_kinds}
use Rattle.hare_constancy.proofs.Texts.Operands.{second_text, cast_text, paren_text}
use Rattle.hare_constancy.proofs.Texts.Rows.{str_row, goes_text}

-- ---- what is an expression

abbrev IsValue : TypedNode → Type 0
IsValue x = 1 ≤ level (head_of x).kind (head_of x).text

value_no_type : (k : Kind) (x : List ℕ) → 1 ≤ level k x → is_type k ≡ false
value_no_type k x l = by k l
  where
    by : (k : Kind) → 1 ≤ level k x → is_type k ≡ false
    by kind.TypeError l = absurd (omega (arith, l))
    by kind.TypeScalar l = absurd (omega (arith, l))
    by kind.TypePath l = absurd (omega (arith, l))
    by kind.TypePointer l = absurd (omega (arith, l))
    by kind.TypeNullable l = absurd (omega (arith, l))
    by kind.TypeSlice l = absurd (omega (arith, l))
    by kind.TypeArray l = absurd (omega (arith, l))
    by kind.TypeStruct l = absurd (omega (arith, l))
    by kind.TypeTuple l = absurd (omega (arith, l))
    by kind.TypeUnion l = absurd (omega (arith, l))
    by _ l = refl

value_no_wrapper : (k : Kind) (x : List ℕ) → 1 ≤ level k x → is_wrapper k ≡ false
value_no_wrapper k x l = by k l
  where
    by : (k : Kind) → 1 ≤ level k x → is_wrapper k ≡ false
    by kind.None l = absurd (omega (arith, l))
    by kind.TrailingComma l = absurd (omega (arith, l))
    by kind.Dots l = absurd (omega (arith, l))
    by kind.ByRef l = absurd (omega (arith, l))
    by kind.Message l = absurd (omega (arith, l))
    by kind.Name l = absurd (omega (arith, l))
    by kind.FieldValue l = absurd (omega (arith, l))
    by kind.Binding l = absurd (omega (arith, l))
    by kind.Values l = absurd (omega (arith, l))
    by kind.Case l = absurd (omega (arith, l))
    by kind.SwitchCase l = absurd (omega (arith, l))
    by kind.PatternLet l = absurd (omega (arith, l))
    by kind.PatternNull l = absurd (omega (arith, l))
    by _ l = refl

-- ---- none of two

neither_left : (a b : Option TypedNode) → or_else a b ≡ None → a ≡ None
neither_left None b e = refl
neither_left (Some x) b e = absurd cc

neither_right : (a b : Option TypedNode) → or_else a b ≡ None → b ≡ None
neither_right None b e = e
neither_right (Some x) b e = absurd cc

-- ---- a node that is constant

-- what is found where no evaluation counts
abbrev none_aborts : TypedNode → Bool
none_aborts u = false

-- an expression of which no node is of another than a constant kind
record IsOfConstants (s : Store) (k : Kind) (m : Mark) (ts : TypedNodes) : Type 0 where
  constant : is_constant_kind s k m ts ≡ true
  row : m.coerce.row ≢ 2
  kids : hides_kids k ts ≡ false → first_inconstant_of s none_aborts ts ≡ None

of_constants : (s : Store) (h : Head) (m : Mark) (ts : TypedNodes) → 1 ≤ level h.kind h.text →
    first_inconstant s none_aborts (marked h m ts) ≡ None → IsOfConstants s h.kind m ts
of_constants s h m ts l e =
    let t = marked h m ts in
    let inner = if hides_kids h.kind ts then None else first_inconstant_of s none_aborts ts in
    let outer = if not (is_constant s h.kind m ts) || false then Some t else None in
    let both : or_else inner outer ≡ None =
    sym (ap (λ (b : Bool). if b then None else or_else inner outer) (value_no_type h.kind h.text l)) ∙ e in
    let own : is_constant s h.kind m ts ≡ true = shown (is_constant s h.kind m ts) (neither_right inner outer both) in
    let joined : (is_constant_kind s h.kind m ts && not (m.coerce.row == 2)) ≡ true =
    sym (ap (λ (b : Bool). b || (is_constant_kind s h.kind m ts && not (m.coerce.row == 2))) (value_no_wrapper h.kind h.text l)) ∙ own in
    record {
      constant = (and_parts (is_constant_kind s h.kind m ts) (not (m.coerce.row == 2)) joined).0;
      row = λ r. (let no = sym (ap (λ (n : ℕ). not (n == 2)) r)
          ∙ (and_parts (is_constant_kind s h.kind m ts) (not (m.coerce.row == 2)) joined).1 in absurd cc);
      kids = λ b. sym (ap (λ (d : Bool). if d then None else first_inconstant_of s none_aborts ts) b) ∙ neither_left inner outer both;
    }
  where
    shown : (b : Bool) → (if not b || false then Some (marked h m ts) else None) ≡ None → b ≡ true
    shown true f = refl
    shown false f = absurd cc

-- ---- the kids of what hands on texts

-- the first is an expression
abbrev FirstIsValue : TypedNodes → Type 0
FirstIsValue typed_none = ⊥
FirstIsValue (typed_more x ts) = IsValue x

-- and so is the one behind it
abbrev SecondIsValue : TypedNodes → Type 0
SecondIsValue typed_none = ⊥
SecondIsValue (typed_more x ts) = FirstIsValue ts

of_level : (n : ℕ) (x : TypedNode) → 1 ≤ n → is_shaped (so.Level n) (erase x) ≡ true → IsValue x
of_level n (marked h m ts) l e =
    let a : n ≤ level h.kind h.text = leb-true n (level h.kind h.text) (shaped_admits (so.Level n) h (erase_each ts) e) in
    omega (arith, a, l)

picked : (b : Bool) (m n : ℕ) → 1 ≤ m → 1 ≤ n → 1 ≤ (if b then m else n)
picked true m n p q = p
picked false m n p q = q

operator_some : (x : List ℕ) → 1 ≤ level kind.Equal x
operator_some x =
    picked _ 12 _ (omega arith)
    (picked _ 11 _ (omega arith)
    (picked _ 10 _ (omega arith)
    (picked _ 9 _ (omega arith)
    (picked _ 8 _ (omega arith)
    (picked _ 7 _ (omega arith)
    (picked _ 6 _ (omega arith)
    (picked _ 5 _ (omega arith)
    (picked _ 4 _ (omega arith)
    (picked _ 3 2 (omega arith) (omega arith))))))))))

one_kid : (n l : ℕ) (ts : TypedNodes) → 1 ≤ l → are_kids n (pi.Kid (so.Level l) ∷ []) (erase_each ts) ≡ true → FirstIsValue ts
unfolding is_shaped
one_kid n l typed_none p e = absurd cc
one_kid n l (typed_more x ts) p e =
    of_level l x p ((and_parts (is_shaped (so.Level l) (erase x)) (are_kids n [] (erase_each ts)) e).0)

one_and_type : (n : ℕ) (ts : TypedNodes) → 1 ≤ n → are_kids n (pi.Kid so.Left ∷ pi.Kid so.Type ∷ []) (erase_each ts) ≡ true →
    FirstIsValue ts
unfolding is_shaped
one_and_type n typed_none p e = absurd cc
one_and_type n (typed_more x ts) p e =
    of_level n x p ((and_parts (is_shaped (so.Level n) (erase x)) (are_kids n (pi.Kid so.Type ∷ []) (erase_each ts)) e).0)

two_kids : (n : ℕ) (ts : TypedNodes) → 1 ≤ n → are_kids n (pi.Kid so.Left ∷ pi.Kid so.Right ∷ []) (erase_each ts) ≡ true →
    FirstIsValue ts × SecondIsValue ts
unfolding is_shaped
two_kids n typed_none p e = absurd cc
two_kids n (typed_more x typed_none) p e =
    let no = (and_parts (is_shaped (so.Level n) (erase x)) false e).1 in absurd cc
two_kids n (typed_more x (typed_more y ts)) p e =
    let rest = (and_parts (is_shaped (so.Level n) (erase x))
    (is_shaped (so.Level (n + 1)) (erase y) && are_kids n [] (erase_each ts)) e).1 in (
      of_level n x p
          ((and_parts (is_shaped (so.Level n) (erase x)) (is_shaped (so.Level (n + 1)) (erase y) && are_kids n [] (erase_each ts)) e).0),
      of_level (n + 1) y (omega arith) ((and_parts (is_shaped (so.Level (n + 1)) (erase y)) (are_kids n [] (erase_each ts)) rest).0),
    )

module _ (o : Sort) (h : Head) (m : Mark) (ts : TypedNodes) (e : is_shaped o (erase (marked h m ts)) ≡ true) where
  kids_by : (k : Kind) → h.kind ≡ k → are_kids (level h.kind h.text) (kid_pieces (form_of k)) (erase_each ts) ≡ true
  kids_by k f =
      subst (λ (q : Kind). are_kids (level h.kind h.text) (kid_pieces (form_of q)) (erase_each ts) ≡ true) f
      (shaped_kids o h (erase_each ts) e)

  paren_kid : h.kind ≡ kind.Paren → FirstIsValue ts
  paren_kid f = one_kid (level h.kind h.text) 1 ts (omega arith) (kids_by kind.Paren f)

  cast_kid : h.kind ≡ kind.Cast → FirstIsValue ts
  cast_kid f =
      one_and_type (level h.kind h.text) ts (subst (λ (k : Kind). 1 ≤ level k h.text) (sym f) (omega arith)) (kids_by kind.Cast f)

  equal_kids : h.kind ≡ kind.Equal → FirstIsValue ts × SecondIsValue ts
  equal_kids f =
      two_kids (level h.kind h.text) ts (subst (λ (k : Kind). 1 ≤ level k h.text) (sym f) (operator_some h.text)) (kids_by kind.Equal f)

-- what is given by the first of some trees, and by that behind it
first-front : (ts : TypedNodes) → given (tree_from_front 0 (listed_nodes ts)) ≡ first_given ts
first-front typed_none = refl
first-front (typed_more x ts) = refl

second-front : (ts : TypedNodes) → given (tree_from_front 1 (listed_nodes ts)) ≡ second_given ts
second-front typed_none = refl
second-front (typed_more x typed_none) = refl
second-front (typed_more x (typed_more y ts)) = refl

-- ---- paths

named_kid : (c : Context) (t : TypedNode) (j : IsJudged c t) (y : own_kind t ≢ kind.Yield) (i : ℕ) → IsNamed c.setting (kid c i) →
    IsNamed c.setting (kid_from_front i t)
named_kid c t j y i n =
    record {
      value = kid_value c t j y i ∙ n.value ∙ ap (value_of_meaning c.setting) (sym (kid_meaning c t j y i));
      type = λ d e. n.type d (sym (kid_meaning c t j y i) ∙ e) ∙ ap Some (sym (kid_type c t j y i));
    }

text_no_void : (s : Store) (a : Meaning) (f : Ty) → is_str s f ≡ true → names_void s a f ≡ false
text_no_void s (meant.Decl d) (ty.Of t) b =
    ap (λ (o : Option Row). is_name_of d (row_at s t) && is_void_row o) (str_row (base_row s (ty.Of t)) b)
    ∙ neither (is_name_of d (row_at s t))
  where
    neither : (b : Bool) → (b && false) ≡ false
    neither true = refl
    neither false = refl
text_no_void s (meant.Decl d) (ty.Iconst w) b = refl
text_no_void s (meant.Decl d) ty.Null b = refl
text_no_void s (meant.Decl d) ty.Empty b = refl
text_no_void s (meant.Local n) f b = refl
text_no_void s (meant.Rt r) f b = refl
text_no_void s meant.None f b = refl

known_left : (a b : Bool) → b ≡ false → (a || b) ≡ true → a ≡ true
known_left true b f e = refl
known_left false b f e = let both = sym e ∙ f in absurd cc

def_text : (w : Setting) → DefsAreTold w → (x : TypedNode) → IsNamed w x → is_known (mark_of x).value ≡ true →
    is_str w.store (own_type x) ≡ true → IsSome (text_in (mark_of x).value)
def_text w d x n k b =
    subst (λ (v : Const). IsSome (text_in v)) (sym n.value) (by (mark_of x).meaning refl (sym (ap is_known n.value) ∙ k))
  where
    known : (i : ℕ) → (mark_of x).meaning ≡ meant.Decl i → (o : Option DeclType) → declaration w i ≡ o →
        is_known (value_of_decl o) ≡ true → IsSome (text_in (value_of_decl o))
    known i f None g h = absurd cc
    known i f (Some a) g h =
        let told : IsToldDef w a = d i a g h in
        let own : type_of_declaration w (Some a) i ≡ Some (own_type x) =
        sym (ap (λ (o : Option DeclType). type_of_declaration w o i) g) ∙ n.type i f in
        let typed : Some (ty.Of a.ty) ≡ Some (own_type x) =
        sym (ap (λ (z : Bool). cond z (typed_as (named_id w i)) (Some (ty.Of a.ty))) told.value) ∙ own in
        let same : ty.Of a.ty ≡ own_type x = cc in
        told.text (ap (is_str w.store) same ∙ b)

    by : (a : Meaning) → (mark_of x).meaning ≡ a → is_known (value_of_meaning w a) ≡ true → IsSome (text_in (value_of_meaning w a))
    by (meant.Decl i) f g = known i f (declaration w i) refl g
    by (meant.Local i) f g = absurd cc
    by (meant.Rt r) f g = absurd cc
    by meant.None f g = absurd cc

-- ---- a text

short_text : (x : List ℕ) → length x < longest → IsSome (unless_long x)
short_text x l = subst (λ (b : Bool). IsSome (if b then Some x else None)) (sym (lt-ltb (length x) longest l)) refl

module _ (w : Setting) (v : IsStore w.store) (d : DefsAreTold w) where
  -- what is known of a tree that may be a text
  record MayBeText (x : TypedNode) : Type 0 where
    traced : IsTraced w x
    sort : Sort
    shaped : is_shaped sort (erase x) ≡ true
    value : IsValue x
    named : is_path (kind_of x) ≡ true → IsNamed w x
    short : HasShortTexts x
    measured : AreMeasured w.store x
    text : is_str w.store (given x) ≡ true
    constant : first_inconstant w.store none_aborts x ≡ None

  -- and of the first of some trees, but for what it gives and whether it is constant
  record IsKid (x : TypedNode) : Type 0 where
    traced : IsTraced w x
    sort : Sort
    shaped : is_shaped sort (erase x) ≡ true
    value : IsValue x
    named : is_path (kind_of x) ≡ true → IsNamed w x
    short : HasShortTexts x
    measured : AreMeasured w.store x

  abbrev FirstIsKid : TypedNodes → Type 0
  FirstIsKid typed_none = ⊥
  FirstIsKid (typed_more x ts) = IsKid x

  may_be_text : (x : TypedNode) → IsKid x → is_str w.store (given x) ≡ true → first_inconstant w.store none_aborts x ≡ None → MayBeText x
  may_be_text x k b n =
      record {
        traced = k.traced;
        sort = k.sort;
        shaped = k.shaped;
        value = k.value;
        named = k.named;
        short = k.short;
        measured = k.measured;
        text = b;
        constant = n;
      }

  -- the kids of a node that hands on texts
  module _ (h : Head) (m : Mark) (ts : TypedNodes) (p : IsTraced w (marked h m ts)) (o : Sort)
      (e : is_shaped o (erase (marked h m ts)) ≡ true) (q : HasShortTexts (marked h m ts)) (a : AreMeasured w.store (marked h m ts))
      (f : hands_texts h.kind ≡ true) (y : h.kind ≢ kind.Yield) where
    kid_named : (i : ℕ) → is_path (kind_of (kid_from_front i (marked h m ts))) ≡ true → IsNamed w (kid_from_front i (marked h m ts))
    kid_named i g =
        let c = p.0.0 in
        let j = p.0.2.judged in
        let there : is_path (kind_of (kid c i)) ≡ true =
        sym (ap (λ (x : Head). is_path x.kind) (kid_head c (marked h m ts) j y i)) ∙ g in
        subst (λ (x : Setting). IsNamed x (kid_from_front i (marked h m ts))) p.0.1
        (named_kid c (marked h m ts) j y i (p.0.2.named i f there))

  first_kid : (h : Head) (m : Mark) (ts : TypedNodes) (p : IsTraced w (marked h m ts)) (o : Sort) →
      is_shaped o (erase (marked h m ts)) ≡ true → HasShortTexts (marked h m ts) → AreMeasured w.store (marked h m ts) →
      hands_texts h.kind ≡ true → h.kind ≢ kind.Yield → FirstIsValue ts → FirstIsKid ts
  first_kid h m typed_none p o e q a f y r = absurd r
  first_kid h m (typed_more x ts) p o e q a f y r =
      let shaped = (kids_of_shaped o h (erase_each (typed_more x ts)) e).shaped.0 in
      record {
        traced = p.1.0;
        sort = shaped.0;
        shaped = shaped.1;
        value = r;
        named = kid_named h m (typed_more x ts) p o e q a f y 0;
        short = q.1.0;
        measured = a.2.0;
      }

  abbrev SecondIsKid : TypedNodes → Type 0
  SecondIsKid typed_none = ⊥
  SecondIsKid (typed_more x ts) = FirstIsKid ts

  second_kid : (h : Head) (m : Mark) (ts : TypedNodes) (p : IsTraced w (marked h m ts)) (o : Sort) →
      is_shaped o (erase (marked h m ts)) ≡ true → HasShortTexts (marked h m ts) → AreMeasured w.store (marked h m ts) →
      hands_texts h.kind ≡ true → h.kind ≢ kind.Yield → SecondIsValue ts → SecondIsKid ts
  second_kid h m typed_none p o e q a f y r = absurd r
  second_kid h m (typed_more u typed_none) p o e q a f y r = absurd r
  second_kid h m (typed_more u (typed_more x ts)) p o e q a f y r =
      let shaped = (kids_of_shaped o h (erase_each (typed_more u (typed_more x ts))) e).shaped.1.0 in
      record {
        traced = p.1.1.0;
        sort = shaped.0;
        shaped = shaped.1;
        value = r;
        named = kid_named h m (typed_more u (typed_more x ts)) p o e q a f y 1;
        short = q.1.1.0;
        measured = a.2.1.0;
      }

  -- ---- a text by its kind

  -- a text is kept as it is, and what it is made of is one
  kept : (h : Head) (m : Mark) (ts : TypedNodes) → MayBeText (marked h m ts) → IsOfConstants w.store h.kind m ts →
      (keeps_text m.coerce.row ≡ true) × (is_str w.store m.ty ≡ true)
  kept h m ts k n =
      let j = k.traced.0.2.judged in
      let there = ap (λ (x : Setting). x.store) k.traced.0.1 in
      goes_text w.store v m.ty m.coerce (k.measured.0 0) (subst (λ (s : Store). GoesTo s m.ty m.coerce) there j.goes) k.text n.row

  first_goes : (h : Head) (m : Mark) (ts : TypedNodes) → AreTraced w ts → FirstIsValue ts →
      GoesTo w.store (own_type (kid_from_front 0 (marked h m ts))) (mark_of (kid_from_front 0 (marked h m ts))).coerce
  first_goes h m typed_none p r = absurd r
  first_goes h m (typed_more (marked g n us) ts) p r =
      subst (λ (s : Store). GoesTo s n.ty n.coerce) (ap (λ (x : Setting). x.store) p.0.0.1) p.0.0.2.judged.goes

  text_by_kind : (h : Head) (m : Mark) (ts : TypedNodes) (k : MayBeText (marked h m ts)) → is_str w.store m.ty ≡ true →
      IsOfConstants w.store h.kind m ts →
      (FirstIsKid ts → is_str w.store (given (kid_from_front 0 (marked h m ts))) ≡ true →
      first_inconstant_of w.store none_aborts ts ≡ None → IsSome (text_of_kid w.store 0 ts)) →
      IsSome (text_by w.store h m h.kind (text_of_kid w.store 0 ts))
  text_by_kind h m ts k b n inner = by h.kind refl
    where
      t : TypedNode
      t = marked h m ts

      c : Context
      c = k.traced.0.0

      there : store_of c ≡ w.store
      there = ap (λ (x : Setting). x.store) k.traced.0.1

      sound : IsStore (store_of c)
      sound = subst IsStore (sym there) v

      own : is_str (store_of c) m.ty ≡ true
      own = subst (λ (s : Store). is_str s m.ty ≡ true) (sym there) b

      no_yield_of : (q : Kind) → h.kind ≡ q → q ≢ kind.Yield → h.kind ≢ kind.Yield
      no_yield_of q f g y = g (sym f ∙ y)

      path : h.kind ≡ kind.Path → IsSome (text_in m.value)
      path f =
          let named = k.named (ap is_path f) in
          let constant : (is_known m.value || names_void w.store m.meaning m.ty) ≡ true =
          sym (ap (λ (q : Kind). is_constant_kind w.store q m ts) f) ∙ n.constant in
          def_text w d (marked h m ts) named
          (known_left (is_known m.value) (names_void w.store m.meaning m.ty) (text_no_void w.store m.meaning m.ty b) constant) b

      paren : h.kind ≡ kind.Paren → IsSome (text_of_kid w.store 0 ts)
      paren f =
          let first = paren_kid k.sort h m ts k.shaped f in
          let kid = first_kid h m ts k.traced k.sort k.shaped k.short k.measured (ap hands_texts f)
          (no_yield_of kind.Paren f (λ y. absurd cc)) first in
          let text = paren_text c (marked h m ts) sound k.traced.0.2 f own in
          inner kid (subst (λ (s : Store). is_str s (given (kid_from_front 0 (marked h m ts))) ≡ true) there text)
          (n.kids (ap (λ (q : Kind). hides_kids q ts) f))

      cast : h.kind ≡ kind.Cast → IsSome (if is_str w.store m.ty then text_of_kid w.store 0 ts else None)
      cast f =
          let first = cast_kid k.sort h m ts k.shaped f in
          let kid = first_kid h m ts k.traced k.sort k.shaped k.short k.measured (ap hands_texts f)
          (no_yield_of kind.Cast f (λ y. absurd cc)) first in
          let goes = subst (λ (s : Store). GoesTo s (own_type (kid_from_front 0 (marked h m ts)))
          (mark_of (kid_from_front 0 (marked h m ts))).coerce) (sym there) (first_goes h m ts k.traced.1 first) in
          let text = cast_text c (marked h m ts) sound k.traced.0.2 f own goes in
          subst (λ (z : Bool). IsSome (if z then text_of_kid w.store 0 ts else None)) (sym b)
          (inner kid (subst (λ (s : Store). is_str s (given (kid_from_front 0 (marked h m ts))) ≡ true) there text)
          (n.kids (ap (λ (q : Kind). hides_kids q ts) f)))

      other : (q : Kind) → h.kind ≡ q → is_text_kind q ≡ false → ⊥
      other q f g =
          text_kinds c (marked h m ts) sound k.traced.0.2.judged own q m ts f g
          (subst (λ (s : Store). is_constant_kind s q m ts ≡ true) (sym there)
          (subst (λ (x : Kind). is_constant_kind w.store x m ts ≡ true) f n.constant))

      by : (q : Kind) → h.kind ≡ q → IsSome (text_by w.store h m q (text_of_kid w.store 0 ts))
      by kind.Str f = short_text h.text (subst (λ (x : Kind). IsShort x h.text) f k.short.0)
      by kind.Path f = path f
      by kind.Paren f = paren f
      by kind.Cast f = cast f
      by q f = absurd (other q f refl)

  mutual
    text_told : (x : TypedNode) → MayBeText x → IsSome (text_of w.store x)
    text_told (marked h m ts) k =
        let n = of_constants w.store h m ts k.value k.constant in
        let keeps = kept h m ts k n in
        let by_kind = text_by_kind h m ts k keeps.1 n (λ q b i. first_told ts q (sym (ap (is_str w.store) (first-front ts)) ∙ b) i) in
        subst (λ (z : Bool). IsSome (if z then text_by w.store h m h.kind (text_of_kid w.store 0 ts) else None)) (sym keeps.0) by_kind

    first_told : (ts : TypedNodes) → FirstIsKid ts → is_str w.store (first_given ts) ≡ true →
        first_inconstant_of w.store none_aborts ts ≡ None → IsSome (text_of_kid w.store 0 ts)
    first_told typed_none q b n = absurd q
    first_told (typed_more x ts) q b n =
        text_told x (may_be_text x q b
        (neither_left (first_inconstant w.store none_aborts x) (first_inconstant_of w.store none_aborts ts) n))

  -- ---- equalities

  second_told : (ts : TypedNodes) → SecondIsKid ts → is_str w.store (second_given ts) ≡ true →
      first_inconstant_of w.store none_aborts ts ≡ None → IsSome (text_of_kid w.store 1 ts)
  second_told typed_none q b n = absurd q
  second_told (typed_more x ts) q b n =
      first_told ts q b (neither_right (first_inconstant w.store none_aborts x) (first_inconstant_of w.store none_aborts ts) n)

  equality_told : (h : Head) (m : Mark) (ts : TypedNodes) (p : IsTraced w (marked h m ts)) (o : Sort) →
      is_shaped o (erase (marked h m ts)) ≡ true → HasShortTexts (marked h m ts) → AreMeasured w.store (marked h m ts) →
      h.kind ≡ kind.Equal → PlainKind w.store kind.Equal ts
  equality_told h m ts p o e q a f b n =
      let kids = equal_kids o h m ts e f in
      let y : h.kind ≢ kind.Yield = λ g. (let both = sym f ∙ g in absurd cc) in
      let first = first_kid h m ts p o e q a (ap hands_texts f) y kids.0 in
      let second = second_kid h m ts p o e q a (ap hands_texts f) y kids.1 in
      let c = p.0.0 in
      let there : store_of c ≡ w.store = ap (λ (x : Setting). x.store) p.0.1 in
      let left : is_str (store_of c) (given (kid_from_front 0 (marked h m ts))) ≡ true =
      subst (λ (s : Store). is_str s (given (kid_from_front 0 (marked h m ts))) ≡ true) (sym there)
      (ap (is_str w.store) (first-front ts) ∙ b) in
      let right = second_text c (marked h m ts) (subst IsStore (sym there) v) p.0.2 f left in
      record {
        left = first_told ts first b n;
        right = second_told ts second
            (sym (ap (is_str w.store) (second-front ts))
            ∙ subst (λ (s : Store). is_str s (given (kid_from_front 1 (marked h m ts))) ≡ true) there right) n;
      }

  -- ---- trees

  abbrev Shaped : Node → Type 0
  Shaped x = (o : Sort) × (is_shaped o x ≡ true)

  node_told : (h : Head) (m : Mark) (ts : TypedNodes) (p : IsTraced w (marked h m ts)) → Shaped (erase (marked h m ts)) →
      HasShortTexts (marked h m ts) → AreMeasured w.store (marked h m ts) → IsTextTold w.store h.kind ts
  node_told h m ts p o q a = by h.kind refl
    where
      by : (k : Kind) → h.kind ≡ k → IsTextTold w.store k ts
      by kind.Equal f = equality_told h m ts p o.0 o.1 q a f
      by _ f = tt

  mutual
    texts_told : (t : TypedNode) → IsTraced w t → Shaped (erase t) → HasShortTexts t → AreMeasured w.store t → TextsAreTold w.store t
    texts_told (marked h m ts) p o q a = (
      node_told h m ts p o q a,
      each_told ts p.1 (kids_of_shaped o.0 h (erase_each ts) o.1).shaped q.1 a.2,
    )

    each_told : (ts : TypedNodes) → AreTraced w ts → AllShaped (erase_each ts) → HaveShortTexts ts → EachMeasured w.store ts →
        EachTextTold w.store ts
    each_told typed_none p o q a = tt
    each_told (typed_more t ts) p o q a = (texts_told t p.0 o.0 q.0 a.0, each_told ts p.1 o.1 q.1 a.1)

pub traced_texts_are_told : TracedTextsAreTold
traced_texts_are_told w t v d p e a q = texts_told w v d t p (expression, e) q a
