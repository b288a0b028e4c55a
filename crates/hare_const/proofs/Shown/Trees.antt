-- The evaluation of a constant comes to the value of its tree.
use Rattle.std.proofs.Common.{◌≡◌, ℕ, zero, suc, Bool, true, false, List, [], refl, sym, ap, subst, ◌∙◌, append-nil}
use Rattle.std.specs.Prelude.{◌+◌, if◌then◌else◌, not, ◌&&◌, ◌||◌, ◌==◌, Option, Some, None, option_and_then}
use Rattle.hare_tree.specs.declared.kind.Kind.{Kind}
use Rattle.hare_tree.specs.declared.kind.Kind.TheVariants as kind
use Rattle.hare_tree.specs.declared.token.Meaning.{Meaning}
use Rattle.hare_tree.specs.declared.token.Meaning.TheVariants as meant
use Rattle.hare_tree.specs.Levels.{is_type}
use Rattle.hare_tree.specs.Node.{Head}
use Rattle.hare_types.specs.declared.row.Row.{Row}
use Rattle.hare_types.specs.declared.row.Row.TheVariants as row
use Rattle.hare_types.specs.declared.row.Scalar.{Scalar as Keyword}
use Rattle.hare_types.specs.declared.row.Scalar.TheVariants as keyword
use Rattle.hare_types.specs.Store.{Store}
use Rattle.hare_typed.specs.declared.constant.ConstObject.{ConstObject}
use Rattle.hare_typed.specs.Typed.{TypedNode, TypedNodes, Mark, marked, typed_none, typed_more, mark_of}
use Rattle.hare_typed.specs.Order.{kid_from_front}
use Rattle.hare_typed.specs.Given.{base_row, first_given, is_str, is_str_row}
use Rattle.hare_typed.specs.Shapes.{shape_of_row}
use Rattle.hare_typed.specs.Constants.{is_known}
use Rattle.hare_typed.specs.Constancy.{is_address_row, is_global_path, begins_with_global, names_void, is_constant, hides_kids, or_else, first_inconstant, first_inconstant_of}
use Rattle.hare_typed.specs.Scalars.{Address}
use Rattle.hare_typed.specs.State.{State, Scope, AsValue, AsPlace, Outcome as End, Value, Reached, Abort, Result}
use Rattle.hare_typed.specs.Bindings.{own_bindings}
use Rattle.hare_typed.specs.Interpreter.{Tasks, Kids, act, behind, node_act, kid_act, part_act, fewer_than}
use Rattle.hare_typed.specs.Evaluated.{ValueForm, is_evaluated, is_named, is_place_kind, is_place, first_is_place, place_in_mode, value_in_mode, gives}
use Rattle.hare_typed.specs.ConstantForms.{OfNumbers, OfTexts, equality_of_shape, equality_of, type_of_kid, object_meant}
use Rattle.hare_typed.specs.ConstantValues.{without_run, constant_form, constant_place, constant_node, constant_forms, listed_objects, statics, state_without_run, constant_result}
use Rattle.hare_typed.specs.Folded.{is_abort, folded_from}
use Rattle.hare_const.specs.declared.outcome.Outcome.{Outcome}
use Rattle.hare_const.specs.declared.outcome.Outcome.TheVariants.{Known}
use Rattle.hare_typed.specs.Settled.{PlainKind, IsPlain, ArePlain, IsSimple, AreSimple}
use Rattle.hare_const.specs.NodeValues.{on_cells, kid_at, declared_by, own_value, coerced_value, tree_value, kid_values, is_aborted, cells_in, cells_of}
use Rattle.hare_typed.specs.Texts.{AreCoherent, AreTexts}
use Rattle.hare_typed.specs.Coherent.{scope_in, statics_in, statics_in_each, is_text_equality, compares_texts, compares_texts_each, IsCoherent}
use Rattle.hare_const.proofs.Shown.Acts.{shown, Has, Shows, Ends}
use Rattle.hare_const.proofs.Shown.Forms.{IsCompared, numbers, texts, Ready, ends_value_of}
use Rattle.hare_const.proofs.Shown.Texts.{statics-again, Inside, of_kids, first_of, rest_of, compares, coherent_inside}

-- ---- what constancy says of a node

pub first-none : (x y : Option TypedNode) → or_else x y ≡ None → (x ≡ None) × (y ≡ None)
first-none None y e = (refl, e)
first-none (Some t) y e = absurd cc

pub both-none : (x y : Option TypedNode) → x ≡ None → y ≡ None → or_else x y ≡ None
both-none None y e f = f
both-none (Some t) y e f = absurd cc

unless-none : (x a : Bool) (t : TypedNode) → (if not x || a then Some t else None) ≡ None → x ≡ true
unless-none true a t e = refl
unless-none false a t e = absurd cc

shown-none : (x : Bool) (r : Option TypedNode) → (if x then None else r) ≡ None → x ≡ false → r ≡ None
shown-none true r e f = absurd cc
shown-none false r e f = e

-- what is asked of a node that is no type
abbrev asked : Store → (TypedNode → Bool) → Head → Mark → TypedNodes → Option TypedNode
asked s a h m ts =
    or_else (if hides_kids h.kind ts then None else first_inconstant_of s a ts)
    (if not (is_constant s h.kind m ts) || a (marked h m ts) then Some (marked h m ts) else None)

pub record Constant (s : Store) (h : Head) (m : Mark) (ts : TypedNodes) : Type 0 where
  pub itself : is_constant s h.kind m ts ≡ true
  pub kids : hides_kids h.kind ts ≡ false → first_inconstant_of s (λ u. false) ts ≡ None

pub constant_from : (s : Store) (h : Head) (m : Mark) (ts : TypedNodes) → is_type h.kind ≡ false →
    first_inconstant s (λ u. false) (marked h m ts) ≡ None → Constant s h m ts
constant_from s h m ts f e =
    let n : asked s (λ u. false) h m ts ≡ None
    = subst (λ x. (if x then None else asked s (λ u. false) h m ts) ≡ None) f e in
    let p = first-none _ _ n in
    record {
      itself = unless-none (is_constant s h.kind m ts) false (marked h m ts) p.1;
      kids = shown-none (hides_kids h.kind ts) (first_inconstant_of s (λ u. false) ts) p.0;
    }

-- types are not evaluated
pub type-idle : (k : Kind) → is_type k ≡ true → is_evaluated k ≡ false
type-idle kind.TypeScalar e = refl
type-idle kind.TypePath e = refl
type-idle kind.TypePointer e = refl
type-idle kind.TypeNullable e = refl
type-idle kind.TypeSlice e = refl
type-idle kind.TypeError e = refl
type-idle kind.TypeArray e = refl
type-idle kind.TypeStruct e = refl
type-idle kind.TypeTuple e = refl
type-idle kind.TypeUnion e = refl
type-idle _ e = absurd cc

-- ---- a constant node is no place by its form

type-no_place : (s : Store) (k : Kind) (m : Mark) (ts : TypedNodes) → is_type k ≡ true →
    is_place_kind s k m (first_given ts) (first_is_place s ts) ≡ false
type-no_place s kind.Path m ts e = absurd cc
type-no_place s kind.Deref m ts e = absurd cc
type-no_place s kind.Index m ts e = absurd cc
type-no_place s kind.Field m ts e = absurd cc
type-no_place s kind.Paren m ts e = absurd cc
type-no_place s _ m ts e = refl

path-no_object : (named known void odd : Bool) → (false || ((known || void) && odd)) ≡ true → (named && not (known || void)) ≡ false
path-no_object true true void odd e = refl
path-no_object true false true odd e = refl
path-no_object true false false odd e = absurd cc
path-no_object false known void odd e = refl

constant-no_place : (s : Store) (k : Kind) (m : Mark) (ts : TypedNodes) → is_constant s k m ts ≡ true →
    (hides_kids k ts ≡ false → first_is_place s ts ≡ false) → is_place_kind s k m (first_given ts) (first_is_place s ts) ≡ false
constant-no_place s kind.Path m ts e f =
    path-no_object (is_named m.meaning) (is_known m.value) (names_void s m.meaning m.ty) (not (m.coerce.row == 2)) e
constant-no_place s kind.Deref m ts e f = absurd cc
constant-no_place s kind.Index m ts e f = absurd cc
constant-no_place s kind.Field m ts e f = absurd cc
constant-no_place s kind.Paren m ts e f = f refl
constant-no_place s _ m ts e f = refl

mutual
  pub no_place : (s : Store) (t : TypedNode) → first_inconstant s (λ u. false) t ≡ None → is_place s t ≡ false
  no_place s (marked h m ts) e = go (is_type h.kind) refl (λ f. first-no_place s ts f)
    where
      go : (x : Bool) → is_type h.kind ≡ x → (first_inconstant_of s (λ u. false) ts ≡ None → first_is_place s ts ≡ false) →
          is_place s (marked h m ts) ≡ false
      go true f k = type-no_place s h.kind m ts f
      go false f k =
          let c = constant_from s h m ts f e in
          constant-no_place s h.kind m ts c.itself (λ g. k (c.kids g))

  first-no_place : (s : Store) (ts : TypedNodes) → first_inconstant_of s (λ u. false) ts ≡ None → first_is_place s ts ≡ false
  first-no_place s typed_none e = refl
  first-no_place s (typed_more t ts) e = no_place s t (first-none (first_inconstant s (λ u. false) t) _ e).0

-- ---- an equality that is constant and compares no texts compares numbers

equality-word : (k : Keyword) → is_str_row (Some (row.Scalar k)) ≡ false →
    (if is_str_row (Some (row.Scalar k)) then OfTexts else equality_of_shape (option_and_then shape_of_row (Some (row.Scalar k)))) ≡
    OfNumbers
equality-word keyword.Str e = absurd cc
equality-word _ e = refl

equality-row : (r : Option Row) → is_str_row r ≡ false → is_address_row r ≡ false →
    (if is_str_row r then OfTexts else equality_of_shape (option_and_then shape_of_row r)) ≡ OfNumbers
equality-row None e f = refl
equality-row (Some (row.Scalar k)) e f = equality-word k e
equality-row (Some (row.Pointer i)) e f = absurd cc
equality-row (Some (row.Nullable i)) e f = absurd cc
equality-row (Some _) e f = refl

pub and-left : (x y : Bool) → (false || (x && y)) ≡ true → x ≡ true
and-left true y q = refl
and-left false y q = absurd cc

pub not-true : (x : Bool) → not x ≡ true → x ≡ false
not-true true e = absurd cc
not-true false e = refl

first_is : (s : Store) (h : Head) (m : Mark) (ts : TypedNodes) → is_str s (type_of_kid 0 (marked h m ts)) ≡ is_str s (first_given ts)
first_is s h m typed_none = refl
first_is s h m (typed_more t ts) = refl

pub equality_known : (s : Store) (h : Head) (m : Mark) (ts : TypedNodes) → is_str s (first_given ts) ≡ false →
    is_address_row (base_row s (first_given ts)) ≡ false → equality_of s (type_of_kid 0 (marked h m ts)) ≡ OfNumbers
equality_known s h m typed_none e f = equality-row (base_row s (first_given typed_none)) e f
equality_known s h m (typed_more t ts) e f = equality-row (base_row s (first_given (typed_more t ts))) e f

-- ---- the place of a global

pub global_meaning : (m : Mark) → is_global_path kind.Path m ≡ true → (d : ℕ) × (m.meaning ≡ meant.Decl d)
global_meaning m e = go m.meaning e
  where
    go : (x : Meaning) → is_global_path kind.Path (record m { meaning = x }) ≡ true → (d : ℕ) × (x ≡ meant.Decl d)
    go (meant.Local x) q = absurd cc
    go (meant.Decl d) q = (d, refl)
    go (meant.Rt x) q = absurd cc
    go meant.None q = absurd cc

-- where something is compared, these objects are among all, and these are coherent
abbrev pub Safe : (all os : List ConstObject) → Bool → Type 0
Safe all os b = b ≡ true → AreCoherent all × Inside all os

pub or-left : (a b : Bool) → a ≡ true → (a || b) ≡ true
or-left true b e = refl
or-left false b e = absurd cc

pub or-right : (a b : Bool) → b ≡ true → (a || b) ≡ true
or-right true b e = refl
or-right false b e = e

-- of the kids of a node, of the first of some trees, and of those behind it
pub safe_kids : (s : Store) (all : List ConstObject) (own : ℕ) (h : Head) (m : Mark) (ts : TypedNodes) →
    Safe all (statics_in own (marked h m ts)) (compares_texts s (marked h m ts)) →
    Safe all (statics_in_each own ts) (compares_texts_each s ts)
safe_kids s all own h m ts w e =
    let p = w (or-right (is_text_equality s h.kind ts) (compares_texts_each s ts) e) in (p.0, λ o c. p.1 o (of_kids own h m ts o c))

pub safe_node : (s : Store) (all : List ConstObject) (own : ℕ) (h : Head) (m : Mark) (ts : TypedNodes) →
    Safe all (statics_in own (marked h m ts)) (compares_texts s (marked h m ts)) →
    Safe all (statics_in_each own ts) (is_text_equality s h.kind ts)
safe_node s all own h m ts w e =
    let p = w (or-left (is_text_equality s h.kind ts) (compares_texts_each s ts) e) in (p.0, λ o c. p.1 o (of_kids own h m ts o c))

pub safe_first : (s : Store) (all : List ConstObject) (own : ℕ) (t : TypedNode) (ts : TypedNodes) →
    Safe all (statics_in_each own (typed_more t ts)) (compares_texts_each s (typed_more t ts)) →
    Safe all (statics_in own t) (compares_texts s t)
safe_first s all own t ts w e =
    let p = w (or-left (compares_texts s t) (compares_texts_each s ts) e) in (p.0, λ o c. p.1 o (first_of own t ts o c))

pub safe_rest : (s : Store) (all : List ConstObject) (own : ℕ) (t : TypedNode) (ts : TypedNodes) →
    Safe all (statics_in_each own (typed_more t ts)) (compares_texts_each s (typed_more t ts)) →
    Safe all (statics_in_each own ts) (compares_texts_each s ts)
safe_rest s all own t ts w e =
    let p = w (or-right (compares_texts s t) (compares_texts_each s ts) e) in (p.0, λ o c. p.1 o (rest_of own t ts o c))

module _ (s : Store) (own : ℕ) (all : List ConstObject) (less : Tasks) where
  -- what the kids of a node give
  abbrev pub over : Head → TypedNodes → Kids
  over h ts =
      record {
        kid = λ i. behind (own_bindings h.kind) (kid_act (constant_forms (without_run s)) less ts i);
        part = λ i j. behind (own_bindings h.kind) (part_act (constant_forms (without_run s)) less ts i j);
      }

  object-named : (m : Mark) (sc : Scope) → is_global_path kind.Path m ≡ true →
      object_meant (without_run s) sc m.meaning ≡ declared_by m.meaning
  object-named m sc e =
      let g = global_meaning m e in
      subst (λ x. object_meant (without_run s) sc x ≡ declared_by x) (sym g.1) refl

  -- an evaluation reaches the global that a node means, and changes no memory
  abbrev Arrives : TypedNode → State → Result → Type 0
  Arrives t st r = (r.0 ≡ Reached (Address (declared_by (mark_of t).meaning) 0)) × (r.1.memory ≡ st.memory)

  path-reached : (ks : Kids) (t : TypedNode) (sc : Scope) (st : State) (x : Bool) → x ≡ true → is_global_path kind.Path (mark_of t) ≡ true →
      Arrives t st (act ks less (if x then place_in_mode (without_run s) t AsPlace sc (constant_form (without_run s) t sc kind.Path)
      (constant_place (without_run s) t sc kind.Path)
      else value_in_mode (without_run s) t AsPlace sc (constant_form (without_run s) t sc kind.Path)) st)
  path-reached ks t sc st true q e = (ap (λ d. Reached (Address d 0)) (object-named (mark_of t) sc e), refl)
  path-reached ks t sc st false q e = absurd cc

  global-reached : (ks : Kids) (t : TypedNode) (sc : Scope) (st : State) (k : Kind) → is_global_path k (mark_of t) ≡ true →
      is_place s t ≡ true →
      Arrives t st (act ks less (if not (is_evaluated k) then gives [] else
      (if is_place s t then place_in_mode (without_run s) t AsPlace sc (constant_form (without_run s) t sc k)
      (constant_place (without_run s) t sc k)
      else value_in_mode (without_run s) t AsPlace sc (constant_form (without_run s) t sc k))) st)
  global-reached ks t sc st kind.Path e p = path-reached ks t sc st (is_place s t) p e
  global-reached ks t sc st _ e p = absurd cc

  pub first-reached : (h : Head) (m : Mark) (ts : TypedNodes) → begins_with_global ts ≡ true → first_is_place s ts ≡ true →
      (sc : Scope) (st : State) → sc.own ≡ own →
      Arrives (kid_from_front 0 (marked h m ts)) st (kid_act (constant_forms (without_run s)) less ts 0 AsPlace sc st)
  first-reached h m typed_none e p sc st q = absurd cc
  first-reached h m (typed_more (marked h' m' us) ts) e p sc st q =
      global-reached (over h' us) (marked h' m' us) sc st h'.kind e p

  -- ---- nodes

  -- an equality compares numbers, or texts that are told
  pub compared : (h : Head) (m : Mark) (ts : TypedNodes) → is_address_row (base_row s (first_given ts)) ≡ false →
      (is_str s (first_given ts) ≡ true → AreTexts s ts) →
      (is_str s (first_given ts) ≡ true → AreCoherent all × Inside all (statics_in_each own ts)) →
      IsCompared s own all (over h ts) less (kid_values s own ts) (marked h m ts)
  compared h m ts a p i = by (is_str s (first_given ts)) refl
    where
      first : is_str s (type_of_kid 0 (marked h m ts)) ≡ is_str s (first_given ts)
      first = first_is s h m ts

      by : (b : Bool) → is_str s (first_given ts) ≡ b → IsCompared s own all (over h ts) less (kid_values s own ts) (marked h m ts)
      by true e = let j = i e in texts (first ∙ e) (compares s own all j.0 ts (p e) j.1)
      by false e = numbers (first ∙ e) (equality_known s h m ts e a)

  -- a constant node is as its kind asks
  ready : (h : Head) (k : Kind) (m : Mark) (ts : TypedNodes) → is_constant s k m ts ≡ true → PlainKind s k ts →
      Safe all (statics_in_each own ts) (is_text_equality s k ts) →
      (hides_kids k ts ≡ false → first_inconstant_of s (λ u. false) ts ≡ None) →
      (hides_kids k ts ≡ false → (i : ℕ) → Shows all own (kid_act (constant_forms (without_run s)) less ts i AsValue)
      (kid_at i (kid_values s own ts))) →
      Ready s own all (over h ts) less (kid_values s own ts) (marked h m ts) k
  ready h kind.Addr m ts e p w n f = λ sc st q.
      let g = and-left (begins_with_global ts) (not (m.coerce.row == 2)) e in
      first-reached h m ts g (p g)
      (record sc { first = sc.first + own_bindings h.kind }) st q
  ready h kind.Offset m ts e p w n f = tt
  ready h kind.Equal m ts e p w n f = (
    λ i sc st q. f refl i (record sc { first = sc.first + own_bindings h.kind }) st q,
    compared h m ts (not-true _ (and-left _ (not (m.coerce.row == 2)) e)) (λ r. p r (n refl)) w,
  )
  ready h _ m ts e p w n f = λ i sc st q. f refl i (record sc { first = sc.first + own_bindings h.kind }) st q

  -- the acts of a node up to its own value, and what they come to
  abbrev pub form : Head → Mark → TypedNodes → Scope → ValueForm
  form h m ts sc = constant_form (without_run s) (marked h m ts) sc h.kind

  abbrev result : Head → Mark → TypedNodes → Outcome
  result h m ts = on_cells (own_value s own (marked h m ts) (kid_values s own ts)) (coerced_value s own (marked h m ts))

  node-shown : (h : Head) (m : Mark) (ts : TypedNodes) → first_inconstant s (λ u. false) (marked h m ts) ≡ None → PlainKind s h.kind ts →
      Safe all (statics_in_each own ts) (is_text_equality s h.kind ts) →
      (first_inconstant_of s (λ u. false) ts ≡ None →
      (i : ℕ) → Shows all own (kid_act (constant_forms (without_run s)) less ts i AsValue) (kid_at i (kid_values s own ts))) →
      (sc : Scope) → sc.own ≡ own →
      Ends all (over h ts) less (constant_node (without_run s) (marked h m ts) AsValue sc) (tree_value s own (marked h m ts))
  node-shown h m ts e p w f sc q = go (is_type h.kind) refl
    where
      placed : (y : Bool) → y ≡ false → (x : Bool) →
          Ends all (over h ts) less (value_in_mode (without_run s) (marked h m ts) AsValue sc (form h m ts sc)) (result h m ts) →
          Ends all (over h ts) less (if not x then gives [] else
          (if y then place_in_mode (without_run s) (marked h m ts) AsValue sc (form h m ts sc)
          (constant_place (without_run s) (marked h m ts) sc h.kind)
          else value_in_mode (without_run s) (marked h m ts) AsValue sc (form h m ts sc))) (if x then result h m ts else Known [])
      placed true r x v = absurd cc
      placed false r true v = v
      placed false r false v = λ st has. record { ended = refl; has = has }

      idle : (x : Bool) → x ≡ false → Ends all (over h ts) less (if not x then gives [] else
          (if is_place s (marked h m ts) then place_in_mode (without_run s) (marked h m ts) AsValue sc (form h m ts sc)
          (constant_place (without_run s) (marked h m ts) sc h.kind)
          else value_in_mode (without_run s) (marked h m ts) AsValue sc (form h m ts sc))) (if x then result h m ts else Known [])
      idle true r = absurd cc
      idle false r = λ st has. record { ended = refl; has = has }

      go : (x : Bool) → is_type h.kind ≡ x →
          Ends all (over h ts) less (constant_node (without_run s) (marked h m ts) AsValue sc) (tree_value s own (marked h m ts))
      go true g = idle (is_evaluated h.kind) (type-idle h.kind g)
      go false g =
          let c = constant_from s h m ts g e in
          placed (is_place s (marked h m ts)) (no_place s (marked h m ts) e) (is_evaluated h.kind)
          (ends_value_of s own all (over h ts) less (kid_values s own ts) (marked h m ts) sc h.kind q
          (ready h h.kind m ts c.itself p w c.kids (λ r. f (c.kids r))))

  mutual
    tree-shown : (t : TypedNode) → first_inconstant s (λ u. false) t ≡ None → IsPlain s t →
        Safe all (statics_in own t) (compares_texts s t) → Shows all own (node_act (constant_forms (without_run s)) less t AsValue)
        (tree_value s own t)
    tree-shown (marked h m ts) e p w sc st q =
        node-shown h m ts e p.0 (safe_node s all own h m ts w) (λ f i. kids-shown ts f p.1 (safe_kids s all own h m ts w) i) sc q st

    pub kids-shown : (ts : TypedNodes) → first_inconstant_of s (λ u. false) ts ≡ None → ArePlain s ts →
        Safe all (statics_in_each own ts) (compares_texts_each s ts) → (i : ℕ) →
        Shows all own (kid_act (constant_forms (without_run s)) less ts i AsValue) (kid_at i (kid_values s own ts))
    kids-shown typed_none e p w i sc st q = λ has. record { ended = refl; has = has }
    kids-shown (typed_more t ts) e p w zero sc st q =
        tree-shown t (first-none (first_inconstant s (λ u. false) t) _ e).0 p.0 (safe_first s all own t ts w) sc st q
    kids-shown (typed_more t ts) e p w (suc i) sc st q =
        kids-shown ts (first-none (first_inconstant s (λ u. false) t) _ e).1 p.1 (safe_rest s all own t ts w) i _ st q

-- the static objects of a tree are those that there are first
pub has_statics : (own : ℕ) (t : TypedNode) → Has (statics_in own t) (state_without_run (statics (scope_in own) t)).memory
has_statics own t = record {
  none_made = refl;
  others = [];
  named = sym (append-nil (listed_objects (statics_in own t)) ∙ statics-again own t);
}

-- the value of a constant is that of its tree
pub value_shown : (s : Store) (own : ℕ) (t : TypedNode) → first_inconstant s (λ u. false) t ≡ None → IsPlain s t →
    IsCoherent s own t → shown (constant_result s own t).0 ≡ tree_value s own t
value_shown s own t e p c =
    (tree-shown s own (statics_in own t) (fewer_than (constant_forms (without_run s)) 0) t e p (λ x. (c x, λ o h. h)) (scope_in own)
    (state_without_run (statics (scope_in own) t)) refl (has_statics own t)).ended

-- ---- the first that is not constant

abort-shown : (o : End) → is_abort o ≡ is_aborted (shown o)
abort-shown (Value cs) = refl
abort-shown (Abort text) = refl
abort-shown _ = refl

mutual
  pub constant-too : (s : Store) (a : TypedNode → Bool) (t : TypedNode) → first_inconstant s a t ≡ None →
      first_inconstant s (λ u. false) t ≡ None
  constant-too s a (marked h m ts) e = go (is_type h.kind) e (λ f. constant-each s a ts f)
    where
      hidden : (x : Bool) → (if x then None else first_inconstant_of s a ts) ≡ None →
          (first_inconstant_of s a ts ≡ None → first_inconstant_of s (λ u. false) ts ≡ None) →
          (if x then None else first_inconstant_of s (λ u. false) ts) ≡ None
      hidden true q k = refl
      hidden false q k = k q

      itself : (x b : Bool) → (if not x || b then Some (marked h m ts) else None) ≡ None →
          (if not x || false then Some (marked h m ts) else None) ≡ None
      itself true b q = refl
      itself false b q = absurd cc

      go : (x : Bool) → (if x then None else asked s a h m ts) ≡ None →
          (first_inconstant_of s a ts ≡ None → first_inconstant_of s (λ u. false) ts ≡ None) →
          (if x then None else asked s (λ u. false) h m ts) ≡ None
      go true q k = refl
      go false q k =
          let p = first-none _ _ q in
          both-none _ _ (hidden (hides_kids h.kind ts) p.0 k) (itself (is_constant s h.kind m ts) (a (marked h m ts)) p.1)

  constant-each : (s : Store) (a : TypedNode → Bool) (ts : TypedNodes) → first_inconstant_of s a ts ≡ None →
      first_inconstant_of s (λ u. false) ts ≡ None
  constant-each s a typed_none e = refl
  constant-each s a (typed_more t ts) e =
      let p = first-none (first_inconstant s a t) _ e in
      both-none _ _ (constant-too s a t p.0) (constant-each s a ts p.1)

-- whether the evaluation of the node would abort
abbrev pub stops : Store → (own : ℕ) → TypedNode → Bool
stops s own t = is_abort (constant_result s own t).0

abort_same : (s : Store) (own : ℕ) (t : TypedNode) → first_inconstant s (λ u. false) t ≡ None → IsPlain s t →
    IsCoherent s own t → stops s own t ≡ is_aborted (tree_value s own t)
abort_same s own t e p c = abort-shown (constant_result s own t).0 ∙ ap is_aborted (value_shown s own t e p c)

-- where the kids have none, two tests that agree of the node find the same
same-step : (k : Option TypedNode) (x a b : Bool) (t : TypedNode) → (k ≡ None → x ≡ true → a ≡ b) →
    or_else k (if not x || a then Some t else None) ≡ or_else k (if not x || b then Some t else None)
same-step (Some u) x a b t h = refl
same-step None true a b t h = ap (λ c. if c then Some t else None) (h refl refl)
same-step None false a b t h = refl

same-hidden : (x : Bool) (a b : Option TypedNode) → a ≡ b → (if x then None else a) ≡ (if x then None else b)
same-hidden true a b e = refl
same-hidden false a b e = e

if-none : (x : Bool) (a : Option TypedNode) → a ≡ None → (if x then None else a) ≡ None
if-none true a e = refl
if-none false a e = e

none-hidden : (x : Bool) (a b : Option TypedNode) → (if x then None else a) ≡ None → (a ≡ None → b ≡ None) → (if x then None else b) ≡ None
none-hidden true a b e h = refl
none-hidden false a b e h = h e

constant-itself : (x : Bool) (t : TypedNode) → x ≡ true → (if not x || false then Some t else None) ≡ None
constant-itself true t e = refl
constant-itself false t e = absurd cc

mutual
  pub inconstant_same : (s : Store) (own : ℕ) (t : TypedNode) → IsPlain s t → IsCoherent s own t →
      first_inconstant s (stops s own) t ≡ first_inconstant s (λ u. is_aborted (tree_value s own u)) t
  inconstant_same s own (marked h m ts) p w =
      go (is_type h.kind) (inconstant-each s own ts p.1 (λ x. coherent_inside (statics_in own (marked h m ts)) (statics_in_each own ts)
      (w (or-right (is_text_equality s h.kind ts) (compares_texts_each s ts) x)) (of_kids own h m ts)))
    where
      go : (x : Bool) → first_inconstant_of s (stops s own) ts ≡ first_inconstant_of s (λ u. is_aborted (tree_value s own u)) ts →
          (if x then None else asked s (stops s own) h m ts) ≡ (if x then None else asked s (λ u. is_aborted (tree_value s own u)) h m ts)
      go true k = refl
      go false k =
          same-step (if hides_kids h.kind ts then None else first_inconstant_of s (stops s own) ts) (is_constant s h.kind m ts)
          (stops s own (marked h m ts)) (is_aborted (tree_value s own (marked h m ts))) (marked h m ts)
          (λ n c. abort_same s own (marked h m ts)
          (if-none (is_type h.kind) (asked s (λ u. false) h m ts)
          (both-none _ _ (none-hidden (hides_kids h.kind ts) _ (first_inconstant_of s (λ u. false) ts) n (constant-each s (stops s own) ts))
          (constant-itself (is_constant s h.kind m ts) (marked h m ts) c))) p w)
          ∙ ap (λ o. or_else o (if not (is_constant s h.kind m ts) || is_aborted (tree_value s own (marked h m ts)) then Some
          (marked h m ts) else None))
          (same-hidden (hides_kids h.kind ts) _ _ k)

  inconstant-each : (s : Store) (own : ℕ) (ts : TypedNodes) → ArePlain s ts →
      (compares_texts_each s ts ≡ true → AreCoherent (statics_in_each own ts)) →
      first_inconstant_of s (stops s own) ts ≡ first_inconstant_of s (λ u. is_aborted (tree_value s own u)) ts
  inconstant-each s own typed_none p w = refl
  inconstant-each s own (typed_more t ts) p w =
      let all = statics_in_each own (typed_more t ts) in
      let here : IsCoherent s own t =
      λ x. coherent_inside all (statics_in own t) (w (or-left (compares_texts s t) (compares_texts_each s ts) x)) (first_of own t ts) in
      let rest : compares_texts_each s ts ≡ true → AreCoherent (statics_in_each own ts) =
      λ x. coherent_inside all (statics_in_each own ts) (w (or-right (compares_texts s t) (compares_texts_each s ts) x))
      (rest_of own t ts) in
      ap (λ o. or_else o (first_inconstant_of s (stops s own) ts)) (inconstant_same s own t p.0 here)
      ∙ ap (λ o. or_else (first_inconstant s (λ u. is_aborted (tree_value s own u)) t) o) (inconstant-each s own ts p.1 rest)

-- ---- the constant

mutual
  pub plain_from : (s : Store) (t : TypedNode) → IsSimple s t → IsPlain s t
  plain_from s (marked h m ts) p = (p.1, plain-each s ts p.4)

  plain-each : (s : Store) (ts : TypedNodes) → AreSimple s ts → ArePlain s ts
  plain-each s typed_none p = tt
  plain-each s (typed_more t ts) p = (plain_from s t p.0, plain-each s ts p.1)

pub folded-cells : (r : Result) → cells_in (folded_from r) ≡ cells_of (shown r.0)
folded-cells (Value cs, st) = refl
folded-cells (Abort text, st) = refl
folded-cells (_, st) = refl
