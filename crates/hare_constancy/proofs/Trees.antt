-- A tree that meets its rows, whose types are known, is one of which the constant can be told.
use Rattle.std.proofs.Common.{◌≡◌, ◌≢◌, ◌∙◌, sym, ap, subst, refl, ℕ, zero, suc, Bool, true, false, ◌&&◌, ◌⊎◌, inl, inr, [], ◌∷◌, None}
use Rattle.hare_tree.specs.declared.kind.Kind.{Kind}
use Rattle.hare_tree.specs.declared.kind.Kind.TheVariants as kind
use Rattle.hare_types.specs.declared.coercion.Ty.{Ty}
use Rattle.hare_types.specs.declared.coercion.Ty.TheVariants as ty
use Rattle.hare_types.specs.Store.{Store}
use Rattle.hare_types.specs.Sound.{IsStore}
use Rattle.hare_typed.specs.Typed.{TypedNode, TypedNodes, marked, typed_none, typed_more, head_of, kids_of, listed_nodes}
use Rattle.hare_typed.specs.Order.{missing, tree_from_front, kid_from_front}
use Rattle.hare_typed.specs.Given.{given}
use Rattle.hare_typed.specs.Followed.{reached_within}
use Rattle.hare_typed.specs.Constants.{own_kind}
use Rattle.hare_typed.specs.ConstantForms.{own_type, type_of_kid}
use Rattle.hare_typed.specs.Settled.{IsSized, HasParts, type_with_offset, part_with_offset, AskedKind, PlainKind, IsSimple, AreSimple}
use Rattle.hare_typed.specs.Settled.{HasBase, HasBases, HaveBases, IsSettled}
use Rattle.hare_rules.specs.declared.row_id.RowId.TheVariants as rules
use Rattle.hare_rules.specs.Context.{Setting, Context, store_of, kid}
use Rattle.hare_rules.specs.Aggregates.{is_path, is_member_access}
use Rattle.hare_rules.specs.Operators.{first_seen, second_seen, has_size_of, written}
use Rattle.hare_rules.specs.Settles.{target_of}
use Rattle.hare_rules.specs.Table.{asked as last_rows}
use Rattle.hare_rules.specs.Words as words
use Rattle.hare_rules.specs.Words.{is_integer}
use Rattle.hare_constancy.specs.Measured.{IsKnown, IsMeasured, AreMeasured, EachMeasured}
use Rattle.hare_constancy.specs.Met.{is_number, is_in_role, asks_nothing, GoesTo, IsJudged, IsMet, AreMet}
use Rattle.hare_constancy.specs.Laws.{IsSmall, HasSmallLiterals, HaveSmallLiterals, NamesAreTypes, IsTextTold, TextsAreTold, EachTextTold}
use Rattle.hare_constancy.proofs.Judged.{row_holds, StandsAlone, stands_alone, kid_head, kid_meaning, kid_given}
use Rattle.hare_constancy.proofs.Types.{known_in}
use Rattle.hare_constancy.proofs.Parts.{sized_known, tuple_asked, struct_asked, offset_asked}
use Rattle.hare_constancy.proofs.Operators.{unary_asked, arith_asked, shift_asked}
use Rattle.hare_rules.specs.Places.{is_place}
use Rattle.hare_constancy.proofs.Places.{address_place}
use Rattle.hare_constancy.proofs.Joined.{goes_joined}

-- ---- kids

reached-nothing : (n : ℕ) (s : Store) → reached_within n s ty.Empty ≡ ty.Empty
reached-nothing zero s = refl
reached-nothing (suc n) s = reached-nothing n s

missing_known : (s : Store) → IsMeasured s ty.Empty
missing_known s n = subst (IsKnown s) (sym (reached-nothing n s)) tt

kid_measured : (s : Store) (ts : TypedNodes) → EachMeasured s ts → (i : ℕ) → AreMeasured s (tree_from_front i (listed_nodes ts))
kid_measured s typed_none q i = (missing_known s, missing_known s, tt)
kid_measured s (typed_more t ts) q zero = q.0
kid_measured s (typed_more t ts) q (suc i) = kid_measured s ts q.1 i

given_measured : (s : Store) (x : TypedNode) → AreMeasured s x → IsMeasured s (given x)
given_measured s (marked h m ts) q = q.1

kids_measured : (s : Store) (x : TypedNode) → AreMeasured s x → EachMeasured s (kids_of x)
kids_measured s (marked h m ts) q = q.2

kid_met : (w : Setting) (ts : TypedNodes) → AreMet w ts → (i : ℕ) →
    IsMet w (tree_from_front i (listed_nodes ts)) ⊎ (tree_from_front i (listed_nodes ts) ≡ missing)
kid_met w typed_none p i = inr refl
kid_met w (typed_more t ts) p zero = inl p.0
kid_met w (typed_more t ts) p (suc i) = kid_met w ts p.1 i

pub judged_in : (w : Setting) (x : TypedNode) → IsMet w x → (c : Context) × (c.setting ≡ w) × IsJudged c x
judged_in w (marked h m ts) p = p.0

pub head_kind : (x : TypedNode) → (head_of x).kind ≡ own_kind x
head_kind (marked h m ts) = refl

-- ---- a node

both_hold : (a b : Bool) → (a && b) ≡ true → a ≡ true
both_hold true b e = refl
both_hold false b e = absurd cc

access_field : (k : Kind) → is_member_access k ≡ true → k ≡ kind.Field
access_field kind.Field e = refl
access_field _ e = absurd cc

module _ (c : Context) (t : TypedNode) (v : IsStore (store_of c)) (j : IsJudged c t) where
  pub kind_of_context : (k : Kind) → own_kind t ≡ k → c.head.kind ≡ k
  kind_of_context k e = ap (λ h. h.kind) j.head ∙ head_kind t ∙ e

  pub alone : (k : Kind) → own_kind t ≡ k → is_path k ≡ false → is_number k ≡ false → StandsAlone c k
  alone k e p n = stands_alone c k (kind_of_context k e) (subst (λ q. is_in_role c.inside.role q ≡ true) e j.role) p n j.rows

  pub no_yield : (k : Kind) → own_kind t ≡ k → k ≢ kind.Yield → own_kind t ≢ kind.Yield
  no_yield k e n y = n (sym e ∙ y)

  measure_asked : (k : Kind) → own_kind t ≡ k → k ≢ kind.Yield → target_of c k 0 ≡ None →
      ((i : ℕ) → given (kid c i) ≡ own_type (kid c i)) → has_size_of (store_of c) (written c 0) ≡ true →
      IsKnown (store_of c) (type_of_kid 0 t)
      → IsSized (store_of c) (type_of_kid 0 t)
  measure_asked k e n o u h m =
      let same : type_of_kid 0 t ≡ own_type (kid c 0) =
      kid_given c t j (no_yield k e n) 0 (ap (λ q. target_of c q 0) (kind_of_context k e) ∙ o) ∙ u 0 in
      sized_known (store_of c) (type_of_kid 0 t) m (subst (λ f. has_size_of (store_of c) (words.id_in f) ≡ true) (sym same) h)

  -- what is asked of a node of any kind; of the kid of an `offset` more is needed than this node
  asked_alone : IsMeasured (store_of c) (own_type t) → IsMeasured (store_of c) (type_of_kid 0 t) → (k : Kind) → own_kind t ≡ k →
      IsSmall k (head_of t).number → (k ≡ kind.Offset → AskedKind (store_of c) t kind.Offset) → AskedKind (store_of c) t k
  asked_alone own first kind.Number e l o = l
  asked_alone own first kind.RuneLit e l o = l
  asked_alone own first kind.Offset e l o = o refl
  asked_alone own first kind.Neg e l o =
      let s = alone kind.Neg e refl refl in
      let k = kind_of_context kind.Neg e in
      unary_asked c t j (no_yield kind.Neg e (λ y. absurd cc)) (ap (λ q. target_of c q 0) k)
      (row_holds c rules.UnaryInteger (rules.UnaryRange ∷ last_rows) s.rows).0
      (sym s.type ∙ j.type)
  asked_alone own first kind.Not e l o =
      let s = alone kind.Not e refl refl in
      let k = kind_of_context kind.Not e in
      unary_asked c t j (no_yield kind.Not e (λ y. absurd cc)) (ap (λ q. target_of c q 0) k)
      (row_holds c rules.UnaryInteger (rules.UnaryRange ∷ last_rows) s.rows).0
      (sym s.type ∙ j.type)
  asked_alone own first kind.Arith e l o =
      let s = alone kind.Arith e refl refl in
      let k = kind_of_context kind.Arith e in
      arith_asked c t v j (no_yield kind.Arith e (λ y. absurd cc)) (ap asks_nothing e) (λ i. ap (λ q. target_of c q i) k)
      (sym s.type ∙ j.type)
  asked_alone own first kind.Shift e l o =
      let s = alone kind.Shift e refl refl in
      let k = kind_of_context kind.Shift e in
      shift_asked c t v j (no_yield kind.Shift e (λ y. absurd cc)) (ap asks_nothing e) (ap (λ q. target_of c q 0) k)
      (both_hold (is_integer (store_of c) (first_seen c)) (is_integer (store_of c) (second_seen c))
      (row_holds c rules.ShiftIntegers (rules.ShiftRange ∷ rules.ShiftLeftDefault ∷ last_rows) s.rows).0) (sym s.type ∙ j.type)
  asked_alone own first kind.Size e l o =
      let s = alone kind.Size e refl refl in
      measure_asked kind.Size e (λ y. absurd cc) refl (λ i. j.unasked i (ap asks_nothing e))
      (row_holds c rules.MeasureHasSize last_rows s.rows).0
      (first 0)
  asked_alone own first kind.Align e l o =
      let s = alone kind.Align e refl refl in
      measure_asked kind.Align e (λ y. absurd cc) refl (λ i. j.unasked i (ap asks_nothing e))
      (row_holds c rules.MeasureHasSize last_rows s.rows).0
      (first 0)
  asked_alone own first kind.Tuple e l o =
      let s = alone kind.Tuple e refl refl in
      tuple_asked c t v j e (no_yield kind.Tuple e (λ y. absurd cc)) (own 0) (sym s.type ∙ j.type)
  asked_alone own first kind.StructLit e l o =
      let s = alone kind.StructLit e refl refl in
      struct_asked c t v j e (no_yield kind.StructLit e (λ y. absurd cc)) (own 0) (sym s.type ∙ j.type)
      (row_holds c rules.StructLitFields last_rows s.rows).0
  asked_alone own first _ e l o = tt

  -- the kid of an `offset` is a member
  member_kid : own_kind t ≡ kind.Offset → own_kind (kid_from_front 0 t) ≡ kind.Field
  member_kid e =
      let s = alone kind.Offset e refl refl in
      let field = access_field (head_of (kid c 0)).kind (row_holds c rules.OffsetKind last_rows s.rows).0 in
      sym (head_kind (kid_from_front 0 t)) ∙ ap (λ h. h.kind) (kid_head c t j (no_yield kind.Offset e (λ y. absurd cc)) 0)
      ∙ field

-- ---- trees

module _ (w : Setting) (v : IsStore w.store) (d : NamesAreTypes w) where
  abbrev s : Store
  s = w.store

  asked_offset : (t : TypedNode) → AreMet w (kids_of t) → EachMeasured s (kids_of t) → own_kind (kid_from_front 0 t) ≡ kind.Field →
      HasParts s (type_with_offset s t) (part_with_offset s t ∷ [])
  asked_offset t p q e = by (kid_met w (kids_of t) p 0)
    where
      by : IsMet w (kid_from_front 0 t) ⊎ (kid_from_front 0 t ≡ missing) → HasParts s (type_with_offset s t) (part_with_offset s t ∷ [])
      by (inr f) = let both = sym e ∙ ap own_kind f in absurd cc
      by (inl f) =
          let met = judged_in w (kid_from_front 0 t) f in
          let c = met.0 in
          let there : store_of c ≡ s = ap (λ x. x.store) met.1 in
          let st = alone c (kid_from_front 0 t) (subst IsStore (sym there) v) met.2 kind.Field e refl refl in
          let kid = kid_measured s (kids_of t) q 0 in
          let inner = kid_measured s (kids_of (kid_from_front 0 t)) (kids_measured s (kid_from_front 0 t) kid) 0 in
          let m = given_measured s (kid_from_front 0 (kid_from_front 0 t)) inner in
          subst (λ r. HasParts r (type_with_offset r t) (part_with_offset r t ∷ [])) there
          (offset_asked c t (subst IsStore (sym there) v) met.2 e
          (subst (λ r. IsMeasured r (type_of_kid 0 (kid_from_front 0 t))) (sym there) m)
          (row_holds c rules.FieldMember last_rows st.rows).0)

  asked_node : (t : TypedNode) (c : Context) → c.setting ≡ w → IsJudged c t → AreMet w (kids_of t) → IsMeasured s (own_type t) →
      EachMeasured s (kids_of t) → IsSmall (own_kind t) (head_of t).number → (k : Kind) → own_kind t ≡ k → AskedKind s t k
  asked_node t c e j p own q l k g =
      let there : store_of c ≡ s = ap (λ x. x.store) e in
      let sound : IsStore (store_of c) = subst IsStore (sym there) v in
      let first = given_measured s (kid_from_front 0 t) (kid_measured s (kids_of t) q 0) in
      let small = subst (λ a. IsSmall a (head_of t).number) g l in
      subst (λ r. AskedKind r t k) there
      (asked_alone c t sound j (subst (λ r. IsMeasured r (own_type t)) (sym there) own)
      (subst (λ r. IsMeasured r (type_of_kid 0 t)) (sym there) first) k g small (λ f. offset_here (g ∙ f) sound (sym there)))
    where
      offset_here : own_kind t ≡ kind.Offset → (sound : IsStore (store_of c)) → s ≡ store_of c → AskedKind (store_of c) t kind.Offset
      offset_here f sound there = subst (λ r. HasParts r (type_with_offset r t) (part_with_offset r t ∷ [])) there
          (asked_offset t p q (member_kid c t sound j f))

  plain_node : (t : TypedNode) (c : Context) → c.setting ≡ w → IsJudged c t → (k : Kind) → own_kind t ≡ k → IsTextTold s k (kids_of t) →
      PlainKind s k (kids_of t)
  plain_node t c e j kind.Equal g n = n
  plain_node t c e j kind.Addr g n = λ b.
      (let sound : IsStore (store_of c) = subst IsStore (sym (ap (λ x. x.store) e)) v in
      let st = alone c t sound j kind.Addr g refl refl in
      let no = no_yield c t sound j kind.Addr g (λ y. absurd cc) in
      address_place w d t (kid c 0) (kid_head c t j no 0) (kid_meaning c t j no 0)
      (subst (λ x. is_place x (kid c 0) ≡ true) e (row_holds c rules.AddrPlace (rules.AddrMutable ∷ last_rows) st.rows).0) b)
  plain_node t c e j _ g n = tt

  mutual
    simple : (t : TypedNode) → IsMet w t → AreMeasured s t → HasSmallLiterals t → TextsAreTold s t → IsSimple s t
    simple (marked h m ts) p q l n = (
      asked_node (marked h m ts) p.0.0 p.0.1 p.0.2 p.1 q.0 q.2 l.0 h.kind refl,
      plain_node (marked h m ts) p.0.0 p.0.1 p.0.2 h.kind refl n.0,
      known_in s m.ty (q.0 0),
      goes_joined s v m.ty m.coerce (q.0 0) (q.1 0) (subst (λ r. GoesTo r m.ty m.coerce) (ap (λ x. x.store) p.0.1) p.0.2.goes),
      simple_each ts p.1 q.2 l.1 n.1,
    )

    simple_each : (ts : TypedNodes) → AreMet w ts → EachMeasured s ts → HaveSmallLiterals ts → EachTextTold s ts → AreSimple s ts
    simple_each typed_none p q l n = tt
    simple_each (typed_more t ts) p q l n = (simple t p.0 q.0 l.0 n.0, simple_each ts p.1 q.1 l.1 n.1)

has_base : (s : Store) (f : Ty) → IsKnown s f → HasBase s f
has_base s (ty.Of t) k = k.0
has_base s (ty.Iconst v) k = tt
has_base s ty.Null k = tt
has_base s ty.Empty k = tt

mutual
  bases : (s : Store) (t : TypedNode) → AreMeasured s t → HasBases s t
  bases s (marked h m ts) q = (has_base s m.ty (q.0 0), has_base s m.coerce.to (q.1 0), bases_each s ts q.2)

  bases_each : (s : Store) (ts : TypedNodes) → EachMeasured s ts → HaveBases s ts
  bases_each s typed_none q = tt
  bases_each s (typed_more t ts) q = (bases s t q.0, bases_each s ts q.1)

pub met_trees_are_settled : (w : Setting) (t : TypedNode) → IsStore w.store → NamesAreTypes w → IsMet w t → AreMeasured w.store t →
    HasSmallLiterals t → TextsAreTold w.store t → IsSettled w.store t
met_trees_are_settled w t v d p q l n = record { simple = simple w v d t p q l n; bases = bases w.store t q }
