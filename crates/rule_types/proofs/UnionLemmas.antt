-- What the members of a written union bring to it.
use Rattle.std.proofs.Common.{◌≡◌, ◌≢◌, ℕ, suc, ◌<◌, ◌≤◌, Bool, true, false, cond, List, [], ◌∷◌, ◌++◌, length, Option, Some, None, refl, ap, sym, ◌∙◌, subst, arith, ◌⊎◌, inl, inr}
use Rattle.std.specs.Prelude.{Contains, option_map, option_and_then}
use Rattle.std.specs.Option.{unwrap_or}
use Rattle.hare_types.specs.declared.coercion.Ty.{Ty}
use Rattle.hare_types.specs.declared.coercion.Ty.TheVariants as ty
use Rattle.hare_types.specs.declared.row.Row.{Row}
use Rattle.hare_types.specs.declared.row.Row.TheVariants as row
use Rattle.hare_types.specs.declared.row.Scalar.{Scalar as Keyword}
use Rattle.hare_types.specs.declared.row.Scalar.TheVariants as keyword
use Rattle.hare_types.specs.Rows.{AllBelow, Ascends, AreMembers}
use Rattle.hare_types.specs.Store.{Store}
use Rattle.hare_types.specs.Sound.{IsStore}
use Rattle.hare_types.specs.ByIds.{row_at, base_at, members_of, members_at}
use Rattle.hare_types.specs.Unions.{brought_by_word, brought_by, ascending}
use Rattle.hare_types.proofs.AscendingLemmas.{In, In-from, In-to, Ascends-put_all, ascending-sound, ascending-whole}
use Rattle.hare_typed.specs.Typed.{TypedNode}
use Rattle.hare_typed.specs.Order.{kid_from_front}
use Rattle.hare_rules.specs.Context.{own_type}
use Rattle.hare_rules.specs.Words.{id_in}
use Rattle.hare_rules.specs.Written.{is_spread, brought_by_id, brought, all_brought}
use Rattle.rule_judge.specs.Defined.{IsDefined, IsDefinedTy}
use Rattle.rule_judge.proofs.DefinedLemmas.{defined_part}
use Rattle.rule_judge.proofs.BaseLemmas.{base_defined}
use Rattle.std.proofs.lemmas.Option.{slice_get_within}
use Rattle.rule_types.specs.Known.{IsKnown, IsKnownTy, IsBasedTy}
use Rattle.rule_types.specs.Members.{IsMemberKnownBy, AreMembersKnown, IsMemberDefinedBy, AreMembersDefined}
use Rattle.rule_types.specs.Joinable.{IsMember, AreJoinable, IsLoneKnown}

-- ---- lists of ids

In-append : (a : ℕ) (is js : List ℕ) → In a (is ++ js) → In a is ⊎ In a js
In-append a [] js h = inr h
In-append a (i ∷ is) js (inl e) = inl (inl e)
In-append a (i ∷ is) js (inr h) = by (In-append a is js h)
  where
    by : In a is ⊎ In a js → ((i ≡ a) ⊎ In a is) ⊎ In a js
    by (inl k) = inl (inr k)
    by (inr k) = inr k

In-left : (a : ℕ) (is js : List ℕ) → In a is → In a (is ++ js)
In-left a [] js h = absurd h
In-left a (i ∷ is) js (inl e) = inl e
In-left a (i ∷ is) js (inr h) = inr (In-left a is js h)

In-right : (a : ℕ) (is js : List ℕ) → In a js → In a (is ++ js)
In-right a [] js h = h
In-right a (i ∷ is) js h = inr (In-right a is js h)

-- two that differ are among them
pub record HasTwo (is : List ℕ) : Type 0 where
  pub one : ℕ
  pub other : ℕ
  pub has_one : In one is
  pub has_other : In other is
  pub differ : one < other

two_left : (is js : List ℕ) → HasTwo is → HasTwo (is ++ js)
two_left is js h = record {
  one = h.one;
  other = h.other;
  has_one = In-left h.one is js h.has_one;
  has_other = In-left h.other is js
      h.has_other;
  differ = h.differ;
}

two_right : (is js : List ℕ) → HasTwo js → HasTwo (is ++ js)
two_right is js h = record {
  one = h.one;
  other = h.other;
  has_one = In-right h.one is js h.has_one;
  has_other = In-right h.other is js
      h.has_other;
  differ = h.differ;
}

several_two : (is : List ℕ) → 2 ≤ length is → Ascends is → HasTwo is
several_two [] h a = absurd (omega arith)
several_two (i ∷ []) h a = absurd (omega arith)
several_two (i ∷ j ∷ is) h a = record { one = i; other = j; has_one = inl refl; has_other = inr (inl refl); differ = a.0.0 }

-- ---- the members of a union

below_all : (n : ℕ) (is : List ℕ) (i : ℕ) → AllBelow n is → In i is → i < n
below_all n [] i h m = absurd m
below_all n (j ∷ is) i h (inl e) = subst (λ k. k < n) e h.0
below_all n (j ∷ is) i h (inr m) = below_all n is i h.1 m

module _ (s : Store) (v : IsStore s) where
  union_members : (t : ℕ) (is : List ℕ) → row_at s t ≡ Some (row.Union is) → AreMembers s.rows is
  union_members t is e = v.rows_sound.reduced t (row.Union is) e

  union_member : (t : ℕ) (is : List ℕ) (i : ℕ) → row_at s t ≡ Some (row.Union is) → In i is → IsMember s i
  union_member t is i e m =
      let c = In-to i is m in
      let u = union_members t is e in
      let w = slice_get_within s.rows t (row.Union is) e in
      let b = below_all t is i (v.rows_sound.within t (row.Union is) e) m in
      record { within = omega arith; not_never = u.not_never i c; not_union = λ js. u.not_union i js c }

  -- a union that is based is one of the store
  based_union : (t : ℕ) (is : List ℕ) → members_at s t ≡ Some is → (b : ℕ) × (base_at s t ≡ Some b) × (row_at s b ≡ Some (row.Union is))
  based_union t is e = by (base_at s t) refl e
    where
      at : (b : ℕ) (r : Row) → row_at s b ≡ Some r → members_of r ≡ Some is → row_at s b ≡ Some (row.Union is)
      at b (row.Union js) g h = let same : js ≡ is = cc in g ∙ ap (λ ks. Some (row.Union ks)) same
      at b (row.Scalar k) g h = absurd cc
      at b (row.Pointer j) g h = absurd cc
      at b (row.Nullable j) g h = absurd cc
      at b (row.Slice j) g h = absurd cc
      at b (row.Array n j) g h = absurd cc
      at b (row.Struct fs) g h = absurd cc
      at b (row.Tuple js) g h = absurd cc
      at b (row.Error j) g h = absurd cc
      at b (row.Named d) g h = absurd cc

      row_is : (b : ℕ) (o : Option Row) → row_at s b ≡ o → option_and_then members_of o ≡ Some is → row_at s b ≡ Some (row.Union is)
      row_is b None g h = absurd cc
      row_is b (Some r) g h = at b r g h

      by : (o : Option ℕ) → base_at s t ≡ o → option_and_then (λ b. option_and_then members_of (row_at s b)) o ≡ Some is → (b : ℕ) ×
          (base_at s t ≡ Some b) × (row_at s b ≡ Some (row.Union is))
      by None g h = absurd cc
      by (Some b) g h = (b, g, row_is b (row_at s b) refl h)

  -- ---- what one member brings

  -- it can be a member; and whether it has a size is known, or there is another
  abbrev Brings : List ℕ → ℕ → Type 0
  Brings is i = IsMember s i × (IsKnown s i ⊎ HasTwo is)

  of_union : (t : ℕ) (is : List ℕ) (i : ℕ) → row_at s t ≡ Some (row.Union is) → In i is → Brings is i
  of_union t is i e m = let u = union_members t is e in (union_member t is i e m, inr (several_two is u.several u.ascend))

  spread_brings : (t i : ℕ) (o : Option (List ℕ)) → members_at s t ≡ o → In i (unwrap_or o []) → Brings (unwrap_or o []) i
  spread_brings t i None e m = absurd m
  spread_brings t i (Some is) e m = let b = based_union t is e in of_union b.0 is i b.2 m

  alone : (t i : ℕ) (r : Row) → row_at s t ≡ Some r → ((js : List ℕ) → r ≢ row.Union js) → r ≢ row.Scalar keyword.Never → IsKnown s t →
      In i (t ∷ []) → Brings (t ∷ []) i
  alone t i r e not_union not_never k (inl same) = (
    subst (IsMember s) same (record {
      within = k.within;
      not_never = λ h. let both : r ≡ row.Scalar keyword.Never = cc in not_never both;
      not_union = λ js h. let both : r ≡ row.Union js = cc in not_union js both;
    }),
    inl (subst (IsKnown s) same k),
  )
  alone t i r e not_union not_never k (inr m) = absurd m

  word_brings : (t i : ℕ) (k : Keyword) → row_at s t ≡ Some (row.Scalar k) → IsKnown s t → In i (brought_by_word k t) →
      Brings (brought_by_word k t) i
  word_brings t i keyword.Never e k m = absurd m
  word_brings t i keyword.Void e k m = alone t i _ e (λ js h. cc) (λ h. cc) k m
  word_brings t i keyword.Opaque e k m = alone t i _ e (λ js h. cc) (λ h. cc) k m
  word_brings t i keyword.Bool e k m = alone t i _ e (λ js h. cc) (λ h. cc) k m
  word_brings t i keyword.Rune e k m = alone t i _ e (λ js h. cc) (λ h. cc) k m
  word_brings t i keyword.Str e k m = alone t i _ e (λ js h. cc) (λ h. cc) k m
  word_brings t i keyword.I8 e k m = alone t i _ e (λ js h. cc) (λ h. cc) k m
  word_brings t i keyword.I16 e k m = alone t i _ e (λ js h. cc) (λ h. cc) k m
  word_brings t i keyword.I32 e k m = alone t i _ e (λ js h. cc) (λ h. cc) k m
  word_brings t i keyword.I64 e k m = alone t i _ e (λ js h. cc) (λ h. cc) k m
  word_brings t i keyword.U8 e k m = alone t i _ e (λ js h. cc) (λ h. cc) k m
  word_brings t i keyword.U16 e k m = alone t i _ e (λ js h. cc) (λ h. cc) k m
  word_brings t i keyword.U32 e k m = alone t i _ e (λ js h. cc) (λ h. cc) k m
  word_brings t i keyword.U64 e k m = alone t i _ e (λ js h. cc) (λ h. cc) k m
  word_brings t i keyword.Int e k m = alone t i _ e (λ js h. cc) (λ h. cc) k m
  word_brings t i keyword.Uint e k m = alone t i _ e (λ js h. cc) (λ h. cc) k m
  word_brings t i keyword.Size e k m = alone t i _ e (λ js h. cc) (λ h. cc) k m

  row_brings : (t i : ℕ) (r : Row) → row_at s t ≡ Some r → IsKnown s t → In i (brought_by t r) → Brings (brought_by t r) i
  row_brings t i (row.Scalar w) e k m = word_brings t i w e k m
  row_brings t i (row.Union is) e k m = of_union t is i e m
  row_brings t i (row.Pointer j) e k m = alone t i _ e (λ js h. cc) (λ h. cc) k m
  row_brings t i (row.Nullable j) e k m = alone t i _ e (λ js h. cc) (λ h. cc) k m
  row_brings t i (row.Slice j) e k m = alone t i _ e (λ js h. cc) (λ h. cc) k m
  row_brings t i (row.Array n j) e k m = alone t i _ e (λ js h. cc) (λ h. cc) k m
  row_brings t i (row.Struct fs) e k m = alone t i _ e (λ js h. cc) (λ h. cc) k m
  row_brings t i (row.Tuple is) e k m = alone t i _ e (λ js h. cc) (λ h. cc) k m
  row_brings t i (row.Error j) e k m = alone t i _ e (λ js h. cc) (λ h. cc) k m
  row_brings t i (row.Named d) e k m = alone t i _ e (λ js h. cc) (λ h. cc) k m

  written_brings : (t i : ℕ) (o : Option Row) → row_at s t ≡ o → IsKnown s t → In i (unwrap_or (option_map (brought_by t) o) []) →
      Brings (unwrap_or (option_map (brought_by t) o) []) i
  written_brings t i None e k m = absurd m
  written_brings t i (Some r) e k m = row_brings t i r e k m

  spread_ty : (a : Ty) (i : ℕ) → IsBasedTy s a → In i (brought_by_id s true (id_in a)) → Brings (brought_by_id s true (id_in a)) i
  spread_ty (ty.Of t) i k m = spread_brings t i (members_at s t) refl m
  spread_ty (ty.Iconst n) i k m = absurd k
  spread_ty ty.Null i k m = absurd k
  spread_ty ty.Empty i k m = absurd k

  written_ty : (a : Ty) (i : ℕ) → IsKnownTy s a → In i (brought_by_id s false (id_in a)) → Brings (brought_by_id s false (id_in a)) i
  written_ty (ty.Of t) i k m = written_brings t i (row_at s t) refl k m
  written_ty (ty.Iconst n) i k m = absurd k
  written_ty ty.Null i k m = absurd k
  written_ty ty.Empty i k m = absurd k

  one_brings : (b : Bool) (x : TypedNode) (i : ℕ) → IsMemberKnownBy s b x →
      In i (brought_by_id s b (id_in (own_type (cond b (kid_from_front 0 x) x))))
      → Brings (brought_by_id s b (id_in (own_type (cond b (kid_from_front 0 x) x)))) i
  one_brings true x i k m = spread_ty (own_type (kid_from_front 0 x)) i k m
  one_brings false x i k m = written_ty (own_type x) i k m

  -- ---- all members

  more_left : (is js : List ℕ) (i : ℕ) → Brings is i → Brings (is ++ js) i
  more_left is js i (h, inl k) = (h, inl k)
  more_left is js i (h, inr k) = (h, inr (two_left is js k))

  more_right : (is js : List ℕ) (i : ℕ) → Brings js i → Brings (is ++ js) i
  more_right is js i (h, inl k) = (h, inl k)
  more_right is js i (h, inr k) = (h, inr (two_right is js k))

  all_bring : (xs : List TypedNode) → AreMembersKnown s xs → (i : ℕ) → In i (all_brought s xs) → Brings (all_brought s xs) i
  all_bring [] k i m = absurd m
  all_bring (x ∷ xs) k i m = by (all_bring xs k.1 i) (In-append i (brought s x) (all_brought s xs) m)
    where
      by : (In i (all_brought s xs) → Brings (all_brought s xs) i) → In i (brought s x) ⊎ In i (all_brought s xs) →
          Brings (all_brought s (x ∷ xs)) i
      by ih (inl h) = more_left (brought s x) (all_brought s xs) i (one_brings (is_spread x) x i k.0 h)
      by ih (inr h) = more_right (brought s x) (all_brought s xs) i (ih h)

  module _ (xs : List TypedNode) (k : AreMembersKnown s xs) where
    -- what is left can be the members of a union
    pub joinable : AreJoinable s (ascending (all_brought s xs))
    joinable = record {
      ascend = Ascends-put_all (all_brought s xs) [] tt;
      members = λ t c. (all_bring xs k t (In-from t (all_brought s xs) (ascending-sound (all_brought s xs) t c))).0;
    }

    -- of one that is left alone it is known whether it has a size
    pub lone_known : IsLoneKnown s (ascending (all_brought s xs))
    lone_known = by (ascending (all_brought s xs)) refl
      where
        only : (m i : ℕ) → In i (m ∷ []) → m ≡ i
        only m i (inl e) = e
        only m i (inr h) = absurd h

        one : (m : ℕ) → ascending (all_brought s xs) ≡ m ∷ [] → IsKnown s m ⊎ HasTwo (all_brought s xs) → IsKnown s m
        one m e (inl h) = h
        one m e (inr h) =
            let there = λ (i : ℕ) (g : In i (all_brought s xs)). only m i
            (subst (In i) e (In-from i (ascending (all_brought s xs))
            (ascending-whole (all_brought s xs) i (In-to i (all_brought s xs) g)))) in
            let a = there h.one h.has_one in
            let b = there h.other h.has_other in
            absurd (omega (arith, h.differ))

        by : (js : List ℕ) → ascending (all_brought s xs) ≡ js → IsLoneKnown s js
        by [] e = tt
        by (m ∷ []) e =
            let c : Contains (ascending (all_brought s xs)) m = subst (λ (js : List ℕ). Contains js m) (sym e) (0, omega arith, refl) in
            one m e (all_bring xs k m (In-from m (all_brought s xs) (ascending-sound (all_brought s xs) m c))).1
        by (m ∷ n ∷ js) e = tt

  -- ---- where each name is defined

  held_defined : (t : ℕ) (is : List ℕ) (i : ℕ) → IsDefined s t → row_at s t ≡ Some (row.Union is) → In i is → IsDefined s i
  held_defined t is i d e m = defined_part s v t (row.Union is) d e i (In-to i is m)

  spread_defined : (t i : ℕ) (o : Option (List ℕ)) → members_at s t ≡ o → IsDefined s t → In i (unwrap_or o []) → IsDefined s i
  spread_defined t i None e d m = absurd m
  spread_defined t i (Some is) e d m = let b = based_union t is e in held_defined b.0 is i (base_defined s v t b.0 d b.1) b.2 m

  itself_defined : (t i : ℕ) → IsDefined s t → In i (t ∷ []) → IsDefined s i
  itself_defined t i d (inl e) = subst (IsDefined s) e d
  itself_defined t i d (inr m) = absurd m

  word_defined : (t i : ℕ) (k : Keyword) → IsDefined s t → In i (brought_by_word k t) → IsDefined s i
  word_defined t i keyword.Never d m = absurd m
  word_defined t i keyword.Void d m = itself_defined t i d m
  word_defined t i keyword.Opaque d m = itself_defined t i d m
  word_defined t i keyword.Bool d m = itself_defined t i d m
  word_defined t i keyword.Rune d m = itself_defined t i d m
  word_defined t i keyword.Str d m = itself_defined t i d m
  word_defined t i keyword.I8 d m = itself_defined t i d m
  word_defined t i keyword.I16 d m = itself_defined t i d m
  word_defined t i keyword.I32 d m = itself_defined t i d m
  word_defined t i keyword.I64 d m = itself_defined t i d m
  word_defined t i keyword.U8 d m = itself_defined t i d m
  word_defined t i keyword.U16 d m = itself_defined t i d m
  word_defined t i keyword.U32 d m = itself_defined t i d m
  word_defined t i keyword.U64 d m = itself_defined t i d m
  word_defined t i keyword.Int d m = itself_defined t i d m
  word_defined t i keyword.Uint d m = itself_defined t i d m
  word_defined t i keyword.Size d m = itself_defined t i d m

  written_defined : (t i : ℕ) (o : Option Row) → row_at s t ≡ o → IsDefined s t → In i (unwrap_or (option_map (brought_by t) o) []) →
      IsDefined s i
  written_defined t i None e d m = absurd m
  written_defined t i (Some (row.Scalar k)) e d m = word_defined t i k d m
  written_defined t i (Some (row.Union is)) e d m = held_defined t is i d e m
  written_defined t i (Some (row.Pointer j)) e d m = itself_defined t i d m
  written_defined t i (Some (row.Nullable j)) e d m = itself_defined t i d m
  written_defined t i (Some (row.Slice j)) e d m = itself_defined t i d m
  written_defined t i (Some (row.Array n j)) e d m = itself_defined t i d m
  written_defined t i (Some (row.Struct fs)) e d m = itself_defined t i d m
  written_defined t i (Some (row.Tuple is)) e d m = itself_defined t i d m
  written_defined t i (Some (row.Error j)) e d m = itself_defined t i d m
  written_defined t i (Some (row.Named n)) e d m = itself_defined t i d m

  spread_ty_defined : (a : Ty) (i : ℕ) → IsDefinedTy s a → In i (brought_by_id s true (id_in a)) → IsDefined s i
  spread_ty_defined (ty.Of t) i d m = spread_defined t i (members_at s t) refl d m
  spread_ty_defined (ty.Iconst n) i d m = absurd m
  spread_ty_defined ty.Null i d m = absurd m
  spread_ty_defined ty.Empty i d m = absurd m

  written_ty_defined : (a : Ty) (i : ℕ) → IsDefinedTy s a → In i (brought_by_id s false (id_in a)) → IsDefined s i
  written_ty_defined (ty.Of t) i d m = written_defined t i (row_at s t) refl d m
  written_ty_defined (ty.Iconst n) i d m = absurd m
  written_ty_defined ty.Null i d m = absurd m
  written_ty_defined ty.Empty i d m = absurd m

  one_defined : (b : Bool) (x : TypedNode) (i : ℕ) → IsMemberDefinedBy s b x →
      In i (brought_by_id s b (id_in (own_type (cond b (kid_from_front 0 x) x)))) → IsDefined s i
  one_defined true x i d m = spread_ty_defined (own_type (kid_from_front 0 x)) i d m
  one_defined false x i d m = written_ty_defined (own_type x) i d m

  in_defined : (xs : List TypedNode) → AreMembersDefined s xs → (i : ℕ) → In i (all_brought s xs) → IsDefined s i
  in_defined [] d i m = absurd m
  in_defined (x ∷ xs) d i m = by (in_defined xs d.1 i) (In-append i (brought s x) (all_brought s xs) m)
    where
      by : (In i (all_brought s xs) → IsDefined s i) → In i (brought s x) ⊎ In i (all_brought s xs) → IsDefined s i
      by ih (inl h) = one_defined (is_spread x) x i d.0 h
      by ih (inr h) = ih h

  pub all_defined : (xs : List TypedNode) → AreMembersDefined s xs → (i : ℕ) → Contains (ascending (all_brought s xs)) i → IsDefined s i
  all_defined xs d i c = in_defined xs d i (In-from i (all_brought s xs) (ascending-sound (all_brought s xs) i c))

-- ids that can be members are in the store
pub joinable_below : (s : Store) (ts : List ℕ) → ((t : ℕ) → Contains ts t → IsMember s t) → AllBelow (length s.rows) ts
joinable_below s [] h = tt
joinable_below s (t ∷ ts) h = ((h t (0, omega arith, refl)).within, joinable_below s ts (λ u c. h u (suc c.0, omega (arith, c.1), c.2)))
