-- Unions that meet their rows, and those that fail one.
use Rattle.std.proofs.Common.{◌≡◌, ℕ, zero, suc, ◌<◌, ◌≤◌, ◌≢◌, ◌==◌, Bool, true, false, List, [], ◌∷◌, length, Option, Some, None, is_none, refl, ap, sym, ◌∙◌, subst, arith}
use Rattle.std.specs.Prelude.{nat_lt, nat_le, option_map}
use Rattle.std.specs.Cmp.{unsigned_Decides}
use Rattle.std.proofs.lemmas.Bool.{lt-ltb, le-leb, lt-leb}
use Rattle.hare_tree.specs.declared.kind.Kind.TheVariants as ki
use Rattle.hare_tree.specs.declared.place.Place.{Place}
use Rattle.hare_tree.specs.declared.place.Fault.{Fault}
use Rattle.hare_types.specs.declared.row.Row.{Row}
use Rattle.hare_types.specs.declared.row.Row.TheVariants as ro
use Rattle.hare_types.specs.Store.{Store}
use Rattle.hare_types.specs.Sound.{IsStore}
use Rattle.hare_types.specs.ByIds.{row_at}
use Rattle.hare_types.specs.Later.{IsLater}
use Rattle.hare_types.specs.Unions.{ascending, joined}
use Rattle.hare_types.proofs.FollowLemmas.{row-continued}
use Rattle.hare_typed.specs.Typed.{TypedNode}
use Rattle.hare_rules.specs.declared.row_id.RowId.{RowId}
use Rattle.hare_rules.specs.declared.row_id.RowId.TheVariants as row
use Rattle.hare_rules.specs.Words.{typed_as}
use Rattle.hare_rules.specs.Context.{place_of, place_or}
use Rattle.hare_rules.specs.Table.{number_of}
use Rattle.hare_rules.specs.Written.{odd_spread, members_sized, all_brought, left_small}
use Rattle.hare_rules.specs.Rows.{holds, stands}
use Rattle.hare_seen.specs.Sizes.{size_row_by, is_small_at}
use Rattle.rule_judge.proofs.DefinedLemmas.{row_stays}
use Rattle.rule_types.specs.declared.written.Written.{Written}
use Rattle.rule_types.specs.Contexts.{context_in, own_failing}
use Rattle.rule_types.specs.Known.{IsKnown}
use Rattle.rule_types.specs.Joinable.{IsMember}
use Rattle.rule_types.specs.Answers.{IsOwnType, IsOwnFault}
use Rattle.rule_types.proofs.OwnLemmas.{failing, met, failed, own_fault, never_unsized, asked, unasked}
use Rattle.rule_types.proofs.SmallLemmas.{union_fits}

spread_none : (o : Option TypedNode) → None ≡ option_map place_of o → is_none o ≡ true
spread_none None e = refl
spread_none (Some x) e = absurd cc

spread_some : (o : Option TypedNode) (p : Place) → Some p ≡ option_map place_of o → is_none o ≡ false
spread_some None p e = absurd cc
spread_some (Some x) p e = refl

spread_place : (o : Option TypedNode) (p q : Place) → Some p ≡ option_map place_of o → place_or q o ≡ p
spread_place None p q e = absurd cc
spread_place (Some x) p q e = let same : p ≡ place_of x = cc in sym same

-- where no place is told there is none
pub no_place : (o : Option Place) → ((p : Place) → ¬ (o ≡ Some p)) → None ≡ o
no_place None h = refl
no_place (Some p) h = absurd (h p refl)

pub is_zero : (n : ℕ) → (n == 0) ≡ true → n ≡ 0
is_zero n e = (unsigned_Decides n 0).0 e

pub is_more : (n : ℕ) → (n == 0) ≡ false → 0 < n
is_more zero e = absurd cc
is_more (suc n) e = omega arith

-- ---- which unions are asked for their bytes

abbrev IsNoUnion : Option Row → Type 0
IsNoUnion o = (is : List ℕ) → o ≢ Some (ro.Union is)

no_union : (o : Option Row) → IsNoUnion o → size_row_by ki.TypeUnion o ≡ None
no_union (Some (ro.Union is)) h = absurd (h is refl)
no_union _ h = refl

-- ---- rows

abbrev narrow : List RowId
narrow = row.UnionNarrow ∷ row.UnionSmall ∷ []

abbrev left_rows : List RowId
left_rows = row.UnionLeft ∷ narrow

abbrev size_rows : List RowId
size_rows = row.UnionMembersSized ∷ left_rows

module _ (s : Store) (t : Written) where
  abbrev kids : List TypedNode
  kids = t.kids.now

  pub odd_member : (x : Fault) (p : Place) → x ≡ record { number = number_of row.UnionSpreads; place = p } →
      ((f : Store) → IsLater s f → Some p ≡ option_map place_of (odd_spread f kids))
      → IsOwnFault s t ki.TypeUnion x
  odd_member x p h z =
      own_fault s t ki.TypeUnion row.UnionSpreads p x h
      (λ f l. failed (context_in f t) row.UnionSpreads size_rows (spread_some (odd_spread f kids) p (z f l)))
      (λ f l. spread_place (odd_spread f kids) p (context_in f t).head.place (z f l))

  module _ (spreads : (f : Store) → IsLater s f → None ≡ option_map place_of (odd_spread f kids)) where
    behind_spreads : (f : Store) → IsLater s f → own_failing ki.TypeUnion (context_in f t) ≡ failing (context_in f t) size_rows
    behind_spreads f l = met (context_in f t) row.UnionSpreads size_rows (spread_none (odd_spread f kids) (spreads f l))

    pub member_unsized : (x : Fault) (p : Place) → x ≡ record { number = number_of row.UnionMembersSized; place = p } →
        ((f : Store) → stands row.UnionMembersSized (context_in f t) ≡ p)
        → ((f : Store) → IsLater s f → false ≡ members_sized f kids) → IsOwnFault s t ki.TypeUnion x
    member_unsized x p h at z =
        own_fault s t ki.TypeUnion row.UnionMembersSized p x h
        (λ f l. behind_spreads f l ∙ failed (context_in f t) row.UnionMembersSized left_rows (sym (z f l))) (λ f l. at f)

    module _ (sized : (f : Store) → IsLater s f → true ≡ members_sized f kids) (brought : List ℕ)
        (same : (f : Store) → IsLater s f → brought ≡ all_brought f kids) where
      behind_sized : (f : Store) → IsLater s f → own_failing ki.TypeUnion (context_in f t) ≡ failing (context_in f t) left_rows
      behind_sized f l = behind_spreads f l ∙ met (context_in f t) row.UnionMembersSized left_rows (sym (sized f l))

      left_is : (f : Store) → IsLater s f → ascending (all_brought f kids) ≡ ascending brought
      left_is f l = ap ascending (sym (same f l))

      pub none_left : (x : Fault) (p : Place) → x ≡ record { number = number_of row.UnionLeft; place = p } →
          ((f : Store) → stands row.UnionLeft (context_in f t) ≡ p)
          → length (ascending brought) ≡ 0 → IsOwnFault s t ki.TypeUnion x
      none_left x p h at z =
          own_fault s t ki.TypeUnion row.UnionLeft p x h
          (λ f l. behind_sized f l ∙ failed (context_in f t) row.UnionLeft narrow
          (ap (λ (js : List ℕ). nat_lt 0 (length js)) (left_is f l) ∙ ap (nat_lt 0) z)) (λ f l. at f)

      module _ (some : 0 < length (ascending brought)) where
        behind_left : (f : Store) → IsLater s f → own_failing ki.TypeUnion (context_in f t) ≡ failing (context_in f t) narrow
        behind_left f l =
            behind_sized f l ∙ met (context_in f t) row.UnionLeft narrow
            (ap (λ (js : List ℕ). nat_lt 0 (length js)) (left_is f l) ∙ lt-ltb 0 (length (ascending brought)) some)

        pub too_wide : (x : Fault) (p : Place) → x ≡ record { number = number_of row.UnionNarrow; place = p } →
            ((f : Store) → stands row.UnionNarrow (context_in f t) ≡ p)
            → 64 < length (ascending brought) → IsOwnFault s t ki.TypeUnion x
        too_wide x p h at z =
            own_fault s t ki.TypeUnion row.UnionNarrow p x h
            (λ f l. behind_left f l
            ∙ failed (context_in f t) row.UnionNarrow (row.UnionSmall ∷ [])
            (ap (λ (js : List ℕ). nat_le (length js) 64) (left_is f l) ∙ lt-leb (length (ascending brought)) 64 z))
            (λ f l. at f)

        module _ (few : length (ascending brought) ≤ 64) where
          last : (f : Store) → IsLater s f → own_failing ki.TypeUnion (context_in f t) ≡ failing (context_in f t) (row.UnionSmall ∷ [])
          last f l =
              behind_left f l
              ∙ met (context_in f t) row.UnionNarrow (row.UnionSmall ∷ [])
              (ap (λ (js : List ℕ). nat_le (length js) 64) (left_is f l) ∙ le-leb (length (ascending brought)) 64 few)

          module _ (u : ℕ) (id : (f : Store) → IsLater s f → joined f (ascending brought) ≡ Some u) where
            one_small : (f : Store) (js : List ℕ) → length js ≤ 1 → left_small f js ≡ true
            one_small f [] h = refl
            one_small f (j ∷ []) h = refl
            one_small f (j ∷ k ∷ js) h = absurd (omega arith)

            several : (f : Store) → IsLater s f → (js : List ℕ) (b : Bool) → joined f js ≡ Some u → 1 < length js → is_small_at f u ≡ b →
                left_small f js ≡ b
            several f l [] b g h k = absurd (omega arith)
            several f l (i ∷ []) b g h k = absurd (omega arith)
            several f l (i ∷ j ∷ js) b g h k = sym (union_fits f l.sound u (i ∷ j ∷ js) g) ∙ k

            small_row : (f : Store) → IsLater s f → (b : Bool) → left_small f (ascending brought) ≡ b →
                holds row.UnionSmall (context_in f t) ≡ b
            small_row f l b h = ap (left_small f) (left_is f l) ∙ h

            type_is : (f : Store) → IsLater s f → typed_as (joined f (ascending (all_brought f kids))) ≡ typed_as (Some u)
            type_is f l = ap (λ (js : List ℕ). typed_as (joined f js)) (left_is f l) ∙ ap typed_as (id f l)

            pub union_large : (x : Fault) (p : Place) → x ≡ record { number = number_of row.UnionSmall; place = p } →
                ((f : Store) → stands row.UnionSmall (context_in f t) ≡ p)
                → 1 < length (ascending brought) → ((f : Store) → IsLater s f → is_small_at f u ≡ false) → IsOwnFault s t ki.TypeUnion x
            union_large x p h at many large =
                own_fault s t ki.TypeUnion row.UnionSmall p x h
                (λ f l. last f l ∙ failed (context_in f t) row.UnionSmall []
                (small_row f l false (several f l (ascending brought) false (id f l) many (large f l)))) (λ f l. at f)

            -- one that is left alone is itself the type, and no union
            pub lone_is : length (ascending brought) ≤ 1 → IsStore s → IsKnown s u → IsMember s u → IsOwnType s t ki.TypeUnion u
            lone_is one v known member =
                unasked s t ki.TypeUnion u type_is known (no_union (row_at s u) member.not_union)
                (λ f l. no_union (row_at f u) (subst IsNoUnion (sym (row_stays s f v l u member.within)) member.not_union))
                (λ f l. last f l ∙ met (context_in f t) row.UnionSmall [] (small_row f l true (one_small f (ascending brought) one)))

            pub union_is : 1 < length (ascending brought) → IsKnown s u → row_at s u ≡ Some (ro.Union (ascending brought))
                → is_small_at s u ≡ true → IsOwnType s t ki.TypeUnion u
            union_is many known here small =
                asked s t ki.TypeUnion u type_is known row.UnionSmall (ap (size_row_by ki.TypeUnion) here)
                (λ f l. ap (size_row_by ki.TypeUnion) (row-continued s f l.grows.rows u (ro.Union (ascending brought)) here))
                (λ f l h. last f l ∙ met (context_in f t) row.UnionSmall []
                (small_row f l true (several f l (ascending brought) true (id f l) many h)))
                (λ f l h. last f l ∙ failed (context_in f t) row.UnionSmall []
                (small_row f l false (several f l (ascending brought) false (id f l) many h)))
                (λ n. never_unsized s u (ro.Union (ascending brought)) here refl n) small
