-- Arrays that meet their rows, and those that fail one.
use Rattle.std.proofs.Common.{◌≡◌, ℕ, Bool, true, false, [], ◌∷◌, Option, Some, None, is_some, refl, ap, ap₂, sym, ◌∙◌}
use Rattle.hare_tree.specs.declared.kind.Kind.TheVariants as ki
use Rattle.hare_tree.specs.declared.place.Place.{Place}
use Rattle.hare_tree.specs.declared.place.Fault.{Fault}
use Rattle.hare_types.specs.declared.coercion.Ty.{Ty}
use Rattle.hare_types.specs.declared.coercion.Ty.TheVariants as ty
use Rattle.hare_types.specs.declared.row.Row.TheVariants as ro
use Rattle.hare_types.specs.Store.{Store}
use Rattle.hare_types.specs.ByIds.{row_at, has_size_at}
use Rattle.hare_types.specs.Later.{IsLater}
use Rattle.hare_types.specs.Unions.{id_of}
use Rattle.hare_typed.specs.Order.{tree_from_front}
use Rattle.hare_rules.specs.declared.row_id.RowId.TheVariants as row
use Rattle.hare_rules.specs.Words.{id_in, typed_as}
use Rattle.hare_rules.specs.Context.{own_type}
use Rattle.hare_rules.specs.Constants.{length_of}
use Rattle.hare_rules.specs.Aggregates.{each_of}
use Rattle.hare_rules.specs.Table.{number_of}
use Rattle.hare_rules.specs.Types.{array_of}
use Rattle.hare_rules.specs.Rows.{holds, stands, small_array}
use Rattle.rule_judge.specs.Settings.{setting_of}
use Rattle.hare_seen.specs.Sizes.{is_small_at}
use Rattle.rule_types.specs.declared.written.Written.{Written}
use Rattle.rule_types.specs.Contexts.{context_in, own_failing}
use Rattle.rule_types.specs.Known.{IsKnown}
use Rattle.rule_types.specs.Answers.{IsOwnType, IsOwnFault}
use Rattle.rule_types.proofs.OwnLemmas.{failing, met, failed, own_fault, never_unsized, asked}
use Rattle.rule_types.proofs.SmallLemmas.{array_fits}

abbrev length_in : Store → Written → Option ℕ
length_in f t = length_of (setting_of f t.decls.now) (tree_from_front 0 t.kids.now)

pub no_count : (o : Option ℕ) → ((n : ℕ) → ¬ (o ≡ Some n)) → None ≡ o
no_count None h = refl
no_count (Some n) h = absurd (h n refl)

pub no_length : (s : Store) (t : Written) (x : Fault) (p : Place) → x ≡ record { number = number_of row.ArrayLength; place = p } →
    ((f : Store) → stands row.ArrayLength (context_in f t) ≡ p)
    → ((f : Store) → IsLater s f → None ≡ length_in f t) → IsOwnFault s t ki.TypeArray x
no_length s t x p h at z =
    own_fault s t ki.TypeArray row.ArrayLength p x h
    (λ f l. failed (context_in f t) row.ArrayLength (row.ArrayElementSized ∷ row.ArrayTypeSmall ∷ []) (ap is_some (sym (z f l))))
    (λ f l. at f)

module _ (s : Store) (t : Written) (n i : ℕ) (length : (f : Store) → IsLater s f → Some n ≡ length_in f t)
    (e : own_type (tree_from_front 1 t.kids.now) ≡ ty.Of i) where
  rest : (f : Store) → IsLater s f → own_failing ki.TypeArray (context_in f t) ≡
      failing (context_in f t) (row.ArrayElementSized ∷ row.ArrayTypeSmall ∷ [])
  rest f l = met (context_in f t) row.ArrayLength (row.ArrayElementSized ∷ row.ArrayTypeSmall ∷ []) (ap is_some (sym (length f l)))

  sized_row : (f : Store) (b : Bool) → b ≡ has_size_at f i → holds row.ArrayElementSized (context_in f t) ≡ b
  sized_row f b h = ap (λ a. each_of (has_size_at f) (id_in a)) e ∙ sym h

  pub element_unsized : (x : Fault) (p : Place) → x ≡ record { number = number_of row.ArrayElementSized; place = p } →
      ((f : Store) → stands row.ArrayElementSized (context_in f t) ≡ p)
      → ((f : Store) → IsLater s f → false ≡ has_size_at f i) → IsOwnFault s t ki.TypeArray x
  element_unsized x p h at z =
      own_fault s t ki.TypeArray row.ArrayElementSized p x h
      (λ f l. rest f l ∙ failed (context_in f t) row.ArrayElementSized (row.ArrayTypeSmall ∷ []) (sized_row f false (z f l))) (λ f l. at f)

  module _ (u : ℕ) (id : (f : Store) → IsLater s f → id_of f (ro.Array n i) ≡ Some u)
      (sized : (f : Store) → IsLater s f → true ≡ has_size_at f i) where
    small_row : (f : Store) (l : IsLater s f) (b : Bool) → is_small_at f u ≡ b → holds row.ArrayTypeSmall (context_in f t) ≡ b
    small_row f l b h =
        ap₂ (λ (o : Option ℕ) (a : Ty). small_array (context_in f t) o (id_in a)) (sym (length f l)) e ∙ sym
        (array_fits f l.sound u n i (id f l)) ∙ h

    last : (f : Store) → IsLater s f → own_failing ki.TypeArray (context_in f t) ≡ failing (context_in f t) (row.ArrayTypeSmall ∷ [])
    last f l = rest f l ∙ met (context_in f t) row.ArrayElementSized (row.ArrayTypeSmall ∷ []) (sized_row f true (sized f l))

    pub array_large : (x : Fault) (p : Place) → x ≡ record { number = number_of row.ArrayTypeSmall; place = p } →
        ((f : Store) → stands row.ArrayTypeSmall (context_in f t) ≡ p)
        → ((f : Store) → IsLater s f → is_small_at f u ≡ false) → IsOwnFault s t ki.TypeArray x
    array_large x p h at large =
        own_fault s t ki.TypeArray row.ArrayTypeSmall p x h
        (λ f l. last f l ∙ failed (context_in f t) row.ArrayTypeSmall [] (small_row f l false (large f l))) (λ f l. at f)

    pub array_is : IsKnown s u → row_at s u ≡ Some (ro.Array n i) → is_small_at s u ≡ true → IsOwnType s t ki.TypeArray u
    array_is known here small =
        asked s t ki.TypeArray u (λ f l. ap₂ (λ (o : Option ℕ) (a : Ty). array_of (context_in f t) o (id_in a)) (sym (length f l)) e ∙ ap
        typed_as (id f l)) known
        row.ArrayTypeSmall refl (λ f l. refl) (λ f l h. last f l ∙ met (context_in f t) row.ArrayTypeSmall [] (small_row f l true h))
        (λ f l h. last f l ∙ failed (context_in f t) row.ArrayTypeSmall [] (small_row f l false h))
        (λ z. never_unsized s u (ro.Array n i) here refl z) small
