-- Structs and tuples that meet their rows, and those that fail one.
use Rattle.std.proofs.Common.{◌≡◌, ℕ, Bool, true, false, List, [], ◌∷◌, Some, None, refl, ap, sym, ◌∙◌}
use Rattle.std.specs.Prelude.{option_and_then}
use Rattle.std.specs.Option.{unwrap_or}
use Rattle.hare_tree.specs.declared.kind.Kind.TheVariants as ki
use Rattle.hare_tree.specs.declared.place.Place.{Place}
use Rattle.hare_tree.specs.declared.place.Fault.{Fault}
use Rattle.hare_types.specs.declared.lists.Field.{Field}
use Rattle.hare_types.specs.declared.row.Row.TheVariants as ro
use Rattle.hare_types.specs.Store.{Store}
use Rattle.hare_types.specs.ByIds.{row_at}
use Rattle.hare_types.specs.Later.{IsLater}
use Rattle.hare_types.specs.Unions.{id_of}
use Rattle.hare_rules.specs.declared.row_id.RowId.TheVariants as row
use Rattle.hare_rules.specs.Words.{typed_as}
use Rattle.hare_rules.specs.Aggregates.{but_last, field_types, all_sized, fields_small}
use Rattle.hare_rules.specs.Table.{number_of}
use Rattle.hare_rules.specs.Written.{part_ids, fields}
use Rattle.hare_rules.specs.Rows.{holds, stands}
use Rattle.hare_seen.specs.Sizes.{is_small_at}
use Rattle.rule_types.specs.declared.written.Written.{Written}
use Rattle.rule_types.specs.Contexts.{context_in}
use Rattle.rule_types.specs.Known.{IsKnown}
use Rattle.rule_types.specs.Answers.{IsOwnType, IsOwnFault}
use Rattle.rule_types.proofs.OwnLemmas.{failing, met, failed, own_fault, never_unsized, asked}
use Rattle.rule_types.proofs.SmallLemmas.{struct_small, tuple_small}

module _ (s : Store) (t : Written) (ts : List ℕ) (e : part_ids (but_last t.kids.now) ≡ Some ts) where
  sized_row : (f : Store) (b : Bool) → b ≡ all_sized f ts → holds row.FieldsSized (context_in f t) ≡ b
  sized_row f b h = ap (λ o. all_sized f (unwrap_or o [])) e ∙ sym h

  small_row : (f : Store) (b : Bool) → b ≡ fields_small f ts → holds row.FieldsSmall (context_in f t) ≡ b
  small_row f b h = ap (λ o. fields_small f (unwrap_or o [])) e ∙ sym h

  both_met : (f : Store) → true ≡ all_sized f ts → true ≡ fields_small f ts →
      failing (context_in f t) (row.FieldsSized ∷ row.FieldsSmall ∷ []) ≡ None
  both_met f a b = met (context_in f t) row.FieldsSized (row.FieldsSmall ∷ []) (sized_row f true a) ∙ met (context_in f t) row.FieldsSmall
      [] (small_row f true b)

  second_failed : (f : Store) → true ≡ all_sized f ts → false ≡ fields_small f ts →
      failing (context_in f t) (row.FieldsSized ∷ row.FieldsSmall ∷ []) ≡ Some row.FieldsSmall
  second_failed f a b = met (context_in f t) row.FieldsSized (row.FieldsSmall ∷ []) (sized_row f true a) ∙ failed (context_in f t)
      row.FieldsSmall [] (small_row f false b)

  module _ (x : Fault) (p : Place) (at : (f : Store) → stands row.FieldsSized (context_in f t) ≡ p) where
    pub struct_unsized : x ≡ record { number = number_of row.FieldsSized; place = p } →
        ((f : Store) → IsLater s f → false ≡ all_sized f ts) → IsOwnFault s t ki.TypeStruct x
    struct_unsized h z =
        own_fault s t ki.TypeStruct row.FieldsSized p x h
        (λ f l. failed (context_in f t) row.FieldsSized (row.FieldsSmall ∷ []) (sized_row f false (z f l))) (λ f l. at f)

    pub tuple_unsized : x ≡ record { number = number_of row.FieldsSized; place = p } →
        ((f : Store) → IsLater s f → false ≡ all_sized f ts) → IsOwnFault s t ki.TypeTuple x
    tuple_unsized h z =
        own_fault s t ki.TypeTuple row.FieldsSized p x h
        (λ f l. failed (context_in f t) row.FieldsSized (row.FieldsSmall ∷ []) (sized_row f false (z f l))) (λ f l. at f)

module _ (s : Store) (t : Written) (u : ℕ) (ts : List ℕ) (e : part_ids (but_last t.kids.now) ≡ Some ts)
    (id : (f : Store) → IsLater s f → id_of f (ro.Tuple ts) ≡ Some u)
    (sized : (f : Store) → IsLater s f → true ≡ all_sized f ts) where
  pub tuple_is : IsKnown s u → row_at s u ≡ Some (ro.Tuple ts) → is_small_at s u ≡ true → IsOwnType s t ki.TypeTuple u
  tuple_is known here small =
      asked s t ki.TypeTuple u (λ f l. ap (λ o. typed_as (option_and_then (λ us. id_of f (ro.Tuple us)) o)) e ∙ ap typed_as (id f l)) known
      row.FieldsSmall refl (λ f l. refl) (λ f l h. both_met s t ts e f (sized f l) (sym h ∙ tuple_small f l.sound u ts (id f l)))
      (λ f l h. second_failed s t ts e f (sized f l) (sym h ∙ tuple_small f l.sound u ts (id f l)))
      (λ n. never_unsized s u (ro.Tuple ts) here refl n) small

  pub tuple_large : (x : Fault) (p : Place) → x ≡ record { number = number_of row.FieldsSmall; place = p } →
      ((f : Store) → stands row.FieldsSmall (context_in f t) ≡ p)
      → ((f : Store) → IsLater s f → is_small_at f u ≡ false) → IsOwnFault s t ki.TypeTuple x
  tuple_large x p h at large =
      own_fault s t ki.TypeTuple row.FieldsSmall p x h
      (λ f l. second_failed s t ts e f (sized f l) (sym (large f l) ∙ tuple_small f l.sound u ts (id f l))) (λ f l. at f)

module _ (s : Store) (t : Written) (u : ℕ) (fs : List Field) (e : part_ids (but_last t.kids.now) ≡ Some (field_types fs))
    (id : (f : Store) → IsLater s f → id_of f (ro.Struct fs) ≡ Some u)
    (sized : (f : Store) → IsLater s f → true ≡ all_sized f (field_types fs)) where
  pub struct_is : IsKnown s u → row_at s u ≡ Some (ro.Struct fs) → ((f : Store) → IsLater s f → fields f (but_last t.kids.now) ≡ Some fs)
      → is_small_at s u ≡ true → IsOwnType s t ki.TypeStruct u
  struct_is known here value small =
      asked s t ki.TypeStruct u (λ f l. ap (λ o. typed_as (option_and_then (λ us. id_of f (ro.Struct us)) o)) (value f l) ∙ ap typed_as
      (id f l)) known
      row.FieldsSmall refl (λ f l. refl) (λ f l h. both_met s t (field_types fs) e f (sized f l)
      (sym h ∙ struct_small f l.sound u fs (id f l)))
      (λ f l h. second_failed s t (field_types fs) e f (sized f l) (sym h ∙ struct_small f l.sound u fs (id f l)))
      (λ n. never_unsized s u (ro.Struct fs) here refl n) small

  pub struct_large : (x : Fault) (p : Place) → x ≡ record { number = number_of row.FieldsSmall; place = p } →
      ((f : Store) → stands row.FieldsSmall (context_in f t) ≡ p)
      → ((f : Store) → IsLater s f → is_small_at f u ≡ false) → IsOwnFault s t ki.TypeStruct x
  struct_large x p h at large =
      own_fault s t ki.TypeStruct row.FieldsSmall p x h
      (λ f l. second_failed s t (field_types fs) e f (sized f l) (sym (large f l) ∙ struct_small f l.sound u fs (id f l))) (λ f l. at f)
