-- What is known of the bytes of types, where a later store defines no other names.
use Rattle.std.proofs.Common.{◌≡◌, ℕ, ◌<◌, length, Option, Some, None, refl, ap, sym, ◌∙◌, subst}
use Rattle.std.specs.Prelude.{slice_index_or, option_and_then}
use Rattle.std.proofs.lemmas.Option.{slice_get-get_or}
use Rattle.hare_types.specs.declared.extent.Extent.{Extent}
use Rattle.hare_types.specs.declared.row.Row.TheVariants as row
use Rattle.hare_types.specs.declared.row.Scalar.TheVariants as keyword
use Rattle.hare_types.specs.Rows.{tree_of, trees}
use Rattle.hare_types.specs.Store.{Store, tree_at, definition_of, meaning_of}
use Rattle.hare_types.specs.Sound.{IsStore}
use Rattle.hare_types.specs.Layout.{following, extent_with}
use Rattle.hare_types.specs.ByIds.{extent_at}
use Rattle.hare_types.specs.Meanings.{IdsMeanTrees}
use Rattle.hare_types.specs.Later.{IsLater, TypesStay}
use Rattle.hare_seen.specs.Seen.{DefinesTheSame, MeasuresTheSame}

module _ (mean : IdsMeanTrees) (stay : TypesStay) (s f : Store) (v : IsStore s) (l : IsLater s f) (same : DefinesTheSame s f) where
  -- the types of the earlier store are the same in the later one
  tree_stays : (t : ℕ) → t < length s.rows → tree_at f t ≡ tree_at s t
  tree_stays t h =
      let r = slice_index_or s.rows t (row.Scalar keyword.Void) in
      let e = (mean s v).tree t r (slice_get-get_or s.rows t (row.Scalar keyword.Void) h) in
      (stay s f v l).tree t (tree_of (trees s.rows) r) e ∙ sym e

  -- names mean the same
  meaning_stays : (d : ℕ) → meaning_of f d ≡ meaning_of s d
  meaning_stays d = ap (option_and_then (tree_at f)) (same d) ∙ by (definition_of s d) refl
    where
      by : (o : Option ℕ) → definition_of s d ≡ o → option_and_then (tree_at f) o ≡ option_and_then (tree_at s) o
      by None e = refl
      by (Some t) e = tree_stays t (v.defined_within d t e)

  pub measures : MeasuresTheSame s f
  measures u h = by (extent_at f u) refl (extent_at s u) refl
    where
      names : meaning_of f ≡ meaning_of s
      names = λ k d. meaning_stays d k

      -- an extent in the later store is one in the earlier store
      back : (x : Extent) → extent_at f u ≡ Some x → extent_at s u ≡ Some x
      back x e =
          let lies = ((mean f l.sound).extent u x).0 e in
          let here : tree_at s u ≡ Some lies.0 = sym (tree_stays u h) ∙ lies.1 in
          let spans : following extent_with (meaning_of s) lies.2.0 lies.0 ≡ Some x =
          subst (λ m. following extent_with m lies.2.0 lies.0 ≡ Some x) names lies.2.1 in
          ((mean s v).extent u x).1 (lies.0, here, (lies.2.0, spans))

      by : (a : Option Extent) → extent_at f u ≡ a → (b : Option Extent) → extent_at s u ≡ b → extent_at f u ≡ extent_at s u
      by None e None g = e ∙ sym g
      by None e (Some x) g = (stay s f v l).extent u x g ∙ sym g
      by (Some x) e b g = e ∙ sym (back x e)
