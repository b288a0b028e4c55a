-- The files of a program have one list of trees, and their paths one meaning.
use Rattle.std.proofs.Common.{◌≡◌, ◌≢◌, ◌⊎◌, inl, inr, ℕ, List, Some, refl, ap, sym, ◌∙◌, subst}
use Rattle.std.proofs.lemmas.Bool.{cases_eq}
use Rattle.hare_tree.specs.declared.place.Place.{Place}
use Rattle.hare_tree.specs.declared.token.Meaning.{Meaning}
use Rattle.hare_tree.specs.declared.token.Meaning.TheVariants as me
use Rattle.hare_modules.specs.Modules.{Source, sources}
use Rattle.hare_names.specs.Paths.{Path}
use Rattle.hare_names.specs.Violations.{AreMeanings, IsMeaningOf, IsPathOf}
use Rattle.hare_sources.specs.Named.{TreesAreOne}
use Rattle.hare_unit.specs.Programs.{NamesAreOne}

-- ---- two meanings are one or two

same-numbers : (f : ℕ → Meaning) → ((i j : ℕ) → f i ≡ f j → i ≡ j) → (i j : ℕ) → (f i ≡ f j) ⊎ (f i ≢ f j)
same-numbers f one i j = by (cases_eq i j)
  where
    by : (i ≡ j) ⊎ (i ≢ j) → (f i ≡ f j) ⊎ (f i ≢ f j)
    by (inl e) = inl (ap f e)
    by (inr n) = inr (λ e. n (one i j e))

one-or-two : (a b : Meaning) → (a ≡ b) ⊎ (a ≢ b)
one-or-two (me.Local i) (me.Local j) = same-numbers me.Local (λ k l e. cc) i j
one-or-two (me.Decl i) (me.Decl j) = same-numbers me.Decl (λ k l e. cc) i j
one-or-two (me.Rt i) (me.Rt j) = same-numbers me.Rt (λ k l e. cc) i j
one-or-two me.None me.None = inl refl
one-or-two (me.Local i) (me.Decl j) = inr (λ e. absurd cc)
one-or-two (me.Local i) (me.Rt j) = inr (λ e. absurd cc)
one-or-two (me.Local i) me.None = inr (λ e. absurd cc)
one-or-two (me.Decl i) (me.Local j) = inr (λ e. absurd cc)
one-or-two (me.Decl i) (me.Rt j) = inr (λ e. absurd cc)
one-or-two (me.Decl i) me.None = inr (λ e. absurd cc)
one-or-two (me.Rt i) (me.Local j) = inr (λ e. absurd cc)
one-or-two (me.Rt i) (me.Decl j) = inr (λ e. absurd cc)
one-or-two (me.Rt i) me.None = inr (λ e. absurd cc)
one-or-two me.None (me.Local j) = inr (λ e. absurd cc)
one-or-two me.None (me.Decl j) = inr (λ e. absurd cc)
one-or-two me.None (me.Rt j) = inr (λ e. absurd cc)

-- ---- what paths mean

module _ (ss : List Source) (m n : Place → Meaning) (h : AreMeanings ss m) (k : AreMeanings ss n) where
  -- at a path
  meant-once : (s : Source) (p : Path) (a b : Meaning) → IsMeaningOf ss s p a → IsMeaningOf ss s p b → a ≡ b
  meant-once s p a b i j =
      let both : Some i.meant_as ≡ Some j.meant_as = sym i.is_meant ∙ j.is_meant in
      let same : i.meant_as ≡ j.meant_as = cc in
      i.meaning_is ∙ ap (λ x. x.meaning) same ∙ sym j.meaning_is

  -- where the two differ no path stands, and where none stands they do not differ
  means-at : (q : Place) → m q ≡ n q
  means-at q = by (one-or-two (m q) (n q))
    where
      by : (m q ≡ n q) ⊎ (m q ≢ n q) → m q ≡ n q
      by (inl e) = e
      by (inr differ) =
          let none : (s : Source) (p : Path) → IsPathOf ss s p → p.place ≡ q → ⊥ =
          λ s p i e. differ (ap m (sym e) ∙ meant-once s p (m p.place) (n p.place) (h.at_path s p i) (k.at_path s p i) ∙ ap n e) in
          h.elsewhere q none ∙ sym (k.elsewhere q none)

  means-once : m ≡ n
  means-once = λ i q. means-at q i

pub names-once : TreesAreOne → NamesAreOne
names-once trees paths srcs ts us m n h k =
    let same : ts ≡ us = trees srcs ts us h.read k.read in
    (same, means-once (sources paths us) m n (subst (λ xs. AreMeanings (sources paths xs) m) same h.meanings) k.meanings)
