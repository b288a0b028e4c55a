-- What is ready stays so as the store grows, and as more becomes known.
use Rattle.std.proofs.Common.{◌≡◌, ℕ, List, [], ◌++◌, Option, Some, None, ◌∙◌, nat_eq}
use Rattle.std.specs.Option.{option_or}
use Rattle.std.proofs.lemmas.List.Folds.{find-append}
use Rattle.hare_tree.specs.declared.kind.Kind.{Kind}
use Rattle.hare_tree.specs.declared.kind.Kind.TheVariants as ki
use Rattle.hare_types.specs.Store.{Store}
use Rattle.hare_types.specs.Sound.{IsStore}
use Rattle.hare_types.specs.Later.{IsLater}
use Rattle.hare_rules.specs.declared.declared.DeclType.{DeclType}
use Rattle.rule_judge.specs.Meant.{IsKnownKind}
use Rattle.rule_judge.proofs.DefinedLemmas.{defined_stays}
use Rattle.hare_ready.specs.Ready.{AreReady}
use Rattle.hare_turns.specs.Stages.{known_of}
use Rattle.hare_readable.specs.Taken.{AreTaken}
use Rattle.hare_declarations.proofs.JudgedByStage.Lists.{Contains-nil}

-- ---- in later stores

module _ (s r : Store) (v : IsStore s) (l : IsLater s r) where
  kind-later : (n : ℕ) (d : DeclType) (k : Kind) → IsKnownKind s n d k → IsKnownKind r n d k
  kind-later n d ki.TypeDecl h = (h.0, l.grows.defined n h.0 h.1, defined_stays s r v l h.0 h.2)
  kind-later n d _ h = defined_stays s r v l d.ty h

  ready-later : (ds : List DeclType) → AreReady s ds → AreReady r ds
  ready-later ds h d c =
      let q = h d c in
      record { own = kind-later d.decl d d.kind q.own; params = λ i t e. defined_stays s r v l t (q.params i t e) }

  pub taken-later : (ds es : List DeclType) → AreTaken s ds es → AreTaken r ds es
  taken-later ds es h = record { ready = ready-later es h.ready; same = h.same }

-- ---- once more is known

some-or : (o q : Option DeclType) (d : DeclType) → o ≡ Some d → option_or o q ≡ Some d
some-or None q d e = absurd cc
some-or (Some x) q d e = e

-- what is known stays
pub known_of-stays : (ds ks : List DeclType) (n : ℕ) (d : DeclType) → known_of ds n ≡ Some d → known_of (ds ++ ks) n ≡ Some d
known_of-stays ds ks n d e = find-append (λ x. nat_eq x.decl n) ds ks ∙ some-or (known_of ds n) (known_of ks n) d e

pub taken-more : (s : Store) (ds ks es : List DeclType) → AreTaken s ds es → AreTaken s (ds ++ ks) es
taken-more s ds ks es h = record { ready = h.ready; same = λ n d e. known_of-stays ds ks n d (h.same n d e) }

-- before anything is known, all of it is ready
pub taken-none : (s : Store) → AreTaken s [] []
taken-none s = record { ready = λ d c. absurd (Contains-nil d c); same = λ n d e. e }
