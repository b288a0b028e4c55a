-- One written type, and those of a declaration so far.
use Rattle.std.proofs.Common.{◌≡◌, ℕ, ◌+◌, List, [], ◌∷◌, ◌++◌, take, drop, Some, sym, ap, ◌∙◌, subst}
use Rattle.std.specs.Prelude.{nat_eq, slice_get, option_and_then, option_map}
use Rattle.std.specs.Map.{lookup}
use Rattle.std.proofs.lemmas.List.{take-append-drop}
use Rattle.hare_tree.specs.declared.place.Fault.{Fault}
use Rattle.hare_tree.specs.declared.place.Place.{Place}
use Rattle.hare_tree.specs.declared.stop.Stop.{Stop}
use Rattle.hare_tree.specs.declared.stop.Stop.TheVariants.{Fault as Refused, Memory}
use Rattle.hare_tree.specs.declared.token.Meaning.{Meaning}
use Rattle.hare_tree.specs.declared.tree.FileTree.{FileTree}
use Rattle.hare_tree.specs.Node.{Node}
use Rattle.hare_types.specs.declared.declared.Declared.{Declared}
use Rattle.hare_types.specs.Store.{Store}
use Rattle.hare_types.specs.Sound.{IsStore}
use Rattle.hare_typed.specs.Typed.{TypedNode}
use Rattle.hare_typed.proofs.KidLemmas.{take-get}
use Rattle.hare_seen.specs.Sizes.{AllFit}
use Rattle.hare_rules.specs.declared.declared.DeclType.{DeclType}
use Rattle.hare_modules.proofs.ListLemmas.{drop-there}
use Rattle.hare_whole.specs.Listing.{Listing, Written, written_types}
use Rattle.hare_steps.specs.Plans.{listing}
use Rattle.hare_turns.specs.Stages.{AreReadable}
use Rattle.hare_turns.specs.Laws.{IsGrownTo}
use Rattle.hare_turns.specs.Types.{IsTypeOf, AreTypesSoFar, TypesAreJudged}
use Rattle.hare_walk.specs.Grown.{IsGrown}
use Rattle.hare_written.specs.Program.{program_over}
use Rattle.hare_written.specs.Trees.{IsWrittenTree}
use Rattle.hare_written.proofs.Fitting.Fits.{grown-later}
use Rattle.hare_signatures.specs.Listed.{IsTypeStop}
use Rattle.hare_signatures.specs.Signatures.{IsSignatureStop}

-- ---- growth

-- a walk declares and defines nothing
pub grown-to : (s r : Store) → IsGrown s r → IsStore r → IsGrownTo s r
grown-to s r g v = record {
  later = grown-later s r g v;
  declared = λ d. ap (λ (ds : List (ℕ × Declared)). option_map (λ e. e.sized) (lookup (nat_eq d) ds)) g.declared;
  same = λ d. ap (λ (ds : List (ℕ × Declared)). option_and_then (λ e. e.definition) (lookup (nat_eq d) ds)) g.declared;
  sound = v;
}

-- ---- one type

module _ (names : List (Place × Meaning)) (files : List FileTree) (ds : List DeclType) (s : Store) (n : ℕ) (r : Written) where
  -- what is judged, and of which what paths say stays as it is
  pub type-of : (x : TypedNode) → IsWrittenTree (program_over names ds) s n r.0 r.1 x → AreReadable (listing names files) ds r.1 →
      IsTypeOf (listing names files) ds s n r x
  type-of x h a = record {
    stand = h.stands;
    typed = λ f l fit. record { erases = h.erases; plain = h.plain; carries = h.carries f l fit };
    large = h.large;
    readable = subst (AreReadable (listing names files) ds) (sym h.erases) a;
  }

-- ---- some of them

module _ (law : TypesAreJudged) (p : Listing) (ds : List DeclType) (n : ℕ) (t : Node) (s : Store) (v : IsStore s) (i : ℕ)
    (xs : List TypedNode) (h : AreTypesSoFar p ds s n (take i (written_types t)) xs) where
  module _ (r : Written) (there : slice_get (written_types t) i ≡ Some r) (f : Store) (g : IsGrown s f) (w : IsStore f) where
    later : AreTypesSoFar p ds f n (take i (written_types t)) xs
    later = (law p ds s n (take i (written_types t)) xs v h).stay f (grown-to s f g w)

    -- one type more
    pub types-more : (x : TypedNode) → IsTypeOf p ds f n r x → AllFit f (x ∷ []) →
        AreTypesSoFar p ds f n (take (i + 1) (written_types t)) (xs ++ x ∷ [])
    types-more x o k =
        subst (λ rs. AreTypesSoFar p ds f n rs (xs ++ x ∷ [])) (sym (take-get (written_types t) i r there))
        ((law p ds f n (take i (written_types t)) xs w later).more r x o k)

    split : take i (written_types t) ++ r ∷ drop (i + 1) (written_types t) ≡ written_types t
    split =
        ap (λ rs. take i (written_types t) ++ rs) (sym (drop-there (written_types t) i r there)) ∙ take-append-drop i (written_types t)

    -- the next type has a fault
    pub types-stop : (e : Stop Fault) → IsTypeStop p ds f n r e → IsSignatureStop p ds f n t e
    types-stop Memory k = tt
    types-stop (Refused e) k = (law p ds f n (take i (written_types t)) xs w later).stop t r (drop (i + 1) (written_types t)) e split k
