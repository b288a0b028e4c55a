-- The answer of `resolve` is what the definitions say.
use Rattle.std.proofs.Common.{◌≡◌, ◌⊎◌, inl, inr, ℕ, ◌+◌, List, [], ◌∷◌, fold, length, slice_get, Option, Some, None, refl, sym, ap, ◌∙◌, subst, suc, zero-add, add-zero, arith}
use Rattle.std.specs.Prelude.{option_map, Contains}
use Rattle.std.specs.List.{flat_map}
use Rattle.std.specs.Option.{option_or}
use Rattle.hare_tree.specs.declared.place.Place.{Place}
use Rattle.hare_tree.specs.declared.place.Fault.{Fault}
use Rattle.hare_tree.specs.declared.tree.FileTree.{FileTree}
use Rattle.hare_modules.specs.Order.{fault, earlier, earlier_of, TellsFirst}
use Rattle.hare_modules.specs.Modules.{Source, sources}
use Rattle.hare_modules.specs.Faults.{IsModuleFault}
use Rattle.hare_modules.specs.Directory.{Directory, IsDirectoryOf, AreNumbered}
use Rattle.hare_graph.proofs.Elements.{Contains-none, Contains-cases, Contains-here, Contains-behind}
use Rattle.hare_modules.proofs.OrderLemmas.{first-of-list, first-of-both, first-in}
use Rattle.hare_names.specs.declared.notes.Notes.{Notes}
use Rattle.hare_names.specs.Paths.{Path, paths_of_file}
use Rattle.hare_names.specs.Doubled.{doubled_names}
use Rattle.hare_names.specs.Meanings.{meant, violation_number}
use Rattle.hare_names.specs.Violations.{IsPathOf, IsViolation, of_modules, doubled, of_path, AreMeanings, IsMeaningOf}
use Rattle.hare_names.specs.Tables.{meaning_at}
use Rattle.hare_names.specs.Noted.{files_noted}
use Rattle.hare_names.specs.Answers.{AreFiles, meaning_in, or_no_meaning}
use Rattle.hare_names.specs.Rises.{IsOrdered}
use Rattle.hare_names.proofs.ListedLemmas.{decl_meanings, faults_from, meanings_from, files-first, files-places, meaning-all, meaning-append}
use Rattle.hare_names.proofs.MeaningLemmas.{path_meanings, file-meanings, Contains-flat_map, Contains-to_flat_map, Stands, stands-here, stands-next, source_of, faults-to, faults-from, elsewhere, at-path}
use Rattle.hare_names.proofs.JudgedLemmas.{meaning_or_none}
use Rattle.hare_names.proofs.OrderLemmas.{ordered}
use Rattle.hare_names.proofs.SomethingLemmas.{fine-meant, fine-something}

pub files-numbered : (ps : List (List ℕ)) (ts : List FileTree) → AreFiles ps ts → AreNumbered ps ts
files-numbered ps ts h = record { paired = h.paired; numbered = λ k t e. (h.files k t e).file_is; few_decls = h.few_decls }

-- a file of the program is one of its trees
record Number (ts : List FileTree) (s : Source) : Type 0 where
  number : ℕ
  is : slice_get ts number ≡ Some s.tree

number-of : (ps : List (List ℕ)) (ts : List FileTree) (s : Source) → Contains (sources ps ts) s → Number ts s
number-of [] ts s c = absurd (Contains-none s c)
number-of (p ∷ ps) [] s c = absurd (Contains-none s c)
number-of (p ∷ ps) (t ∷ ts) s c = by (λ d. number-of ps ts s d) (Contains-cases (source_of p t) s (sources ps ts) c)
  where
    by : (Contains (sources ps ts) s → Number ts s) → (source_of p t ≡ s) ⊎ Contains (sources ps ts) s → Number (t ∷ ts) s
    by go (inl e) = record { number = 0; is = ap (λ r. Some r.tree) e }
    by go (inr d) = let n = go d in record { number = suc n.number; is = n.is }

source-tree : (ps : List (List ℕ)) (ts : List FileTree) (s : Source) → Contains (sources ps ts) s → Contains ts s.tree
source-tree [] ts s c = absurd (Contains-none s c)
source-tree (p ∷ ps) [] s c = absurd (Contains-none s c)
source-tree (p ∷ ps) (t ∷ ts) s c = by (λ d. source-tree ps ts s d) (Contains-cases (source_of p t) s (sources ps ts) c)
  where
    by : (Contains (sources ps ts) s → Contains ts s.tree) → (source_of p t ≡ s) ⊎ Contains (sources ps ts) s → Contains (t ∷ ts) s.tree
    by go (inl e) = subst (λ r. Contains (t ∷ ts) r.tree) e (Contains-here t ts)
    by go (inr d) = Contains-behind t s.tree ts (go d)

-- a tree is that of a file of the program
record OfTree (ps : List (List ℕ)) (ts : List FileTree) (t : FileTree) : Type 0 where
  source : Source
  is_source : Contains (sources ps ts) source
  tree_is : source.tree ≡ t

tree-source : (ps : List (List ℕ)) (ts : List FileTree) (t : FileTree) → length ts ≡ length ps → Contains ts t → OfTree ps ts t
tree-source ps [] t l c = absurd (Contains-none t c)
tree-source [] (u ∷ us) t l c = absurd (omega (arith, l))
tree-source (p ∷ ps) (u ∷ us) t l c = by (λ d. tree-source ps us t (omega (arith, l)) d) (Contains-cases u t us c)
  where
    by : (Contains us t → OfTree ps us t) → (u ≡ t) ⊎ Contains us t → OfTree (p ∷ ps) (u ∷ us) t
    by go (inl e) = record { source = source_of p u; is_source = Contains-here (source_of p u) (sources ps us); tree_is = e }
    by go (inr d) = let r = go d in record {
      source = r.source;
      is_source = Contains-behind (source_of p u) r.source (sources ps us) r.is_source;
      tree_is = r.tree_is;
    }

abbrev AreOrdered : ℕ → List FileTree → Type 0
AreOrdered f ts = (i : ℕ) (t : FileTree) → slice_get ts i ≡ Some t → IsOrdered (f + i) t

ordered-next : (f : ℕ) (t : FileTree) (ts : List FileTree) → AreOrdered f (t ∷ ts) → AreOrdered (f + 1) ts
ordered-next f t ts h i u e = let j : f + suc i ≡ f + 1 + i = omega arith in subst (λ k. IsOrdered k u) j (h (suc i) u e)

ordered-here : (f : ℕ) (t : FileTree) (ts : List FileTree) → AreOrdered f (t ∷ ts) → IsOrdered f t
ordered-here f t ts h = subst (λ k. IsOrdered k t) (add-zero f) (h 0 t refl)

module _ (all : List Source) (d : Directory) (told : IsDirectoryOf all d) where
  own-meanings : (f : ℕ) (p : List ℕ) (t : FileTree) (ps : List (List ℕ)) (ts : List FileTree) → Stands all f (sources (p ∷ ps) (t ∷ ts)) →
      flat_map (decl_meanings d f) t.decls ≡ flat_map (path_meanings all (source_of p t)) (paths_of_file t)
  own-meanings f p t ps ts h = file-meanings all d f (source_of p t) told (stands-here all f (source_of p t) (sources ps ts) h) t.decls

  all-elsewhere : (f : ℕ) (ps : List (List ℕ)) (ts : List FileTree) (q : Place) → length ts ≡ length ps → Stands all f (sources ps ts) →
      ((s : Source) (p : Path) → Contains (sources ps ts) s → Contains (paths_of_file s.tree) p → p.place ≡ q → ⊥) →
      meaning_at q (meanings_from d f ts) ≡ None
  all-elsewhere f ps [] q l h e = refl
  all-elsewhere f [] (t ∷ ts) q l h e = absurd (omega (arith, l))
  all-elsewhere f (p ∷ ps) (t ∷ ts) q l h e =
      meaning-append q (flat_map (decl_meanings d f) t.decls) (meanings_from d (f + 1) ts)
      ∙ ap (λ o. option_or o (meaning_at q (meanings_from d (f + 1) ts)))
      (ap (meaning_at q) (own-meanings f p t ps ts h) ∙ elsewhere all (source_of p t) q (paths_of_file t)
      (λ r c. e (source_of p t) r (Contains-here (source_of p t) (sources ps ts)) c))
      ∙ all-elsewhere (f + 1) ps ts q (omega (arith, l)) (stands-next all f (source_of p t) (sources ps ts) h)
      (λ s r c. e s r (Contains-behind (source_of p t) s (sources ps ts) c))

  all-there : (f : ℕ) (ps : List (List ℕ)) (ts : List FileTree) (s : Source) (p : Path) → length ts ≡ length ps →
      Stands all f (sources ps ts) → AreOrdered f ts → Contains (sources ps ts) s → Contains (paths_of_file s.tree) p →
      violation_number all s p ≡ None → meaning_at p.place (meanings_from d f ts) ≡ Some (meaning_or_none (meant all s p))
  all-there f ps [] s p l h o c b v = by ps c
    where
      by : (qs : List (List ℕ)) → Contains (sources qs []) s →
          meaning_at p.place (meanings_from d f []) ≡ Some (meaning_or_none (meant all s p))
      by [] k = absurd (Contains-none s k)
      by (q ∷ qs) k = absurd (Contains-none s k)
  all-there f [] (t ∷ ts) s p l h o c b v = absurd (omega (arith, l))
  all-there f (q ∷ ps) (t ∷ ts) s p l h o c b v =
      meaning-append p.place (flat_map (decl_meanings d f) t.decls) (meanings_from d (f + 1) ts)
      ∙ by (λ k. all-there (f + 1) ps ts s p (omega (arith, l)) (stands-next all f (source_of q t) (sources ps ts) h)
      (ordered-next f t ts o) k b v) (Contains-cases (source_of q t) s (sources ps ts) c)
    where
      own : meaning_at p.place (flat_map (decl_meanings d f) t.decls) ≡ meaning_at p.place
          (flat_map (path_meanings all (source_of q t)) (paths_of_file t))
      own = ap (meaning_at p.place) (own-meanings f q t ps ts h)

      here : source_of q t ≡ s →
          meaning_at p.place (flat_map (path_meanings all (source_of q t)) (paths_of_file t)) ≡ Some (meaning_or_none (meant all s p))
      here e =
          ap (λ r. meaning_at p.place (flat_map (path_meanings all r) (paths_of_file r.tree))) e
          ∙ at-path all s (paths_of_file s.tree) p (subst (λ r. IsOrdered f r.tree) e (ordered-here f t ts o)).rises b v

      apart : Contains (sources ps ts) s → (r : Path) → Contains (paths_of_file t) r → r.place ≡ p.place → ⊥
      apart k r e g =
          let n = number-of ps ts s k in
          let mine : p.place.file ≡ f + 1 + n.number = (ordered-next f t ts o n.number s.tree n.is).of_file p b in
          let theirs : r.place.file ≡ f = (ordered-here f t ts o).of_file r e in
          let same : r.place.file ≡ p.place.file = ap (λ x. x.file) g in
          omega arith

      by : (Contains (sources ps ts) s → meaning_at p.place (meanings_from d (f + 1) ts) ≡ Some (meaning_or_none (meant all s p))) →
          (source_of q t ≡ s) ⊎ Contains (sources ps ts) s →
          option_or (meaning_at p.place (flat_map (decl_meanings d f) t.decls)) (meaning_at p.place (meanings_from d (f + 1) ts)) ≡ Some
          (meaning_or_none (meant all s p))
      by more (inl e) = ap (λ x. option_or x (meaning_at p.place (meanings_from d (f + 1) ts))) (own ∙ here e)
      by more (inr k) = ap (λ x. option_or x (meaning_at p.place (meanings_from d (f + 1) ts)))
          (own ∙ elsewhere all (source_of q t) p.place (paths_of_file t) (apart k)) ∙ more k

-- ---- the whole

module _ (ps : List (List ℕ)) (ts : List FileTree) (d : Directory) (h : AreFiles ps ts) (told : IsDirectoryOf (sources ps ts) d) where
  abbrev all : List Source
  all = sources ps ts

  stands : Stands all 0 all
  stands i s e = subst (λ k. slice_get all k ≡ Some s) (sym (zero-add i)) e

  are-ordered : AreOrdered 0 ts
  are-ordered i t e = subst (λ k. IsOrdered k t) (sym (zero-add i)) (ordered i t (h.files i t e))

  -- a violation elsewhere than at a path
  abbrev IsOther : Fault → Type 0
  IsOther f = IsModuleFault all f ⊎ Contains (flat_map doubled_names ts) f

  abbrev IsAtPath : Fault → Type 0
  IsAtPath f = Contains (faults_from d 0 ts) f

  split : (f : Fault) → IsViolation all f → IsOther f ⊎ IsAtPath f
  split f (of_modules m) = inl (inl m)
  split f (doubled s c e) = inl (inr (Contains-to_flat_map doubled_names ts s.tree f (source-tree ps ts s c) e))
  split f (of_path s p i e) =
      inr (faults-from all d told 0 ps ts s f stands i.is_source (record { path = p; is_path = i.is_path; breaks = e }))

  other : (f : Fault) → IsOther f → IsViolation all f
  other f (inl m) = of_modules m
  other f (inr c) =
      let w = Contains-flat_map doubled_names ts f c in
      let r = tree-source ps ts w.from h.paired w.among in
      doubled r.source r.is_source (subst (λ t. Contains (doubled_names t) f) (sym r.tree_is) w.gives)

  at_path : (f : Fault) → IsAtPath f → IsViolation all f
  at_path f c =
      let r = faults-to all d told 0 ps ts f h.paired stands c in
      of_path r.source r.violation.path record { is_source = r.is_source; is_path = r.violation.is_path } r.violation.breaks

  -- the first violation
  pub resolved-first : (first others : Option Fault) (notes notes' : Notes) → TellsFirst (IsModuleFault all) first →
      others ≡ fold earlier first (flat_map doubled_names ts) → notes.first ≡ None → notes' ≡ files_noted d 0 notes ts →
      TellsFirst (IsViolation all) (earlier_of others notes'.first)
  resolved-first first others notes notes' t o e n =
      let found : notes'.first ≡ fold earlier None (faults_from d 0 ts) = ap (λ m. m.first) n ∙ files-first d 0 notes ts
      ∙ ap (λ x. fold earlier x (faults_from d 0 ts)) e in
      first-of-both IsOther IsAtPath (IsViolation all) split other at_path others notes'.first
      (subst (TellsFirst IsOther) (sym o) (first-of-list (IsModuleFault all) first (flat_map doubled_names ts) t))
      (subst (TellsFirst IsAtPath) (sym found) (first-in (faults_from d 0 ts)))

  -- where there is no violation, each path has its meaning
  pub resolved-meanings : (notes notes' : Notes) → ((f : Fault) → IsViolation all f → ⊥) → notes.places ≡ [] →
      notes' ≡ files_noted d 0 notes ts → AreMeanings all (meaning_in notes'.places)
  resolved-meanings notes notes' none e n = record {
    at_path = λ s p i. meaning-there s p i;
    elsewhere = λ q f. ap or_no_meaning (found q ∙ all-elsewhere all d told 0 ps ts q h.paired stands
        (λ s p c b. f s p record { is_source = c; is_path = b }));
  }
    where
      found : (q : Place) → meaning_at q notes'.places ≡ meaning_at q (meanings_from d 0 ts)
      found q =
          ap (λ m. meaning_at q m.places) n ∙ ap (meaning_at q) (files-places d 0 notes ts)
          ∙ meaning-all q notes.places (meanings_from d 0 ts)
          ∙ ap (λ es. option_or (meaning_at q es) (meaning_at q (meanings_from d 0 ts))) e

      fine : (s : Source) (p : Path) → IsPathOf all s p → violation_number all s p ≡ None
      fine s p i = by (violation_number all s p) refl
        where
          by : (o : Option ℕ) → violation_number all s p ≡ o → o ≡ None
          by None k = refl
          by (Some k) g = absurd (none (fault k p.place) (of_path s p i (ap (option_map (λ m. fault m p.place)) g)))

      meaning-there : (s : Source) (p : Path) → IsPathOf all s p → IsMeaningOf all s p (meaning_in notes'.places p.place)
      meaning-there s p i =
          let m = fine-meant all s p (fine s p i) in
          let value : meaning_in notes'.places p.place ≡ m.0.meaning =
          ap or_no_meaning (found p.place ∙ all-there all d told 0 ps ts s p h.paired stands are-ordered i.is_source i.is_path
          (fine s p i)) ∙ ap meaning_or_none m.1 in
          record {
            meant_as = m.0;
            is_meant = m.1;
            meaning_is = value;
            something = λ e. fine-something all s p (fine s p i) m.0 m.1
                (sym value ∙ e);
          }
