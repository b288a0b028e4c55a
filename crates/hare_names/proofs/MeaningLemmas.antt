-- What is noted of a program is what its definitions say.
use Rattle.std.proofs.Common.{◌≡◌, ◌⊎◌, inl, inr, ℕ, ◌+◌, ◌<◌, List, [], ◌∷◌, ◌++◌, Bool, true, false, cond, ◌||◌, ◌&&◌, ◌==◌, nat_lt, length, slice_get, Option, Some, None, refl, sym, ap, ◌∙◌, subst, suc, add-zero, true≢false, arith}
use Rattle.std.specs.Prelude.{option_map, Contains}
use Rattle.std.specs.List.{flat_map}
use Rattle.std.specs.Option.{option_or}
use Rattle.std.proofs.lemmas.Bool.{ltb-true, and_parts}
use Rattle.std.proofs.lemmas.List.Concat.{flat_map-append}
use Rattle.std.proofs.lemmas.List.Folds.{flat_map-map}
use Rattle.std.proofs.lemmas.List.Elements.{Contains-append_cases, Contains-append_left, Contains-append_right}
use Rattle.hare_tree.specs.declared.place.Place.{Place}
use Rattle.hare_tree.specs.declared.place.Fault.{Fault}
use Rattle.hare_tree.specs.declared.tree.FileTree.{FileTree}
use Rattle.hare_tree.specs.Node.{Node}
use Rattle.hare_lex.specs.Order.{is_before}
use Rattle.hare_modules.specs.Order.{fault, same_place}
use Rattle.hare_modules.specs.Modules.{Source, sources, module_of}
use Rattle.hare_modules.specs.Directory.{Directory, IsDirectoryOf}
use Rattle.hare_graph.proofs.Elements.{Contains-none, Contains-cases, Contains-here, Contains-behind}
use Rattle.hare_names.specs.declared.verdict.Verdict.{Verdict}
use Rattle.hare_names.specs.declared.verdict.Verdict.TheVariants.{Means, Fails}
use Rattle.hare_names.specs.Paths.{Path, paths_of, paths_of_file}
use Rattle.hare_names.specs.Meanings.{meant, violation_number, path_violation}
use Rattle.hare_names.specs.Tables.{meaning_at}
use Rattle.hare_names.specs.Rises.{Rises}
use Rattle.hare_names.proofs.JudgedLemmas.{meaning_or_none, verdict_of, judged}
use Rattle.hare_names.proofs.SpotLemmas.{spot_of, spots-in}
use Rattle.hare_names.proofs.ListedLemmas.{Meanings, faults_by, meanings_by, spot_faults, spot_meanings, decl_faults, decl_meanings, faults_from, same-is, same-itself, meaning-append}

-- ---- lists

pub record Within {A B : Type 0} (g : A → List B) (xs : List A) (y : B) : Type 0 where
  pub from : A
  pub among : Contains xs from
  pub gives : Contains (g from) y

pub Contains-flat_map : {A B : Type 0} (g : A → List B) (xs : List A) (y : B) → Contains (flat_map g xs) y → Within g xs y
Contains-flat_map g [] y c = absurd (Contains-none y c)
Contains-flat_map g (x ∷ xs) y c = by (λ d. Contains-flat_map g xs y d) (Contains-append_cases (g x) (flat_map g xs) y c)
  where
    by : (Contains (flat_map g xs) y → Within g xs y) → Contains (g x) y ⊎ Contains (flat_map g xs) y → Within g (x ∷ xs) y
    by more (inl d) = record { from = x; among = Contains-here x xs; gives = d }
    by more (inr d) = let w = more d in record { from = w.from; among = Contains-behind x w.from xs w.among; gives = w.gives }

pub Contains-to_flat_map : {A B : Type 0} (g : A → List B) (xs : List A) (x : A) (y : B) → Contains xs x → Contains (g x) y →
    Contains (flat_map g xs) y
Contains-to_flat_map g [] x y c d = absurd (Contains-none x c)
Contains-to_flat_map g (z ∷ zs) x y c d = by (λ e. Contains-to_flat_map g zs x y e d) (Contains-cases z x zs c)
  where
    by : (Contains zs x → Contains (flat_map g zs) y) → (z ≡ x) ⊎ Contains zs x → Contains (g z ++ flat_map g zs) y
    by more (inl e) = Contains-append_left (g z) (flat_map g zs) y (subst (λ w. Contains (g w) y) (sym e) d)
    by more (inr e) = Contains-append_right (g z) (flat_map g zs) y (more e)

flat_map-same : {A B : Type 0} (g h : A → List B) → ((x : A) → g x ≡ h x) → (xs : List A) → flat_map g xs ≡ flat_map h xs
flat_map-same g h e [] = refl
flat_map-same g h e (x ∷ xs) = ap (λ ys. ys ++ flat_map g xs) (e x) ∙ ap (λ ys. h x ++ ys) (flat_map-same g h e xs)

flat_map-flat_map : {A B C : Type 0} (g : B → List C) (h : A → List B) (xs : List A) →
    flat_map g (flat_map h xs) ≡ flat_map (λ x. flat_map g (h x)) xs
flat_map-flat_map g h [] = refl
flat_map-flat_map g h (x ∷ xs) = flat_map-append g (h x) (flat_map h xs) ∙ ap (λ ys. flat_map g (h x) ++ ys) (flat_map-flat_map g h xs)

-- ---- a file

-- what the definitions say of a path of a file
abbrev pub path_verdict : List Source → Source → Path → Verdict
path_verdict all s p = verdict_of (violation_number all s p) (meant all s p)

abbrev pub path_faults : List Source → Source → Path → List Fault
path_faults all s p = faults_by p.place (path_verdict all s p)

abbrev pub path_meanings : List Source → Source → Path → Meanings
path_meanings all s p = meanings_by p.place (path_verdict all s p)

module _ (all : List Source) (d : Directory) (f : ℕ) (s : Source) (told : IsDirectoryOf all d) (here : slice_get all f ≡ Some s) where
  decl-faults : (t : Node) → decl_faults d f t ≡ flat_map (path_faults all s) (paths_of t)
  decl-faults t =
      ap (flat_map (spot_faults d f)) (sym (spots-in 0 [] t))
      ∙ flat_map-map (spot_faults d f) spot_of (paths_of t)
      ∙ flat_map-same (λ p. spot_faults d f (spot_of p)) (path_faults all s)
      (λ p. ap (faults_by p.place) (judged all d f s told here p)) (paths_of t)

  decl-meanings : (t : Node) → decl_meanings d f t ≡ flat_map (path_meanings all s) (paths_of t)
  decl-meanings t =
      ap (flat_map (spot_meanings d f)) (sym (spots-in 0 [] t))
      ∙ flat_map-map (spot_meanings d f) spot_of (paths_of t)
      ∙ flat_map-same (λ p. spot_meanings d f (spot_of p)) (path_meanings all s)
      (λ p. ap (meanings_by p.place) (judged all d f s told here p)) (paths_of t)

  pub file-meanings : (ts : List Node) → flat_map (decl_meanings d f) ts ≡ flat_map (path_meanings all s) (flat_map paths_of ts)
  file-meanings ts = flat_map-same (decl_meanings d f) (λ t. flat_map (path_meanings all s) (paths_of t)) decl-meanings ts
      ∙ sym (flat_map-flat_map (path_meanings all s) paths_of ts)

-- a violation at a path of a file
pub record IsPathFault (all : List Source) (s : Source) (x : Fault) : Type 0 where
  pub path : Path
  pub is_path : Contains (paths_of_file s.tree) path
  pub breaks : path_violation all s path ≡ Some x

path-fault-to : (all : List Source) (s : Source) (p : Path) (x : Fault) → Contains (path_faults all s p) x → path_violation all s p ≡ Some x
path-fault-to all s p x c = by (violation_number all s p) c
  where
    by : (o : Option ℕ) → Contains (faults_by p.place (verdict_of o (meant all s p))) x → option_map (λ n. fault n p.place) o ≡ Some x
    by None d = absurd (Contains-none x d)
    by (Some n) d = by-cases (Contains-cases (fault n p.place) x [] d)
      where
        by-cases : (fault n p.place ≡ x) ⊎ Contains [] x → Some (fault n p.place) ≡ Some x
        by-cases (inl e) = ap Some e
        by-cases (inr e) = absurd (Contains-none x e)

path-fault-from : (all : List Source) (s : Source) (p : Path) (x : Fault) → path_violation all s p ≡ Some x →
    Contains (path_faults all s p) x
path-fault-from all s p x e = by (violation_number all s p) e
  where
    by : (o : Option ℕ) → option_map (λ n. fault n p.place) o ≡ Some x → Contains (faults_by p.place (verdict_of o (meant all s p))) x
    by None d = absurd cc
    by (Some n) d = let same : fault n p.place ≡ x = cc in subst (λ y. Contains (fault n p.place ∷ []) y) same
        (Contains-here (fault n p.place) [])

module _ (all : List Source) (d : Directory) (f : ℕ) (s : Source) (told : IsDirectoryOf all d) (here : slice_get all f ≡ Some s) where
  file-to : (x : Fault) → Contains (flat_map (decl_faults d f) s.tree.decls) x → IsPathFault all s x
  file-to x c =
      let w = Contains-flat_map (decl_faults d f) s.tree.decls x c in
      let own = subst (λ fs. Contains fs x) (decl-faults all d f s told here w.from) w.gives in
      let v = Contains-flat_map (path_faults all s) (paths_of w.from) x own in
      record {
        path = v.from;
        is_path = Contains-to_flat_map paths_of s.tree.decls w.from v.from w.among v.among;
        breaks = path-fault-to all s v.from x v.gives;
      }

  file-from : (x : Fault) → IsPathFault all s x → Contains (flat_map (decl_faults d f) s.tree.decls) x
  file-from x v =
      let w = Contains-flat_map paths_of s.tree.decls v.path v.is_path in
      let inside = Contains-to_flat_map (path_faults all s) (paths_of w.from) v.path x w.gives (path-fault-from all s v.path x v.breaks) in
      Contains-to_flat_map (decl_faults d f) s.tree.decls w.from x w.among
      (subst (λ fs. Contains fs x) (sym (decl-faults all d f s told here w.from)) inside)

-- ---- all files

pub record InFile (all ss : List Source) (x : Fault) : Type 0 where
  pub source : Source
  pub is_source : Contains ss source
  pub violation : IsPathFault all source x

-- the sources from one on stand in the program at their numbers
abbrev pub Stands : List Source → ℕ → List Source → Type 0
Stands all f ss = (i : ℕ) (s : Source) → slice_get ss i ≡ Some s → slice_get all (f + i) ≡ Some s

pub stands-next : (all : List Source) (f : ℕ) (s : Source) (ss : List Source) → Stands all f (s ∷ ss) → Stands all (f + 1) ss
stands-next all f s ss h i r e = let j : f + suc i ≡ f + 1 + i = omega arith in subst (λ k. slice_get all k ≡ Some r) j (h (suc i) r e)

pub stands-here : (all : List Source) (f : ℕ) (s : Source) (ss : List Source) → Stands all f (s ∷ ss) → slice_get all f ≡ Some s
stands-here all f s ss h = subst (λ k. slice_get all k ≡ Some s) (add-zero f) (h 0 s refl)

abbrev pub source_of : List ℕ → FileTree → Source
source_of p t = record { home = module_of p; tree = t }

module _ (all : List Source) (d : Directory) (told : IsDirectoryOf all d) where
  pub faults-to : (f : ℕ) (ps : List (List ℕ)) (ts : List FileTree) (x : Fault) → length ts ≡ length ps → Stands all f (sources ps ts) →
      Contains (faults_from d f ts) x → InFile all (sources ps ts) x
  faults-to f ps [] x l h c = absurd (Contains-none x c)
  faults-to f [] (t ∷ ts) x l h c = absurd (omega (arith, l))
  faults-to f (p ∷ ps) (t ∷ ts) x l h c =
      by (λ e. faults-to (f + 1) ps ts x (omega (arith, l)) (stands-next all f (source_of p t) (sources ps ts) h) e)
      (Contains-append_cases (flat_map (decl_faults d f) t.decls) (faults_from d (f + 1) ts) x c)
    where
      by : (Contains (faults_from d (f + 1) ts) x → InFile all (sources ps ts) x) →
          Contains (flat_map (decl_faults d f) t.decls) x ⊎ Contains (faults_from d (f + 1) ts) x →
          InFile all (sources (p ∷ ps) (t ∷ ts)) x
      by more (inl e) = record {
        source = source_of p t;
        is_source = Contains-here (source_of p t) (sources ps ts);
        violation =
            file-to all d f (source_of p t) told (stands-here all f (source_of p t) (sources ps ts) h) x e;
      }
      by more (inr e) = let r = more e in record {
        source = r.source;
        is_source = Contains-behind (source_of p t) r.source
            (sources ps ts) r.is_source;
        violation = r.violation;
      }

  pub faults-from : (f : ℕ) (ps : List (List ℕ)) (ts : List FileTree) (s : Source) (x : Fault) → Stands all f (sources ps ts) →
      Contains (sources ps ts) s → IsPathFault all s x → Contains (faults_from d f ts) x
  faults-from f [] ts s x h c v = absurd (Contains-none s c)
  faults-from f (p ∷ ps) [] s x h c v = absurd (Contains-none s c)
  faults-from f (p ∷ ps) (t ∷ ts) s x h c v =
      by (λ e. faults-from (f + 1) ps ts s x (stands-next all f (source_of p t) (sources ps ts) h) e v)
      (Contains-cases (source_of p t) s (sources ps ts) c)
    where
      by : (Contains (sources ps ts) s → Contains (faults_from d (f + 1) ts) x) → (source_of p t ≡ s) ⊎ Contains (sources ps ts) s →
          Contains (faults_from d f (t ∷ ts)) x
      by more (inl e) = Contains-append_left (flat_map (decl_faults d f) t.decls) (faults_from d (f + 1) ts) x
          (file-from all d f (source_of p t) told (stands-here all f (source_of p t) (sources ps ts) h) x
          (subst (λ r. IsPathFault all r x) (sym e) v))
      by more (inr e) = Contains-append_right (flat_map (decl_faults d f) t.decls) (faults_from d (f + 1) ts) x (more e)

-- ---- meanings at places

before-differs : (p q : Place) → is_before p q ≡ true → same_place q p ≡ false
before-differs p q e = by (same_place q p) refl
  where
    irreflexive : (a : ℕ) → nat_lt a a ≡ true → ⊥
    irreflexive a h = let l : a < a = ltb-true a a h in omega arith

    or-cases : (a b : Bool) → (a || b) ≡ true → (a ≡ true) ⊎ (b ≡ true)
    or-cases true b h = inl refl
    or-cases false b h = inr h

    not-itself : (r : Place) → is_before r r ≡ true → ⊥
    not-itself r h = by-file (or-cases (nat_lt r.file r.file) _ h)
      where
        by-column : (nat_lt r.line r.line ≡ true) ⊎ ((r.line == r.line && nat_lt r.column r.column) ≡ true) → ⊥
        by-column (inl k) = irreflexive r.line k
        by-column (inr k) = irreflexive r.column (and_parts (r.line == r.line) (nat_lt r.column r.column) k).1

        by-file : (nat_lt r.file r.file ≡ true) ⊎ ((r.file == r.file &&
            (nat_lt r.line r.line || (r.line == r.line && nat_lt r.column r.column))) ≡ true) →
            ⊥
        by-file (inl k) = irreflexive r.file k
        by-file (inr k) = by-column (or-cases (nat_lt r.line r.line) _ (and_parts (r.file == r.file) _ k).1)

    by : (b : Bool) → same_place q p ≡ b → b ≡ false
    by false h = refl
    by true h = absurd (not-itself p (subst (λ r. is_before p r ≡ true) (same-is q p h) e))

module _ (all : List Source) (s : Source) where
  -- nothing is found where no path stands
  path-elsewhere : (q : Place) (v : Verdict) (p : Place) → (p ≡ q → ⊥) → meaning_at q (meanings_by p v) ≡ None
  path-elsewhere q (Fails n) p e = refl
  path-elsewhere q (Means m) p e = by (same_place q p) refl
    where
      by : (b : Bool) → same_place q p ≡ b → cond b (Some m) None ≡ None
      by false h = refl
      by true h = absurd (e (sym (same-is q p h)))

  pub elsewhere : (q : Place) (ps : List Path) → ((p : Path) → Contains ps p → p.place ≡ q → ⊥) →
      meaning_at q (flat_map (path_meanings all s) ps) ≡ None
  elsewhere q [] e = refl
  elsewhere q (p ∷ ps) e =
      meaning-append q (path_meanings all s p) (flat_map (path_meanings all s) ps)
      ∙ ap (λ o. option_or o (meaning_at q (flat_map (path_meanings all s) ps)))
      (path-elsewhere q (path_verdict all s p) p.place (e p (Contains-here p ps)))
      ∙ elsewhere q ps (λ r c. e r (Contains-behind p r ps c))

  -- a path without a violation is found
  path-there : (p : Path) → violation_number all s p ≡ None →
      meaning_at p.place (path_meanings all s p) ≡ Some (meaning_or_none (meant all s p))
  path-there p e =
      ap (λ o. meaning_at p.place (meanings_by p.place (verdict_of o (meant all s p)))) e
      ∙ ap (λ b. cond b (Some (meaning_or_none (meant all s p))) None) (same-itself p.place)

  pub at-path : (ps : List Path) (p : Path) → Rises ps → Contains ps p → violation_number all s p ≡ None →
      meaning_at p.place (flat_map (path_meanings all s) ps) ≡ Some (meaning_or_none (meant all s p))
  at-path [] p r c e = absurd (Contains-none p c)
  at-path (q ∷ ps) p r c e =
      meaning-append p.place (path_meanings all s q) (flat_map (path_meanings all s) ps)
      ∙ by (λ h. at-path ps p r.1 h e) (Contains-cases q p ps c)
    where
      by : (Contains ps p → meaning_at p.place (flat_map (path_meanings all s) ps) ≡ Some (meaning_or_none (meant all s p))) →
          (q ≡ p) ⊎ Contains ps p →
          option_or (meaning_at p.place (path_meanings all s q)) (meaning_at p.place (flat_map (path_meanings all s) ps)) ≡ Some
          (meaning_or_none (meant all s p))
      by more (inl h) = ap (λ o. option_or o (meaning_at p.place (flat_map (path_meanings all s) ps)))
          (ap (λ x. meaning_at p.place (path_meanings all s x)) h ∙ path-there p e)
      by more (inr h) =
          ap (λ o. option_or o (meaning_at p.place (flat_map (path_meanings all s) ps)))
          (path-elsewhere p.place (path_verdict all s q) q.place
          (λ k. true≢false (sym (same-itself p.place) ∙ ap (λ x. same_place p.place x) (sym k)
          ∙ before-differs q.place p.place (r.0 p h))))
          ∙ more h
