-- What the tables say of a path is what the definitions say of it.
use Rattle.std.proofs.Common.{◌≡◌, ℕ, ◌+◌, List, [], ◌∷◌, ◌++◌, Bool, true, false, cond, ◌&&◌, ◌||◌, not, length, map, filter, find, position, slice_get, bytes_eq, Option, Some, None, is_some, refl, sym, ap, ◌∙◌, true≢false, if◌then◌else◌}
use Rattle.std.specs.Prelude.{option_map, option_and_then}
use Rattle.std.specs.Option.{option_or}
use Rattle.std.specs.List.{list_any, enumerate_from}
use Rattle.std.proofs.lemmas.List.{map-append}
use Rattle.std.proofs.lemmas.List.Folds.{find-append}
use Rattle.hare_tree.specs.Node.{Node}
use Rattle.hare_directory.proofs.TakenNames.First.{names-symmetric, find-filter, find-firsts, enumerate_from-append}
use Rattle.hare_tree.specs.declared.token.Meaning.{Meaning}
use Rattle.hare_tree.specs.declared.token.Meaning.TheVariants as me
use Rattle.hare_modules.specs.Modules.{Module, Source, is_known, runtime}
use Rattle.hare_modules.specs.Uses.{Import, imports, text_of}
use Rattle.hare_modules.specs.Declarations.{Item, item_named, Declared, declarations, name_in, is_exported, declares_type, built_in}
use Rattle.hare_modules.specs.Admitted.{Triple, admitted, admitted_module}
use Rattle.hare_modules.specs.Entries.{entry}
use Rattle.hare_modules.specs.Directory.{Directory, IsDirectoryOf, imported}
use Rattle.hare_blocks.specs.Scopes.{number_of}
use Rattle.hare_names.specs.declared.verdict.Verdict.{Verdict}
use Rattle.hare_names.specs.declared.verdict.Verdict.TheVariants.{Means, Fails}
use Rattle.hare_names.specs.Scopes.{visible}
use Rattle.hare_names.specs.Paths.{Path}
use Rattle.hare_names.specs.Meanings.{Meant, local_meant, local_of, item_meant, unfit_number, member_number, pair_number, number_by, violation_number, meant}
use Rattle.hare_names.specs.Tables.{verdict, fit, local_verdict, exported_only, member_at, imported_verdict, own_verdict, name_verdict, entry_verdict, known_verdict, pair_verdict}
use Rattle.hare_names.proofs.AdmittedLemmas.{the_item, only, member_of, behind_of, admitted-one, admitted-pair, admitted_module-found}

-- what a path means, or None where it means nothing
abbrev pub meaning_or_none : Option Meant → Meaning
meaning_or_none None = me.None
meaning_or_none (Some m) = m.meaning

-- what the definitions say of a path, as a verdict
abbrev pub verdict_of : Option ℕ → Option Meant → Verdict
verdict_of None m = Means (meaning_or_none m)
verdict_of (Some n) m = Fails n

-- a path that means an item
abbrev item_verdict : Path → Option Item → Verdict
item_verdict p o = verdict_of (unfit_number p (option_map item_meant o)) (option_map item_meant o)

fits : (p : Path) (i : Item) → item_verdict p (Some i) ≡ fit p.is_type (entry i)
fits p i = by (p.is_type && not i.is_type)
  where
    by : (b : Bool) → verdict_of (if b then Some 13 else None) (Some (item_meant i)) ≡ (if b then Fails 13 else Means i.meaning)
    by true = refl
    by false = refl

map-map : (o : Option Triple) → option_map (λ t. item_meant t.item) o ≡ option_map item_meant (option_map the_item o)
map-map None = refl
map-map (Some t) = refl

module _ (all : List Source) (s : Source) where
  pub meant-is : (p : Path) (names : List (List ℕ)) → p.names ≡ names →
      meant all s p ≡ option_or (option_map local_meant (local_of p.scopes names))
      (option_map item_meant (option_map the_item (admitted all s names)))
  meant-is p names e =
      ap (λ xs. option_or (option_map local_meant (local_of p.scopes xs)) (option_map (λ t. item_meant t.item) (admitted all s xs))) e
      ∙ ap (option_or (option_map local_meant (local_of p.scopes names))) (map-map (admitted all s names))

-- ---- modules that are not known

abbrev AtHome : List Item → Type 0
AtHome [] = Unit {0}
AtHome (i ∷ is) = (i.home ≡ runtime) × AtHome is

abbrev pub item_number : ℕ × Declared → Item
item_number e = record {
  home = e.1.home;
  name = text_of (name_in e.1.tree);
  exported = is_exported e.1.tree;
  is_type = declares_type e.1.tree;
  meaning = me.Decl e.0;
}

module _ (m : Module) (x : List ℕ) where
  abbrev is_it : Item → Bool
  is_it i = bytes_eq i.home m && bytes_eq i.name x

  built-none : bytes_eq m runtime ≡ false → (is : List Item) → AtHome is → find is_it is ≡ None
  built-none e [] h = refl
  built-none e (i ∷ is) h =
      ap (λ b. cond (b && bytes_eq i.name x) (Some i) (find is_it is)) (ap (λ y. bytes_eq y m) h.0 ∙ names-symmetric runtime m ∙ e)
      ∙ built-none e is h.1

  file-none : (home : Module) → bytes_eq home m ≡ false → (n : ℕ) (ts : List Node) →
      find is_it (map item_number (enumerate_from n (map (λ t. record { home = home; tree = t }) ts))) ≡ None
  file-none home e n [] = refl
  file-none home e n (t ∷ ts) =
      ap (λ b. cond (b && bytes_eq (text_of (name_in t)) x) (Some (item_number (n, record { home = home; tree = t })))
      (find is_it (map item_number (enumerate_from (n + 1) (map (λ u. record { home = home; tree = u }) ts))))) e
      ∙ file-none home e (n + 1) ts

  or-none : (a b : Bool) → (a || b) ≡ false → (a ≡ false) × (b ≡ false)
  or-none false b e = (refl, e)
  or-none true b e = absurd (true≢false e)

  files-none : (n : ℕ) (ss : List Source) → list_any (λ s. bytes_eq s.home m) ss ≡ false →
      find is_it (map item_number (enumerate_from n (declarations ss))) ≡ None
  files-none n [] e = refl
  files-none n (s ∷ ss) e =
      let own : List Declared = map (λ t. record { home = s.home; tree = t }) s.tree.decls in
      let h = or-none (bytes_eq s.home m) (list_any (λ r. bytes_eq r.home m) ss) e in
      ap (λ ds. find is_it (map item_number ds)) (enumerate_from-append n own (declarations ss))
      ∙ ap (find is_it) (map-append item_number (enumerate_from n own) (enumerate_from (n + length own) (declarations ss)))
      ∙ find-append is_it (map item_number (enumerate_from n own)) (map item_number (enumerate_from (n + length own) (declarations ss)))
      ∙ ap (λ o. option_or o (find is_it (map item_number (enumerate_from (n + length own) (declarations ss)))))
      (file-none s.home h.0 n s.tree.decls)
      ∙ files-none (n + length own) ss h.1

  -- such a module declares nothing
  pub unknown-item : (all : List Source) → is_known all m ≡ false → item_named all m x ≡ None
  unknown-item all e =
      let h = or-none (bytes_eq m runtime) (list_any (λ s. bytes_eq s.home m) all) e in
      let others : List Item = map item_number (enumerate_from 0 (declarations all)) in
      find-firsts (λ i. i.name) x (filter (λ i. bytes_eq i.home m) (built_in ++ others))
      ∙ find-filter (λ i. bytes_eq i.name x) (λ i. bytes_eq i.home m) (built_in ++ others)
      ∙ find-append is_it built_in others
      ∙ ap (λ o. option_or o (find is_it others)) (built-none h.0 built_in
      (refl, (refl, (refl, (refl, (refl, (refl, (refl, (refl, tt)))))))))
      ∙ files-none 0 all h.1

unknown-none : (all : List Source) (m : Module) (x : List ℕ) → is_known all m ≡ false → item_named all m x ≡ None
unknown-none all m x e = unknown-item m x all e

module _ (all : List Source) (d : Directory) (f : ℕ) (s : Source) (told : IsDirectoryOf all d) (here : slice_get all f ≡ Some s) where
  -- what a module with this number exports, by the table
  exported-same : (p : Path) (o : Option Item) →
      exported_only p.is_type (option_map entry o) ≡ item_verdict p (option_and_then (only (λ e. e.exported)) o)
  exported-same p None = refl
  exported-same p (Some i) = by i.exported
    where
      by : (b : Bool) → (if b then fit p.is_type (entry i) else Fails 13) ≡ item_verdict p (if b then Some i else None)
      by true = sym (fits p i)
      by false = refl

  -- what a module declares under a name, by its number
  member-told : (m : Module) (x : List ℕ) → member_at d x (position (bytes_eq m) told.known) ≡ option_map entry (item_named all m x)
  member-told m x = by (position (bytes_eq m) told.known) refl
    where
      by : (o : Option ℕ) → position (bytes_eq m) told.known ≡ o → member_at d x o ≡ option_map entry (item_named all m x)
      by (Some n) e = told.items m n x e
      by None e = sym (ap (option_map entry) (unknown-none all m x (sym (told.all_known m) ∙ ap is_some e)))

  -- ---- one name

  import-same : (p : Path) (x : List ℕ) (o : Option Import) →
      imported_verdict d p.is_type x (option_map (imported told.known) o) ≡ item_verdict p (option_and_then (member_of all s x) o)
  import-same p x None = refl
  import-same p x (Some i) = by i.whole
    where
      by : (b : Bool) →
          (if b then Fails 13 else exported_only p.is_type (member_at d x (position (bytes_eq i.from) told.known))) ≡ item_verdict p
          (if b then None else option_and_then (only (λ e. e.exported)) (item_named all i.from x))
      by true = refl
      by false = ap (exported_only p.is_type) (member-told i.from x) ∙ exported-same p (item_named all i.from x)

  own-same : (p : Path) (x : List ℕ) (o : Option Item) →
      own_verdict d f p.is_type x (option_map entry o) ≡ item_verdict p
      (option_or o (option_and_then (member_of all s x) (find (λ i. bytes_eq i.name x) (imports s.tree))))
  own-same p x (Some i) = sym (fits p i)
  own-same p x None = ap (imported_verdict d p.is_type x) (told.imports_are f s x here)
      ∙ import-same p x (find (λ i. bytes_eq i.name x) (imports s.tree))

  local-same : (p : Path) (n : ℕ) → local_verdict p.is_type n ≡ verdict_of (unfit_number p (Some (local_meant n))) (Some (local_meant n))
  local-same p n = by p.is_type
    where
      by : (b : Bool) →
          (if b then Fails 13 else Means (me.Local n)) ≡ verdict_of (if b && true then Some 13 else None) (Some (local_meant n))
      by true = refl
      by false = refl

  name-same : (p : Path) (x : List ℕ) (o : Option ℕ) →
      name_verdict d f p.is_type x o ≡ verdict_of (unfit_number p
      (option_or (option_map local_meant o) (option_map item_meant (option_map the_item (admitted all s (x ∷ []))))))
      (option_or (option_map local_meant o) (option_map item_meant (option_map the_item (admitted all s (x ∷ [])))))
  name-same p x (Some n) = local-same p n
  name-same p x None =
      ap (own_verdict d f p.is_type x) (told.own f s x here) ∙ own-same p x (item_named all s.home x)
      ∙ ap (item_verdict p) (sym (admitted-one all s x))

  -- ---- two names

  entry-same : (p : Path) (o : Option Item) →
      entry_verdict p.is_type (option_map entry o) ≡ verdict_of
      (member_number p (option_map item_meant (option_and_then (only (λ e. e.exported)) o)) o)
      (option_map item_meant (option_and_then (only (λ e. e.exported)) o))
  entry-same p None = refl
  entry-same p (Some i) = by i.exported
    where
      by : (b : Bool) →
          (if b then fit p.is_type (entry i) else Fails 14) ≡ verdict_of
          (if b then unfit_number p (option_map item_meant (if b then Some i else None)) else Some 14)
          (option_map item_meant (if b then Some i else None))
      by true = sym (fits p i)
      by false = refl

  known-same : (p : Path) (x : List ℕ) (i : Import) →
      known_verdict d p.is_type x (position (bytes_eq i.from) told.known) ≡ verdict_of
      (pair_number all p (option_map item_meant (option_and_then (only (λ e. e.exported)) (item_named all i.from x))) x
      (if is_known all i.from then Some i else None)) (option_map item_meant
      (option_and_then (only (λ e. e.exported)) (item_named all i.from x)))
  known-same p x i = by (position (bytes_eq i.from) told.known) refl (is_known all i.from) (told.all_known i.from)
    where
      by : (o : Option ℕ) → position (bytes_eq i.from) told.known ≡ o → (b : Bool) → is_some (position (bytes_eq i.from) told.known) ≡ b →
          known_verdict d p.is_type x o ≡ verdict_of (pair_number all p
          (option_map item_meant (option_and_then (only (λ e. e.exported)) (item_named all i.from x))) x (if b then Some i else None))
          (option_map item_meant (option_and_then (only (λ e. e.exported)) (item_named all i.from x)))
      by (Some n) e true k = ap (entry_verdict p.is_type) (told.items i.from n x e) ∙ entry-same p (item_named all i.from x)
      by None e false k = refl
      by (Some n) e false k = absurd (true≢false (sym (ap is_some e) ∙ k))
      by None e true k = absurd (true≢false (sym k ∙ ap is_some e))

  pair-same : (p : Path) (x : List ℕ) (o : Option Import) →
      pair_verdict d p.is_type x (option_map (imported told.known) o) ≡ verdict_of
      (pair_number all p (option_map item_meant (option_and_then (behind_of all s x) o)) x
      (option_and_then (only (λ i. i.whole && is_known all i.from)) o)) (option_map item_meant (option_and_then (behind_of all s x) o))
  pair-same p x None = refl
  pair-same p x (Some i) = by i.whole
    where
      by : (b : Bool) →
          (if b then known_verdict d p.is_type x (position (bytes_eq i.from) told.known) else Fails 13) ≡ verdict_of
          (pair_number all p (option_map item_meant (if b then option_and_then (only (λ e. e.exported))
          (item_named all i.from x) else None)) x (if b && is_known all i.from then Some i else None))
          (option_map item_meant (if b then option_and_then (only (λ e. e.exported)) (item_named all i.from x) else None))
      by true = known-same p x i
      by false = refl

  -- ---- all paths

  pub judged : (p : Path) → verdict d f p.is_type (visible p.scopes) p.names ≡ verdict_of (violation_number all s p) (meant all s p)
  judged p = by p.names refl
    where
      by : (names : List (List ℕ)) → p.names ≡ names →
          verdict d f p.is_type (visible p.scopes) names ≡ verdict_of (number_by all s p names) (meant all s p)
      by [] e = refl
      by (x ∷ []) e = name-same p x (number_of x (visible p.scopes))
          ∙ ap (λ o. verdict_of (unfit_number p o) o) (sym (meant-is all s p (x ∷ []) e))
      by (m ∷ x ∷ []) e =
          ap (pair_verdict d p.is_type x) (told.imports_are f s m here)
          ∙ pair-same p x (find (λ i. bytes_eq i.name m) (imports s.tree))
          ∙ ap (λ o. verdict_of (pair_number all p (option_map item_meant
          (option_and_then (behind_of all s x) (find (λ i. bytes_eq i.name m) (imports s.tree)))) x o)
          (option_map item_meant (option_and_then (behind_of all s x) (find (λ i. bytes_eq i.name m) (imports s.tree)))))
          (sym (admitted_module-found all s m x))
          ∙ ap (λ o. verdict_of (pair_number all p (option_map item_meant o) x (admitted_module all s m)) (option_map item_meant o))
          (sym (admitted-pair all s m x))
          ∙ ap (λ o. verdict_of (pair_number all p o x (admitted_module all s m)) o) (sym (meant-is all s p (m ∷ x ∷ []) e))
      by (m ∷ x ∷ y ∷ ys) e = refl
