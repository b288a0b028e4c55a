-- What the names that are taken tell of the names of modules.
use Rattle.std.proofs.Common.{◌≡◌, ℕ, ◌+◌, List, [], ◌∷◌, ◌++◌, Bool, true, false, cond, ◌&&◌, ◌==◌, not, length, map, filter, find, slice_get, bytes_eq, Option, Some, None, refl, sym, ap, ◌∙◌, true≢false}
use Rattle.std.specs.Prelude.{option_map, option_and_then}
use Rattle.std.specs.Option.{option_or}
use Rattle.std.specs.List.{enumerate_from, flat_map}
use Rattle.std.proofs.lemmas.Bool.{eqb-true, eq-eqb}
use Rattle.std.proofs.lemmas.List.{map-append, length-map}
use Rattle.std.proofs.lemmas.List.Folds.{find-append}
use Rattle.std.proofs.lemmas.Slice.Eq.{bytes_eq-Decides}
use Rattle.hare_tree.specs.declared.tree.FileTree.{FileTree}
use Rattle.hare_tree.specs.declared.token.Meaning.TheVariants as me
use Rattle.hare_tree.specs.Node.{Node, head}
use Rattle.hare_modules.specs.declared.imports.Imported.{Imported}
use Rattle.hare_modules.specs.declared.items.Entry.{Entry}
use Rattle.hare_modules.specs.declared.claims.Taker.{Taker}
use Rattle.hare_modules.specs.declared.claims.Taker.TheVariants as ta
use Rattle.hare_modules.specs.Modules.{Module, sources, module_of, runtime, same_module}
use Rattle.hare_modules.specs.Uses.{text_of, names_brought, is_braced}
use Rattle.hare_modules.specs.Declarations.{Declared, declarations, name_in, is_exported, declares_type, Item, built_in, item_named}
use Rattle.hare_modules.specs.Entries.{entry, entry_of}
use Rattle.hare_modules.specs.Numbering.{AreHomes, IsNumbering}
use Rattle.hare_modules.specs.Takings.{Taking, is_import, named, number_used, use_takings, decl_takings, takings}
use Rattle.hare_modules.specs.Taken.{declared, declares, declared_among, built_in_taking, built_in_takings}
use Rattle.hare_directory.proofs.TakenNames.First.{names-symmetric, find-filter, find-firsts, option_map-or, found, found-append, enumerate_from-append}

-- two modules are one where their numbers are
pub number-same : (ms known : List Module) (homes : List ℕ) → IsNumbering ms known homes → (h k : ℕ) (a m : Module) →
    slice_get known h ≡ Some a → slice_get known k ≡ Some m → (h == k) ≡ bytes_eq a m
number-same ms known homes n h k a m e d = by (h == k) refl (bytes_eq a m) refl
  where
    by : (b : Bool) → (h == k) ≡ b → (c : Bool) → bytes_eq a m ≡ c → b ≡ c
    by true p true q = refl
    by false p false q = refl
    by true p false q =
        let f : Some a ≡ Some m = sym e ∙ ap (slice_get known) (eqb-true h k p) ∙ d in
        let same : a ≡ m = cc in
        absurd (true≢false (sym ((bytes_eq-Decides a m).1 same) ∙ q))
    by false p true q =
        let same : a ≡ m = (bytes_eq-Decides a m).0 q in
        absurd (true≢false (sym (eq-eqb h k (n.once h k a e (d ∙ ap Some (sym same)))) ∙ p))

-- a declaration with its number, as an item
abbrev item_at : ℕ × Declared → Item
item_at e = record {
  home = e.1.home;
  name = text_of (name_in e.1.tree);
  exported = is_exported e.1.tree;
  is_type = declares_type e.1.tree;
  meaning = me.Decl e.0;
}

abbrev declared_in : Module → Node → Declared
declared_in m t = record { home = m; tree = t }

module _ (nn : ℕ) (m : Module) (x : List ℕ) where
  abbrev is_it : Item → Bool
  is_it i = same_module i.home m && bytes_eq i.name x

  abbrev told : List Taking → Option Entry
  told ks = found (declares nn x) (λ k. declared k.taker) ks

  gives : (k : Taking) → declares nn x k ≡ true → (e : Entry) × (declared k.taker ≡ Some e)
  gives k h = by k.taker h
    where
      by : (r : Taker) → (not (is_import r) && k.home == nn && bytes_eq x k.name) ≡ true → (e : Entry) × (declared r ≡ Some e)
      by (ta.Import i) g = absurd cc
      by (ta.Declaration e) g = (e, refl)

  tests : (a b : Bool) (y : List ℕ) → a ≡ b → (a && bytes_eq x y) ≡ (b && bytes_eq y x)
  tests a b y e = ap (λ c. c && bytes_eq x y) e ∙ ap (λ c. b && c) (names-symmetric x y)

  -- the declarations of a file
  decls-told : (f h : ℕ) (home : Module) → (h == nn) ≡ bytes_eq home m → (n : ℕ) (ts : List Node) →
      told (decl_takings f h n ts) ≡ option_map entry (find is_it (map item_at (enumerate_from n (map (declared_in home) ts))))
  decls-told f h home same n [] = refl
  decls-told f h home same n (t ∷ ts) =
      by (h == nn && bytes_eq x (text_of (name_in t))) (bytes_eq home m && bytes_eq (text_of (name_in t)) x)
      (tests (h == nn) (bytes_eq home m) (text_of (name_in t)) same) (decls-told f h home same (n + 1) ts)
    where
      by : (b c : Bool) → b ≡ c →
          told (decl_takings f h (n + 1) ts) ≡ option_map entry
          (find is_it (map item_at (enumerate_from (n + 1) (map (declared_in home) ts)))) →
          option_and_then (λ k. declared k.taker) (cond b (Some (named f h (ta.Declaration (entry_of t n)) (name_in t)))
          (find (declares nn x) (decl_takings f h (n + 1) ts))) ≡ option_map entry
          (cond c (Some (item_at (n, declared_in home t))) (find is_it
          (map item_at (enumerate_from (n + 1) (map (declared_in home) ts)))))
      by true true e r = refl
      by false false e r = r
      by true false e r = absurd (true≢false e)
      by false true e r = absurd (true≢false (sym e))

  -- imports declare nothing
  names-none : (f h : ℕ) (i : Imported) (ns : List Node) → find (declares nn x) (map (named f h (ta.Import i)) ns) ≡ None
  names-none f h i [] = refl
  names-none f h i (t ∷ ts) = names-none f h i ts

  uses-none : (known : List Module) (f h : ℕ) (us : List Node) → find (declares nn x) (flat_map (use_takings known f h) us) ≡ None
  uses-none known f h [] = refl
  uses-none known f h (u ∷ us) =
      find-append (declares nn x) (use_takings known f h u) (flat_map (use_takings known f h) us)
      ∙ ap (λ o. option_or o (find (declares nn x) (flat_map (use_takings known f h) us)))
      (names-none f h (record { number = number_used known u; whole = not (is_braced (head u).kind) }) (names_brought u))
      ∙ uses-none known f h us

  -- the files of a program
  module _ (ms known : List Module) (homes : List ℕ) (numbers : IsNumbering ms known homes) (here : slice_get known nn ≡ Some m) where
    files-told : (n f : ℕ) (ps : List (List ℕ)) (hs : List ℕ) (ts : List FileTree) → AreHomes known (map module_of ps) hs →
        told (takings known f n hs ts) ≡ option_map entry (find is_it (map item_at (enumerate_from n (declarations (sources ps ts)))))
    files-told n f [] [] ts h = refl
    files-told n f [] (y ∷ hs) ts h = absurd h
    files-told n f (p ∷ ps) [] ts h = absurd h
    files-told n f (p ∷ ps) (y ∷ hs) [] h = refl
    files-told n f (p ∷ ps) (y ∷ hs) (t ∷ ts) h =
        found-append (declares nn x) (λ k. declared k.taker) gives (flat_map (use_takings known f y) t.uses ++ decl_takings f y n t.decls)
        (takings known (f + 1) (n + length t.decls) hs ts)
        ∙ ap (λ o. option_or o (told (takings known (f + 1) (n + length t.decls) hs ts)))
        (ap (option_and_then (λ k. declared k.taker)) (find-append (declares nn x) (flat_map (use_takings known f y) t.uses)
        (decl_takings f y n t.decls) ∙ ap (λ o. option_or o (find (declares nn x) (decl_takings f y n t.decls)))
        (uses-none known f y t.uses))
        ∙ decls-told f y (module_of p) (number-same ms known homes numbers y nn (module_of p) m h.0 here) n t.decls)
        ∙ ap (λ o. option_or (option_map entry (find is_it (map item_at (enumerate_from n own)))) o)
        (files-told (n + length t.decls) (f + 1) ps hs ts h.1)
        ∙ sym (option_map-or entry (find is_it (map item_at (enumerate_from n own)))
        (find is_it (map item_at (enumerate_from (n + length t.decls) rest))))
        ∙ ap (option_map entry) (sym (find-append is_it (map item_at (enumerate_from n own))
        (map item_at (enumerate_from (n + length t.decls) rest))))
        ∙ ap (λ is. option_map entry (find is_it is)) (sym
        (map-append item_at (enumerate_from n own) (enumerate_from (n + length t.decls) rest)))
        ∙ ap (λ k. option_map entry (find is_it (map item_at (enumerate_from n own ++ enumerate_from (n + k) rest))))
        (sym (length-map t.decls (declared_in (module_of p))))
        ∙ ap (λ is. option_map entry (find is_it (map item_at is))) (sym (enumerate_from-append n own rest))
      where
        own : List Declared
        own = map (declared_in (module_of p)) t.decls

        rest : List Declared
        rest = declarations (sources ps ts)

    -- what is built in
    abbrev AtHome : List Item → Type 0
    AtHome [] = Unit {0}
    AtHome (i ∷ is) = (i.home ≡ runtime) × AtHome is

    built-told : (is : List Item) → AtHome is →
        told (map built_in_taking (map (λ i. (i.name, entry i)) is)) ≡ option_map entry (find is_it is)
    built-told [] h = refl
    built-told (i ∷ is) h =
        by (0 == nn && bytes_eq x i.name) (bytes_eq i.home m && bytes_eq i.name x)
        (tests (0 == nn) (bytes_eq i.home m) i.name (number-same ms known homes numbers 0 nn i.home m
        (numbers.first ∙ ap Some (sym h.0)) here)) (built-told is h.1)
      where
        by : (b c : Bool) → b ≡ c → told (map built_in_taking (map (λ j. (j.name, entry j)) is)) ≡ option_map entry (find is_it is) →
            option_and_then (λ k. declared k.taker) (cond b (Some (built_in_taking (i.name, entry i)))
            (find (declares nn x) (map built_in_taking (map (λ j. (j.name, entry j)) is)))) ≡ option_map entry
            (cond c (Some i) (find is_it is))
        by true true e r = refl
        by false false e r = r
        by true false e r = absurd (true≢false e)
        by false true e r = absurd (true≢false (sym e))

    -- all names that are taken tell what a name of the module means
    pub items-told : (ps : List (List ℕ)) (hs : List ℕ) (ts : List FileTree) → AreHomes known (map module_of ps) hs →
        declared_among (built_in_takings ++ takings known 0 0 hs ts) nn x ≡ option_map entry (item_named (sources ps ts) m x)
    items-told ps hs ts h =
        found-append (declares nn x) (λ k. declared k.taker) gives built_in_takings (takings known 0 0 hs ts)
        ∙ ap (λ o. option_or o (told (takings known 0 0 hs ts)))
        (built-told built_in (refl, (refl, (refl, (refl, (refl, (refl, (refl, (refl, tt)))))))))
        ∙ ap (λ o. option_or (option_map entry (find is_it built_in)) o) (files-told 0 0 ps hs ts h)
        ∙ sym (option_map-or entry (find is_it built_in) (find is_it others))
        ∙ ap (option_map entry) (sym (find-append is_it built_in others)
        ∙ sym (find-filter (λ i. bytes_eq i.name x) (λ i. same_module i.home m) (built_in ++ others)))
        ∙ ap (option_map entry) (sym (find-firsts (λ i. i.name) x (filter (λ i. same_module i.home m) (built_in ++ others))))
      where
        others : List Item
        others = map item_at (enumerate_from 0 (declarations (sources ps ts)))
