-- What the names that are taken tell of the names that files import.
use Rattle.std.proofs.Common.{◌≡◌, ℕ, ◌+◌, ◌<◌, List, [], ◌∷◌, ◌++◌, Bool, true, false, cond, ◌&&◌, ◌==◌, not, length, map, find, slice_get, position, bytes_eq, Option, Some, None, refl, sym, ap, ◌∙◌, suc, zero, add-zero, true≢false, arith}
use Rattle.std.specs.Prelude.{option_map, option_and_then}
use Rattle.std.specs.Option.{option_or}
use Rattle.std.specs.List.{flat_map}
use Rattle.std.proofs.lemmas.Bool.{eqb-true, eq-eqb}
use Rattle.std.proofs.lemmas.List.Folds.{find-append}
use Rattle.hare_tree.specs.declared.tree.FileTree.{FileTree}
use Rattle.hare_tree.specs.Node.{Node, head}
use Rattle.hare_modules.specs.declared.imports.Imported.{Imported}
use Rattle.hare_modules.specs.declared.claims.Taker.{Taker}
use Rattle.hare_modules.specs.declared.claims.Taker.TheVariants as ta
use Rattle.hare_modules.specs.Modules.{Module, Source, sources, module_of}
use Rattle.hare_modules.specs.Uses.{Import, import_as, imports_of, imports, text_of, names_brought, is_braced, module_used}
use Rattle.hare_modules.specs.Numbering.{AreHomes}
use Rattle.hare_modules.specs.Takings.{Taking, is_import, named, import_taker, number_used, use_takings, decl_takings, takings}
use Rattle.hare_modules.specs.Taken.{imported as imported_by, imports_at}
use Rattle.hare_modules.specs.Directory.{imported}
use Rattle.hare_directory.proofs.TakenNames.First.{names-symmetric, option_map-or, option_or-none, found, found-append}

module _ (known : List Module) (f : ℕ) (x : List ℕ) where
  abbrev is_it : Import → Bool
  is_it i = bytes_eq i.name x

  abbrev told : List Taking → Option Imported
  told ks = found (imports_at f x) (λ k. imported_by k.taker) ks

  gives : (k : Taking) → imports_at f x k ≡ true → (i : Imported) × (imported_by k.taker ≡ Some i)
  gives k h = by k.taker h
    where
      by : (r : Taker) → (is_import r && k.file == f && bytes_eq x k.name) ≡ true → (i : Imported) × (imported_by r ≡ Some i)
      by (ta.Import i) g = (i, refl)
      by (ta.Declaration e) g = absurd cc

  -- declarations import nothing
  decls-none : (g h n : ℕ) (ts : List Node) → find (imports_at f x) (decl_takings g h n ts) ≡ None
  decls-none g h n [] = refl
  decls-none g h n (t ∷ ts) = decls-none g h (n + 1) ts

  -- nor do the imports of another file
  names-none : (g h : ℕ) (r : Taker) (ns : List Node) → (g == f) ≡ false → find (imports_at f x) (map (named g h r) ns) ≡ None
  names-none g h r [] e = refl
  names-none g h r (t ∷ ts) e = by r (g == f) e (names-none g h r ts e)
    where
      by : (s : Taker) (b : Bool) → b ≡ false → find (imports_at f x) (map (named g h r) ts) ≡ None →
          cond (is_import s && b && bytes_eq x (text_of t)) (Some (named g h r t)) (find (imports_at f x) (map (named g h r) ts)) ≡ None
      by (ta.Import i) false d m = m
      by (ta.Declaration i) false d m = m
      by s true d m = absurd (true≢false d)

  uses-none : (g h : ℕ) (us : List Node) → (g == f) ≡ false → find (imports_at f x) (flat_map (use_takings known g h) us) ≡ None
  uses-none g h [] e = refl
  uses-none g h (u ∷ us) e =
      find-append (imports_at f x) (use_takings known g h u) (flat_map (use_takings known g h) us)
      ∙ ap (λ o. option_or o (find (imports_at f x) (flat_map (use_takings known g h) us)))
      (names-none g h (import_taker (number_used known u) (not (is_braced (head u).kind))) (names_brought u) e)
      ∙ uses-none g h us e

  apart : (g : ℕ) → f < g → (g == f) ≡ false
  apart g l = by (g == f) refl
    where
      by : (b : Bool) → (g == f) ≡ b → b ≡ false
      by false e = refl
      by true e = let s : g ≡ f = eqb-true g f e in absurd (omega arith)

  one-file : (g h n : ℕ) (t : FileTree) → (g == f) ≡ false →
      find (imports_at f x) (flat_map (use_takings known g h) t.uses ++ decl_takings g h n t.decls) ≡ None
  one-file g h n t e =
      find-append (imports_at f x) (flat_map (use_takings known g h) t.uses) (decl_takings g h n t.decls)
      ∙ ap (λ o. option_or o (find (imports_at f x) (decl_takings g h n t.decls))) (uses-none g h t.uses e)
      ∙ decls-none g h n t.decls

  later-none : (g n : ℕ) (hs : List ℕ) (ts : List FileTree) → f < g → find (imports_at f x) (takings known g n hs ts) ≡ None
  later-none g n [] ts l = refl
  later-none g n (h ∷ hs) [] l = refl
  later-none g n (h ∷ hs) (t ∷ ts) l =
      find-append (imports_at f x) (flat_map (use_takings known g h) t.uses ++ decl_takings g h n t.decls)
      (takings known (g + 1) (n + length t.decls) hs ts)
      ∙ ap (λ o. option_or o (find (imports_at f x) (takings known (g + 1) (n + length t.decls) hs ts))) (one-file g h n t (apart g l))
      ∙ later-none (g + 1) (n + length t.decls) hs ts (omega arith)

  -- the imports of the file itself
  names-told : (h : ℕ) (m : Module) (whole : Bool) (ns : List Node) →
      told (map (named f h (import_taker (position (bytes_eq m) known) whole)) ns) ≡ option_map (imported known)
      (find is_it (map (import_as m whole) ns))
  names-told h m whole [] = refl
  names-told h m whole (t ∷ ts) = by (f == f) (eq-eqb f f refl) (bytes_eq x (text_of t)) (bytes_eq (text_of t) x)
      (names-symmetric x (text_of t)) (names-told h m whole ts)
    where
      r : Taker
      r = import_taker (position (bytes_eq m) known) whole

      by : (a : Bool) → a ≡ true → (b c : Bool) → b ≡ c →
          told (map (named f h r) ts) ≡ option_map (imported known) (find is_it (map (import_as m whole) ts)) →
          option_and_then (λ k. imported_by k.taker) (cond (a && b) (Some (named f h r t))
          (find (imports_at f x) (map (named f h r) ts))) ≡ option_map (imported known)
          (cond c (Some (import_as m whole t)) (find is_it (map (import_as m whole) ts)))
      by true d true true e k = refl
      by true d false false e k = k
      by true d true false e k = absurd (true≢false e)
      by true d false true e k = absurd (true≢false (sym e))
      by false d b c e k = absurd (true≢false (sym d))

  uses-told : (h : ℕ) (us : List Node) →
      told (flat_map (use_takings known f h) us) ≡ option_map (imported known) (find is_it (flat_map imports_of us))
  uses-told h [] = refl
  uses-told h (u ∷ us) =
      found-append (imports_at f x) (λ k. imported_by k.taker) gives (use_takings known f h u) (flat_map (use_takings known f h) us)
      ∙ ap (λ o. option_or o (told (flat_map (use_takings known f h) us)))
      (names-told h (module_used u) (not (is_braced (head u).kind)) (names_brought u))
      ∙ ap (λ o. option_or (option_map (imported known) (find is_it (imports_of u))) o) (uses-told h us)
      ∙ sym (option_map-or (imported known) (find is_it (imports_of u)) (find is_it (flat_map imports_of us)))
      ∙ ap (option_map (imported known)) (sym (find-append is_it (imports_of u) (flat_map imports_of us)))

  -- what a name that a file imports stands for, of the files from one on
  pub imports-told : (g n i : ℕ) (ps : List (List ℕ)) (hs : List ℕ) (ts : List FileTree) (s : Source) →
      AreHomes known (map module_of ps) hs → f ≡ g + i → slice_get (sources ps ts) i ≡ Some s →
      told (takings known g n hs ts) ≡ option_map (imported known) (find is_it (imports s.tree))
  imports-told g n i [] hs ts s h e k = absurd cc
  imports-told g n i (p ∷ ps) hs [] s h e k = absurd cc
  imports-told g n i (p ∷ ps) [] (t ∷ ts) s h e k = absurd h
  imports-told g n zero (p ∷ ps) (y ∷ hs) (t ∷ ts) s h e k =
      let at : f ≡ g = e ∙ add-zero g in
      let tree : t ≡ s.tree = cc in
      found-append (imports_at f x) (λ j. imported_by j.taker) gives
      (flat_map (use_takings known g y) t.uses ++ decl_takings g y n t.decls) (takings known (g + 1) (n + length t.decls) hs ts)
      ∙ ap (λ o. option_or (told (flat_map (use_takings known g y) t.uses ++ decl_takings g y n t.decls))
      (option_and_then (λ j. imported_by j.taker) o)) (later-none (g + 1) (n + length t.decls) hs ts (omega arith))
      ∙ option_or-none (told (flat_map (use_takings known g y) t.uses ++ decl_takings g y n t.decls))
      ∙ found-append (imports_at f x) (λ j. imported_by j.taker) gives (flat_map (use_takings known g y) t.uses)
      (decl_takings g y n t.decls)
      ∙ ap (λ o. option_or (told (flat_map (use_takings known g y) t.uses)) (option_and_then (λ j. imported_by j.taker) o))
      (decls-none g y n t.decls)
      ∙ option_or-none (told (flat_map (use_takings known g y) t.uses))
      ∙ ap (λ q. told (flat_map (use_takings known q y) t.uses)) (sym at)
      ∙ uses-told y t.uses
      ∙ ap (λ u. option_map (imported known) (find is_it (imports u))) tree
  imports-told g n (suc i) (p ∷ ps) (y ∷ hs) (t ∷ ts) s h e k =
      let l : g < f = omega arith in
      found-append (imports_at f x) (λ j. imported_by j.taker) gives
      (flat_map (use_takings known g y) t.uses ++ decl_takings g y n t.decls) (takings known (g + 1) (n + length t.decls) hs ts)
      ∙ ap (λ o. option_or (option_and_then (λ j. imported_by j.taker) o) (told (takings known (g + 1) (n + length t.decls) hs ts)))
      (one-file g y n t (below g l))
      ∙ imports-told (g + 1) (n + length t.decls) i ps hs ts s h.1 (omega arith) k
    where
      below : (q : ℕ) → q < f → (q == f) ≡ false
      below q l = by (q == f) refl
        where
          by : (b : Bool) → (q == f) ≡ b → b ≡ false
          by false d = refl
          by true d = let w : q ≡ f = eqb-true q f d in absurd (omega arith)
