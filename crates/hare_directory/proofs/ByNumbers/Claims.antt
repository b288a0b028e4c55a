-- Equal names: those of the program's definition, and those that are found by the numbers of modules.
use Rattle.std.proofs.Common.{◌≡◌, ℕ, ◌+◌, List, [], ◌∷◌, ◌++◌, Bool, true, false, cond, ◌&&◌, ◌||◌, ◌==◌, not, length, map, slice_get, bytes_eq, Some, refl, sym, ap, ◌∙◌, subst, suc, add-zero, true≢false, arith}
use Rattle.std.specs.List.{flat_map, list_any}
use Rattle.std.proofs.lemmas.List.{map-append}
use Rattle.hare_tree.specs.declared.tree.FileTree.{FileTree}
use Rattle.hare_tree.specs.Node.{Node, head}
use Rattle.hare_tree.specs.Spell.{start_of}
use Rattle.hare_modules.specs.declared.claims.Taker.{Taker}
use Rattle.hare_modules.specs.Order.{fault}
use Rattle.hare_modules.specs.Modules.{Module, Source, sources, module_of, runtime}
use Rattle.hare_modules.specs.Uses.{Import, import_as, imports_of, imports, text_of, place_of, names_brought, is_braced, module_used}
use Rattle.hare_modules.specs.Declarations.{name_in, Item, built_in}
use Rattle.hare_modules.specs.Entries.{entry}
use Rattle.hare_modules.specs.Repeated.{Claim, clash, claims_of, repeated_behind, repeated_claims}
use Rattle.hare_modules.specs.Numbering.{AreHomes, IsNumbering}
use Rattle.hare_modules.specs.Takings.{Taking, is_import, clashes, named, import_taker, number_used, use_takings, decl_takings, takings}
use Rattle.hare_modules.specs.Taken.{built_in_taking, built_in_takings}
use Rattle.hare_directory.proofs.TakenNames.Items.{number-same}

-- the name that is taken is the claim, by the number of its module
pub record Stands (known : List Module) (c : Claim) (k : Taking) : Type 0 where
  pub home : slice_get known k.home ≡ Some c.home
  pub file : k.file ≡ c.file
  pub imported : is_import k.taker ≡ c.imported
  pub name : k.name ≡ c.name
  pub place : k.place ≡ c.place

-- one by one
abbrev pub Alike : List Module → List Claim → List Taking → Type 0
Alike known [] [] = Unit {0}
Alike known [] (k ∷ ks) = ⊥
Alike known (c ∷ cs) [] = ⊥
Alike known (c ∷ cs) (k ∷ ks) = Stands known c k × Alike known cs ks

-- what an import and a declaration of a file claim
abbrev import_in : Source → Import → Claim
import_in s i = record { home = s.home; file = s.tree.file; imported = true; name = i.name; place = i.place }

abbrev declaration_in : Source → Node → Claim
declaration_in s t = record {
  home = s.home;
  file = s.tree.file;
  imported = false;
  name = text_of (name_in t);
  place = place_of
      (name_in t);
}

module _ (known : List Module) where
  both-alike : (as' cs : List Claim) (js ks : List Taking) → Alike known as' js → Alike known cs ks → Alike known (as' ++ cs) (js ++ ks)
  both-alike [] cs [] ks a b = b
  both-alike [] cs (j ∷ js) ks a b = absurd a
  both-alike (c ∷ as') cs [] ks a b = absurd a
  both-alike (c ∷ as') cs (j ∷ js) ks a b = (a.0, both-alike as' cs js ks a.1 b)

  -- ---- the names of a file

  module _ (s : Source) (f h : ℕ) (file : f ≡ s.tree.file) (home : slice_get known h ≡ Some s.home) where
    names-alike : (m : Module) (whole : Bool) (to : Taker) → is_import to ≡ true → (ns : List Node) →
        Alike known (map (import_in s) (map (import_as m whole) ns)) (map (named f h to) ns)
    names-alike m whole to i [] = tt
    names-alike m whole to i (t ∷ ts) = (
      record { home = home; file = file; imported = i; name = refl; place = refl },
      names-alike m whole
          to i ts,
    )

    uses-alike : (us : List Node) → Alike known (map (import_in s) (flat_map imports_of us)) (flat_map (use_takings known f h) us)
    uses-alike [] = tt
    uses-alike (u ∷ us) =
        subst (λ cs. Alike known cs (flat_map (use_takings known f h) (u ∷ us)))
        (sym (map-append (import_in s) (imports_of u) (flat_map imports_of us)))
        (both-alike (map (import_in s) (imports_of u)) (map (import_in s) (flat_map imports_of us)) (use_takings known f h u)
        (flat_map (use_takings known f h) us)
        (names-alike (module_used u) (not (is_braced (head u).kind))
        (import_taker (number_used known u) (not (is_braced (head u).kind))) refl (names_brought u)) (uses-alike us))

    decls-alike : (n : ℕ) (ts : List Node) → Alike known (map (declaration_in s) ts) (decl_takings f h n ts)
    decls-alike n [] = tt
    decls-alike n (t ∷ ts) = (record { home = home; file = file; imported = refl; name = refl; place = refl }, decls-alike (n + 1) ts)

  -- ---- the names of all files

  files-alike : (f n : ℕ) (ps : List (List ℕ)) (hs : List ℕ) (ts : List FileTree) → AreHomes known (map module_of ps) hs →
      ((i : ℕ) (t : FileTree) → slice_get ts i ≡ Some t → t.file ≡ f + i) →
      Alike known (flat_map claims_of (sources ps ts)) (takings known f n hs ts)
  files-alike f n [] [] ts h e = tt
  files-alike f n [] (y ∷ hs) ts h e = absurd h
  files-alike f n (p ∷ ps) [] ts h e = absurd h
  files-alike f n (p ∷ ps) (y ∷ hs) [] h e = tt
  files-alike f n (p ∷ ps) (y ∷ hs) (t ∷ ts) h e =
      let own : f ≡ t.file = sym (e 0 t refl ∙ add-zero f) in
      let next : (i : ℕ) (u : FileTree) → slice_get ts i ≡ Some u → u.file ≡ f + 1 + i = λ i u d.
      (let j : f + suc i ≡ f + 1 + i = omega arith in e (suc i) u d ∙ j) in
      both-alike (claims_of here) (flat_map claims_of (sources ps ts))
      (flat_map (use_takings known f y) t.uses ++ decl_takings f y n t.decls) (takings known (f + 1) (n + length t.decls) hs ts)
      (both-alike (map (import_in here) (imports t)) (map (declaration_in here) t.decls) (flat_map (use_takings known f y) t.uses)
      (decl_takings f y n t.decls) (uses-alike here f y own h.0 t.uses) (decls-alike here f y own h.0 n t.decls))
      (files-alike (f + 1) (n + length t.decls) ps hs ts h.1 next)
    where
      here : Source
      here = record { home = module_of p; tree = t }

  -- ---- what is built in

  abbrev AtHome : List Item → Type 0
  AtHome [] = Unit {0}
  AtHome (i ∷ is) = (i.home ≡ runtime) × AtHome is

  abbrev built_in_at : Item → Claim
  built_in_at i = record { home = i.home; file = 0; imported = false; name = i.name; place = start_of 0 }

  built-alike : slice_get known 0 ≡ Some runtime → (is : List Item) → AtHome is →
      Alike known (map built_in_at is) (map built_in_taking (map (λ i. (i.name, entry i)) is))
  built-alike e [] h = tt
  built-alike e (i ∷ is) h = (
    record { home = e ∙ ap Some (sym h.0); file = refl; imported = refl; name = refl; place = refl },
    built-alike e is h.1,
  )

  -- ---- clashes

  module _ (ms : List Module) (homes : List ℕ) (numbers : IsNumbering ms known homes) where
    clash-same : (c d : Claim) (j k : Taking) → Stands known c j → Stands known d k → clash c d ≡ clashes j k
    clash-same c d j k a b =
        ap (λ z. z && bytes_eq c.name d.name && (not (c.imported && d.imported) || c.file == d.file))
        (sym (number-same ms known homes numbers j.home k.home c.home d.home a.home b.home))
        ∙ ap (λ z. j.home == k.home && bytes_eq z d.name && (not (c.imported && d.imported) || c.file == d.file)) (sym a.name)
        ∙ ap (λ z. j.home == k.home && bytes_eq j.name z && (not (c.imported && d.imported) || c.file == d.file)) (sym b.name)
        ∙ ap (λ z. j.home == k.home && bytes_eq j.name k.name && (not (z && d.imported) || c.file == d.file)) (sym a.imported)
        ∙ ap (λ z. j.home == k.home && bytes_eq j.name k.name && (not (is_import j.taker && z) || c.file == d.file)) (sym b.imported)
        ∙ ap (λ z. j.home == k.home && bytes_eq j.name k.name && (not (is_import j.taker && is_import k.taker) || z == d.file)) (sym a.file)
        ∙ ap (λ z. j.home == k.home && bytes_eq j.name k.name && (not (is_import j.taker && is_import k.taker) || j.file == z)) (sym b.file)

    any-same : (d : Claim) (k : Taking) → Stands known d k → (cs : List Claim) (js : List Taking) → Alike known cs js →
        list_any (λ c. clash c d) cs ≡ list_any (λ j. clashes j k) js
    any-same d k b [] [] a = refl
    any-same d k b [] (j ∷ js) a = absurd a
    any-same d k b (c ∷ cs) [] a = absurd a
    any-same d k b (c ∷ cs) (j ∷ js) a = ap (λ z. z || list_any (λ e. clash e d) cs) (clash-same c d j k a.0 b)
        ∙ ap (λ z. clashes j k || z) (any-same d k b cs js a.1)

    repeated-same : (bs cs : List Claim) (js ks : List Taking) → Alike known bs js → Alike known cs ks →
        map (λ c. fault 12 c.place) (repeated_behind clash bs cs) ≡ map (λ k. fault 12 k.place) (repeated_behind clashes js ks)
    repeated-same bs [] js [] a b = refl
    repeated-same bs [] js (k ∷ ks) a b = absurd b
    repeated-same bs (c ∷ cs) js [] a b = absurd b
    repeated-same bs (c ∷ cs) js (k ∷ ks) a b =
        by (list_any (λ e. clash e c) bs) (list_any (λ j. clashes j k) js) (any-same c k b.0 bs js a)
        (repeated-same (bs ++ c ∷ []) cs (js ++ k ∷ []) ks (both-alike bs (c ∷ []) js (k ∷ []) a (b.0, tt)) b.1)
      where
        by : (x y : Bool) → x ≡ y →
            map (λ e. fault 12 e.place) (repeated_behind clash (bs ++ c ∷ []) cs) ≡ map (λ j. fault 12 j.place)
            (repeated_behind clashes (js ++ k ∷ []) ks) →
            map (λ e. fault 12 e.place) (cond x (c ∷ []) [] ++ repeated_behind clash (bs ++ c ∷ []) cs) ≡ map (λ j. fault 12 j.place)
            (cond y (k ∷ []) [] ++ repeated_behind clashes (js ++ k ∷ []) ks)
        by true true e h = ap (λ fs. fault 12 c.place ∷ fs) h
            ∙ ap (λ p. fault 12 p ∷ map (λ j. fault 12 j.place) (repeated_behind clashes (js ++ k ∷ []) ks)) (sym (b.0).place)
        by false false e h = h
        by true false e h = absurd (true≢false e)
        by false true e h = absurd (true≢false (sym e))

    -- the later of equal names are those of the program
    pub repeated-are : (ps : List (List ℕ)) (hs : List ℕ) (ts : List FileTree) → AreHomes known (map module_of ps) hs →
        ((i : ℕ) (t : FileTree) → slice_get ts i ≡ Some t → t.file ≡ 0 + i) →
        map (λ c. fault 12 c.place) (repeated_claims (sources ps ts)) ≡ map (λ k. fault 12 k.place)
        (repeated_behind clashes built_in_takings (takings known 0 0 hs ts))
    repeated-are ps hs ts h e =
        repeated-same (map built_in_at built_in) (flat_map claims_of (sources ps ts)) built_in_takings (takings known 0 0 hs ts)
        (built-alike numbers.first built_in (refl, (refl, (refl, (refl, (refl, (refl, (refl, (refl, tt)))))))))
        (files-alike 0 0 ps hs ts h e)
