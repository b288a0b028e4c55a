-- A path that means a local means a binding that is in scope there.
use Rattle.std.proofs.Common.{◌≡◌, ◌⊎◌, inl, inr, ℕ, List, [], ◌∷◌, ◌++◌, Bool, true, false, not, length, filter, map, Option, Some, None, refl, sym, ap, ◌∙◌, subst, arith}
use Rattle.std.specs.Prelude.{All, Contains, bytes_eq, find, option_map, if◌then◌else◌}
use Rattle.std.specs.List.{flat_map, enumerate_from}
use Rattle.std.specs.Option.{option_or}
use Rattle.std.proofs.lemmas.List.Elements.{All-append, All-cons, All-filter, All-from_recursion, All-head, All-map, All-nil, All-tail}
use Rattle.hare_tree.specs.declared.place.Place.{Place}
use Rattle.hare_tree.specs.declared.token.Meaning.{Meaning}
use Rattle.hare_tree.specs.declared.token.Meaning.TheVariants as me
use Rattle.hare_tree.specs.declared.tree.FileTree.{FileTree}
use Rattle.hare_tree.specs.Node.{Node}
use Rattle.hare_graph.proofs.Elements.{Contains-none, Contains-cases, Contains-here, Contains-behind}
use Rattle.hare_modules.specs.Modules.{Module, Source, module_of, same_module, sources}
use Rattle.hare_modules.specs.Uses.{Import, text_of}
use Rattle.hare_modules.specs.Declarations.{Item, Declared, built_in, declarations, declares_type, exports, firsts, is_exported, items, name_in}
use Rattle.hare_modules.specs.Admitted.{Triple, admitted, first_imports, imported_triples, own_triples, triples}
use Rattle.hare_names.specs.Bindings.{IsInScope, LocalsAreInScope}
use Rattle.hare_names.specs.Meanings.{Meant, item_meant, local_meant, local_of, meant}
use Rattle.hare_names.specs.Paths.{Path, paths_of, paths_of_file}
use Rattle.hare_names.specs.Violations.{AreMeanings, IsMeaningOf}
use Rattle.hare_depends.proofs.ListLemmas.{Contains-flat_map, flat_map-from}
use Rattle.hare_saids.specs.Saids.{decls}
use Rattle.hare_typed.specs.Typed.{TypedNode}
use Rattle.hare_typed.specs.Erased.{erase}
use Rattle.hare_filed.proofs.ListLemmas.{Contains-map}
use Rattle.hare_unit.specs.Whole.{LocalsAreBound}

-- ---- what is admitted is no local

abbrev IsNoLocal : Meaning → Type 0
IsNoLocal m = (n : ℕ) → m ≡ me.Local n → ⊥

firsts-all : {A : Type 0} (P : A → Type 0) (name : A → List ℕ) (xs : List A) → All P xs → All P (firsts name xs)
firsts-all P name [] h = h
firsts-all P name (x ∷ xs) h =
    let others = firsts-all P name xs (All-tail P x xs h) in
    All-cons P x (filter (λ y. not (bytes_eq (name x) (name y))) (firsts name xs)) (All-head P x xs h) (All-filter _ P (firsts name xs) others)

flat_map-all : {A B : Type 0} (P : B → Type 0) (g : A → List B) (xs : List A) → ((x : A) → All P (g x)) → All P (flat_map g xs)
flat_map-all P g [] h = All-nil P
flat_map-all P g (x ∷ xs) h = All-append P (g x) (flat_map g xs) (h x) (flat_map-all P g xs h)

find-all : {A : Type 0} (P : A → Type 0) (p : A → Bool) (xs : List A) (x : A) → All P xs → find p xs ≡ Some x → P x
find-all P p [] x h e = absurd cc
find-all {A} P p (y ∷ ys) x h e = by (λ d. find-all P p ys x (All-tail P y ys h) d) (p y) refl e
  where
    by : (find p ys ≡ Some x → P x) → (b : Bool) → p y ≡ b → (if b then Some y else find p ys) ≡ Some x → P x
    by go true k d = let same : y ≡ x = cc in subst P same (All-head P y ys h)
    by go false k d = go d

any-all : {A : Type 0} (P : A → Type 0) (xs : List A) → ((x : A) → P x) → All P xs
any-all P [] h = All-nil P
any-all P (x ∷ xs) h = All-cons P x xs (h x) (any-all P xs h)

abbrev IsFree : Item → Type 0
IsFree i = IsNoLocal i.meaning

built-free : All IsFree built_in
built-free =
    All-from_recursion IsFree built_in
    (rt 0, (rt 1, (rt 2, (rt 3, (rt 4, (rt 5, (rt 6, ((λ n e. absurd cc), tt))))))))
  where
    rt : (k : ℕ) → IsNoLocal (me.Rt k)
    rt k n e = absurd cc

-- a declaration as what its name means
abbrev item : ℕ × Declared → Item
item e = record {
  home = e.1.home;
  name = text_of (name_in e.1.tree);
  exported = is_exported e.1.tree;
  is_type = declares_type e.1.tree;
  meaning = me.Decl e.0;
}

items-free : (ss : List Source) (m : Module) → All IsFree (items ss m)
items-free ss m =
    let declared = enumerate_from 0 (declarations ss) in
    let all = built_in ++ map item declared in
    let free : All IsFree all =
    All-append IsFree built_in (map item declared) built-free
    (All-map IsFree item declared (any-all (λ e. IsFree (item e)) declared declared-free)) in
    firsts-all IsFree (λ i. i.name) (filter (λ i. same_module i.home m) all) (All-filter (λ i. same_module i.home m) IsFree all free)
  where
    declared-free : (e : ℕ × Declared) → IsFree (item e)
    declared-free e n k = let same : me.Decl e.0 ≡ me.Local n = k in absurd cc

abbrev IsFreeTriple : Triple → Type 0
IsFreeTriple t = IsFree t.item

imported-free : (ss : List Source) (i : Import) → All IsFreeTriple (imported_triples ss i)
imported-free ss i = by i.whole
  where
    out : All IsFree (exports ss i.from)
    out = All-filter _ IsFree (items ss i.from) (items-free ss i.from)

    by : (b : Bool) → All IsFreeTriple (if b then map (λ e. record { path = i.name ∷ e.name ∷ []; item = e }) (exports ss i.from)
        else map (λ e. record { path = e.name ∷ []; item = e }) (filter (λ e. bytes_eq e.name i.name) (exports ss i.from)))
    by true = All-map IsFreeTriple _ (exports ss i.from) out
    by false = All-map IsFreeTriple _ (filter (λ e. bytes_eq e.name i.name) (exports ss i.from)) (All-filter _ IsFree _ out)

triples-free : (ss : List Source) (s : Source) → All IsFreeTriple (triples ss s)
triples-free ss s =
    All-append IsFreeTriple (own_triples ss s.home) (flat_map (imported_triples ss) (first_imports s))
    (All-map IsFreeTriple _ (items ss s.home) (items-free ss s.home))
    (flat_map-all IsFreeTriple (imported_triples ss) (first_imports s) (λ i. imported-free ss i))

admitted-free : (ss : List Source) (s : Source) (names : List (List ℕ)) (t : Triple) → admitted ss s names ≡ Some t → IsFree t.item
admitted-free ss s names t e = find-all IsFreeTriple _ (triples ss s) t (triples-free ss s) e

-- ---- a local that is meant

same-local : (j n : ℕ) → me.Local j ≡ me.Local n → j ≡ n
same-local j n e = cc

none-some : {A : Type 0} (a : A) → None ≡ Some a → ⊥
none-some a e = absurd cc

some-same : {A : Type 0} (a b : A) → Some a ≡ Some b → a ≡ b
some-same a b e = cc

meant-local : (ss : List Source) (s : Source) (p : Path) (n : ℕ) (m : Meant) → meant ss s p ≡ Some m → m.meaning ≡ me.Local n →
    local_of p.scopes p.names ≡ Some n
meant-local ss s p n m e k = by (local_of p.scopes p.names) refl (admitted ss s p.names) refl e
  where
    by : (o : Option ℕ) → local_of p.scopes p.names ≡ o → (a : Option Triple) → admitted ss s p.names ≡ a →
        option_or (option_map local_meant o) (option_map (λ t. item_meant t.item) a) ≡ Some m → local_of p.scopes p.names ≡ Some n
    by (Some j) h a f d =
        let is : local_meant j ≡ m = some-same _ _ d in
        h ∙ ap (λ i. Some i) (same-local j n (ap (λ w. w.meaning) is ∙ k))
    by None h None f d = absurd (none-some m d)
    by None h (Some t) f d =
        let is : item_meant t.item ≡ m = some-same _ _ d in
        absurd (admitted-free ss s p.names t f n (ap (λ w. w.meaning) is ∙ k))

-- ---- where a declaration stands

record InSource (ps : List (List ℕ)) (ts : List FileTree) (t : FileTree) : Type 0 where
  source : Source
  is_source : Contains (sources ps ts) source
  tree_is : source.tree ≡ t

in-source : (ps : List (List ℕ)) (ts : List FileTree) (t : FileTree) → length ts ≡ length ps → Contains ts t → InSource ps ts t
in-source ps [] t l c = absurd (Contains-none t c)
in-source [] (u ∷ us) t l c = absurd (omega (arith, l))
in-source (p ∷ ps) (u ∷ us) t l c = by (λ d. in-source ps us t (omega (arith, l)) d) (Contains-cases u t us c)
  where
    first : Source
    first = record { home = module_of p; tree = u }

    by : (Contains us t → InSource ps us t) → (u ≡ t) ⊎ Contains us t → InSource (p ∷ ps) (u ∷ us) t
    by go (inl e) = record { source = first; is_source = Contains-here first (sources ps us); tree_is = e }
    by go (inr d) =
        let k = go d in
        record { source = k.source; is_source = Contains-behind first k.source (sources ps us) k.is_source; tree_is = k.tree_is }

-- in a program whose paths have meanings, a path of a declaration that means a local means a binding in scope
local-bound : LocalsAreInScope → (ps : List (List ℕ)) (ts : List FileTree) (means : Place → Meaning) → length ts ≡ length ps →
    AreMeanings (sources ps ts) means → (t : Node) (p : Path) (n : ℕ) → Contains (decls ts) t → Contains (paths_of t) p →
    means p.place ≡ me.Local n → IsInScope t p n
local-bound scoped ps ts means l told t p n c d e =
    let file = flat_map-from (λ f. f.decls) ts t c in
    let k = in-source ps ts file.0 l file.1 in
    let among : Contains k.source.tree.decls t = subst (λ f. Contains f.decls t) (sym k.tree_is) file.2 in
    let path : Contains (paths_of_file k.source.tree) p = Contains-flat_map paths_of k.source.tree.decls t p among d in
    let is : IsMeaningOf (sources ps ts) k.source p (means p.place) = told.at_path k.source p (record { is_source = k.is_source; is_path = path }) in
    scoped t p n d (meant-local (sources ps ts) k.source p n is.meant_as is.is_meant (sym is.meaning_is ∙ e))

-- the same of the typed trees of these declarations
pub locals-bound : LocalsAreInScope → (ps : List (List ℕ)) (ts : List FileTree) (means : Place → Meaning) (ds : List TypedNode) →
    length ts ≡ length ps → AreMeanings (sources ps ts) means → map erase ds ≡ decls ts → LocalsAreBound ds means
locals-bound scoped ps ts means ds l told same d p n c k e =
    let among : Contains (decls ts) (erase d) = subst (λ us. Contains us (erase d)) same (Contains-map erase ds d c) in
    local-bound scoped ps ts means l told (erase d) p n among k e
