-- What is found of a program by numbers is what its definitions say of it.
use Rattle.std.proofs.Common.{◌≡◌, ◌⊎◌, inl, inr, ℕ, ◌+◌, List, [], ◌∷◌, ◌++◌, map, fold, length, slice_get, position, bytes_eq, Option, Some, refl, sym, ap, ◌∙◌, subst, suc, zero, zero-add, arith}
use Rattle.std.specs.Prelude.{option_map, option_and_then, Contains}
use Rattle.std.specs.List.{filter_map}
use Rattle.hare_tree.specs.declared.place.Fault.{Fault}
use Rattle.hare_tree.specs.declared.tree.FileTree.{FileTree}
use Rattle.hare_modules.specs.Order.{earlier_of, first_in, TellsFirst}
use Rattle.hare_modules.specs.Modules.{Module, Source, sources, module_of}
use Rattle.hare_modules.specs.Declarations.{item_named}
use Rattle.hare_modules.specs.Entries.{entry}
use Rattle.hare_modules.specs.Faults.{IsModuleFault, unknown_module, repeated_name, runtime_file, unknown_member, circle, IsCircle, unknown_modules, repeated_names, runtime_files, unknown_members}
use Rattle.hare_modules.specs.Numbering.{AreHomes, IsNumbering}
use Rattle.hare_modules.specs.Tables.{value_of}
use Rattle.hare_modules.specs.Takings as takings
use Rattle.hare_modules.specs.Taken.{Tables, tables_with, first_tables, table_at, Tells, built_in_takings, repeated_faults, member_fault}
use Rattle.hare_modules.specs.CirclesIn.{imports_graph, IsCircleIn, AreUsingsWithin}
use Rattle.hare_modules.specs.Directory.{Directory, IsDirectoryOf, AreNumbered}
use Rattle.hare_graph.proofs.Elements.{get_or-there}
use Rattle.hare_modules.proofs.NumberLemmas.{position-is, position-of, some-module}
use Rattle.hare_modules.proofs.SourceLemmas.{usings-within, circle-to, circle-from, numbered-known, unknown-all, runtime-all}
use Rattle.hare_modules.proofs.OrderLemmas.{first-of-both, first-of-same, first-in}
use Rattle.hare_modules.proofs.TellsLemmas.{tells-all, tells-first, sized-first, filed-first, repeated-is, ArePlaced}
use Rattle.hare_directory.proofs.TakenNames.Items.{items-told}
use Rattle.hare_directory.proofs.TakenNames.Imports.{imports-told}
use Rattle.hare_directory.proofs.TakenNames.Placed.{takings-placed}
use Rattle.hare_directory.proofs.ByNumbers.Claims.{repeated-are}
use Rattle.hare_directory.proofs.ByNumbers.Members.{members-same}
use Rattle.std.proofs.Common.{get_or}

-- the numbers of a program's modules, and the tables of what is taken
pub record IsLook (ps : List (List ℕ)) (ts : List FileTree) (known : List Module) (hs : List ℕ) (t : Tables) : Type 0 where
  pub files : AreNumbered ps ts
  pub numbers : IsNumbering (map module_of ps) known hs
  pub filled : t ≡ fold tables_with (first_tables (length known) (length ts)) (takings.takings known 0 0 hs ts)

-- the module of a file, by its number
home-of : (known : List Module) (ps : List (List ℕ)) (hs : List ℕ) (ts : List FileTree) (f : ℕ) (s : Source) →
    AreHomes known (map module_of ps) hs → slice_get (sources ps ts) f ≡ Some s →
    (h : ℕ) × (slice_get hs f ≡ Some h) × (slice_get known h ≡ Some s.home)
home-of known [] hs ts f s a e = absurd cc
home-of known (p ∷ ps) hs [] f s a e = absurd cc
home-of known (p ∷ ps) [] (t ∷ ts) f s a e = absurd a
home-of known (p ∷ ps) (h ∷ hs) (t ∷ ts) zero s a e = let same : module_of p ≡ s.home = cc in (h, refl, a.0 ∙ ap Some same)
home-of known (p ∷ ps) (h ∷ hs) (t ∷ ts) (suc f) s a e = home-of known ps hs ts f s a.1 e

module _ (ps : List (List ℕ)) (ts : List FileTree) (known : List Module) (hs : List ℕ) (t : Tables) (l : IsLook ps ts known hs t) where
  abbrev ss : List Source
  ss = sources ps ts

  abbrev ks : List takings.Taking
  ks = takings.takings known 0 0 hs ts

  abbrev us : List takings.Using
  us = takings.usings known hs ts

  placed : ArePlaced (λ f. get_or hs f 0) (length known) (length ts) ks
  placed =
      takings-placed (λ f. get_or hs f 0) (length known) (length ts) known 0 0 (map module_of ps) hs ts refl l.numbers.homes_are
      (λ i h e. ap (λ j. get_or hs j 0) (zero-add i) ∙ get_or-there hs i h 0 e) (omega arith)

  tells : Tells (built_in_takings ++ ks) t.items t.imported t.imports
  tells =
      subst (λ u. Tells (built_in_takings ++ ks) u.items u.imported u.imports) (sym l.filled)
      (tells-all (λ f. get_or hs f 0) (length known) (length ts) ks built_in_takings (first_tables (length known) (length ts))
      (sized-first (length known) (length ts)) placed
      (tells-first (length known) (length ts) (some-module (map module_of ps) known hs l.numbers)))

  -- what a name of a known module means
  told : (m : Module) (n : ℕ) (x : List ℕ) → position (bytes_eq m) known ≡ Some n →
      value_of x (table_at t.items n) ≡ option_map entry (item_named ss m x)
  told m n x e = tells.items_told n x ∙ items-told n m x (map module_of ps) known hs l.numbers
      (position-is known m n e) ps hs ts l.numbers.homes_are

  abbrev seen : Directory
  seen = record { homes = hs; items = t.items; imports = t.imports }

  own-told : (f : ℕ) (s : Source) (x : List ℕ) → slice_get ss f ≡ Some s →
      option_and_then (λ n. value_of x (table_at t.items n)) (slice_get hs f) ≡ option_map entry (item_named ss s.home x)
  own-told f s x e =
      let h = home-of known ps hs ts f s l.numbers.homes_are e in
      ap (option_and_then (λ n. value_of x (table_at t.items n))) h.1
      ∙ told s.home h.0 x (position-of (map module_of ps) known hs s.home h.0 l.numbers h.2)

  -- the tables are those of the program
  pub look-tables : IsDirectoryOf ss seen
  look-tables = record {
    known = known;
    all_known = numbered-known known ps hs ts l.files.paired l.numbers;
    items = told;
    own = own-told;
    imports_are = λ f s x e. tells.imports_told f x ∙ imports-told known f x 0 0 f ps hs ts s l.numbers.homes_are (sym (zero-add f)) e;
  }

  -- ---- the first fault

  abbrev Circle : Fault → Type 0
  Circle = IsCircle ss

  abbrev Repeated : Fault → Type 0
  Repeated f = Contains (repeated_names ss) f

  abbrev Runtime : Fault → Type 0
  Runtime f = Contains (runtime_files ss) f

  abbrev Member : Fault → Type 0
  Member f = Contains (unknown_members ss) f

  abbrev Unknown : Fault → Type 0
  Unknown f = Contains (unknown_modules ss) f

  listed : (found : Option Fault) (fs gs : List Fault) → found ≡ first_in fs → fs ≡ gs → TellsFirst (λ f. Contains gs f) found
  listed found fs gs e d = subst (λ o. TellsFirst (λ f. Contains gs f) o) (sym (e ∙ ap first_in d)) (first-in gs)

  two : (P Q : Fault → Type 0) (found other : Option Fault) → TellsFirst P found → TellsFirst Q other →
      TellsFirst (λ f. P f ⊎ Q f) (earlier_of found other)
  two P Q found other = first-of-both P Q (λ f. P f ⊎ Q f) (λ f r. r) (λ f p. inl p) (λ f q. inr q) found other

  abbrev Any : Fault → Type 0
  Any f = (((Circle f ⊎ Repeated f) ⊎ Runtime f) ⊎ Member f) ⊎ Unknown f

  to : (f : Fault) → Any f → IsModuleFault ss f
  to f (inl (inl (inl (inl a)))) = circle a
  to f (inl (inl (inl (inr a)))) = repeated_name a
  to f (inl (inl (inr a))) = runtime_file a
  to f (inl (inr a)) = unknown_member a
  to f (inr a) = unknown_module a

  from : (f : Fault) → IsModuleFault ss f → Any f
  from f (unknown_module a) = inr a
  from f (repeated_name a) = inl (inl (inl (inr a)))
  from f (runtime_file a) = inl (inl (inr a))
  from f (unknown_member a) = inl (inr a)
  from f (circle a) = inl (inl (inl (inl a)))

  circles : (found : Option Fault) → TellsFirst (IsCircleIn (imports_graph (length known) us) us) found → TellsFirst Circle found
  circles =
      first-of-same (IsCircleIn (imports_graph (length known) us) us) Circle
      (circle-to (map module_of ps) known hs ps hs ts l.numbers l.numbers.homes_are)
      (circle-from (map module_of ps) known hs ps hs ts l.numbers l.numbers.homes_are)

  numbered : (i : ℕ) (u : FileTree) → slice_get ts i ≡ Some u → u.file ≡ 0 + i
  numbered i u e = l.files.numbered i u e ∙ sym (zero-add i)

  repeats : repeated_faults (first_tables (length known) (length ts)) ks ≡ repeated_names ss
  repeats =
      repeated-is (λ f. get_or hs f 0) (length known) (length ts) ks built_in_takings (first_tables (length known) (length ts))
      (sized-first (length known) (length ts)) placed
      (filed-first (λ f. get_or hs f 0)) (tells-first (length known) (length ts) (some-module (map module_of ps) known hs l.numbers))
      ∙ sym (repeated-are known (map module_of ps) hs l.numbers ps hs ts l.numbers.homes_are numbered)

  pub look-first : (cycle again file member other : Option Fault) → TellsFirst (IsCircleIn (imports_graph (length known) us) us) cycle →
      again ≡ first_in (repeated_faults (first_tables (length known) (length ts)) ks) → file ≡ first_in (takings.runtime_files hs ts) →
      member ≡ first_in (filter_map (member_fault t.items) ks) → other ≡ first_in (filter_map takings.unknown_module us) →
      TellsFirst (IsModuleFault ss) (earlier_of (earlier_of (earlier_of (earlier_of cycle again) file) member) other)
  look-first cycle again file member other c r f m u =
      first-of-same Any (IsModuleFault ss) to from (earlier_of (earlier_of (earlier_of (earlier_of cycle again) file) member) other)
      (two (λ g. ((Circle g ⊎ Repeated g) ⊎ Runtime g) ⊎ Member g) Unknown
      (earlier_of (earlier_of (earlier_of cycle again) file) member) other
      (two (λ g. (Circle g ⊎ Repeated g) ⊎ Runtime g) Member (earlier_of (earlier_of cycle again) file) member
      (two (λ g. Circle g ⊎ Repeated g) Runtime (earlier_of cycle again) file
      (two Circle Repeated cycle again (circles cycle c) (listed again _ _ r repeats))
      (listed file _ _ f (runtime-all (map module_of ps) known hs l.numbers ps hs ts l.numbers.homes_are)))
      (listed member _ _ m (members-same ss known t.items
      (numbered-known known ps hs ts l.files.paired l.numbers) told 0 0 ps hs ts l.numbers.homes_are)))
      (listed other _ _ u (unknown-all ss known (numbered-known known ps hs ts l.files.paired l.numbers) ps hs ts l.numbers.homes_are)))

  pub look-within : AreUsingsWithin (length known) us
  look-within = usings-within (map module_of ps) known hs ps hs ts l.numbers l.numbers.homes_are
