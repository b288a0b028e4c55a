-- The module of a well formed program, whose names are few, is valid.
use Rattle.std.proofs.Common.{◌≡◌, ℕ, Bool, true, ◌||◌, not, ◌<◌, List, [], ◌∷◌, ◌++◌, map, length, refl, ap, ◌∙◌, arith}
use Rattle.std.specs.Prelude.{count_by, sum_by, bytes_eq, ◌==◌}
use Rattle.std.specs.List.{list_all, list_any, AllByRecursion}
use Rattle.std.proofs.lemmas.Bool.{and_parts}
use Rattle.std.proofs.lemmas.List.Folds.{list_any-append}
use Rattle.std.proofs.lemmas.List.Sums.{sum_by-append}
use Rattle.flat_code.specs.declared.program.Data.{Data}
use Rattle.flat_code.specs.declared.program.FlatFn.{FlatFn}
use Rattle.flat_code.specs.declared.program.FlatProgram.{FlatProgram}
use Rattle.flat_code.specs.WellFormed.{IsWellFormed, is_symbol, is_identifier, is_reserved, is_alignment, is_item, is_global, global_size}
use Rattle.flat_code.specs.WellFormed as flat
use Rattle.il_code.specs.declared.types.IlItem.{IlItem}
use Rattle.il_code.specs.Rules.{item_name, how_many, is_main, is_function, item_is_small, item_size, is_small, has_named, has_own_names, flow_is_right, item_is_right, IsValid}
use Rattle.il_code.specs.Shaped as il
use Rattle.il_code.specs.Shaped.{is_shaped, is_lawful}
use Rattle.il_code.proofs.Validates.{valid_is}
use Rattle.il_emit.specs.Lines.{name_at}
use Rattle.il_emit.specs.Emitted.{data_item, function_item, module_of}
use Rattle.il_emit.specs.Numbered.{HasFewNames}
use Rattle.il_emit.proofs.Lines.Counts.{both_true, or_true, count_append, count_map, count_all, count_none, sum_map, sum_none, any_map}
use Rattle.il_emit.proofs.Lines.Counts.{all_map, all_append, all_same, all_more}
use Rattle.il_emit.proofs.ValidModule.Functions.{shaped, own_names, flows, rightful}
use Rattle.il_emit.proofs.ValidModule.Globals.{name_passes, name_there, data_shaped, data_right, data_own}
use Rattle.il_emit.proofs.NamesAndNumbers.NamedFunctions.{items_named, found_identifier, parts}
use Rattle.il_emit.proofs.ValidModule.Smalls.{function_small, parts_small, parts_size}

both_ways : {A : Type 0} {P : A → Type 0} (f g : A → Bool) → ((x : A) → f x ≡ true → P x → g x ≡ true) → (xs : List A) →
    list_all f xs ≡ true → AllByRecursion P xs → list_all g xs ≡ true
both_ways f g h [] e k = refl
both_ways f g h (x ∷ xs) e k =
    let p = and_parts (f x) (list_all f xs) e in both_true (g x) (list_all g xs) (h x p.0 k.0) (both_ways f g h xs p.1 k.1)

module _ (p : FlatProgram) (w : IsWellFormed p) (few : AllByRecursion HasFewNames p.functions) where
  datas : List IlItem
  datas = map data_item p.globals

  functions : List IlItem
  functions = map (function_item p) p.functions

  -- as many items have a name as functions and globals
  named : (name : List ℕ) → how_many item_name name (map data_item p.globals ++ map (function_item p) p.functions) ≡ flat.how_many p
      name
  named name =
      let q : IlItem → Bool = λ x. bytes_eq (item_name x) name in
      count_append q (map data_item p.globals) (map (function_item p) p.functions)
      ∙ omega (arith, count_map q data_item p.globals, count_map q (function_item p) p.functions)

  once_is : (name : List ℕ) → (how_many item_name name (map data_item p.globals ++ map (function_item p) p.functions) == 1) ≡
      (flat.how_many p name == 1)
  once_is name = ap (λ (n : ℕ). n == 1) (named name)

  once : list_all (λ (x : IlItem). how_many item_name (item_name x)
      (map data_item p.globals ++ map (function_item p) p.functions) == 1)
      (map data_item p.globals ++ map (function_item p) p.functions) ≡ true
  once =
      let q : IlItem → Bool =
      λ x. how_many item_name (item_name x) (map data_item p.globals ++ map (function_item p) p.functions) == 1 in
      all_append q (map data_item p.globals) (map (function_item p) p.functions)
      (all_map q data_item p.globals ∙ all_same _ _ (λ (d : Data). once_is d.name) p.globals ∙ w.globals_differ)
      (all_map q (function_item p) p.functions ∙ all_same _ _ (λ (f : FlatFn). once_is f.name) p.functions ∙ w.functions_differ)

  main : list_any is_main (map data_item p.globals ++ map (function_item p) p.functions) ≡ true
  main =
      list_any-append is_main (map data_item p.globals) (map (function_item p) p.functions)
      ∙ or_true (list_any is_main (map data_item p.globals)) _ (any_map is_main (function_item p) p.functions ∙ w.main)

  data_small : (d : Data) → is_global p d ≡ true → item_is_small (data_item d) ≡ true
  data_small d h =
      let a = and_parts (is_symbol d.name) _ h in
      let b = and_parts (is_alignment d.align) (list_all (is_item p) d.items) a.1 in
      both_true (is_alignment d.align) _ b.0 (parts_small p d.items b.1)

  numbers : list_all item_is_small (map data_item p.globals ++ map (function_item p) p.functions) ≡ true
  numbers =
      all_append item_is_small (map data_item p.globals) (map (function_item p) p.functions)
      (all_map item_is_small data_item p.globals ∙ all_more (is_global p) (λ (d : Data). item_is_small (data_item d)) data_small p.globals
      w.globals)
      (all_map item_is_small (function_item p) p.functions ∙ all_more (flat.is_function_right p)
      (λ (f : FlatFn). item_is_small (function_item p f))
      (λ (f : FlatFn) (h : flat.is_function_right p f ≡ true). function_small p f (parts p f h).code) p.functions w.functions)

  code_count : count_by is_function (map data_item p.globals ++ map (function_item p) p.functions) ≡ length p.functions
  code_count =
      count_append is_function (map data_item p.globals) (map (function_item p) p.functions)
      ∙ omega (
        arith,
        count_map is_function data_item p.globals,
        count_none p.globals,
        count_map is_function (function_item p)
            p.functions,
        count_all p.functions,
      )

  data_count : count_by (λ (i : IlItem). not (is_function i)) (map data_item p.globals ++ map (function_item p) p.functions) ≡
      length p.globals
  data_count =
      let q : IlItem → Bool = λ i. not (is_function i) in
      count_append q (map data_item p.globals) (map (function_item p) p.functions)
      ∙ omega (
        arith,
        count_map q data_item p.globals,
        count_all p.globals,
        count_map q (function_item p) p.functions,
        count_none
            p.functions,
      )

  data_bytes : sum_by item_size (map data_item p.globals ++ map (function_item p) p.functions) ≡ sum_by global_size p.globals
  data_bytes =
      sum_by-append item_size (map data_item p.globals) (map (function_item p) p.functions)
      ∙ omega (
        arith,
        sum_map item_size data_item global_size (λ (d : Data). parts_size d.items) p.globals,
        sum_map item_size
            (function_item p) (λ (f : FlatFn). 0) (λ (f : FlatFn). refl) p.functions,
        sum_none p.functions,
      )

  small : is_small (map data_item p.globals ++ map (function_item p) p.functions) ≡ true
  small = rw (code_count, data_count, data_bytes) (both_true _ _ w.few_functions (both_true _ _ w.few_globals w.few_bytes))

  known : (name : List ℕ) → list_any (λ (d : Data). bytes_eq d.name name) p.globals ≡ true →
      has_named item_name name (map data_item p.globals ++ map (function_item p) p.functions) ≡ true
  known name h =
      let q : IlItem → Bool = λ x. bytes_eq (item_name x) name in
      list_any-append q (map data_item p.globals) (map (function_item p) p.functions)
      ∙ ap (λ (b : Bool). b || list_any q (map (function_item p) p.functions)) (any_map q data_item p.globals ∙ h)

  spelled : list_all (λ (d : Data). is_identifier d.name) p.globals ≡ true
  spelled = all_more (is_global p) (λ (d : Data). is_identifier d.name)
      (λ d h. (and_parts (is_identifier d.name) (not (is_reserved d.name)) (and_parts (is_symbol d.name) _ h).0).0) p.globals w.globals

  -- a test that the items of all globals and of all functions pass
  each_item : (test : IlItem → Bool) → ((d : Data) → is_global p d ≡ true → test (data_item d) ≡ true)
      → ((f : FlatFn) → flat.is_function_right p f ≡ true → HasFewNames f → test (function_item p f) ≡ true)
      → list_all test (map data_item p.globals ++ map (function_item p) p.functions) ≡ true
  each_item test on_data on_function =
      all_append test (map data_item p.globals) (map (function_item p) p.functions)
      (all_map test data_item p.globals ∙ all_more (is_global p) (λ (d : Data). test (data_item d)) on_data p.globals w.globals)
      (all_map test (function_item p) p.functions ∙ both_ways {P = HasFewNames} (flat.is_function_right p)
      (λ (f : FlatFn). test (function_item p f)) on_function p.functions w.functions few)

  names : (i : ℕ) → i < length p.globals → is_identifier (name_at p.globals i) ≡ true
  names i h = name_passes is_identifier p.globals i h spelled

  symbols : (i : ℕ) → i < length p.globals → has_named item_name (name_at p.globals i)
      (map data_item p.globals ++ map (function_item p) p.functions) ≡ true
  symbols i h = known (name_at p.globals i) (name_there p.globals i h)

  shape : is_shaped (module_of p) ≡ true
  unfolding is_shaped
  shape = each_item il.is_item (data_shaped p (map data_item p.globals ++ map (function_item p) p.functions) spelled known)
      (λ f r s. shaped p f (map data_item p.globals ++ map (function_item p) p.functions) r s names symbols (items_named p w)
      (λ name g. found_identifier p name g w))

  laws : is_lawful (module_of p).items ≡ true
  unfolding is_lawful
  laws =
      let items = map data_item p.globals ++ map (function_item p) p.functions in
      both_true _ _ once
      (both_true _ _ (each_item has_own_names (data_own p items spelled known)
      (λ f r s. own_names p f items r s names symbols (items_named p w) (λ name g. found_identifier p name g w)))
      (both_true _ _ (each_item flow_is_right (λ d h. refl) (λ f r s. flows p f items r s names symbols (items_named p w)
      (λ name g. found_identifier p name g w)))
      (both_true _ _ (each_item (item_is_right items) (data_right p items spelled known)
      (λ f r s. rightful p f items r s names symbols (items_named p w) (λ name g. found_identifier p name g w)))
      (both_true _ _ main (both_true _ _ numbers small)))))

  pub valid : IsValid (module_of p)
  valid = (valid_is (module_of p)).0 (both_true _ _ shape laws)
