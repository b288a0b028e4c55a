-- Globals stand at the same addresses on both sides, and a run begins with the same memory.
use Rattle.std.proofs.Common.{◌≡◌, ℕ, zero, suc, ◌+◌, ◌%◌, ◌^◌, ◌<◌, ◌≤◌, Bool, true, false, ◌||◌, List, [], ◌∷◌, ◌++◌, map, length, Some, refl, sym, ap, ◌∙◌, subst, arith, append_assoc, append-nil}
use Rattle.std.specs.Prelude.{bytes_eq, sum_by, max, slice_get, slice_index_or, ◌==◌}
use Rattle.std.specs.List.{flat_map, list_all, list_any}
use Rattle.std.proofs.lemmas.Bool.{and_parts}
use Rattle.std.proofs.lemmas.Bool.Decides.{nat_tests}
use Rattle.std.proofs.lemmas.Grind.{common_steps, flat_map-append}
use Rattle.std.proofs.lemmas.List.Sums.{sum_by-append}
use Rattle.hx_base.specs.Memory.{Memory, le_bytes, round_up, map_range, write, empty_memory}
use Rattle.hx_base.specs.Runtime.{lookup, with_arguments, functions_start, data_start, or_zero}
use Rattle.flat_code.specs.declared.program.Data.{Data}
use Rattle.flat_code.specs.declared.program.FlatFn.{FlatFn}
use Rattle.flat_code.specs.declared.program.FlatProgram.{FlatProgram}
use Rattle.flat_code.specs.declared.program.Item.{Item}
use Rattle.flat_code.specs.declared.program.Item.TheVariants as item
use Rattle.flat_code.specs.Addresses as flat
use Rattle.flat_code.specs.Addresses.{addresses_from, item_bytes, item_size, with_global, with_globals}
use Rattle.flat_code.proofs.GlobalPlaces as flat_place
use Rattle.flat_code.specs.WellFormed.{IsWellFormed, is_alignment, is_bits, is_global, is_item, is_symbol, is_width, has_global, how_many, global_size}
use Rattle.il_code.specs.declared.types.IlItem.{IlItem}
use Rattle.il_code.specs.declared.types.Module.{Module}
use Rattle.il_code.specs.declared.types.Part.TheVariants as part
use Rattle.il_code.specs.declared.types.PartValue.{PartValue}
use Rattle.il_code.specs.declared.types.PartValue.TheVariants as value
use Rattle.il_code.specs.Addresses.{width_bytes, value_size, part_size, data_size, symbols_from, address, value_bytes, part_bytes, with_item, with_data, start_memory}
use Rattle.il_code.specs.Tokens.{is_string_byte}
use Rattle.il_emit.specs.Lines.{name_of, name_at}
use Rattle.il_emit.specs.Emitted.{string_of, byte_values, bytes_part, item_parts, parts_of, data_item, function_item, module_of}
use Rattle.il_emit.proofs.Lines.Counts.{sum_cons, or_true}
use Rattle.il_emit.proofs.NamesAndNumbers.NumberedNames.{bytes_same}
use Rattle.il_emit.proofs.ValidModule.Smalls.{values_size}

-- ---- sizes

width_kept : (width : ℕ) → is_width width ≡ true → width_bytes width ≡ width
width_kept width h = grind (arith, nat_tests, common_steps)

bytes_size : (vs : List PartValue) → sum_by part_size (bytes_part vs) ≡ sum_by (value_size 1) vs
bytes_size [] = refl
bytes_size (v ∷ vs) = omega arith

module _ (p : FlatProgram) where
  one_size : (i : Item) → is_item p i ≡ true → sum_by part_size (item_parts i) ≡ item_size i
  one_size (item.Number width n) h = let w = width_kept width (and_parts (is_width width) (is_bits n) h).0 in omega (arith, w)
  one_size (item.Symbol name offset) h = refl
  one_size (item.Zero n) h = omega arith
  one_size (item.Bytes bytes) h =
      bytes_size (byte_values [] bytes) ∙ omega (arith, values_size (value_size 1) (λ s. refl) (λ n. refl) [] bytes)

  parts_size : (is : List Item) → list_all (is_item p) is ≡ true → sum_by part_size (parts_of is) ≡ sum_by item_size is
  parts_size [] h = refl
  parts_size (i ∷ is) h =
      let k = and_parts (is_item p i) (list_all (is_item p) is) h in
      sum_by-append part_size (item_parts i) (parts_of is) ∙ omega (arith, one_size i k.0, parts_size is k.1) ∙ sym
      (sum_cons item_size i is)

  global_items : (d : Data) → is_global p d ≡ true → list_all (is_item p) d.items ≡ true
  global_items d h = (and_parts (is_alignment d.align) (list_all (is_item p) d.items) (and_parts (is_symbol d.name) _ h).1).1

  global_bytes : (d : Data) → is_global p d ≡ true → data_size (parts_of d.items) ≡ flat.data_size d
  global_bytes d h = ap (λ (n : ℕ). max 1 n) (parts_size d.items (global_items d h))

  -- ---- addresses by name

  behind_globals : ℕ → List Data → ℕ
  behind_globals at [] = at
  behind_globals at (d ∷ ds) = behind_globals (round_up at d.align + flat.data_size d) ds

  symbols_are : (f at : ℕ) (ds : List Data) (items : List IlItem) → list_all (is_global p) ds ≡ true →
      symbols_from f at (map data_item ds ++ items) ≡ addresses_from at ds ++ symbols_from f (behind_globals at ds) items
  unfolding behind_globals
  symbols_are f at [] items h = refl
  symbols_are f at (d ∷ ds) items h =
      let k = and_parts (is_global p d) (list_all (is_global p) ds) h in
      ap (λ (n : ℕ). (d.name, round_up at d.align) ∷ symbols_from f (round_up at d.align + n) (map data_item ds ++ items))
      (global_bytes d k.0)
      ∙ ap (λ (xs : List (List ℕ × ℕ)). (d.name, round_up at d.align) ∷ xs)
      (symbols_are f (round_up at d.align + flat.data_size d) ds items k.1)

-- the first of two tables has the name
lookup_front : (name : List ℕ) (at : ℕ) (ds : List Data) (xs : List (List ℕ × ℕ)) →
    list_any (λ (d : Data). bytes_eq d.name name) ds ≡ true → lookup name (addresses_from at ds ++ xs) ≡ lookup name (addresses_from at ds)
lookup_front name at [] xs h = cc
lookup_front name at (d ∷ ds) xs h = pick (bytes_eq d.name name) refl h (lookup_front name (round_up at d.align + flat.data_size d) ds xs)
  where
    pick : (b : Bool) → bytes_eq d.name name ≡ b → (b || list_any (λ (x : Data). bytes_eq x.name name) ds) ≡ true
        → (list_any (λ (x : Data). bytes_eq x.name name) ds ≡ true →
        lookup name (addresses_from (round_up at d.align + flat.data_size d) ds ++ xs) ≡ lookup name
        (addresses_from (round_up at d.align + flat.data_size d) ds))
        → lookup name (addresses_from at (d ∷ ds) ++ xs) ≡ lookup name (addresses_from at (d ∷ ds))
    pick true e k on = rw e refl
    pick false e k on = rw e (on k)

-- a global that is there has its name
name_any : (ds : List Data) (i : ℕ) → i < length ds → list_any (λ (d : Data). bytes_eq d.name (name_at ds i)) ds ≡ true
name_any [] i h = absurd (omega arith)
name_any (d ∷ ds) zero h = ap (λ (b : Bool). b || list_any (λ (x : Data). bytes_eq x.name d.name) ds) (bytes_same d.name)
name_any (d ∷ ds) (suc i) h = or_true (bytes_eq d.name (name_at ds i)) _ (name_any ds i (omega arith))

-- a global that is there
record IsGlobalAt (ds : List Data) (i : ℕ) : Type 0 where
  global : Data
  found : slice_get ds i ≡ Some global

global_at : (ds : List Data) (i : ℕ) → i < length ds → IsGlobalAt ds i
global_at [] i h = absurd (omega arith)
global_at (d ∷ ds) zero h = record { global = d; found = refl }
global_at (d ∷ ds) (suc i) h = let on = global_at ds i (omega arith) in record { global = on.global; found = on.found }

-- ---- bytes

module _ (p : FlatProgram) (m : Module)
    (known : (name : List ℕ) → has_global p name ≡ true → address m name ≡ flat.address_named p name) where
  string_bytes : (s : List ℕ) → flat_map (value_bytes m 1) (string_of s) ≡ s
  string_bytes [] = refl
  string_bytes (c ∷ s) = append-nil (c ∷ s)

  small_byte : (c : ℕ) → is_string_byte c ≡ false → c % 256 ≡ c
  small_byte c h = grind (arith, nat_tests, common_steps)

  values_bytes : (s bs : List ℕ) → flat_map (value_bytes m 1) (byte_values s bs) ≡ s ++ bs
  values_bytes s [] = string_bytes s ∙ sym (append-nil s)
  values_bytes s (c ∷ bs) = pick (is_string_byte c) refl (values_bytes (s ++ c ∷ []) bs) (values_bytes [] bs)
    where
      pick : (b : Bool) → is_string_byte c ≡ b → flat_map (value_bytes m 1) (byte_values (s ++ c ∷ []) bs) ≡ (s ++ c ∷ []) ++ bs →
          flat_map (value_bytes m 1) (byte_values [] bs) ≡ bs → flat_map (value_bytes m 1) (byte_values s (c ∷ bs)) ≡ s ++ c ∷ bs
      pick true e h k = rw e (h ∙ append_assoc s (c ∷ []) bs)
      pick false e h k =
          let same : byte_values s (c ∷ bs) ≡ string_of s ++ value.Number c ∷ byte_values [] bs = rw e refl in
          ap (flat_map (value_bytes m 1)) same
          ∙ flat_map-append (value_bytes m 1) (string_of s) (value.Number c ∷ byte_values [] bs)
          ∙ ap (λ (xs : List ℕ). xs ++ ((c % 256) ∷ flat_map (value_bytes m 1) (byte_values [] bs))) (string_bytes s)
          ∙ ap (λ (x : ℕ). s ++ (x ∷ flat_map (value_bytes m 1) (byte_values [] bs))) (small_byte c e)
          ∙ ap (λ (xs : List ℕ). s ++ (c ∷ xs)) k

  part_of_bytes : (vs : List PartValue) → flat_map (part_bytes m) (bytes_part vs) ≡ flat_map (value_bytes m 1) vs
  part_of_bytes [] = refl
  part_of_bytes (v ∷ vs) = append-nil (flat_map (value_bytes m 1) (v ∷ vs))

  one_bytes : (i : Item) → is_item p i ≡ true → flat_map (part_bytes m) (item_parts i) ≡ item_bytes p i
  one_bytes (item.Number width n) h =
      let w = width_kept width (and_parts (is_width width) (is_bits n) h).0 in
      append-nil (le_bytes (width_bytes width) n ++ []) ∙ append-nil (le_bytes (width_bytes width) n) ∙ ap (λ (k : ℕ). le_bytes k n) w
  one_bytes (item.Bytes bytes) h = part_of_bytes (byte_values [] bytes) ∙ values_bytes [] bytes
  one_bytes (item.Symbol name offset) h =
      let k = known name (and_parts (has_global p name) (is_bits offset) h).0 in
      append-nil (le_bytes 8 (address m name + offset) ++ []) ∙ append-nil (le_bytes 8 (address m name + offset)) ∙ ap
      (λ (a : ℕ). le_bytes 8 (a + offset)) k
  one_bytes (item.Zero n) h = append-nil (part_bytes m (part.Zero n))

  items_bytes : (is : List Item) → list_all (is_item p) is ≡ true → flat_map (part_bytes m) (parts_of is) ≡ flat_map (item_bytes p) is
  items_bytes [] h = refl
  items_bytes (i ∷ is) h =
      let k = and_parts (is_item p i) (list_all (is_item p) is) h in
      flat_map-append (part_bytes m) (item_parts i) (parts_of is)
      ∙ ap (λ (xs : List ℕ). xs ++ flat_map (part_bytes m) (parts_of is)) (one_bytes i k.0)
      ∙ ap (λ (xs : List ℕ). item_bytes p i ++ xs) (items_bytes is k.1)

  -- ---- memory

  functions_take_none : (memory : Memory) (q : FlatProgram) (fs : List FlatFn) →
      with_data m memory (map (function_item q) fs) ≡ memory
  functions_take_none memory q [] = refl
  functions_take_none memory q (f ∷ fs) = functions_take_none memory q fs

  -- globals that stand from `at` on, as the module has them
  pub same_data : (at : ℕ) (memory : Memory) (ds : List Data) (fs : List FlatFn) → list_all (is_global p) ds ≡ true
      → ((i : ℕ) → i < length ds → address m (name_at ds i) ≡ (slice_index_or (addresses_from at ds) i ([], 0)).1)
      → with_data m memory (map data_item ds ++ map (function_item p) fs) ≡ with_globals p memory at ds
  same_data at memory [] fs h places = functions_take_none memory p fs
  same_data at memory (d ∷ ds) fs h places =
      let k = and_parts (is_global p d) (list_all (is_global p) ds) h in
      ap (λ (x : ℕ). with_data m (with_item m memory x (parts_of d.items)) (map data_item ds ++ map (function_item p) fs))
      (places 0 (omega arith))
      ∙ ap (λ (xs : List ℕ). with_data m
      (map_range (write memory (round_up at d.align) xs) (round_up at d.align) (data_size (parts_of d.items)))
      (map data_item ds ++ map (function_item p) fs)) (items_bytes d.items (global_items p d k.0))
      ∙ ap (λ (n : ℕ). with_data m (map_range (write memory (round_up at d.align) (flat_map (item_bytes p) d.items)) (round_up at d.align)
      n) (map data_item ds ++ map (function_item p) fs)) (global_bytes p d k.0)
      ∙ same_data (round_up at d.align + flat.data_size d) (with_global p memory (round_up at d.align) d) ds fs k.1
      (λ i l. places (suc i) (omega arith))

-- ---- a whole program

module _ (p : FlatProgram) (w : IsWellFormed p) where
  differ : (ds : List Data) (i : ℕ) → list_all (λ (d : Data). how_many p d.name == 1) ds ≡ true → i < length ds →
      how_many p (name_at ds i) ≡ 1
  differ [] i h l = absurd (omega arith)
  differ (d ∷ ds) zero h l =
      let k = (and_parts (how_many p d.name == 1) (list_all (λ (x : Data). how_many p x.name == 1) ds) h).0 in grind (arith, nat_tests)
  differ (d ∷ ds) (suc i) h l =
      differ ds i (and_parts (how_many p d.name == 1) (list_all (λ (x : Data). how_many p x.name == 1) ds) h).1 (omega arith)

  symbols : symbols_from functions_start data_start (module_of p).items ≡ addresses_from data_start p.globals ++
      symbols_from functions_start (behind_globals p data_start p.globals) (map (function_item p) p.functions)
  symbols = symbols_are p functions_start data_start p.globals (map (function_item p) p.functions) w.globals

  looked_up : (name : List ℕ) → has_global p name ≡ true → lookup name (symbols_from functions_start data_start (module_of p).items) ≡
      lookup name (addresses_from data_start p.globals)
  looked_up name h = ap (lookup name) symbols ∙ lookup_front name data_start p.globals _ h

  named : (name : List ℕ) → has_global p name ≡ true → address (module_of p) name ≡ flat.address_named p name
  named name h = ap or_zero (looked_up name h)

  -- where a table is looked up by the name of a global, it has the global's address
  looked_up_at : (i : ℕ) → i < length p.globals → lookup (name_at p.globals i) (addresses_from data_start p.globals) ≡ Some
      (flat.address_at p i)
  looked_up_at i h =
      subst (λ (name : List ℕ). lookup name (addresses_from data_start p.globals) ≡ Some (flat.address_at p i)) (sym named_so)
      (flat_place.looked_up data_start p.globals i g.global g.found (omega (arith, one)))
    where
      g : IsGlobalAt p.globals i
      g = global_at p.globals i h

      named_so : name_at p.globals i ≡ g.global.name
      named_so = ap name_of g.found

      one : how_many p g.global.name ≡ 1
      one = subst (λ (name : List ℕ). how_many p name ≡ 1) named_so (differ p.globals i w.globals_differ h)

  -- a global has the same address on both sides
  pub address_is : (i : ℕ) → i < length p.globals → address (module_of p) (name_at p.globals i) ≡ flat.address_at p i
  address_is i h =
      let e = looked_up (name_at p.globals i) (name_any p.globals i h) ∙ looked_up_at i h in
      ap or_zero e

  pub address_small : (i : ℕ) → i < length p.globals → flat.address_at p i < 2 ^ 64
  address_small i h =
      let few : length p.globals ≤ 1073741824 = let z = w.few_globals in grind (arith, nat_tests) in
      let bytes : sum_by global_size p.globals ≤ 1073741824 = let z = w.few_bytes in grind (arith, nat_tests) in
      let g = global_at p.globals i h in
      let place = flat_place.located p data_start p.globals i g.global w.globals g.found in
      omega (arith, few, bytes, place.below, (flat_place.ends_within p data_start p.globals w.globals).high)

  -- and the memory is the same as the runs begin
  pub start_same : (fill : ℕ) (args : List (List ℕ)) → start_memory fill (module_of p) args ≡ flat.start_memory fill p args
  start_same fill args = ap (λ (memory : Memory). with_arguments memory args)
      (same_data p (module_of p) named data_start (empty_memory fill) p.globals p.functions w.globals address_is)
