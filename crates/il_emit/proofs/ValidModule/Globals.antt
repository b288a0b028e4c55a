-- A global of a well formed program becomes a data item that keeps the rules of the intermediate language.
use Rattle.std.proofs.Common.{◌≡◌, ℕ, zero, suc, ◌<◌, Bool, true, false, not, ◌||◌, List, [], ◌∷◌, ◌++◌, length, refl, sym, ap, subst, arith}
use Rattle.std.specs.Prelude.{bytes_eq}
use Rattle.std.specs.List.{list_all, list_any}
use Rattle.std.proofs.lemmas.Bool.{and_parts}
use Rattle.std.proofs.lemmas.Bool.Decides.{nat_tests}
use Rattle.std.proofs.lemmas.Grind.{common_steps}
use Rattle.std.proofs.lemmas.Slice.Eq.{bytes_eq-Decides}
use Rattle.flat_code.specs.declared.program.Data.{Data}
use Rattle.flat_code.specs.declared.program.FlatProgram.{FlatProgram}
use Rattle.flat_code.specs.declared.program.Item.{Item}
use Rattle.flat_code.specs.declared.program.Item.TheVariants as item
use Rattle.flat_code.specs.WellFormed.{is_symbol, is_identifier, is_reserved, is_bits, is_width, is_alignment, is_global, most}
use Rattle.flat_code.specs.WellFormed as well
use Rattle.il_code.specs.declared.types.IlItem.{IlItem}
use Rattle.il_code.specs.declared.types.Part.{Part}
use Rattle.il_code.specs.declared.types.PartValue.{PartValue}
use Rattle.il_code.specs.declared.types.PartValue.TheVariants as value
use Rattle.il_code.specs.Rules.{item_name, has_named, part_value_is_right, part_is_right, has_own_names, item_is_right}
use Rattle.il_code.specs.Shaped.{is_part_value, is_part, is_item}
use Rattle.il_code.specs.Tokens.{is_string_byte}
use Rattle.il_emit.specs.Emitted.{string_of, byte_values, bytes_part, item_parts, parts_of, data_item}
use Rattle.il_emit.specs.Lines.{name_at}
use Rattle.il_emit.proofs.Lines.Counts.{both_true, or_true, all_append}
use Rattle.il_emit.proofs.NamesAndNumbers.NumberedNames.{bytes_same}

-- ---- names of globals

-- the name at a place in the list passes a test of all names
pub name_passes : (test : List ℕ → Bool) (ds : List Data) (i : ℕ) → i < length ds → list_all (λ (d : Data). test d.name) ds ≡ true →
    test (name_at ds i) ≡ true
name_passes test [] i l h = absurd (omega arith)
name_passes test (d ∷ ds) zero l h = (and_parts (test d.name) _ h).0
name_passes test (d ∷ ds) (suc i) l h = name_passes test ds i (omega arith) (and_parts (test d.name) _ h).1

-- it is the name of one in the list
pub name_there : (ds : List Data) (i : ℕ) → i < length ds → list_any (λ (d : Data). bytes_eq d.name (name_at ds i)) ds ≡ true
name_there [] i l = absurd (omega arith)
name_there (d ∷ ds) zero l = ap (λ (b : Bool). b || list_any (λ (x : Data). bytes_eq x.name d.name) ds) (bytes_same d.name)
name_there (d ∷ ds) (suc i) l = or_true (bytes_eq d.name (name_at ds i)) _ (name_there ds i (omega arith))

-- a name of one in the list passes a test of all names
name_of_passes : (test : List ℕ → Bool) (name : List ℕ) (ds : List Data) → list_all (λ (d : Data). test d.name) ds ≡ true →
    list_any (λ (d : Data). bytes_eq d.name name) ds ≡ true → test name ≡ true
name_of_passes test name [] h k = cc
name_of_passes test name (d ∷ ds) h k = pick (bytes_eq d.name name) refl k (name_of_passes test name ds (and_parts (test d.name) _ h).1)
  where
    pick : (b : Bool) → bytes_eq d.name name ≡ b → (b || list_any (λ (x : Data). bytes_eq x.name name) ds) ≡ true →
        (list_any (λ (x : Data). bytes_eq x.name name) ds ≡ true → test name ≡ true) → test name ≡ true
    pick true e k' on = subst (λ (s : List ℕ). test s ≡ true) ((bytes_eq-Decides d.name name).0 e) (and_parts (test d.name) _ h).0
    pick false e k' on = on k'

-- ---- strings and bytes

no_string_byte : (c : ℕ) → is_string_byte c ≡ false → is_bits c ≡ true
no_string_byte c h = grind (arith, nat_tests, common_steps)

-- values as they may stand behind `b`
abbrev Right : List IlItem → List PartValue → Type 0
Right items vs = (list_all is_part_value vs ≡ true) × (list_all (part_value_is_right items 1) vs ≡ true)

string_right : (items : List IlItem) (s : List ℕ) → list_all is_string_byte s ≡ true → Right items (string_of s)
string_right items [] h = (refl, refl)
string_right items (c ∷ s) h = (both_true _ true h refl, refl)

bytes_right : (items : List IlItem) (s bs : List ℕ) → list_all is_string_byte s ≡ true → Right items (byte_values s bs)
bytes_right items s [] h = string_right items s h
bytes_right items s (c ∷ bs) h = pick (is_string_byte c) refl (bytes_right items (s ++ c ∷ []) bs) (bytes_right items [] bs refl)
  where
    pick : (b : Bool) → is_string_byte c ≡ b → (list_all is_string_byte (s ++ c ∷ []) ≡ true → Right items (byte_values (s ++ c ∷ []) bs)) →
        Right items (byte_values [] bs) → Right items (byte_values s (c ∷ bs))
    pick true e on rest =
        let same : byte_values s (c ∷ bs) ≡ byte_values (s ++ c ∷ []) bs = rw e refl in
        subst (Right items) (sym same) (on (all_append is_string_byte s (c ∷ []) h (both_true _ true e refl)))
    pick false e on rest =
        let same : byte_values s (c ∷ bs) ≡ string_of s ++ value.Number c ∷ byte_values [] bs = rw e refl in
        let front = string_right items s h in
        subst (Right items) (sym same) (
          all_append is_part_value (string_of s) _ front.0 (both_true _ _ (no_string_byte c e) rest.0),
          all_append (part_value_is_right items 1) (string_of s) _ front.1 rest.1,
        )

-- ---- parts

module _ (p : FlatProgram) (items : List IlItem) (spelled : list_all (λ (d : Data). is_identifier d.name) p.globals ≡ true)
    (known : (name : List ℕ) → list_any (λ (d : Data). bytes_eq d.name name) p.globals ≡ true → has_named item_name name items ≡ true) where
  abbrev PartsRight : List Part → Type 0
  PartsRight ps = (list_all is_part ps ≡ true) × (list_all (part_is_right items) ps ≡ true)

  values_right : (vs : List PartValue) → Right items vs → PartsRight (bytes_part vs)
  values_right [] h = (refl, refl)
  values_right (v ∷ vs) h = (both_true _ true h.0 refl, both_true _ true h.1 refl)

  item_right : (i : Item) → well.is_item p i ≡ true → PartsRight (item_parts i)
  item_right (item.Number width n) h =
      let k = and_parts (is_width width) (is_bits n) h in
      (both_true _ true (both_true _ _ k.0 (both_true _ true k.1 refl)) refl, refl)
  item_right (item.Bytes bytes) h = values_right (byte_values [] bytes) (bytes_right items [] bytes refl)
  item_right (item.Symbol name offset) h =
      let k = and_parts (well.has_global p name) (is_bits offset) h in
      let s = name_of_passes is_identifier name p.globals spelled k.0 in
      (both_true _ true (both_true _ true (both_true _ _ s k.1) refl) refl, both_true _ true (both_true _ true (known name k.0) refl) refl)
  item_right (item.Zero n) h =
      let few : is_bits n ≡ true = grind (arith, nat_tests) in
      (both_true _ true few refl, refl)

  parts_right : (is : List Item) → list_all (well.is_item p) is ≡ true → PartsRight (parts_of is)
  parts_right [] h = (refl, refl)
  parts_right (i ∷ is) h =
      let k = and_parts (well.is_item p i) (list_all (well.is_item p) is) h in
      let one = item_right i k.0 in
      let rest = parts_right is k.1 in (
        all_append is_part (item_parts i) (parts_of is) one.0 rest.0,
        all_append (part_is_right items) (item_parts i) (parts_of is) one.1
            rest.1,
      )

  alignment_bits : (n : ℕ) → is_alignment n ≡ true → is_bits n ≡ true
  alignment_bits n h = grind (arith, nat_tests, common_steps)

  pub data_shaped : (d : Data) → is_global p d ≡ true → is_item (data_item d) ≡ true
  data_shaped d h =
      let a = and_parts (is_symbol d.name) _ h in
      let b = and_parts (is_alignment d.align) (list_all (well.is_item p) d.items) a.1 in
      let c = and_parts (is_identifier d.name) (not (is_reserved d.name)) a.0 in
      both_true _ _ c.0 (both_true _ _ (alignment_bits d.align b.0) (parts_right d.items b.1).0)

  pub data_right : (d : Data) → is_global p d ≡ true → item_is_right items (data_item d) ≡ true
  data_right d h =
      let a = and_parts (is_symbol d.name) _ h in
      let b = and_parts (is_alignment d.align) (list_all (well.is_item p) d.items) a.1 in
      (parts_right d.items b.1).1

  pub data_own : (d : Data) → is_global p d ≡ true → has_own_names (data_item d) ≡ true
  data_own d h = (and_parts (is_identifier d.name) (not (is_reserved d.name)) (and_parts (is_symbol d.name) _ h).0).1
