-- An emitted instruction copies as many bytes as its Move, so each is small; and the parts of a global are as small as its items.
use Rattle.std.proofs.Common.{◌≡◌, ℕ, zero, suc, ◌+◌, Bool, true, false, List, [], ◌∷◌, ◌++◌, length, refl, sym, ◌∙◌, arith, length-append}
use Rattle.std.specs.Prelude.{sum_by, nat_le}
use Rattle.std.specs.List.{list_all}
use Rattle.std.proofs.lemmas.Bool.{and_parts}
use Rattle.std.proofs.lemmas.List.Sums.{sum_by-append}
use Rattle.flat_code.specs.declared.program.FlatFn.{FlatFn}
use Rattle.flat_code.specs.declared.program.FlatProgram.{FlatProgram}
use Rattle.flat_code.specs.declared.program.Item.{Item}
use Rattle.flat_code.specs.declared.program.Item.TheVariants as item
use Rattle.flat_code.specs.Addresses.{item_size}
use Rattle.flat_code.specs.Shape.{code_of}
use Rattle.flat_code.specs.WellFormed.{most, is_item, is_right}
use Rattle.il_code.specs.declared.types.PartValue.{PartValue}
use Rattle.il_code.specs.declared.types.PartValue.TheVariants as value
use Rattle.il_code.specs.Rules.{inst_is_small, part_is_small, value_size, part_size}
use Rattle.il_code.specs.Tokens.{is_string_byte}
use Rattle.il_emit.specs.Lines.{frame_lines, labels_in, addresses_in}
use Rattle.il_emit.specs.Emitted.{blocks_of, string_of, byte_values, bytes_part, item_parts, parts_of}
use Rattle.il_emit.proofs.Lines.Allowed.{LinesPass}
use Rattle.il_emit.proofs.Lines.Counts.{both_true, all_append, sum_cons}
use Rattle.il_emit.proofs.Lines.EachInst.{passes, all_pass, each_inst}

-- ---- instructions

small_lines : (p : FlatProgram) (f : FlatFn) (most_labels most_addresses : ℕ) →
    LinesPass p f (passes inst_is_small) most_labels most_addresses
small_lines p f most_labels most_addresses = record {
  label = λ n h. refl;
  goes = λ n l u. refl;
  branch = λ v k n m r u a b c d. refl;
  returns = λ r. refl;
  returns_value = λ v k r u. refl;
  set = λ t class o a b k r u. refl;
  load = λ t how at k r u. refl;
  store = λ width value at k r u. refl;
  move = λ to from bytes k r u. (and_parts (nat_le bytes most) _ r).0;
  call = λ temp name args k r u. refl;
  place = λ offset k h l. refl;
  address = λ i offset k h b l. refl;
}

frame_small : (n : ℕ) → list_all (passes inst_is_small) (frame_lines n) ≡ true
frame_small zero = refl
frame_small (suc n) = refl

pub function_small : (p : FlatProgram) (f : FlatFn) → is_right p f 0 (code_of f.body) ≡ true →
    all_pass inst_is_small (blocks_of p f) ≡ true
function_small p f right =
    each_inst p f inst_is_small (small_lines p f (suc (labels_in (code_of f.body) true)) (addresses_in (code_of f.body))) right
    (frame_small f.frame)

-- ---- parts of globals

item_small : (p : FlatProgram) (i : Item) → is_item p i ≡ true → list_all part_is_small (item_parts i) ≡ true
item_small p (item.Number width n) h = refl
item_small p (item.Symbol name offset) h = refl
item_small p (item.Zero n) h = both_true _ true h refl
item_small p (item.Bytes bytes) h = pick (byte_values [] bytes)
  where
    pick : (vs : List PartValue) → list_all part_is_small (bytes_part vs) ≡ true
    pick [] = refl
    pick (v ∷ vs) = refl

pub parts_small : (p : FlatProgram) (is : List Item) → list_all (is_item p) is ≡ true → list_all part_is_small (parts_of is) ≡ true
parts_small p [] h = refl
parts_small p (i ∷ is) h =
    let k = and_parts (is_item p i) (list_all (is_item p) is) h in
    all_append part_is_small (item_parts i) (parts_of is) (item_small p i k.0) (parts_small p is k.1)

-- ---- sizes of globals

-- values of bytes take as many as they are, where sizes of values are counted so
module _ (size : PartValue → ℕ) (of_string : (s : List ℕ) → size (value.Str s) ≡ length s)
    (of_number : (n : ℕ) → size (value.Number n) ≡ 1) where
  string_size : (s : List ℕ) → sum_by size (string_of s) ≡ length s
  string_size [] = refl
  string_size (c ∷ s) = sum_cons size (value.Str (c ∷ s)) [] ∙ omega (arith, of_string (c ∷ s))

  pub values_size : (s bs : List ℕ) → sum_by size (byte_values s bs) ≡ length s + length bs
  values_size s [] = omega (arith, string_size s)
  values_size s (c ∷ bs) = pick (is_string_byte c) refl (values_size (s ++ c ∷ []) bs) (values_size [] bs)
    where
      pick : (b : Bool) → is_string_byte c ≡ b → sum_by size (byte_values (s ++ c ∷ []) bs) ≡ length (s ++ c ∷ []) + length bs →
          sum_by size (byte_values [] bs) ≡ 0 + length bs → sum_by size (byte_values s (c ∷ bs)) ≡ length s + length (c ∷ bs)
      pick true e h k = rw e (omega (arith, h, length-append s (c ∷ [])))
      pick false e h k = rw e (sum_by-append size (string_of s) (value.Number c ∷ byte_values [] bs) ∙ omega
          (arith, string_size s, k, of_number c, sum_cons size (value.Number c) (byte_values [] bs)))

bytes_size : (vs : List PartValue) → sum_by part_size (bytes_part vs) ≡ sum_by (value_size 1) vs
bytes_size [] = refl
bytes_size (v ∷ vs) = omega arith

one_size : (i : Item) → sum_by part_size (item_parts i) ≡ item_size i
one_size (item.Number width n) = omega arith
one_size (item.Symbol name offset) = refl
one_size (item.Zero n) = omega arith
one_size (item.Bytes bytes) = bytes_size (byte_values [] bytes) ∙ omega (arith, values_size (value_size 1) (λ s. refl) (λ n. refl) [] bytes)

pub parts_size : (is : List Item) → sum_by part_size (parts_of is) ≡ sum_by item_size is
parts_size [] = refl
parts_size (i ∷ is) =
    sum_by-append part_size (item_parts i) (parts_of is) ∙ omega (arith, one_size i, parts_size is) ∙ sym (sum_cons item_size i is)
