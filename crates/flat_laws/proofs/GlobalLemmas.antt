-- What memory has of globals that stand from an address on, and that they stand apart.
use Rattle.std.proofs.Common.{◌≡◌, ℕ, zero, suc, ◌+◌, ◌<◌, ◌≤◌, ◌⊎◌, inl, inr, true, List, [], ◌∷◌, length, Option, Some, refl, sym, ap, ◌∙◌, subst, arith}
use Rattle.std.specs.Prelude.{flat_map, sum_by, slice_get}
use Rattle.std.proofs.lemmas.List.{length-append, length-replicate}
use Rattle.std.proofs.lemmas.List.Sums.{sum_by-cons}
use Rattle.hx_base.specs.Memory.{Memory, bytes_at, is_mapped, all_mapped, write, round_up}
use Rattle.hx_base.proofs.Memory.Ranges.{Inside, inside, outside, inside_of}
use Rattle.hx_base.proofs.Memory.Agreeing.{IsKept, kept_then, bytes_at-same, all_mapped-alike}
use Rattle.hx_base.proofs.Memory.Written.{byte_at-write_outside, bytes_at-write, bytes_at-map_range}
use Rattle.hx_base.proofs.Memory.Mapped.{is_mapped-map_range_outside, all_mapped-map_range_inside}
use Rattle.hx_base.proofs.Memory.Numbers.{length-le_bytes}
use Rattle.flat_code.specs.declared.program.Data.{Data}
use Rattle.flat_code.specs.declared.program.FlatProgram.{FlatProgram}
use Rattle.flat_code.specs.declared.program.Item.{Item}
use Rattle.flat_code.specs.declared.program.Item.TheVariants.{Number, Bytes, Symbol, Zero}
use Rattle.flat_code.specs.Addresses.{data_size, item_size, item_bytes, with_global, with_globals}
use Rattle.flat_code.specs.WellFormed.{global_size}
use Rattle.flat_code.proofs.GlobalPlaces.{next, spot, end_of, AreRight, first_right, others_right, stands_at, ends_within, located}
use Rattle.flat_laws.specs.Starts.{taken}

-- ---- elements of a list

-- the element at a place
pub record IsFound {A : Type 0} (xs : List A) (i : ℕ) : Type 0 where
  pub element : A
  pub found : slice_get xs i ≡ Some element

-- there is one where it takes anything
pub found_of : {A : Type 0} → (size : A → ℕ) (xs : List A) (i : ℕ) → 0 < taken size (slice_get xs i) → IsFound xs i
found_of size [] i h = absurd (omega arith)
found_of size (x ∷ xs) zero h = record { element = x; found = refl }
found_of size (x ∷ xs) (suc i) h = let on = found_of size xs i h in record { element = on.element; found = on.found }

module _ (p : FlatProgram) where
  -- ---- one global

  length_item : (i : Item) → length (item_bytes p i) ≡ item_size i
  length_item (Number width n) = length-le_bytes width n
  length_item (Bytes bytes) = refl
  length_item (Symbol name offset) = refl
  length_item (Zero n) = length-replicate n 0

  length_items : (is : List Item) → length (flat_map (item_bytes p) is) ≡ sum_by item_size is
  length_items [] = refl
  length_items (i ∷ is) =
      let sums = sum_by-cons item_size i is in
      length-append (item_bytes p i) (flat_map (item_bytes p) is) ∙ omega (arith, length_item i, length_items is, sums)

  -- the bytes of a global stand there and are mapped
  pub record IsThere (m : Memory) (at : ℕ) (d : Data) : Type 0 where
    pub bytes : bytes_at m at (global_size d) ≡ flat_map (item_bytes p) d.items
    pub mapped : all_mapped m at (data_size d) ≡ true

  one_there : (m : Memory) (at : ℕ) (d : Data) → IsThere (with_global p m at d) at d
  one_there m at d =
      let bs = flat_map (item_bytes p) d.items in
      record {
        bytes = bytes_at-map_range (write m at bs) at (data_size d) at (global_size d)
            ∙ subst (λ (n : ℕ). bytes_at (write m at bs) at n ≡ bs) (length_items d.items) (bytes_at-write m at bs);
        mapped = all_mapped-map_range_inside (write m at bs) at (data_size d) at (data_size d) (omega arith) (omega arith);
      }

  one_kept : (m : Memory) (at : ℕ) (d : Data) (a : ℕ) → (a < at) ⊎ (at + data_size d ≤ a) → IsKept m (with_global p m at d) a
  one_kept m at d a h =
      let bs = flat_map (item_bytes p) d.items in
      record {
        byte = byte_at-write_outside m at bs a (beyond h);
        mapped = is_mapped-map_range_outside (write m at bs) at (data_size d) a h;
      }
    where
      beyond : (a < at) ⊎ (at + data_size d ≤ a) → (a < at) ⊎ (at + length (flat_map (item_bytes p) d.items) ≤ a)
      beyond (inl l) = inl l
      beyond (inr l) = let e = length_items d.items in inr (omega (arith, e, l))

  -- it is still there where its addresses are kept
  pub there_kept : (m m' : Memory) (at : ℕ) (d : Data) → IsThere m at d → ((a : ℕ) → a < at + data_size d → IsKept m m' a) → IsThere m' at d
  there_kept m m' at d h kept = record {
    bytes = bytes_at-same m m' at (global_size d) (λ a l u. (kept a (omega (arith, u))).byte) ∙ h.bytes;
    mapped = all_mapped-alike m m' at (data_size d) (λ a l u. (kept a u).mapped) ∙ h.mapped;
  }

  -- ---- all globals

  pub globals_kept : (m : Memory) (at : ℕ) (ds : List Data) (a : ℕ) → AreRight p ds → (a < at) ⊎ (end_of at ds ≤ a) →
      IsKept m (with_globals p m at ds) a
  globals_kept m at [] a h out = record { byte = refl; mapped = refl }
  globals_kept m at (d ∷ ds) a h out =
      let r = stands_at p at d (first_right p d ds h) in
      let on = ends_within p (next at d) ds (others_right p d ds h) in
      kept_then m (with_global p m (round_up at d.align) d) _ a
      (one_kept m (round_up at d.align) d a (here r.low on.low out))
      (globals_kept (with_global p m (round_up at d.align) d) (next at d) ds a (others_right p d ds h) (there r.low out))
    where
      here : at ≤ round_up at d.align → next at d ≤ end_of (next at d) ds → (a < at) ⊎ (end_of at (d ∷ ds) ≤ a) →
          (a < round_up at d.align) ⊎ (round_up at d.align + data_size d ≤ a)
      here low ends (inl l) = inl (omega (arith, low, l))
      here low ends (inr l) = inr (omega (arith, ends, l))

      there : at ≤ round_up at d.align → (a < at) ⊎ (end_of at (d ∷ ds) ≤ a) → (a < next at d) ⊎ (end_of (next at d) ds ≤ a)
      there low (inl l) = inl (omega (arith, low, l))
      there low (inr l) = inr l

  pub globals_there : (m : Memory) (at : ℕ) (ds : List Data) (i : ℕ) (d : Data) → AreRight p ds → slice_get ds i ≡ Some d →
      IsThere (with_globals p m at ds) (spot at ds i) d
  globals_there m at [] i d h e = cc
  globals_there m at (x ∷ ds) zero d h e =
      let s : x ≡ d = cc in
      let m1 = with_global p m (round_up at x.align) x in
      subst (λ (y : Data). IsThere (with_globals p m at (x ∷ ds)) (round_up at x.align) y) s
      (there_kept m1 (with_globals p m1 (next at x) ds) (round_up at x.align) x (one_there m (round_up at x.align) x)
      (λ a u. globals_kept m1 (next at x) ds a (others_right p x ds h) (inl u)))
  globals_there m at (x ∷ ds) (suc i) d h e =
      globals_there (with_global p m (round_up at x.align) x) (next at x) ds i d (others_right p x ds h) e

  -- ---- which addresses they take

  pub record HasAddress (at : ℕ) (ds : List Data) (i a : ℕ) : Type 0 where
    pub from : spot at ds i ≤ a
    pub below : a < spot at ds i + taken data_size (slice_get ds i)

  pub has_between : (at : ℕ) (ds : List Data) (i a : ℕ) → AreRight p ds → HasAddress at ds i a → (at ≤ a) × (a < end_of at ds)
  has_between at ds i a h k =
      let f = found_of data_size ds i (omega (arith, k.from, k.below)) in
      let l = located p at ds i f.element h f.found in
      let b : a < spot at ds i + data_size f.element =
      subst (λ (o : Option Data). a < spot at ds i + taken data_size o) f.found k.below in
      (omega (arith, l.from, k.from), omega (arith, l.below, b))

  -- no two of them share an address
  pub has_one : (at : ℕ) (ds : List Data) (i j a : ℕ) → AreRight p ds → HasAddress at ds i a → HasAddress at ds j a → i ≡ j
  has_one at [] i j a h k g = absurd (omega (arith, k.from, k.below))
  has_one at (d ∷ ds) zero zero a h k g = refl
  has_one at (d ∷ ds) zero (suc j) a h k g =
      let b = has_between (next at d) ds j a (others_right p d ds h) (record { from = g.from; below = g.below }) in
      absurd (omega (arith, k.below, b.0))
  has_one at (d ∷ ds) (suc i) zero a h k g =
      let b = has_between (next at d) ds i a (others_right p d ds h) (record { from = k.from; below = k.below }) in
      absurd (omega (arith, g.below, b.0))
  has_one at (d ∷ ds) (suc i) (suc j) a h k g =
      ap suc (has_one (next at d) ds i j a (others_right p d ds h)
      (record { from = k.from; below = k.below }) (record { from = g.from; below = g.below }))

  pub record HasSome (at : ℕ) (ds : List Data) (a : ℕ) : Type 0 where
    pub place : ℕ
    pub address : HasAddress at ds place a

  -- what is mapped was so before, or is one's
  pub mapped_before : (m : Memory) (at : ℕ) (ds : List Data) (a : ℕ) → is_mapped (with_globals p m at ds) a ≡ true →
      (is_mapped m a ≡ true) ⊎ HasSome at ds a
  mapped_before m at [] a e = inl e
  mapped_before m at (d ∷ ds) a e = first (mapped_before m1 (next at d) ds a e) (inside_of r (data_size d) a)
    where
      r : ℕ
      r = round_up at d.align

      m1 : Memory
      m1 = with_global p m r d

      first : (is_mapped m1 a ≡ true) ⊎ HasSome (next at d) ds a → Inside r (data_size d) a → (is_mapped m a ≡ true) ⊎ HasSome at (d ∷ ds) a
      first (inr s) i = inr (record { place = suc s.place; address = record { from = s.address.from; below = s.address.below } })
      first (inl b) (inside i l u) = inr (record { place = zero; address = record { from = l; below = u } })
      first (inl b) (outside i o) = inl (sym (one_kept m r d a o).mapped ∙ b)
