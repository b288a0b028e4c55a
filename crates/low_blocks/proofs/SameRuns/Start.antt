-- The memory with which a lowered program begins has its strings.
use Rattle.std.proofs.Common.{◌≡◌, ℕ, suc, ◌+◌, ◌<◌, ◌≤◌, true, List, [], ◌∷◌, length, refl, ap, ◌∙◌, subst, arith, inl}
use Rattle.std.specs.Prelude.{sum_by, flat_map, slice_index_or}
use Rattle.std.proofs.lemmas.List.{append-nil}
use Rattle.std.proofs.lemmas.List.Sums.{sum_by-cons}
use Rattle.hx_base.specs.Memory.{Memory, round_up, byte_at, is_mapped, write, map_range, empty_memory}
use Rattle.hx_base.specs.Runtime.{arguments_start, argument_size, with_arguments, data_start}
use Rattle.hx_base.proofs.Memory.Written.{byte_at-write_outside}
use Rattle.hx_base.proofs.Memory.Mapped.{is_mapped-map_range_stays}
use Rattle.hx_base.proofs.Memory.Standing.{Stands, stands-write, stands-stays}
use Rattle.hx_base.proofs.Memory.Numbers.{round_up-one}
use Rattle.hx_base.proofs.Memory.Arguments.{with_arguments-below, is_mapped-with_arguments_stays}
use Rattle.flat_code.specs.declared.program.FlatFn.{FlatFn}
use Rattle.flat_code.specs.declared.program.FlatProgram.{FlatProgram}
use Rattle.flat_code.specs.Addresses.{item_size, item_bytes, data_size, addresses_from, addresses, address_at, with_global, with_globals, start_memory}
use Rattle.low_blocks.specs.Programs.{text_items, text_global, text_globals}
use Rattle.low_blocks.proofs.SameRuns.Texts.{AreTexts}

-- ---- strings as globals

pub text_size : (t : List ℕ) → sum_by item_size (text_items t) ≡ length t
text_size [] = refl
text_size (c ∷ t) = omega arith

pub text_bytes : (p : FlatProgram) (t : List ℕ) → flat_map (item_bytes p) (text_items t) ≡ t
text_bytes p [] = refl
text_bytes p (c ∷ t) = append-nil (c ∷ t)

-- how many bytes the globals of strings take
abbrev pub texts_size : List (List ℕ) → ℕ
texts_size ts = sum_by argument_size ts

-- ---- what stays

-- what is mapped stays mapped, and bytes below an address stay
record Stays (m m' : Memory) (at : ℕ) : Type 0 where
  bytes : (a : ℕ) → a < at → byte_at m' a ≡ byte_at m a
  mapped : (a : ℕ) → is_mapped m a ≡ true → is_mapped m' a ≡ true

stays_self : (m : Memory) (at : ℕ) → Stays m m at
stays_self m at = record { bytes = λ a l. refl; mapped = λ a h. h }

stays_on : (m m' m'' : Memory) (at at' : ℕ) → at ≤ at' → Stays m m' at → Stays m' m'' at' → Stays m m'' at
stays_on m m' m'' at at' le h k = record { bytes = λ a l. k.bytes a (omega arith) ∙ h.bytes a l; mapped = λ a e. k.mapped a (h.mapped a e) }

-- a range is written and then mapped
put_stays : (m : Memory) (at : ℕ) (bs : List ℕ) (n : ℕ) → Stays m (map_range (write m at bs) at n) at
put_stays m at bs n = record {
  bytes = λ a l. byte_at-write_outside m at bs a (inl l);
  mapped = λ a h. is_mapped-map_range_stays (write m at bs) at n a h;
}

table_stays : (m : Memory) (args : List (List ℕ)) → Stays m (with_arguments m args) arguments_start
table_stays m args = record {
  bytes = λ a l. (with_arguments-below m args a l).byte;
  mapped = is_mapped-with_arguments_stays m args;
}

module _ (p : FlatProgram) where
  -- memory with a string as a global
  abbrev with_text : Memory → ℕ → ℕ → List ℕ → Memory
  with_text m at i t = with_global p m (round_up at 1) (text_global i t)

  text_stays : (m : Memory) (at i : ℕ) (t : List ℕ) → Stays m (with_text m at i t) at
  text_stays m at i t = rw (round_up-one at) (put_stays m at (flat_map (item_bytes p) (text_items t)) (data_size (text_global i t)))

  globals_stay : (m : Memory) (at i : ℕ) (ts : List (List ℕ)) → Stays m (with_globals p m at (text_globals i ts)) at
  globals_stay m at i [] = stays_self m at
  globals_stay m at i (t ∷ ts) =
      let e = round_up-one at in
      let next = round_up at 1 + data_size (text_global i t) in
      let le : at ≤ next = omega (arith, e) in
      let m1 = with_text m at i t in
      stays_on m m1 (with_globals p m1 next (text_globals (suc i) ts)) at next le (text_stays m at i t) (globals_stay m1 next (suc i) ts)

  -- a string that was made a global is there
  text_there : (m : Memory) (at i : ℕ) (t : List ℕ) → Stands (with_text m at i t) at t
  text_there m at i t =
      let room : length t ≤ data_size (text_global i t) = omega (arith, text_size t) in
      rw (round_up-one at, text_bytes p t) (stands-write m at t (data_size (text_global i t)) room)

  -- the strings are there in each memory that goes on from that with their globals
  texts_there : (m : Memory) (at i : ℕ) (ts : List (List ℕ)) →
      ((k : ℕ) → slice_index_or (addresses p) (i + k) ([], 0) ≡ slice_index_or (addresses_from at (text_globals i ts)) k ([], 0)) →
      at + texts_size ts ≤ arguments_start →
      (m' : Memory) → Stays (with_globals p m at (text_globals i ts)) m' arguments_start → AreTexts p m' i ts
  texts_there m at i [] places fits m' stays = tt
  texts_there m at i (t ∷ ts) places fits m' stays =
      let e = round_up-one at in
      let next = round_up at 1 + data_size (text_global i t) in
      let size : next ≡ at + argument_size t = omega (arith, e, text_size t) in
      let split : texts_size (t ∷ ts) ≡ argument_size t + texts_size ts = sum_by-cons argument_size t ts in
      let m1 = with_text m at i t in
      let rest = globals_stay m1 next (suc i) ts in
      let first : address_at p i ≡ at =
      (let z : i + 0 ≡ i = omega arith in
      subst (λ x. (slice_index_or (addresses p) x ([], 0)).1 ≡ round_up at 1) z (ap (λ x. x.1) (places 0))) ∙ e in
      let there : Stands m' at t =
      stands-stays m1 m' at t (λ a h. stays.mapped a (rest.mapped a h))
      (λ a l u. stays.bytes a (omega (arith, fits, split, u)) ∙ rest.bytes a (omega (arith, size, u))) (text_there m at i t) in (
        record {
          mapped = rw first there.mapped;
          bytes = rw first there.bytes;
          address = omega (arith, fits, split, first);
          short = omega (arith, fits, split);
        },
        texts_there m1 next (suc i) ts
            (λ k. let s : suc i + k ≡ i + suc k = omega arith in ap (λ x. slice_index_or (addresses p) x ([], 0)) s ∙ places (suc k))
            (omega (arith, fits, split, size)) m' stays,
      )

-- the memory with which a program with these globals begins has the strings
pub start_texts : (functions : List FlatFn) (ts : List (List ℕ)) (fill : ℕ) (args : List (List ℕ)) →
    data_start + texts_size ts ≤ arguments_start →
    let p : FlatProgram = record { functions = functions; globals = text_globals 0 ts } in AreTexts p (start_memory fill p args) 0 ts
start_texts functions ts fill args fits =
    let p : FlatProgram = record { functions = functions; globals = text_globals 0 ts } in
    let m = with_globals p (empty_memory fill) data_start p.globals in
    texts_there p (empty_memory fill) data_start 0 ts
    (λ k. let z : 0 + k ≡ k = omega arith in ap (λ x. slice_index_or (addresses p) x ([], 0)) z) fits (start_memory fill p args)
    (table_stays m args)
