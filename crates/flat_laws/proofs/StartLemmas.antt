-- With what a program begins.
use Rattle.std.proofs.Common.{◌≡◌, ℕ, zero, suc, ◌+◌, ◌-◌, ◌*◌, ◌/◌, ◌^◌, ◌<◌, ◌≤◌, ◌⊎◌, inl, inr, Bool, true, false, List, [], ◌∷◌, length, get_or, Option, Some, refl, sym, ap, ◌∙◌, subst, arith}
use Rattle.std.specs.Prelude.{◌==◌, count_by, sum_by, bytes_eq, slice_get}
use Rattle.std.specs.List.{list_all}
use Rattle.std.proofs.lemmas.Bool.{and_parts}
use Rattle.std.proofs.lemmas.Bool.Decides.{nat_tests}
use Rattle.std.proofs.lemmas.Option.{slice_get-get_or, slice_get_within}
use Rattle.hx_base.specs.Memory.{Memory, empty_memory, is_mapped}
use Rattle.hx_base.specs.Runtime.{arguments_start, record_size, argument_size, with_arguments, data_start, or_zero}
use Rattle.hx_base.proofs.Memory.Ranges.{Inside, inside, outside, inside_of, all_mapped-each}
use Rattle.hx_base.proofs.Memory.Agreeing.{bytes_at-same}
use Rattle.hx_base.proofs.Memory.Written.{bytes_at-map_range}
use Rattle.hx_base.proofs.Memory.Mapped.{all_mapped-map_range_inside}
use Rattle.hx_base.proofs.Memory.Arguments.{text_within, byte_at-write_arguments_outside, bytes_at-write_arguments, bytes_at-argument_records, has_text, one_text, texts_start, table_size, with_records, with_texts, with_arguments-below, is_mapped-with_arguments_inside, is_mapped-with_arguments_above}
use Rattle.flat_code.specs.declared.program.Data.{Data}
use Rattle.flat_code.specs.declared.program.FlatProgram.{FlatProgram}
use Rattle.flat_code.specs.Addresses.{data_size, with_globals, start_memory}
use Rattle.flat_code.specs.WellFormed.{IsWellFormed, how_many, global_size, most}
use Rattle.flat_code.proofs.GlobalPlaces.{spot, end_of, ends_within, IsLocated, located, looked_up}
use Rattle.flat_laws.specs.Starts.{IsGlobal, GlobalsStand, record_address, argument_address, arguments_end, IsArgument, ArgumentsStand, Part, Global, Record, Text, taken, IsIn, IsTaken, HaveRoom, ProgramsAreLaidOut}
use Rattle.flat_laws.proofs.GlobalLemmas.{found_of, IsThere, there_kept, globals_there, HasAddress, has_between, has_one, HasSome, mapped_before}
use Rattle.flat_laws.proofs.HeapLemmas.{no_blocks}

-- ---- arguments

arguments_in : (m : Memory) (args : List (List ℕ)) (i : ℕ) (a : List ℕ) → slice_get args i ≡ Some a →
    IsArgument args (with_arguments m args) i a
arguments_in m args i a e = record {
  recorded =
      bytes_at-map_range (with_texts m args) arguments_start (table_size args) (record_address i) record_size
      ∙ bytes_at-same (with_records m args) (with_texts m args) (record_address i) record_size
      (λ x l u. byte_at-write_arguments_outside (with_records m args) (texts_start args) args x (inl (omega (arith, u, within))))
      ∙ bytes_at-argument_records m arguments_start (texts_start args) args i a e;
  record_mapped =
      all_mapped-map_range_inside (with_texts m args) arguments_start (table_size args) (record_address i) record_size
      (omega arith) (omega (arith, within));
  bytes =
      bytes_at-map_range (with_texts m args) arguments_start (table_size args) (argument_address args i) (length a)
      ∙ bytes_at-write_arguments (with_records m args) (texts_start args) args i a e;
  mapped =
      all_mapped-map_range_inside (with_texts m args) arguments_start (table_size args) (argument_address args i) (argument_size a)
      (omega arith) (omega (arith, ends));
  below = ends;
}
  where
    within : i < length args
    within = slice_get_within args i a e

    ends : argument_address args i + argument_size a ≤ arguments_end args
    ends = text_within (texts_start args) args i a e

pub arguments_stand : ArgumentsStand
arguments_stand fill p args i a e = arguments_in (with_globals p (empty_memory fill) data_start p.globals) args i a e

-- ---- globals

module _ (p : FlatProgram) (w : IsWellFormed p) where
  -- globals end below the arguments
  globals_end : end_of data_start p.globals ≤ arguments_start
  globals_end =
      let few : length p.globals ≤ most = let z = w.few_globals in grind (arith, nat_tests) in
      let bytes : sum_by global_size p.globals ≤ most = let z = w.few_bytes in grind (arith, nat_tests) in
      omega (arith, few, bytes, (ends_within p data_start p.globals w.globals).high)

  -- a name is a global's alone
  one_global : (ds : List Data) (i : ℕ) (d : Data) → list_all (λ (x : Data). how_many p x.name == 1) ds ≡ true → slice_get ds i ≡ Some d →
      count_by (λ (x : Data). bytes_eq x.name d.name) p.globals ≤ 1
  one_global [] i d h e = cc
  one_global (x ∷ ds) i d h e = pick i e (λ j f. one_global ds j d k.1 f)
    where
      k : ((how_many p x.name == 1) ≡ true) × (list_all (λ (y : Data). how_many p y.name == 1) ds ≡ true)
      k = and_parts (how_many p x.name == 1) (list_all (λ (y : Data). how_many p y.name == 1) ds) h

      pick : (j : ℕ) → slice_get (x ∷ ds) j ≡ Some d →
          ((j' : ℕ) → slice_get ds j' ≡ Some d → count_by (λ (y : Data). bytes_eq y.name d.name) p.globals ≤ 1) →
          count_by (λ (y : Data). bytes_eq y.name d.name) p.globals ≤ 1
      pick zero f on =
          let s : x ≡ d = cc in
          let one : how_many p x.name ≡ 1 = let z = k.0 in grind (arith, nat_tests) in
          subst (λ (y : Data). count_by (λ (z : Data). bytes_eq z.name y.name) p.globals ≤ 1) s (omega (arith, one))
      pick (suc j) f on = on j f

  global_in : (fill : ℕ) (args : List (List ℕ)) (i : ℕ) (d : Data) → slice_get p.globals i ≡ Some d →
      IsGlobal p (start_memory fill p args) (spot data_start p.globals i) d
  global_in fill args i d e = record {
    bytes = there.bytes;
    mapped = there.mapped;
    named = ap or_zero (looked_up data_start p.globals i d e (one_global p.globals i d w.globals_differ e));
    aligned = place.aligned;
    from = place.from;
    below = omega (arith, place.below, globals_end);
  }
    where
      place : IsLocated p data_start p.globals i d
      place = located p data_start p.globals i d w.globals e

      start : Memory
      start = with_globals p (empty_memory fill) data_start p.globals

      there : IsThere p (start_memory fill p args) (spot data_start p.globals i) d
      there =
          there_kept p start (start_memory fill p args) (spot data_start p.globals i) d
          (globals_there p (empty_memory fill) data_start p.globals i d w.globals e)
          (λ a u. with_arguments-below start args a (omega (arith, u, place.below, globals_end)))

pub globals_stand : GlobalsStand
globals_stand fill p args i d w e = global_in p w fill args i d e

-- ---- parts

module _ (p : FlatProgram) (args : List (List ℕ)) (w : IsWellFormed p) where
  -- an address of a part, by what the part is
  of_global : (i a : ℕ) → IsIn p args (Global i) a → HasAddress p data_start p.globals i a
  of_global i a h = record { from = h.from; below = h.below }

  record IsOfRecord (i a : ℕ) : Type 0 where
    within : i < length args
    from : record_address i ≤ a
    below : a < record_address i + record_size

  of_record : (i a : ℕ) → IsIn p args (Record i) a → IsOfRecord i a
  of_record i a h =
      let f = found_of (λ (x : List ℕ). record_size) args i (omega (arith, h.from, h.below)) in
      record {
        within = slice_get_within args i f.element f.found;
        from = h.from;
        below = subst (λ (o : Option (List ℕ)). a < record_address i + taken (λ (x : List ℕ). record_size) o) f.found h.below;
      }

  record IsOfText (i a : ℕ) : Type 0 where
    text : List ℕ
    found : slice_get args i ≡ Some text
    from : argument_address args i ≤ a
    below : a < argument_address args i + argument_size text

  of_text : (i a : ℕ) → IsIn p args (Text i) a → IsOfText i a
  of_text i a h =
      let f = found_of argument_size args i (omega (arith, h.from, h.below)) in
      record {
        text = f.element;
        found = f.found;
        from = h.from;
        below = subst (λ (o : Option (List ℕ)). a < argument_address args i + taken argument_size o) f.found h.below;
      }

  -- where each kind of part lies
  global_low : (i a : ℕ) → IsIn p args (Global i) a → (data_start ≤ a) × (a < arguments_start)
  global_low i a h =
      let b = has_between p data_start p.globals i a w.globals (of_global i a h) in
      (b.0, omega (arith, b.1, globals_end p w))

  record_low : (i a : ℕ) → IsIn p args (Record i) a → (arguments_start ≤ a) × (a < texts_start args)
  record_low i a h = let r = of_record i a h in (omega (arith, r.from), omega (arith, r.below, r.within))

  text_high : (i a : ℕ) → IsIn p args (Text i) a → (texts_start args ≤ a) × (a < arguments_end args)
  text_high i a h =
      let t = of_text i a h in
      let e = text_within (texts_start args) args i t.text t.found in
      (omega (arith, t.from), omega (arith, t.below, e))

  apart : (x y : Part) (a : ℕ) → IsIn p args x a → IsIn p args y a → x ≡ y
  apart (Global i) (Global j) a h k = ap Global (has_one p data_start p.globals i j a w.globals (of_global i a h) (of_global j a k))
  apart (Global i) (Record j) a h k = absurd (omega (arith, (global_low i a h).1, (record_low j a k).0))
  apart (Global i) (Text j) a h k = absurd (omega (arith, (global_low i a h).1, (text_high j a k).0))
  apart (Record i) (Global j) a h k = absurd (omega (arith, (global_low j a k).1, (record_low i a h).0))
  apart (Record i) (Record j) a h k =
      let r = of_record i a h in
      let q = of_record j a k in
      ap Record (omega (arith, r.from, r.below, q.from, q.below))
  apart (Record i) (Text j) a h k = absurd (omega (arith, (record_low i a h).1, (text_high j a k).0))
  apart (Text i) (Global j) a h k = absurd (omega (arith, (global_low j a k).1, (text_high i a h).0))
  apart (Text i) (Record j) a h k = absurd (omega (arith, (record_low j a k).1, (text_high i a h).0))
  apart (Text i) (Text j) a h k =
      let t = of_text i a h in
      let u = of_text j a k in
      ap Text (one_text (texts_start args) args i j t.text u.text a t.found u.found t.from t.below u.from u.below)

  within : HaveRoom args → (x : Part) (a : ℕ) → IsIn p args x a → (data_start ≤ a) × (a < 2 ^ 37)
  within room (Global i) a h = let b = global_low i a h in (b.0, omega (arith, b.1))
  within room (Record i) a h = let b = record_low i a h in (omega (arith, b.0), omega (arith, b.1, room))
  within room (Text i) a h = let b = text_high i a h in (omega (arith, b.0), omega (arith, b.1, room))

  -- ---- what is mapped

  module _ (fill : ℕ) where
    abbrev start : Memory
    start = with_globals p (empty_memory fill) data_start p.globals

    mapped : (x : Part) (a : ℕ) → IsIn p args x a → is_mapped (start_memory fill p args) a ≡ true
    mapped (Global i) a h =
        let f = found_of data_size p.globals i (omega (arith, h.from, h.below)) in
        let g = global_in p w fill args i f.element f.found in
        let u : a < spot data_start p.globals i + data_size f.element =
        subst (λ (o : Option Data). a < spot data_start p.globals i + taken data_size o) f.found h.below in
        all_mapped-each (start_memory fill p args) (spot data_start p.globals i) (data_size f.element) a g.mapped h.from u
    mapped (Record i) a h = let b = record_low i a h in is_mapped-with_arguments_inside start args a b.0 (omega (arith, b.1))
    mapped (Text i) a h = let b = text_high i a h in is_mapped-with_arguments_inside start args a (omega (arith, b.0)) b.1

    -- an address of the table is a record's or an argument's
    of_table : (a : ℕ) → arguments_start ≤ a → a < arguments_end args → IsTaken p args a
    of_table a l u = pick (inside_of arguments_start (record_size * length args) a)
      where
        pick : Inside arguments_start (record_size * length args) a → IsTaken p args a
        pick (inside e from below) =
            let i = (a - arguments_start) / record_size in
            let f : slice_get args i ≡ Some (get_or args i []) = slice_get-get_or args i [] (omega (arith, from, below)) in
            record {
              part = Record i;
              inside = record {
                from = omega (arith, from);
                below = subst (λ (o : Option (List ℕ)). a < record_address i + taken (λ (x : List ℕ). record_size) o) (sym f)
                    (omega (arith, from));
              };
            }
        pick (outside e (inl o)) = absurd (omega (arith, l, o))
        pick (outside e (inr o)) =
            let t = has_text (texts_start args) args a o u in
            record {
              part = Text t.place;
              inside = record {
                from = t.from;
                below = subst (λ (o : Option (List ℕ)). a < argument_address args t.place + taken argument_size o) (sym t.found) t.below;
              };
            }

    only : (a : ℕ) → is_mapped (start_memory fill p args) a ≡ true → IsTaken p args a
    only a h = pick (inside_of arguments_start (table_size args) a)
      where
        of_some : (is_mapped (empty_memory fill) a ≡ true) ⊎ HasSome p data_start p.globals a → IsTaken p args a
        of_some (inl e) = absurd (let f : false ≡ true = e in cc)
        of_some (inr s) = record { part = Global s.place; inside = record { from = s.address.from; below = s.address.below } }

        pick : Inside arguments_start (table_size args) a → IsTaken p args a
        pick (inside e l u) = of_table a l (omega (arith, u))
        pick (outside e (inl o)) =
            of_some (mapped_before p (empty_memory fill) data_start p.globals a (sym (with_arguments-below start args a o).mapped ∙ h))
        pick (outside e (inr o)) =
            of_some (mapped_before p (empty_memory fill) data_start p.globals a
            (sym (is_mapped-with_arguments_above start args a (omega (arith, o))) ∙ h))

    above : HaveRoom args → (a : ℕ) → 2 ^ 37 ≤ a → is_mapped (start_memory fill p args) a ≡ false
    above room a l = pick (is_mapped (start_memory fill p args) a) refl
      where
        pick : (b : Bool) → is_mapped (start_memory fill p args) a ≡ b → is_mapped (start_memory fill p args) a ≡ false
        pick true e = absurd (let t = only a e in omega (arith, l, (within room t.part a t.inside).1))
        pick false e = e

pub programs_are_laid_out : ProgramsAreLaidOut
programs_are_laid_out p args input fill w room = record {
  apart = apart p args w;
  mapped = λ a t. mapped p args w fill t.part a t.inside;
  only = only p args w fill;
  within = λ a t. within p args w room t.part a t.inside;
  above = λ a l. above p args w fill room a (omega (arith, l));
  heap = record { next = omega arith; blocks = no_blocks _; apart = tt };
  clear = λ a l u. above p args w fill room a (omega (arith, l));
  aligned = omega arith;
  cost = omega arith;
}
