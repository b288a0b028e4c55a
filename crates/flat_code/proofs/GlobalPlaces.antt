-- Where globals stand that begin at an address, one behind the other.
use Rattle.std.proofs.Common.{◌≡◌, ℕ, zero, suc, ◌+◌, ◌*◌, ◌%◌, ◌≤◌, Bool, true, false, ◌||◌, List, [], ◌∷◌, length, Some, refl, ap, subst, arith}
use Rattle.std.specs.Prelude.{◌==◌, count_by, sum_by, bytes_eq, slice_get, slice_index_or, if◌then◌else◌}
use Rattle.std.specs.List.{list_all}
use Rattle.std.proofs.lemmas.Bool.{and_parts}
use Rattle.std.proofs.lemmas.Bool.Decides.{nat_tests}
use Rattle.std.proofs.lemmas.List.Sums.{sum_by-cons}
use Rattle.std.proofs.lemmas.Slice.Eq.{bytes_eq-Decides}
use Rattle.hx_base.specs.Memory.{round_up}
use Rattle.hx_base.specs.Runtime.{lookup}
use Rattle.flat_code.specs.declared.program.Data.{Data}
use Rattle.flat_code.specs.declared.program.FlatProgram.{FlatProgram}
use Rattle.flat_code.specs.Addresses.{data_size, addresses_from}
use Rattle.flat_code.specs.WellFormed.{is_alignment, is_symbol, is_item, is_global, global_size}

-- ---- addresses at an alignment

-- what holds of each alignment holds of one
at_alignment : (P : ℕ → Type 0) → P 1 → P 2 → P 4 → P 8 → P 16 → (n : ℕ) → is_alignment n ≡ true → P n
at_alignment P one two four eight sixteen n h = pick (n == 1) (n == 2) (n == 4) (n == 8) (n == 16) refl refl refl refl refl h
  where
    pick : (a b c d e : Bool) → (n == 1) ≡ a → (n == 2) ≡ b → (n == 4) ≡ c → (n == 8) ≡ d → (n == 16) ≡ e →
        (a || b || c || d || e) ≡ true → P n
    pick true b c d e i j k l m h = let s : 1 ≡ n = grind (arith, nat_tests) in subst P s one
    pick false true c d e i j k l m h = let s : 2 ≡ n = grind (arith, nat_tests) in subst P s two
    pick false false true d e i j k l m h = let s : 4 ≡ n = grind (arith, nat_tests) in subst P s four
    pick false false false true e i j k l m h = let s : 8 ≡ n = grind (arith, nat_tests) in subst P s eight
    pick false false false false true i j k l m h = let s : 16 ≡ n = grind (arith, nat_tests) in subst P s sixteen
    pick false false false false false i j k l m h = absurd (let f : false ≡ true = h in cc)

-- the next address at an alignment
pub record IsRounded (at align r : ℕ) : Type 0 where
  pub low : at ≤ r
  pub high : r ≤ at + 15
  pub multiple : r % align ≡ 0

pub rounded : (at align : ℕ) → is_alignment align ≡ true → IsRounded at align (round_up at align)
rounded at align h =
    at_alignment (λ (n : ℕ). IsRounded at n (round_up at n))
    (record { low = omega arith; high = omega arith; multiple = omega arith })
    (record { low = omega arith; high = omega arith; multiple = omega arith })
    (record { low = omega arith; high = omega arith; multiple = omega arith })
    (record { low = omega arith; high = omega arith; multiple = omega arith })
    (record { low = omega arith; high = omega arith; multiple = omega arith })
    align h

-- ---- places

-- where a global stands that stands at the next address at its alignment, and where the next one begins
abbrev pub next : ℕ → Data → ℕ
next at d = round_up at d.align + data_size d

-- where the global of a number stands
abbrev pub spot : ℕ → List Data → ℕ → ℕ
spot at ds i = (slice_index_or (addresses_from at ds) i ([], 0)).1

-- where all have ended
abbrev pub end_of : ℕ → List Data → ℕ
end_of at [] = at
end_of at (d ∷ ds) = end_of (next at d) ds

module _ (p : FlatProgram) where
  abbrev pub AreRight : List Data → Type 0
  AreRight ds = list_all (is_global p) ds ≡ true

  pub first_right : (d : Data) (ds : List Data) → AreRight (d ∷ ds) → is_global p d ≡ true
  first_right d ds h = (and_parts (is_global p d) (list_all (is_global p) ds) h).0

  pub others_right : (d : Data) (ds : List Data) → AreRight (d ∷ ds) → AreRight ds
  others_right d ds h = (and_parts (is_global p d) (list_all (is_global p) ds) h).1

  pub stands_at : (at : ℕ) (d : Data) → is_global p d ≡ true → IsRounded at d.align (round_up at d.align)
  stands_at at d h =
      rounded at d.align (and_parts (is_alignment d.align) (list_all (is_item p) d.items) (and_parts (is_symbol d.name) _ h).1).0

  -- globals end above where they begin, and not far above
  pub record EndsWithin (at : ℕ) (ds : List Data) : Type 0 where
    pub low : at ≤ end_of at ds
    pub high : end_of at ds ≤ at + 16 * length ds + sum_by global_size ds

  pub ends_within : (at : ℕ) (ds : List Data) → AreRight ds → EndsWithin at ds
  ends_within at [] h = record { low = omega arith; high = omega arith }
  ends_within at (d ∷ ds) h =
      let r = stands_at at d (first_right d ds h) in
      let on = ends_within (next at d) ds (others_right d ds h) in
      let sums = sum_by-cons global_size d ds in
      record { low = omega (arith, r.low, on.low); high = omega (arith, r.high, on.high, sums) }

  -- a global stands between
  pub record IsLocated (at : ℕ) (ds : List Data) (i : ℕ) (d : Data) : Type 0 where
    pub from : at ≤ spot at ds i
    pub below : spot at ds i + data_size d ≤ end_of at ds
    pub aligned : spot at ds i % d.align ≡ 0

  pub located : (at : ℕ) (ds : List Data) (i : ℕ) (d : Data) → AreRight ds → slice_get ds i ≡ Some d → IsLocated at ds i d
  located at [] i d h e = cc
  located at (x ∷ ds) zero d h e =
      let s : x ≡ d = cc in
      let r = stands_at at x (first_right x ds h) in
      let on = ends_within (next at x) ds (others_right x ds h) in
      subst (λ (y : Data). IsLocated at (x ∷ ds) zero y) s (record { from = r.low; below = on.low; aligned = r.multiple })
  located at (x ∷ ds) (suc i) d h e =
      let r = stands_at at x (first_right x ds h) in
      let on = located (next at x) ds i d (others_right x ds h) e in
      record { from = omega (arith, r.low, on.from); below = on.below; aligned = on.aligned }

-- ---- names

-- a name that a global has is counted
named_once : (ds : List Data) (i : ℕ) (d : Data) → slice_get ds i ≡ Some d → 1 ≤ count_by (λ (x : Data). bytes_eq x.name d.name) ds
named_once [] i d e = cc
named_once (x ∷ ds) zero d e =
    let s : x ≡ d = cc in
    let same : bytes_eq x.name d.name ≡ true = (bytes_eq-Decides x.name d.name).1 (ap (λ (y : Data). y.name) s) in
    let c = sum_by-cons (λ (y : Data). if bytes_eq y.name d.name then 1 else 0) x ds in
    rw (c, same) (omega arith)
named_once (x ∷ ds) (suc i) d e =
    let c = sum_by-cons (λ (y : Data). if bytes_eq y.name d.name then 1 else 0) x ds in
    let on = named_once ds i d e in
    rw c (omega (arith, on))

-- where one alone has a name, the table of addresses has its address there
pub looked_up : (at : ℕ) (ds : List Data) (i : ℕ) (d : Data) → slice_get ds i ≡ Some d →
    count_by (λ (x : Data). bytes_eq x.name d.name) ds ≤ 1 →
    lookup d.name (addresses_from at ds) ≡ Some (spot at ds i)
looked_up at [] i d e one = cc
looked_up at (x ∷ ds) zero d e one =
    let s : x ≡ d = cc in
    let same : bytes_eq x.name d.name ≡ true = (bytes_eq-Decides x.name d.name).1 (ap (λ (y : Data). y.name) s) in
    rw same refl
looked_up at (x ∷ ds) (suc i) d e one = pick (bytes_eq x.name d.name) refl (looked_up (next at x) ds i d e)
  where
    sum : (if bytes_eq x.name d.name then 1 else 0) + count_by (λ (y : Data). bytes_eq y.name d.name) ds ≤ 1
    sum = subst (λ (n : ℕ). n ≤ 1) (sum_by-cons (λ (y : Data). if bytes_eq y.name d.name then 1 else 0) x ds) one

    pick : (b : Bool) → bytes_eq x.name d.name ≡ b →
        (count_by (λ (y : Data). bytes_eq y.name d.name) ds ≤ 1 →
        lookup d.name (addresses_from (next at x) ds) ≡ Some (spot (next at x) ds i)) →
        lookup d.name (addresses_from at (x ∷ ds)) ≡ Some (spot at (x ∷ ds) (suc i))
    pick true f on =
        let c = named_once ds i d e in
        let t : 1 + count_by (λ (y : Data). bytes_eq y.name d.name) ds ≤ 1 = rw f at sum in
        absurd (omega (arith, t, c))
    pick false f on =
        let t : 0 + count_by (λ (y : Data). bytes_eq y.name d.name) ds ≤ 1 = rw f at sum in
        rw f (on (omega (arith, t)))
