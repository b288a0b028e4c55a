-- The cells of a scalar spell it and no other at its shape, and no other cells spell it.
use Rattle.std.proofs.Common.{◌≡◌, ℕ, zero, suc, ◌+◌, ◌-◌, ◌*◌, ◌%◌, ◌^◌, ◌<◌, Bool, true, false, List, [], ◌∷◌, length, Option, Some, None, refl, sym, ap, ◌∙◌, subst, arith}
use Rattle.std.specs.Option.{option_or}
use Rattle.std.specs.Prelude.{ℤ, pos, negsuc, ◌-ℤ◌, nat_eq, nat_lt, ◌&&◌, All, option_map, option_and_then, if◌then◌else◌}
use Rattle.std.proofs.lemmas.Bool.Decides.{nat_tests}
use Rattle.std.proofs.lemmas.Int.{ints}
use Rattle.std.proofs.lemmas.List.Elements.{All-nil, All-cons, All-tail}
use Rattle.std.proofs.Math.Nat.{mod-eq_of_lt, one-le-pow, pow-suc}
use Rattle.std.proofs.lemmas.Nat.{pow-add}
use Rattle.hx_base.specs.Memory.{le_bytes, le_number}
use Rattle.hx_base.specs.Numbers.{residue, with_sign, wrap}
use Rattle.hx_base.proofs.Memory.Numbers.{length-le_bytes, le_number-le_bytes, le_number-below, le_bytes-le_number}
use Rattle.hx_base.proofs.NumberLemmas.{residue-below}
use Rattle.hare_typed.specs.declared.cell.Cell.{Cell}
use Rattle.hare_typed.specs.declared.cell.Cell.TheVariants as cell
use Rattle.hare_typed.specs.Cells.{byte_cells, bytes_of, fragments, are_fragments}
use Rattle.hare_typed.specs.Scalars.{Null, Address, Scalar, Number, Pointing, Shape, Whole, Truth, Reference, Nullable, cells, spelled, number_spelled, bool_spelled, address_spelled, null_spelled, IsOfShape, IsByte, AreCells, CellsSpell}

-- ---- bytes

pub bytes_of-byte_cells : (bs : List ℕ) → bytes_of (byte_cells bs) ≡ Some bs
bytes_of-byte_cells [] = refl
bytes_of-byte_cells (b ∷ bs) = rw (bytes_of-byte_cells bs) refl

pub length-byte_cells : (bs : List ℕ) → length (byte_cells bs) ≡ length bs
length-byte_cells [] = refl
length-byte_cells (b ∷ bs) = ap suc (length-byte_cells bs)

-- cells that are bytes are the cells of those
pub bytes_of-only : (cs : List Cell) (bs : List ℕ) → bytes_of cs ≡ Some bs → cs ≡ byte_cells bs
bytes_of-only [] bs e = let s : [] ≡ bs = cc in rw (← s) refl
bytes_of-only (cell.Byte b ∷ cs) bs e = go (bytes_of cs) refl e (λ rest f. bytes_of-only cs rest f)
  where
    go : (r : Option (List ℕ)) → bytes_of cs ≡ r → option_map (λ bs. b ∷ bs) r ≡ Some bs →
        ((rest : List ℕ) → bytes_of cs ≡ Some rest → cs ≡ byte_cells rest) → cell.Byte b ∷ cs ≡ byte_cells bs
    go None f g less = absurd cc
    go (Some rest) f g less =
        let s : b ∷ rest ≡ bs = cc in
        let t : cs ≡ byte_cells rest = less rest f in
        subst (λ xs. cell.Byte b ∷ cs ≡ byte_cells xs) s (ap (λ xs. cell.Byte b ∷ xs) t)
bytes_of-only (cell.Fragment o d k ∷ cs) bs e = absurd cc
bytes_of-only (cell.Undef ∷ cs) bs e = absurd cc

-- bytes among cells have eight bits
All-byte_cells : (bs : List ℕ) → AreCells (byte_cells bs) → All (λ b. b < 256) bs
All-byte_cells [] h = All-nil (λ b. b < 256)
All-byte_cells (b ∷ bs) h =
    All-cons (λ b. b < 256) b bs (h 0 cell.Undef (omega arith)) (All-byte_cells bs (All-tail IsByte (cell.Byte b) (byte_cells bs) h))

-- ---- numbers

eight_bits : (n : ℕ) → 2 ^ (8 * n) ≡ 256 ^ n
eight_bits zero = refl
eight_bits (suc n) =
    let e : 8 * suc n ≡ 8 * n + 8 = omega arith in
    rw (e, pow-add 2 (8 * n) 8, eight_bits n, pow-suc 256 n) refl

modulus_some : (b : ℕ) → 0 < 2 ^ b
modulus_some b = one-le-pow b 2 (omega arith)

-- what is left of a number that is below the modulus is itself
residue-pos : (m n : ℕ) → n < m → residue m (pos n) ≡ n
residue-pos m n h = mod-eq_of_lt h

-- cutting a number leaves what is left of it
residue-below_zero : (m n : ℕ) → n < m → residue m (pos n -ℤ pos m) ≡ n
residue-below_zero m n h =
    let e : pos n -ℤ pos m ≡ negsuc (m - 1 - n) = omega (arith, ints, h) in
    let f : (m - 1 - n) % m ≡ m - 1 - n = mod-eq_of_lt (omega (arith, h)) in
    rw (e, f) (omega (arith, h))

residue-with_sign : (b n : ℕ) → n < 2 ^ b → residue (2 ^ b) (with_sign b n) ≡ n
residue-with_sign b n h = go (nat_lt n (2 ^ (b - 1))) refl
  where
    go : (t : Bool) → nat_lt n (2 ^ (b - 1)) ≡ t → residue (2 ^ b) (if t then pos n else pos n -ℤ pos (2 ^ b)) ≡ n
    go true e = mod-eq_of_lt h
    go false e = residue-below_zero (2 ^ b) n h

pub residue-wrap : (v : ℤ) (b : ℕ) (signed : Bool) → residue (2 ^ b) (wrap v b signed) ≡ residue (2 ^ b) v
residue-wrap v b true = residue-with_sign b (residue (2 ^ b) v) (residue-below v (2 ^ b) (modulus_some b))
residue-wrap v b false = mod-eq_of_lt (residue-below v (2 ^ b) (modulus_some b))

pub wrap-residue : (v : ℤ) (b : ℕ) (signed : Bool) → wrap (pos (residue (2 ^ b) v)) b signed ≡ wrap v b signed
wrap-residue v b signed =
    let e : residue (2 ^ b) (pos (residue (2 ^ b) v)) ≡ residue (2 ^ b) v = mod-eq_of_lt (residue-below v (2 ^ b) (modulus_some b)) in
    rw e refl

pub wrap-wrap : (v : ℤ) (b : ℕ) (signed : Bool) → wrap (wrap v b signed) b signed ≡ wrap v b signed
wrap-wrap v b signed = rw (residue-wrap v b signed) refl

same_lengths : (n : ℕ) → nat_eq n n ≡ true
same_lengths n = grind (arith, nat_tests)

number-spells : (n : ℕ) (signed : Bool) (v : ℤ) → wrap v (8 * n) signed ≡ v →
    number_spelled n signed (cells (Whole n signed) (Number v)) ≡ Some (Number v)
number-spells n signed v h =
    let r : ℕ = residue (2 ^ (8 * n)) v in
    let below : residue (2 ^ (8 * n)) v < 256 ^ n =
    subst (λ m. residue (2 ^ (8 * n)) v < m) (eight_bits n) (residue-below v (2 ^ (8 * n)) (modulus_some (8 * n))) in
    rw (
      length-byte_cells (le_bytes n (residue (2 ^ (8 * n)) v)),
      length-le_bytes n
          (residue (2 ^ (8 * n)) v),
      same_lengths n,
      bytes_of-byte_cells (le_bytes n (residue (2 ^ (8 * n)) v)),
      le_number-le_bytes n
          (residue (2 ^ (8 * n)) v) below,
      wrap-residue v (8 * n) signed,
      h,
    ) refl

-- what a number that is spelled is, and its cells
record IsNumberOf (n : ℕ) (signed : Bool) (cs : List Cell) (v : Scalar) : Type 0 where
  bytes : List ℕ
  are_bytes : cs ≡ byte_cells bytes
  as_many : length bytes ≡ n
  value : v ≡ Number (wrap (pos (le_number bytes)) (8 * n) signed)

number-parts : (n : ℕ) (signed : Bool) (cs : List Cell) (v : Scalar) → number_spelled n signed cs ≡ Some v → IsNumberOf n signed cs v
number-parts n signed cs v e = go (nat_eq (length cs) n) refl e
  where
    found : (r : Option (List ℕ)) → bytes_of cs ≡ r → length cs ≡ n →
        option_map (λ bs. Number (wrap (pos (le_number bs)) (8 * n) signed)) r ≡ Some v → IsNumberOf n signed cs v
    found None f l g = absurd cc
    found (Some bs) f l g =
        let t : cs ≡ byte_cells bs = bytes_of-only cs bs f in
        let many : length bs ≡ n = sym (length-byte_cells bs) ∙ ap length (sym t) ∙ l in
        let same : Number (wrap (pos (le_number bs)) (8 * n) signed) ≡ v = cc in
        record { bytes = bs; are_bytes = t; as_many = many; value = sym same }

    go : (b : Bool) → nat_eq (length cs) n ≡ b →
        (if b then option_map (λ bs. Number (wrap (pos (le_number bs)) (8 * n) signed)) (bytes_of cs) else None) ≡ Some v →
        IsNumberOf n signed cs v
    go false f g = absurd cc
    go true f g = let l : length cs ≡ n = grind (arith, nat_tests) in found (bytes_of cs) refl l g

number-only : (n : ℕ) (signed : Bool) (cs : List Cell) (v : Scalar) → AreCells cs → number_spelled n signed cs ≡ Some v →
    IsOfShape (Whole n signed) v × (cs ≡ cells (Whole n signed) v)
number-only n signed cs v h e = go (number-parts n signed cs v e)
  where
    go : IsNumberOf n signed cs v → IsOfShape (Whole n signed) v × (cs ≡ cells (Whole n signed) v)
    go p =
        let bs = p.bytes in
        let small : All (λ b. b < 256) bs = All-byte_cells bs (subst AreCells p.are_bytes h) in
        let below : le_number bs < 2 ^ (8 * n) =
        subst (λ m. le_number bs < m) (ap (λ k. 256 ^ k) p.as_many ∙ sym (eight_bits n)) (le_number-below bs small) in
        let left : residue (2 ^ (8 * n)) (wrap (pos (le_number bs)) (8 * n) signed) ≡ le_number bs =
        residue-wrap (pos (le_number bs)) (8 * n) signed ∙ mod-eq_of_lt below in
        let again : le_bytes n (le_number bs) ≡ bs = subst (λ k. le_bytes k (le_number bs) ≡ bs) p.as_many (le_bytes-le_number bs small) in
        let same : cs ≡ cells (Whole n signed) (Number (wrap (pos (le_number bs)) (8 * n) signed)) = p.are_bytes ∙ rw (left, again) refl in
        subst (λ u. IsOfShape (Whole n signed) u × (cs ≡ cells (Whole n signed) u)) (sym p.value)
        (wrap-wrap (pos (le_number bs)) (8 * n) signed, same)

-- ---- bools

bool-spells : (v : ℤ) → wrap v 1 false ≡ v → bool_spelled (cells Truth (Number v)) ≡ Some (Number v)
bool-spells (pos zero) h = refl
bool-spells (pos (suc zero)) h = refl
bool-spells (pos (suc (suc n))) h =
    let e : suc (suc n) % 2 ≡ suc (suc n) = cc in
    absurd (omega (arith, e))
bool-spells (negsuc n) h = absurd cc

bool-only : (cs : List Cell) (v : Scalar) → bool_spelled cs ≡ Some v → IsOfShape Truth v × (cs ≡ cells Truth v)
bool-only (cell.Byte b ∷ []) v e = zero_or (nat_eq b 0) refl e
  where
    one_or : (t : Bool) → nat_eq b 1 ≡ t → (if t then Some (Number (pos 1)) else None) ≡ Some v →
        IsOfShape Truth v × (cell.Byte b ∷ [] ≡ cells Truth v)
    one_or false f g = absurd cc
    one_or true f g =
        let b_is : b ≡ 1 = grind (arith, nat_tests) in
        let v_is : Number (pos 1) ≡ v = cc in
        subst (λ u. IsOfShape Truth u × (cell.Byte b ∷ [] ≡ cells Truth u)) v_is (refl, ap (λ c. cell.Byte c ∷ []) b_is)

    zero_or : (t : Bool) → nat_eq b 0 ≡ t → (if t then Some (Number (pos 0)) else (if nat_eq b 1 then Some (Number (pos 1)) else None))
        ≡ Some v →
        IsOfShape Truth v × (cell.Byte b ∷ [] ≡ cells Truth v)
    zero_or false f g = one_or (nat_eq b 1) refl g
    zero_or true f g =
        let b_is : b ≡ 0 = grind (arith, nat_tests) in
        let v_is : Number (pos 0) ≡ v = cc in
        subst (λ u. IsOfShape Truth u × (cell.Byte b ∷ [] ≡ cells Truth u)) v_is (refl, ap (λ c. cell.Byte c ∷ []) b_is)
bool-only _ v e = absurd cc

-- ---- pointers

are_fragments-fragments : (o d k n : ℕ) → are_fragments o d k (fragments o d k n) ≡ true
are_fragments-fragments o d k zero = refl
are_fragments-fragments o d k (suc n) =
    rw (same_lengths o, same_lengths d, same_lengths k, are_fragments-fragments o d (suc k) n) refl

and_left : (a b : Bool) → (a && b) ≡ true → a ≡ true
and_left true b e = refl
and_left false b e = absurd cc

and_right : (a b : Bool) → (a && b) ≡ true → b ≡ true
and_right true b e = e
and_right false b e = absurd cc

are_fragments-only : (o d k : ℕ) (cs : List Cell) → are_fragments o d k cs ≡ true → cs ≡ fragments o d k (length cs)
are_fragments-only o d k [] e = refl
are_fragments-only o d k (cell.Fragment p f l ∷ cs) e =
    let here : (nat_eq o p && (nat_eq d f && nat_eq k l)) ≡ true = and_left _ (are_fragments o d (suc k) cs) e in
    let rest : are_fragments o d (suc k) cs ≡ true = and_right (nat_eq o p && (nat_eq d f && nat_eq k l)) _ e in
    let tail = are_fragments-only o d (suc k) cs rest in
    let a : nat_eq o p ≡ true = and_left _ (nat_eq d f && nat_eq k l) here in
    let bc : (nat_eq d f && nat_eq k l) ≡ true = and_right (nat_eq o p) _ here in
    let b : nat_eq d f ≡ true = and_left _ (nat_eq k l) bc in
    let c : nat_eq k l ≡ true = and_right (nat_eq d f) _ bc in
    let a' : o ≡ p = grind (arith, nat_tests, a) in
    let b' : d ≡ f = grind (arith, nat_tests, b) in
    let c' : k ≡ l = grind (arith, nat_tests, c) in
    rw (← a', ← b', ← c', ← tail) refl
are_fragments-only o d k (cell.Byte b ∷ cs) e = absurd cc
are_fragments-only o d k (cell.Undef ∷ cs) e = absurd cc

address-spells : (o d : ℕ) → address_spelled (fragments o d 0 8) ≡ Some (Pointing (Address o d))
address-spells o d = rw (are_fragments-fragments o d 0 8) refl

address-only : (cs : List Cell) (v : Scalar) → address_spelled cs ≡ Some v → IsOfShape Reference v × (cs ≡ cells Reference v)
address-only (cell.Fragment o d k ∷ cs) v e = long (nat_eq (length cs) 7) refl e
  where
    right : (t : Bool) → are_fragments o d 0 (cell.Fragment o d k ∷ cs) ≡ t → length cs ≡ 7 →
        (if t then Some (Pointing (Address o d)) else None) ≡ Some v →
        IsOfShape Reference v × (cell.Fragment o d k ∷ cs ≡ cells Reference v)
    right false f l g = absurd cc
    right true f l g =
        let v_is : Pointing (Address o d) ≡ v = cc in
        let same = are_fragments-only o d 0 (cell.Fragment o d k ∷ cs) f in
        let same8 : cell.Fragment o d k ∷ cs ≡ fragments o d 0 8 = subst (λ n. cell.Fragment o d k ∷ cs ≡ fragments o d 0 (suc n)) l same in
        subst (λ u. IsOfShape Reference u × (cell.Fragment o d k ∷ cs ≡ cells Reference u)) v_is (tt, same8)

    long : (t : Bool) → nat_eq (length cs) 7 ≡ t →
        (if t then (if are_fragments o d 0 (cell.Fragment o d k ∷ cs) then Some (Pointing (Address o d)) else None) else None) ≡ Some v →
        IsOfShape Reference v × (cell.Fragment o d k ∷ cs ≡ cells Reference v)
    long false f g = absurd cc
    long true f g = let l : length cs ≡ 7 = grind (arith, nat_tests) in right (are_fragments o d 0 (cell.Fragment o d k ∷ cs)) refl l g
address-only [] v e = absurd cc
address-only (cell.Byte b ∷ cs) v e = absurd cc
address-only (cell.Undef ∷ cs) v e = absurd cc

null-only : (cs : List Cell) (v : Scalar) → AreCells cs → null_spelled cs ≡ Some v → IsOfShape Nullable v × (cs ≡ cells Nullable v)
null-only cs v h e = long (nat_eq (length cs) 8) refl e
  where
    zeros : (bs : List ℕ) (t : Bool) → nat_eq (le_number bs) 0 ≡ t → cs ≡ byte_cells bs → length bs ≡ 8 →
        (if t then Some (Pointing Null) else None) ≡ Some v → IsOfShape Nullable v × (cs ≡ cells Nullable v)
    zeros bs false f s l g = absurd cc
    zeros bs true f s l g =
        let none : le_number bs ≡ 0 = grind (arith, nat_tests) in
        let small : All (λ b. b < 256) bs = All-byte_cells bs (subst AreCells s h) in
        let all : le_bytes 8 (le_number bs) ≡ bs = subst (λ k. le_bytes k (le_number bs) ≡ bs) l (le_bytes-le_number bs small) in
        let again : le_bytes 8 0 ≡ bs = subst (λ x. le_bytes 8 x ≡ bs) none all in
        let v_is : Pointing Null ≡ v = cc in
        subst (λ u. IsOfShape Nullable u × (cs ≡ cells Nullable u)) v_is (tt, s ∙ sym (ap byte_cells again))

    bytes : (r : Option (List ℕ)) → bytes_of cs ≡ r → length cs ≡ 8 →
        option_and_then (λ bs. if nat_eq (le_number bs) 0 then Some (Pointing Null) else None) r ≡ Some v →
        IsOfShape Nullable v × (cs ≡ cells Nullable v)
    bytes None f l g = absurd cc
    bytes (Some bs) f l g =
        let s : cs ≡ byte_cells bs = bytes_of-only cs bs f in
        let many : length bs ≡ 8 = sym (length-byte_cells bs) ∙ ap length (sym s) ∙ l in
        zeros bs (nat_eq (le_number bs) 0) refl s many g

    long : (t : Bool) → nat_eq (length cs) 8 ≡ t →
        (if t then option_and_then (λ bs. if nat_eq (le_number bs) 0 then Some (Pointing Null) else None) (bytes_of cs) else None)
        ≡ Some v →
        IsOfShape Nullable v × (cs ≡ cells Nullable v)
    long false f g = absurd cc
    long true f g = let l : length cs ≡ 8 = grind (arith, nat_tests) in bytes (bytes_of cs) refl l g

-- a reference is a pointer that is not null
nullable-of_reference : (cs : List Cell) (v : Scalar) → IsOfShape Reference v × (cs ≡ cells Reference v) →
    IsOfShape Nullable v × (cs ≡ cells Nullable v)
nullable-of_reference cs (Number v) p = absurd p.0
nullable-of_reference cs (Pointing Null) p = absurd p.0
nullable-of_reference cs (Pointing (Address o d)) p = (tt, p.1)

nullable-only : (cs : List Cell) (v : Scalar) → AreCells cs → option_or (address_spelled cs) (null_spelled cs) ≡ Some v →
    IsOfShape Nullable v × (cs ≡ cells Nullable v)
nullable-only cs v h e = go (address_spelled cs) refl e
  where
    go : (r : Option Scalar) → address_spelled cs ≡ r → option_or r (null_spelled cs) ≡ Some v →
        IsOfShape Nullable v × (cs ≡ cells Nullable v)
    go None f g = null-only cs v h g
    go (Some u) f g = nullable-of_reference cs v (address-only cs v (f ∙ g))

nullable-spells : (o d : ℕ) → spelled Nullable (fragments o d 0 8) ≡ Some (Pointing (Address o d))
nullable-spells o d = rw (address-spells o d) refl

-- ---- the law

pub cells_spell : CellsSpell
cells_spell = record { spells = all_spell; only = no_other }
  where
    all_spell : (shape : Shape) (v : Scalar) → IsOfShape shape v → spelled shape (cells shape v) ≡ Some v
    all_spell (Whole n signed) (Number v) h = number-spells n signed v h
    all_spell (Whole n signed) (Pointing p) h = absurd h
    all_spell Truth (Number v) h = bool-spells v h
    all_spell Truth (Pointing p) h = absurd h
    all_spell Reference (Number v) h = absurd h
    all_spell Reference (Pointing Null) h = absurd h
    all_spell Reference (Pointing (Address o d)) h = address-spells o d
    all_spell Nullable (Number v) h = absurd h
    all_spell Nullable (Pointing Null) h = refl
    all_spell Nullable (Pointing (Address o d)) h = nullable-spells o d

    no_other : (shape : Shape) (cs : List Cell) (v : Scalar) → AreCells cs → spelled shape cs ≡ Some v →
        IsOfShape shape v × (cs ≡ cells shape v)
    no_other (Whole n signed) cs v h e = number-only n signed cs v h e
    no_other Truth cs v h e = bool-only cs v e
    no_other Reference cs v h e = address-only cs v e
    no_other Nullable cs v h e = nullable-only cs v h e
