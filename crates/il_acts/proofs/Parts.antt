-- Ranges of memory that are read and written in parts, in the memory that is kept.
use Rattle.std.proofs.Common.{◌≡◌, ℕ, ◌+◌, ◌-◌, ◌^◌, ◌<◌, ◌≤◌, Bool, true, false, List, [], ◌∷◌, ◌++◌, length, get_or, Option, Some, None, refl, sym, ap, ◌∙◌, subst, arith, inl, inr}
use Rattle.std.specs.Prelude.{is_some, if◌then◌else◌}
use Rattle.std.specs.Option.{SomeIff}
use Rattle.std.proofs.lemmas.List.Elements.{All-head, All-tail}
use Rattle.std.proofs.lemmas.Option.{slice_get-get_or}
use Rattle.hx_base.specs.Memory.{Memory, byte_at, all_mapped, bytes_at, write, move}
use Rattle.hx_base.proofs.Memory.Ranges.{Inside, inside, outside, inside_of, all_mapped-each, length-bytes_at, slice_get-bytes_at}
use Rattle.hx_base.proofs.Memory.Written.{byte_at-write_inside, byte_at-write_outside, write-append}
use Rattle.il_mem.specs.Kept.{Kept, covers}
use Rattle.il_mem.specs.Holds.{Holds}
use Rattle.il_mem.proofs.RangeLists.{covers-rest}
use Rattle.il_acts.specs.Blocks.{EndLow}

-- ---- no byte is mapped at the end of the addresses

uncovered : (rs : List (ℕ × ℕ)) (a : ℕ) → EndLow rs → 2 ^ 64 ≤ a + 1 → covers rs a ≡ false
uncovered [] a h l = refl
uncovered (r ∷ rs) a h l =
    let low = All-head (λ x. x.1 < 2 ^ 64) r rs h in
    covers-rest a r rs (inr (omega (arith, low, l))) ∙ uncovered rs a (All-tail (λ x. x.1 < 2 ^ 64) r rs h) l

-- so a range that goes that far is not mapped
pub mapped_far : (it : Kept) (m : Memory) (at n : ℕ) → EndLow it.ranges → Holds it m → at < 2 ^ 64 → 2 ^ 64 ≤ at + n →
    all_mapped m at n ≡ false
mapped_far it m at n low h begins ends = pick (all_mapped m at n) refl
  where
    pick : (b : Bool) → all_mapped m at n ≡ b → b ≡ false
    pick false e = refl
    pick true e =
        let last : ℕ = at + n - 1 in
        let mapped = all_mapped-each m at n last e (omega arith) (omega arith) in
        let not = uncovered it.ranges last low (omega arith) in
        let is = h.mapped last in
        cc

-- ---- a range that is written over itself

-- each byte stays
byte_at-over : (m : Memory) (at n a : ℕ) → byte_at (write m at (bytes_at m at n)) a ≡ byte_at m a
byte_at-over m at n a = pick (inside_of at n a)
  where
    pick : Inside at n a → byte_at (write m at (bytes_at m at n)) a ≡ byte_at m a
    pick (inside e l u) =
        let k : ℕ = a - at in
        let there : at + k ≡ a = omega arith in
        let got = slice_get-bytes_at m at n k (omega arith) in
        let is = byte_at-write_inside m at (bytes_at m at n) k (byte_at m (at + k)) got in
        subst (λ (x : ℕ). byte_at (write m at (bytes_at m at n)) x ≡ byte_at m x) there is
    pick (outside e x) = byte_at-write_outside m at (bytes_at m at n) a (rw (length-bytes_at m at n) x)

pub holds_over : (it : Kept) (m : Memory) (at n : ℕ) → Holds it (write m at (bytes_at m at n)) → Holds it m
holds_over it m at n h = record {
  bytes = record { fill = h.bytes.fill; bytes = λ a. h.bytes.bytes a ∙ byte_at-over m at n a };
  mapped = h.mapped;
}

pub move_over : (m : Memory) (at n : ℕ) (b : Bool) → all_mapped m at n ≡ b →
    move m at at n ≡ (if b then Some (write m at (bytes_at m at n)) else None)
move_over m at n true e = rw e refl
move_over m at n false e = rw e refl

-- ---- a range that is written in two parts, the front first

module _ (m : Memory) (at : ℕ) (xs ys : List ℕ) where
  byte_at-two : (a : ℕ) → byte_at (write (write m at xs) (at + length xs) ys) a ≡ byte_at (write m at (xs ++ ys)) a
  byte_at-two a =
      pick (inside_of at (length xs) a) (inside_of (at + length xs) (length ys) a)
      ∙ sym (ap (λ (x : Memory). byte_at x a) (write-append m at xs ys))
    where
      pick : Inside at (length xs) a → Inside (at + length xs) (length ys) a →
          byte_at (write (write m at xs) (at + length xs) ys) a ≡ byte_at (write (write m (at + length xs) ys) at xs) a
      pick (inside e l u) j =
          let k : ℕ = a - at in
          let there : at + k ≡ a = omega arith in
          let got = slice_get-get_or xs k 0 (omega arith) in
          let first = byte_at-write_inside m at xs k (get_or xs k 0) got in
          let second = byte_at-write_inside (write m (at + length xs) ys) at xs k (get_or xs k 0) got in
          let both : byte_at (write m at xs) (at + k) ≡ byte_at (write (write m (at + length xs) ys) at xs) (at + k) = first ∙ sym second in
          byte_at-write_outside (write m at xs) (at + length xs) ys a (inl (omega arith))
          ∙ subst (λ (x : ℕ). byte_at (write m at xs) x ≡ byte_at (write (write m (at + length xs) ys) at xs) x) there both
      pick (outside e x) (inside f l u) =
          let k : ℕ = a - (at + length xs) in
          let there : at + length xs + k ≡ a = omega arith in
          let got = slice_get-get_or ys k 0 (omega arith) in
          let first = byte_at-write_inside (write m at xs) (at + length xs) ys k (get_or ys k 0) got in
          let second = byte_at-write_inside m (at + length xs) ys k (get_or ys k 0) got in
          let both : byte_at (write (write m at xs) (at + length xs) ys) (at + length xs + k)
          ≡ byte_at (write m (at + length xs) ys) (at + length xs + k) = first ∙ sym second in
          subst (λ (z : ℕ). byte_at (write (write m at xs) (at + length xs) ys) z ≡ byte_at (write m (at + length xs) ys) z) there both
          ∙ sym (byte_at-write_outside (write m (at + length xs) ys) at xs a x)
      pick (outside e x) (outside f y) =
          byte_at-write_outside (write m at xs) (at + length xs) ys a y ∙ byte_at-write_outside m at xs a x
          ∙ sym (byte_at-write_outside (write m (at + length xs) ys) at xs a x ∙ byte_at-write_outside m (at + length xs) ys a y)

  pub holds_two : (it : Kept) → Holds it (write (write m at xs) (at + length xs) ys) → Holds it (write m at (xs ++ ys))
  holds_two it h = record {
    bytes = record { fill = h.bytes.fill; bytes = λ a. h.bytes.bytes a ∙ byte_at-two a };
    mapped = h.mapped;
  }

-- ---- the end of a range

pub not_below : (x : ℕ) → ¬ (x < 2 ^ 64) → 2 ^ 64 ≤ x
not_below x h = omega (arith, h)

-- there is no sum where the range ends behind the last address
pub no_end : (o : Option ℕ) (x : ℕ) → SomeIff o (x < 2 ^ 64) x → is_some o ≡ false → 2 ^ 64 ≤ x
no_end None x h e = not_below x h
no_end (Some y) x h e = cc

-- and there is one where it does not
pub an_end : (o : Option ℕ) (x : ℕ) → SomeIff o (x < 2 ^ 64) x → is_some o ≡ true → x < 2 ^ 64
an_end None x h e = cc
an_end (Some y) x h e = h.0
