-- Bytes that are written piece by piece.
use Rattle.std.proofs.Common.{ℕ, ◌+◌, ◌≤◌, min, List, ◌++◌, Option, None, Some, length, take, Result, Ok, Err, IsErr, ap, ◌∙◌, append_assoc, arith}
use Rattle.std.specs.Io.KnownBytes.{Appends}
use Rattle.std.proofs.Math.Seq.{take-append-add}
use Rattle.std.proofs.lemmas.List.{take-append-le, take_min}
use Rattle.harec_core.specs.Outside.{Sent, sent, IsSent, IsCutOff, Writes}

-- one piece behind the other
pub Appends-both : (a m z : Option (List ℕ)) (xs ys : List ℕ) → Appends a m xs → Appends m z ys → Appends a z (xs ++ ys)
Appends-both None m z xs ys p q = tt
Appends-both (Some a) None z xs ys p q = absurd p
Appends-both (Some a) (Some m) None xs ys p q = absurd q
Appends-both (Some a) (Some m) (Some z) xs ys p q = q ∙ ap (λ l. l ++ ys) p ∙ append_assoc a xs ys

module _ (f g h : ℕ) (a m z : Option (List ℕ)) (xs ys : List ℕ) where
  -- both are written whole
  pub sent_both : IsSent xs (sent f g a m) → IsSent ys (sent g h m z) → IsSent (xs ++ ys) (sent f h a z)
  sent_both p q = record { stands = q.stands ∙ p.stands; written = Appends-both a m z xs ys p.written q.written }

  -- the second is cut off
  pub cut_behind : IsSent xs (sent f g a m) → IsCutOff ys (sent g h m z) → IsCutOff (xs ++ ys) (sent f h a z)
  cut_behind p q = record {
    risen = rw (← p.stands) q.risen;
    count = length xs + q.count;
    written = rw (take-append-add xs ys q.count) (Appends-both a m z xs (take q.count ys) p.written q.written);
  }

-- the first is cut off
pub cut_in_front : (f g : ℕ) (a m : Option (List ℕ)) (xs ys : List ℕ) → IsCutOff xs (sent f g a m) → IsCutOff (xs ++ ys) (sent f g a m)
cut_in_front f g a m xs ys p =
    let within : min p.count (length xs) ≤ length xs = omega arith in
    record {
      risen = p.risen;
      count = min p.count (length xs);
      written = rw (take-append-le (min p.count (length xs)) xs ys within, take_min p.count xs) p.written;
    }

-- a write that failed was cut off
pub Writes-err : {T E : Type 0} (bytes : List ℕ) (s : Sent) (r : Result T E) → IsErr r → IsCutOff bytes s → Writes bytes s r
Writes-err bytes s (Ok x) h p = absurd (cc)
Writes-err bytes s (Err e) h p = p
