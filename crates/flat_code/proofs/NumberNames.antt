-- Names that are the digits of numbers differ where the numbers do.
use Rattle.std.proofs.Common.{◌≡◌, ℕ, ◌<◌, ◌^◌, Bool, true, false, refl, ap, arith}
use Rattle.std.specs.Prelude.{bytes_eq, nat_eq}
use Rattle.std.specs.Fmt.{decimal}
use Rattle.std.proofs.lemmas.Bool.Decides.{nat_tests}
use Rattle.std.proofs.lemmas.Fmt.{decimal_injective}
use Rattle.std.proofs.lemmas.Slice.Eq.{bytes_eq-Decides}

-- numbers are as equal as their digits
pub decimal_eq : (m n : ℕ) → m < 2 ^ 64 → n < 2 ^ 64 → bytes_eq (decimal m) (decimal n) ≡ nat_eq m n
decimal_eq m n hm hn = pick (bytes_eq (decimal m) (decimal n)) (nat_eq m n) refl refl
  where
    digits : bytes_eq (decimal m) (decimal n) ≡ true → m ≡ n
    digits h = decimal_injective m n hm hn ((bytes_eq-Decides (decimal m) (decimal n)).0 h)

    pick : (a b : Bool) → bytes_eq (decimal m) (decimal n) ≡ a → nat_eq m n ≡ b → a ≡ b
    pick true true h k = refl
    pick false false h k = refl
    pick true false h k = let s : m ≡ n = digits h in absurd (grind (arith, nat_tests))
    pick false true h k =
        let s : m ≡ n = grind (arith, nat_tests) in
        let t : bytes_eq (decimal m) (decimal n) ≡ true = (bytes_eq-Decides (decimal m) (decimal n)).1 (ap decimal s) in
        cc
