-- Where the operands of a comparison go, by their places.
use Rattle.std.proofs.Common.{◌≡◌, ℕ, zero, suc, Bool, true, false, nat_eq, refl, ap}
use Rattle.std.specs.Cmp.{unsigned_Decides}
use Rattle.hare_rules.specs.Context.{Context, store_of}
use Rattle.hare_rules.specs.Operators.{first_seen, second_seen}
use Rattle.hare_rules.specs.Settles.{equal_target}
use Rattle.rule_ops.specs.Typed.{equal_target_of}

not_first : (i : ℕ) → nat_eq (suc i) 0 ≡ false
not_first i = by (nat_eq (suc i) 0) refl
  where
    by : (b : Bool) → nat_eq (suc i) 0 ≡ b → nat_eq (suc i) 0 ≡ false
    by false e = e
    by true e = let same : suc i ≡ 0 = (unsigned_Decides (suc i) 0).0 e in absurd cc

pub equal_by_place : (c : Context) (i : ℕ) → equal_target_of (store_of c) (first_seen c) (second_seen c) (nat_eq i 0) ≡ equal_target c i
equal_by_place c zero = refl
equal_by_place c (suc i) = ap (equal_target_of (store_of c) (first_seen c) (second_seen c)) (not_first i)
