-- The type and the value of a binding.
use Rattle.std.proofs.Common.{◌≡◌, ◌≢◌, ℕ, Bool, true, false, not, ◌&&◌, ◌||◌, cond, nat_eq, Option, None, refl, ap, sym, ◌∙◌}
use Rattle.std.specs.Cmp.{unsigned_Decides}
use Rattle.hare_rules.specs.Settles.{only_where}

-- the first of two is so
pub or_first : (b c r : Bool) → b ≡ true → b ≡ c → true ≡ (c || r)
or_first b c r e h = sym (ap (λ x. x || r) (sym h ∙ e))

-- or the second
pub or_second : (b c d r : Bool) → b ≡ false → b ≡ c → d ≡ r → d ≡ (c || r)
or_second b c d r e h k = k ∙ sym (ap (λ x. x || r) (sym h ∙ e))

pub first_of : {A : Type 0} (b c : Bool) (x y z : A) → b ≡ true → b ≡ c → z ≡ x → z ≡ cond c x y
first_of b c x y z e h k = k ∙ sym (ap (λ a. cond a x y) (sym h ∙ e))

pub second_of : {A : Type 0} (b c : Bool) (x y z : A) → b ≡ false → b ≡ c → z ≡ y → z ≡ cond c x y
second_of b c x y z e h k = k ∙ sym (ap (λ a. cond a x y) (sym h ∙ e))

-- ---- where the value goes

-- no other kid does
pub other_stays : (i k : ℕ) (w : Bool) (o : Option ℕ) → i ≢ k → None ≡ only_where (nat_eq i k && not w) o
other_stays i k w o h = by (nat_eq i k) refl
  where
    by : (b : Bool) → nat_eq i k ≡ b → None ≡ only_where (b && not w) o
    by true e = absurd (h ((unsigned_Decides i k).0 e))
    by false e = refl

-- nor does it where its type is written
pub written_stays : (b w : Bool) (o : Option ℕ) → w ≡ true → None ≡ only_where (b && not w) o
written_stays true true o e = refl
written_stays false true o e = refl
written_stays b false o e = cc

pub value_goes : (i k : ℕ) (w : Bool) (d o : Option ℕ) → i ≡ k → w ≡ false → d ≡ o → d ≡ only_where (nat_eq i k && not w) o
value_goes i k w d o h e g = g ∙ sym (by (nat_eq i k) w ((unsigned_Decides i k).1 h) e)
  where
    by : (b v : Bool) → b ≡ true → v ≡ false → only_where (b && not v) o ≡ o
    by true false k l = refl
    by true true k l = cc
    by false v k l = cc
