use Rattle.std.proofs.Common.{◌≡◌, ℕ, zero, suc, ◌<◌, length, refl, arith}
use Rattle.std.proofs.lemmas.Bool.Decides.{nat_tests}
use Rattle.il_mem.proofs.StackLists.{ends_by_last}
use Rattle.il_mem.proofs.stack.follows.Goals as goal

some_of : (n : ℕ) → (n ≡ 0 → ⊥) → 0 < n
some_of zero ne = absurd (ne refl)
some_of (suc n) ne = omega arith

pub returns-else-n-eq0 : goal.returns-else-n-eq0
returns-else-n-eq0 c = λ e.
    ends_by_last c.args.stack.now c.args.at (0, 0) c.requires (some_of (length c.args.stack.now) c.if-n-eq0.false) (grind (arith, nat_tests))
