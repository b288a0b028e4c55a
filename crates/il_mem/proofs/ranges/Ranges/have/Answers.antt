use Rattle.std.proofs.Common.{◌≡◌, ◌^◌, ◌-◌, ◌+◌, ◌≤◌, false, List, ℕ, subst, arith}
use Rattle.il_mem.specs.Kept.{covers}
use Rattle.il_mem.specs.Laid.{with_all}
use Rattle.il_mem.proofs.RangeLists.{covers-above}
use Rattle.il_mem.proofs.StackLists.{joined}
use Rattle.il_mem.proofs.ranges.Ranges.have.Goals as goal

-- the last address that a word has is never mapped
pub returns-in_default-clause-value : goal.returns-in_default-clause-value
returns-in_default-clause-value c =
    let h = c.in_default.ensures in
    let ss = c.self.inside.stack.items in
    let es = c.self.inside.ends.entries in
    let bare : covers (with_all ss es) (2 ^ 64 - 1) ≡ false =
    covers-above 0 (2 ^ 64 - 1) (with_all ss es) (joined ss es c.self.invariant.0).laid (omega arith) in
    let long : 2 ^ 64 ≤ c.args.at + c.args.n = grind (arith, h) in
    record {
      address = 2 ^ 64 - 1;
      from = omega (arith, c.ranges.at);
      below = omega (arith, long);
      bare = subst (λ (rs : List (ℕ × ℕ)). covers rs (2 ^ 64 - 1) ≡ false) c.self.view_is bare;
    }
