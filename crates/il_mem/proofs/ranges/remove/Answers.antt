use Rattle.std.proofs.Common.{◌≡◌, ℕ, ◌+◌, ◌<◌, true, false, refl, sym, ◌∙◌, arith}
use Rattle.std.specs.Prelude.{not}
use Rattle.std.specs.Ordering.{nat_cmp}
use Rattle.std.specs.BTreeMap.{is_at}
use Rattle.hx_base.specs.Memory.{in_range}
use Rattle.hx_base.proofs.Memory.Ranges.{in_range-inside}
use Rattle.il_mem.proofs.RangeLists.{filter-remove_entry, filter-out, laid-remove_entry, laid_short}
use Rattle.il_mem.proofs.ranges.remove.Goals as goal

pub loop-start-preserved : goal.loop-start-preserved
loop-start-preserved c =
    let at = c.args.at in
    let n = c.args.n in
    let s = c.in-Some.start in
    let rs = c.loop-start.ends.entries in
    let below : s < at + n = omega (arith, c.if-start-end.false, c.saturating_add-end.ensures) in
    let inside : in_range at n s ≡ true = in_range-inside at n s c.in-Some.ensures.found.0 below in
    let gone : (e : ℕ) → not (in_range at n s) ≡ false = λ e. rw inside refl in
    rw c.remove.ensures.entries (
      filter-remove_entry (λ r. not (in_range at n r.0)) s rs gone ∙ c.loop-start.invariant.0,
      laid-remove_entry (is_at (nat_cmp s)) 0 rs c.loop-start.invariant.1,
    )

pub returns-then-start-end : goal.returns-then-start-end
returns-then-start-end c =
    let rs = c.loop-start.ends.entries in
    let short = laid_short 0 rs c.loop-start.invariant.1 in
    let first = c.in-Some.ensures.first in
    sym (filter-out c.args.at c.args.n rs
    (λ k d l m. omega (arith, short k d l, first k d l m, c.if-start-end.true, c.saturating_add-end.ensures))) ∙ c.loop-start.invariant.0

pub returns-in_default : goal.returns-in_default
returns-in_default c =
    let rs = c.loop-start.ends.entries in
    sym (filter-out c.args.at c.args.n rs (λ k d l m. omega (arith, c.in_default.ensures.none k d l, m))) ∙ c.loop-start.invariant.0
