use Rattle.std.proofs.Common.{◌≡◌, ℕ, ◌-◌, ◌<◌, ◌≤◌, Bool, true, false, length, refl, arith, ◌⊎◌, inl, inr}
use Rattle.std.specs.Prelude.{nat_lt, slice_index_or}
use Rattle.std.proofs.lemmas.Bool.Decides.{nat_tests}
use Rattle.il_mem.proofs.StackLists.{covers-at, covers-none, laid_ends}
use Rattle.il_mem.proofs.stack.found.Goals.{else-k-gt0-via-then-k-gt0+else-stack-k, else-k-gt0-via-else-k-gt0}
use Rattle.il_mem.proofs.stack.found.Goals as goal

pub returns-then-stack-k-clause-found : goal.returns-then-stack-k-clause-found
returns-then-stack-k-clause-found c =
    let k = c.begin_by-k.result in
    let within = c.begin_by-k.ensures.within in
    let some = c.if-k-gt0.true in (
      c.begin_by-k.ensures.below (k - 1) (0, 0) (omega (arith, some)),
      c.if-stack-k.true,
      λ a l u. covers-at c.args.stack.now (k - 1) (0, 0) a (omega (arith, some, within)) l u,
    )

pub returns-else-k-gt0-clause-none : goal.returns-else-k-gt0-clause-none
returns-else-k-gt0-clause-none c =
    covers-none c.args.stack.now c.args.at (λ j d l. decide j d l (nat_lt j c.begin_by-k.result) refl)
  where
    before : (j : ℕ) (d : ℕ × ℕ) → j < c.begin_by-k.result → (slice_index_or c.args.stack.now j d).1 ≤ c.args.at
    before j d l = elim c.else-k-gt0.branch [
      | else-k-gt0-via-then-k-gt0+else-stack-k w ↦
          let within = c.begin_by-k.ensures.within in
          let under = laid_ends 0 c.args.stack.now j (c.begin_by-k.result - 1) d (0, 0) c.requires (omega (arith, l)) (omega (arith, l, within)) in
          omega (arith, under, w.if-stack-k.false)
      | else-k-gt0-via-else-k-gt0 w ↦ absurd (omega (arith, l, w.if-k-gt0.false))
    ]

    decide : (j : ℕ) (d : ℕ × ℕ) → j < length c.args.stack.now → (b : Bool) → nat_lt j c.begin_by-k.result ≡ b →
        (c.args.at < (slice_index_or c.args.stack.now j d).0) ⊎ ((slice_index_or c.args.stack.now j d).1 ≤ c.args.at)
    decide j d l true e = inr (before j d (grind (arith, nat_tests)))
    decide j d l false e = inl (c.begin_by-k.ensures.above j d (grind (arith, nat_tests)) l)
