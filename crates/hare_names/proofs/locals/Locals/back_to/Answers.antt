use Rattle.std.proofs.Common.{◌≡◌, ℕ, ◌<◌, ◌-◌, List, [], ◌∷◌, length, drop, suc, ◌∙◌, refl, arith}
use Rattle.hare_names.proofs.locals.Locals.back_to.Goals as goal

-- without its newest, a list that is too long comes to the same oldest ones
drop_newest : {A : Type 0} (s : List A) (m : ℕ) → m < length s → drop (length (drop 1 s) - m) (drop 1 s) ≡ drop (length s - m) s
drop_newest [] m h = absurd (omega arith)
drop_newest (x ∷ s) m h = let e : length (x ∷ s) - m ≡ suc (length s - m) = omega arith in rw e refl

pub loop-self-preserved : goal.loop-self-preserved
loop-self-preserved c =
    let less : c.args.mark < length c.loop-self.self = omega (arith, c.loop-self-test.true, c.mark.ensures) in
    rw c.forget_newest.ensures (drop_newest c.loop-self.self c.args.mark less ∙ c.loop-self.invariant)
