use Rattle.std.proofs.Common.{◌≡◌, ℕ, List, length, take, replicate, ◌∙◌, subst, arith, length-take}
use Rattle.std.proofs.lemmas.List.{length-replicate}
use Rattle.hx_base.specs.Memory.{bytes_at, write}
use Rattle.il_mem.specs.Holds.{HoldsBytes}
use Rattle.il_mem.proofs.copies.copy.Goals as goal

pub returns-clause-bytes : goal.returns-clause-bytes
returns-clause-bytes c = λ m holds.
    let new = c.write.new.self in
    let to = c.args.to in
    let from = c.args.from in
    let size : length (take c.args.n (replicate 256 0)) ≡ c.args.n = length-take c.args.n (replicate 256 0)
    ∙ omega (arith, length-replicate {A = ℕ} 256 0, c.requires.few) in
    let copied = subst (λ (bs : List ℕ). HoldsBytes new (write m to bs)) (c.read.ensures m holds) (c.write.ensures.bytes m holds) in
    subst (λ (k : ℕ). HoldsBytes new (write m to (bytes_at m from k))) size copied
