use Rattle.std.proofs.Common.{ℕ, List, sym, subst, arith}
use Rattle.std.proofs.lemmas.List.{take_all}
use Rattle.hx_base.specs.Memory.{write}
use Rattle.il_mem.specs.Kept.{Held}
use Rattle.il_mem.specs.Holds.{HoldsBytes}
use Rattle.il_mem.proofs.PageWrites.{parts_written}
use Rattle.il_mem.proofs.pages.Pages.write.Goals as goal
use Rattle.il_mem.proofs.pages.Pages.write.Goals.{then-first-bytes, else-first-bytes}

-- the back is written first, if there is one
pub returns-clause-bytes : goal.returns-clause-bytes
returns-clause-bytes c = λ m holds.
    let xs = c.args.bytes.now in
    let f = c.in_page-first.result in
    elim c.if-first-bytes.branch [
      | then-first-bytes w ↦
          let back = subst (λ (h : Held). HoldsBytes h _) (sym w.self-is) (w.put.ensures.bytes m holds) in
          parts_written c.put-2.new.self m c.args.at f xs (omega (arith, w.if-first-bytes.true)) (c.put-2.ensures.bytes _ back)
      | else-first-bytes w ↦
          let same = subst (λ (h : Held). HoldsBytes h m) (sym w.self-is) holds in
          subst (λ (ys : List ℕ). HoldsBytes c.put-2.new.self (write m c.args.at ys)) (take_all f xs w.if-first-bytes.false)
          (c.put-2.ensures.bytes m same)
    ]
