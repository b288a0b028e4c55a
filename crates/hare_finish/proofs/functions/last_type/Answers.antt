use Rattle.std.proofs.Common.{◌≡◌, ◌-◌, length, suc, sym, ap, ◌∙◌, arith}
use Rattle.hare_whole.specs.Declared.{unnumbered}
use Rattle.hare_finish.specs.Made.{last_tree}
use Rattle.hare_finish.proofs.OneByOne.Lists.{last-there, ok-map}
use Rattle.hare_finish.proofs.functions.last_type.Goals as goal

pub returns : goal.returns
returns c =
    let ts = c.args.types.now in
    let x = c.in-Some.written.now in
    let last : suc (c.len-count.result - 1) ≡ length ts = omega arith in
    let same = last-there ts (c.len-count.result - 1) x c.in-Some.ensures.found last in
    ok-map (λ y. y ≡ unnumbered x) (λ y. y ≡ unnumbered (last_tree ts)) c.copy_unnumbered.result (λ y e. e ∙ ap unnumbered (sym same))
    c.copy_unnumbered.ensures
