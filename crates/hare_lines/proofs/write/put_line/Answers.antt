use Rattle.std.proofs.Common.{◌≡◌, ◌∙◌, ◌++◌, ap, arith, append_assoc}
use Rattle.std.specs.Prelude.{replicate}
use Rattle.hare_lines.specs.Layout.{feeds}
use Rattle.hare_lines.proofs.write.put_line.Goals as goal

pub returns : goal.returns
returns c =
    let all : c.tabs.n ≡ c.args.tabs = omega (arith, c.tabs-test.false, c.tabs.auto.n-end) in
    let old = c.args.out.now in
    let ends = feeds c.args.empty in
    c.tabs.invariant ∙ ap (λ l. l ++ replicate c.tabs.n 9) (c.in_ok-extend.ensures.ok ∙ ap (λ l. old ++ l) c.feeds.ensures)
    ∙ append_assoc old ends (replicate c.tabs.n 9) ∙ ap (λ n. old ++ (ends ++ replicate n 9)) all
