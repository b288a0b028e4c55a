use Rattle.std.proofs.Common.{◌≡◌, ◌<◌, ◌+◌, ◌++◌, ap, sym, ◌∙◌, arith}
use Rattle.hare_tree.specs.Left.{entry_tokens, entry_weight, left_tokens, left_weight}
use Rattle.hare_tree.proofs.Spelling.Stack.{left_tokens-push, left_weight-push}
use Rattle.hare_tree.proofs.unparse.put_all.Goals as goal

pub loop-entry-smaller : goal.loop-entry-smaller
loop-entry-smaller c =
    let popped : left_weight c.loop-entry.left.items ≡ left_weight c.pop.new.self.items + entry_weight c.in-Some.entry =
    ap left_weight c.in-Some.ensures.items ∙ left_weight-push c.pop.new.self.items c.in-Some.entry in
    let lighter = c.in_ok-put_entry.ensures.weight in
    let falls : left_weight c.put_entry.new.left.items < left_weight c.loop-entry.left.items = omega arith in
    falls

pub loop-entry-preserved : goal.loop-entry-preserved
loop-entry-preserved c =
    let popped : left_tokens c.args.file c.loop-entry.left.items ≡ entry_tokens c.args.file c.in-Some.entry ++
    left_tokens c.args.file c.pop.new.self.items = ap (left_tokens c.args.file) c.in-Some.ensures.items ∙ left_tokens-push c.args.file
    c.pop.new.self.items c.in-Some.entry in
    c.in_ok-put_entry.ensures.tokens ∙ ap (λ ts. c.loop-entry.out ++ ts) (sym popped) ∙ c.loop-entry.invariant
