use Rattle.std.proofs.Common.{◌≡◌, sym, ◌∙◌}
use Rattle.hare_tree.proofs.Sizes.Kids.{kid_smaller}
use Rattle.hare_tree.proofs.tree.Kids.get.Goals as goal

pub returns-clause-smaller : goal.returns-clause-smaller
returns-clause-smaller c =
    let all : c.args.self.now ≡ c.deref.result.now = sym (c.deref.ensures.value ∙ c.self.view_is) in
    rw all (kid_smaller c.deref.result.now c.args.i c.get.result c.get.ensures.lookup.0 c.get.ensures.lookup.1)
