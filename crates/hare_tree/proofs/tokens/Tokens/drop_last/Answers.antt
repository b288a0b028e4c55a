use Rattle.std.proofs.Common.{◌≡◌, ◌-◌, take, length, sym, ap, ◌∙◌, arith}
use Rattle.std.proofs.lemmas.Grind.{common_steps}
use Rattle.hare_tree.specs.Grammar.{before_end}
use Rattle.hare_tree.proofs.Spelling.BeforeEnd.{before_end_is}
use Rattle.hare_tree.proofs.tokens.Tokens.drop_last.Goals as goal

pub returns : goal.returns
returns c =
    let e : c.pop.new.self.items ≡ take (length c.self.inside.tokens.items - 1) c.self.inside.tokens.items =
    grind (arith, common_steps, c.pop.ensures.rest) in
    e ∙ sym (before_end_is c.self.inside.tokens.items) ∙ ap before_end c.self.view_is
