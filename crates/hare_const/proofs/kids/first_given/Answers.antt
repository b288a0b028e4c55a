use Rattle.std.proofs.Common.{◌∙◌}
use Rattle.hare_const.proofs.NodeLemmas.{first-given}
use Rattle.hare_const.proofs.kids.first_given.Goals as goal

pub returns : goal.returns
returns c = c.type_of_kid.ensures ∙ first-given c.args.t.now
