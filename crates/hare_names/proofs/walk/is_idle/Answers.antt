use Rattle.std.proofs.Common.{◌∙◌, arith}
use Rattle.hare_names.proofs.WalkLemmas.{idle-leaf, idle-not}
use Rattle.hare_names.proofs.walk.is_idle.Goals as goal

pub returns-then-len-ne0 : goal.returns-then-len-ne0
returns-then-len-ne0 c = idle-not _ c.t.inside.kids c.args.t.now c.t.view_is (omega arith)

pub returns : goal.returns
returns c = c.is_idle_kind.ensures ∙ idle-leaf _ c.t.inside.kids c.args.t.now c.t.view_is (omega arith)
