use Rattle.std.proofs.Common.{sym, ◌∙◌, arith}
use Rattle.hare_names.proofs.RisingLemmas.{are-before}
use Rattle.hare_names.proofs.rising.is_behind.Goals as goal

pub returns : goal.returns
returns c t = are-before c.args.place c.args.ordered.now _ _ c.requires (omega arith) (omega arith) (sym c.is_before.ensures ∙ t)
