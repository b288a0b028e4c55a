use Rattle.std.proofs.Common.{length, ap, sym, ◌∙◌}
use Rattle.std.proofs.lemmas.Bool.{eqb-true}
use Rattle.hare_modules.proofs.Trees.{kids-seen}
use Rattle.hare_finish.proofs.nodes.has_kids.Goals as goal

pub returns : goal.returns
returns c = λ e. ap length (kids-seen _ _ _ c.t.view_is) ∙ sym c.len.ensures ∙ eqb-true c.len.result c.args.count e
