use Rattle.std.proofs.Common.{ap, sym, ◌∙◌}
use Rattle.std.specs.List.{list_any}
use Rattle.hare_tree.specs.Node.{Node, head}
use Rattle.hare_modules.specs.Uses.{kids}
use Rattle.hare_whole.specs.Limits.{is_param}
use Rattle.hare_limits.proofs.EntryFound.Kids.{kids-erased}
use Rattle.hare_limits.proofs.shapes.has_params.Goals as goal

pub returns : goal.returns
returns c =
    c.has_param_among.ensures
    ∙ sym (ap (list_any (λ (p : Node). is_param (head p).kind))
    (kids-erased _ _ c.behind-t.inside.kids c.kid.result.now c.behind-t.view_is))
    ∙ ap (λ u. list_any (λ (p : Node). is_param (head p).kind) (kids u)) c.kid.ensures
