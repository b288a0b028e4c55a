use Rattle.std.proofs.Common.{ap, sym, ◌∙◌}
use Rattle.hare_tree.specs.Node.{head}
use Rattle.hare_written.proofs.PartOfType.Known.{field-known, spread-known}
use Rattle.hare_written.proofs.around.is_known.Goals as goal

pub returns-in-StructField : goal.returns-in-StructField
returns-in-StructField c e k m =
    field-known c.args.s.now (head c.args.node.now) m c.args.kids.now (sym (ap (λ n. (head n).kind) c.node.view_is) ∙ c.in-StructField.is)
    (c.holds_type.ensures e c.args.s.now c.requires.known)

pub returns-in-Spread : goal.returns-in-Spread
returns-in-Spread c e k m =
    spread-known c.args.s.now (head c.args.node.now) m c.args.kids.now (sym (ap (λ n. (head n).kind) c.node.view_is) ∙ c.in-Spread.is)
    (c.holds_based.ensures e)
