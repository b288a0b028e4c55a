use Rattle.std.proofs.Common.{ap, sym, ◌∙◌}
use Rattle.hare_tree.specs.Node.{Node, head}
use Rattle.hare_rules.specs.declared.declared.DeclType.{DeclType}
use Rattle.hare_depends.specs.Sorts.{sort_of}
use Rattle.hare_known.proofs.OneMore.Declarations.{global-no_def, known_by_types-global}
use Rattle.hare_known.proofs.types.known_by_types.Goals as goal

pub returns-in_ok-d-in-Global-clause-value : goal.returns-in_ok-d-in-Global-clause-value
returns-in_ok-d-in-Global-clause-value c l h =
    let t = c.args.decl.now in
    known_by_types-global l c.args.own c.decl.inside.kind (head t).kind (sort_of t) c.args.types.now c.in_ok-d-in-Global.d
    (sym c.sort_of.ensures ∙ c.in-Global.is) (ap (λ (x : Node). (head x).kind) c.decl.view_is) (c.in_ok-d-in-Global.ensures l)

pub returns-in_ok-d-in-Global-clause-kind : goal.returns-in_ok-d-in-Global-clause-kind
returns-in_ok-d-in-Global-clause-kind c h =
    let kind = ap (λ (t : Node). (head t).kind) c.decl.view_is in
    let own = ap (λ (d : DeclType). d.kind) (c.in_ok-d-in-Global.ensures c.args.s.now) in
    global-no_def (head c.args.decl.now).kind c.args.decl.now (sym c.sort_of.ensures ∙ c.in-Global.is) (sym kind ∙ sym own ∙ h)
