use Rattle.std.proofs.Common.{◌≡◌, refl, ap, sym, ◌∙◌}
use Rattle.hare_tree.specs.declared.kind.Kind.TheVariants as ki
use Rattle.hare_tree.specs.Node.{head}
use Rattle.hare_find.specs.Plain.{IsAtCallee}
use Rattle.hare_check.specs.Nodes.{program_of, above_of}
use Rattle.hare_check.proofs.FoundOfNode.Finding.{called-finding}
use Rattle.hare_check.proofs.walker.Walker.find_called.Goals as goal

pub returns-in_ok-found-in-Path-clause-ok : goal.returns-in_ok-found-in-Path-clause-ok
returns-in_ok-found-in-Path-clause-ok c =
    let w = c.args.self.now in
    let r = c.find_callee.new.s in
    let f = c.in_ok-found-in-Path.ensures in
    let at : IsAtCallee (program_of w) (above_of w) w.seen c.args.kids.now =
    record { store = λ l. refl; hand = c.requires.node.hand; role = c.requires.role } in
    let kind : (head c.args.node.now).kind ≡ ki.Path = sym (ap (λ t. (head t).kind) c.node.view_is) ∙ c.in-Path.is in
    called-finding r w c.args.node.now c.args.kids.now c.in_ok-found-in-Path.found f.grown.later.sound kind c.requires.role
    (record { found = f.ok (program_of w) (above_of w) w.seen at; many = f.many; defined = f.defined })
