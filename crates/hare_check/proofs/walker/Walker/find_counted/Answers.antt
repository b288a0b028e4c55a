use Rattle.std.proofs.Common.{◌≡◌, true, refl}
use Rattle.hare_tree.specs.Node.{head}
use Rattle.hare_find.specs.Lengths.{is_length, IsAtLength}
use Rattle.hare_check.specs.Nodes.{program_of, above_of}
use Rattle.hare_check.proofs.FoundOfNode.Finding.{length-finding}
use Rattle.hare_check.proofs.walker.Walker.find_counted.Goals as goal

pub returns-clause-ok : goal.returns-clause-ok
returns-clause-ok c =
    let w = c.args.self.now in
    let r = c.find_length.new.s in
    let f = c.in_ok-found.ensures in
    let at : IsAtLength (program_of w) r (above_of w) w.seen w.decls.now c.path_meaning-meaning.result (head c.args.node.now)
    c.args.kids.now =
    record {
      store = λ l. refl;
      decls = λ l. refl;
      hand = c.requires.node.hand;
      role = c.requires.role;
      meaning = λ l d. c.path_meaning-meaning.ensures (program_of w l) refl;
    } in
    let kind : is_length (head c.args.node.now).kind ≡ true = search in
    length-finding r w c.args.node.now c.args.kids.now c.in_ok-found.found f.grown.later.sound kind c.requires.role
    (record { found = f.ok (program_of w) (above_of w) w.seen at; many = f.many; defined = f.defined })
