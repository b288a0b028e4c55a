use Rattle.std.proofs.Common.{refl}
use Rattle.hare_find.specs.Plain.{IsAtPlain}
use Rattle.hare_check.specs.Nodes.{program_of, above_of}
use Rattle.hare_check.proofs.Walks.Growing.{grown-types}
use Rattle.hare_check.proofs.FoundOfNode.Finding.{plain-finding}
use Rattle.hare_check.proofs.walker.Walker.find_plain.Goals as goal

pub returns-clause-ok : goal.returns-clause-ok
returns-clause-ok c =
    let w = c.args.self.now in
    let s = c.args.s.now in
    let r = c.find_plain.new.s in
    let f = c.in_ok-found.ensures in
    let at : IsAtPlain (program_of w) (above_of w) w.seen c.args.kids.now =
    record { store = λ l. refl; hand = c.requires.node.hand; role = c.requires.role } in
    plain-finding s r w c.args.node.now c.args.kids.now c.in_ok-found.found c.declarations-law.ensures.sound f.grown.later.sound
    (grown-types s r f.grown) c.requires.node c.requires.kind
    (record { found = f.ok (program_of w) (above_of w) w.seen at; many = f.many; defined = f.defined })
