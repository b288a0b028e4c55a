use Rattle.hare_tree.specs.Node.{head}
use Rattle.hare_typed.specs.Typed.{marked, typed_nodes}
use Rattle.hare_written.proofs.PartOfType.Found.{around-found}
use Rattle.hare_written.proofs.PartOfType.Known.{part-stays}
use Rattle.hare_written.proofs.around.find_around.Goals as goal

pub returns-clause-ok : goal.returns-clause-ok
returns-clause-ok c =
    let env = c.args.env.now in
    around-found env.names.now env.decls.now c.find_plain.new.s (head c.args.node.now) c.args.kids.now c.requires.kids.1.judged.plain
    c.in_ok-found.found
    c.in_ok-found.ensures.defined c.requires.kind c.in_ok-found.ensures.ok

pub returns-clause-known : goal.returns-clause-known
returns-clause-known c m =
    part-stays c.args.s.now c.find_plain.new.s c.declarations-law.ensures.sound c.find_plain.ensures.grown.later
    (marked (head c.args.node.now) m (typed_nodes c.args.kids.now)) (c.is_known.ensures c.if-not-is_known.false c.requires.kind m)
