use Rattle.hare_tree.specs.Node.{head}
use Rattle.hare_find.proofs.SettlingNothing.ArrayLengths.{found_length}
use Rattle.hare_find.proofs.FoundOfNode.Answers.{if_ok_weaker}
use Rattle.hare_find.proofs.lengths.find_length.Goals as goal

pub returns-clause-ok : goal.returns-clause-ok
returns-clause-ok c =
    let s = c.length_type.new.s in
    let ds = c.args.decls.now in
    let h = head c.args.node.now in
    let xs = c.args.kids.now in
    let b = c.in_ok-ty.ty in
    if_ok_weaker c.unsettled.result
    (λ x u w a f q. found_length w s a f ds c.args.meaning h xs b c.len.result x c.requires.kind u c.in_ok-ty.ensures.value q)
    c.unsettled.ensures.found

pub returns-clause-defined : goal.returns-clause-defined
returns-clause-defined c =
    let s = c.length_type.new.s in
    if_ok_weaker c.unsettled.result (λ x h. h s c.in_ok-ty.ensures.defined) c.unsettled.ensures.defined
