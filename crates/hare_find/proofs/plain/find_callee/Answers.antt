use Rattle.hare_tree.specs.Node.{head}
use Rattle.hare_find.proofs.SettlingNothing.WithoutRows.{found_callee}
use Rattle.hare_find.proofs.FoundOfNode.Answers.{if_ok_weaker}
use Rattle.hare_find.proofs.plain.find_callee.Goals as goal

pub returns-clause-ok : goal.returns-clause-ok
returns-clause-ok c =
    let xs = c.args.kids.now in
    if_ok_weaker c.find_void.result
    (λ x v w a f q. found_callee w c.find_void.new.s a f (head c.args.node.now) xs c.len.result x c.requires v q)
    c.find_void.ensures.found
