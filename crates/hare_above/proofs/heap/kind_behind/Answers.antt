use Rattle.std.proofs.Common.{◌<◌, length, ap, ◌+◌, arith}
use Rattle.std.proofs.lemmas.Option.{slice_get_within}
use Rattle.hare_tree.specs.Node.{head}
use Rattle.hare_above.proofs.BareLemmas.{behind-kid}
use Rattle.hare_above.proofs.heap.kind_behind.Goals as goal

pub overflow_add-len : goal.overflow_add-len
overflow_add-len c =
    let h : length c.args.q.now.done.now < length c.args.q.now.kids.now =
    slice_get_within c.args.q.now.kids.now _ c.args.q.now.kid.now c.requires in
    omega arith

pub returns-in-Some : goal.returns-in-Some
returns-in-Some c =
    behind-kid c.args.q.now.kids.now _ _ c.in-Some.t.now c.t.inside.kind (ap (λ t. (head t).kind) c.t.view_is)
    (ap (λ n. n + 1) c.len.ensures) c.in-Some.ensures.found
